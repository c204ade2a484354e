-- A slot may go to another thread, since what it points to may.
use mir.Raw.{raw}
use denote.RattleType.{RattleType}
use denote.Param.{param}
use denote.Memory.{lone}
use denote.Struct.Struct.{exits_of}
use denote.Struct.Owning.{shape, fields, to}
use denote.Param.Send.{IsSend, AllSend, owning_send, struct_send, sendable}
use Rattle.std.proofs.Crossing as heap
use Rattle.std_alloc.proofs.SendSync.{quiet, lies}
use Rattle.std_heap.proofs.Global.TheSendSync as handle
use Rattle.txc_rows.proofs.OwnedLemmas.{when_keyless}
use Rattle.txc_app.specs.declared.app.App.{Ghosts}
use Rattle.txc_caller.specs.contracts.plain_ports.PlainPorts as Core
use Rattle.txc_caller.proofs.plain_ports.PlainPorts.TheSendSync.{the_send as core}
use Rattle.txc_caller.specs.contracts.ports_slot.PortsSlot.{the_row, the_type}

pub send : (T : RattleType) (g : Ghosts T.Denot) → IsSend (the_row T g)
send T g =
    let all : AllSend (fields (the_type T g)) = (search sendable, (handle.the_field_send, tt)) in
    owning_send (the_type T g) all (λ d. when_keyless d.is_full _ (lies (Core.the_row T g) (core T g) d.ptr d.value, heap.frees.frees d.alloc (raw (lone (Core.the_row T g).mir)) d.ptr))
    (λ k. quiet (to (the_type T g)) (exits_of k (fields (the_type T g))) ((struct_send (shape (the_type T g)) all).leaving k))
