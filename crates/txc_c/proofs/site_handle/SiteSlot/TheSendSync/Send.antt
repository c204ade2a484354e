-- A slot may go to another thread, since what it points to may.
use mir.Raw.{raw}
use denote.Memory.{lone}
use denote.Struct.Struct.{exits_of}
use denote.Struct.Owning.{shape, fields, to}
use denote.Param.Send.{IsSend, AllSend, owning_send, struct_send, sendable}
use Rattle.std.proofs.Crossing as heap
use Rattle.std_alloc.proofs.SendSync.{quiet, lies}
use Rattle.std_heap.proofs.Global.TheSendSync as handle
use Rattle.txc_rows.proofs.OwnedLemmas.{when_keyless}
use Rattle.txc_c.specs.contracts.site.Site as Core
use Rattle.txc_c.proofs.site.Site.TheSendSync.{the_send as core}
use Rattle.txc_c.specs.contracts.site_handle.SiteSlot.{the_row, the_type}

pub send : IsSend the_row
send =
    let all : AllSend (fields the_type) = (search sendable, (handle.the_field_send, tt)) in
    owning_send the_type all (λ d. when_keyless d.is_full _ (lies Core.the_row core d.ptr d.value, heap.frees.frees d.alloc (raw (lone Core.the_row.mir)) d.ptr))
    (λ k. quiet (to the_type) (exits_of k (fields the_type)) ((struct_send (shape the_type) all).leaving k))
