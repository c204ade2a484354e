-- The slot and the parts own what a box at the same types owns.
use mir.Syntax.{Args, Dict, a_type, impl, tnil, dnil, dcons}
use mathlib.Core.List.{[], ◌∷◌}
use denote.RattleType.{RattleType}
use denote.Param.{param, bounded}
use denote.Param.Laws.{Laws, param_laws}
use denote.Signature.{Slot, plain}
use Rattle.std_alloc.proofs.BoxSteps.Form.{Bx}
use Rattle.std.specs.contracts.alloc.Global as Heap
use Rattle.std.specs.contracts.impls.GlobalAllocator.TheImpl.{ghosts, dict}
use Rattle.std.proofs.alloc.Global.TheLaws as heap
use Rattle.txc_app.specs.declared.app.App.{Ghosts}
use Rattle.txc_caller.specs.contracts.plain_ports.PlainPorts as Core
use Rattle.txc_caller.proofs.plain_ports.PlainPorts.TheLaws as core
use Rattle.txc_base.specs.contracts.parts.Parts as Parts
use Rattle.txc_caller.specs.contracts.ports_slot.PortsSlot as SlotType

abbrev pub args_of : RattleType → Dict → Args
args_of A d = bounded (a_type ∷ []) (A, tt) (dcons d dnil)

module _ (A : RattleType) (L : Laws A) (g : Ghosts A.Denot) where
  abbrev pub E : Bx
  E = record { row = Core.the_row (param 0 A) g; laws = core.the_row_laws (param 0 A) g (param_laws 0 A L); al = record { row = Heap.the_row; laws = heap.the_row_laws; g = ghosts; d = dict; drops = impl [] tnil dnil } }

  abbrev pub FromParts : Slot 1
  FromParts = plain (λ _. Parts.the_row (Core.the_row (param 0 A) g) Heap.the_row ghosts)

  abbrev pub FromSlot : Slot 1
  FromSlot = plain (λ _. SlotType.the_row (param 0 A) g)
