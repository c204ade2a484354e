-- The slot of a site and its parts own what a box at the same types owns.
use mir.Syntax.{impl, tnil, dnil}
use mathlib.Core.List.{[]}
use denote.Signature.{Slot, plain}
use Rattle.std_alloc.proofs.BoxSteps.Form.{Bx}
use Rattle.std.specs.contracts.alloc.Global as Heap
use Rattle.std.specs.contracts.impls.GlobalAllocator.TheImpl.{ghosts, dict}
use Rattle.std.proofs.alloc.Global.TheLaws as heap
use Rattle.txc_c.specs.contracts.site.Site as Core
use Rattle.txc_c.proofs.site.Site.TheLaws as core
use Rattle.txc_base.specs.contracts.parts.Parts as Parts
use Rattle.txc_c.specs.contracts.site_handle.SiteSlot as SlotType

abbrev pub E : Bx
E = record { row = Core.the_row; laws = core.the_row_laws; al = record { row = Heap.the_row; laws = heap.the_row_laws; g = ghosts; d = dict; drops = impl [] tnil dnil } }

abbrev pub FromParts : Slot 0
FromParts = plain (λ _. Parts.the_row Core.the_row Heap.the_row ghosts)

abbrev pub FromSlot : Slot 0
FromSlot = plain (λ _. SlotType.the_row)
