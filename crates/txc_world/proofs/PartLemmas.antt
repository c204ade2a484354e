-- Fronts that are part of others.
use Rattle.std.proofs.Common.{◌≡◌, ◌∙◌}
use Rattle.txc_stream.proofs.Offered.{prefix_self, prefix_trans}
use Rattle.txc_db.specs.FrontsAndFeeds.{FrontValue}
use Rattle.txc_world.specs.Parts.{IsPartOf}

pub part_itself : (w : FrontValue) → IsPartOf w w
part_itself w = record { row = refl_row w; begins = prefix_self w.history }
  where
    refl_row : (v : FrontValue) → v.events ≡ v.events
    refl_row v = λ i. v.events

-- a part of a part is a part
pub part_then : (whole between part : FrontValue) → IsPartOf whole between → IsPartOf between part → IsPartOf whole part
part_then whole between part outer inner = record {
  row = inner.row ∙ outer.row;
  begins = prefix_trans part.history between.history whole.history inner.begins outer.begins;
}
