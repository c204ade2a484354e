-- Parts of a whole that grows.
use Rattle.std.proofs.Common.{◌≡◌, refl, sym, subst, ◌∙◌}
use Rattle.txc_db.specs.FrontsAndFeeds.{FrontValue}
use Rattle.txc_world.specs.Parts.{IsPartOf}
use Rattle.txc_world.specs.Ports.{PortsValue, whole_of, KeepsRow}
use Rattle.txc_stream.proofs.Offered.{prefix_self, prefix_trans}

-- what is part of the whole is part of it after a step
pub part_kept : (old new : PortsValue) (part : FrontValue) → KeepsRow old new → IsPartOf (whole_of old) part → IsPartOf (whole_of new) part
part_kept old new part keeps is = record {
  row = is.row ∙ sym keeps.events;
  begins = prefix_trans part.history old.database.history new.database.history is.begins keeps.longer;
}

pub keeps_cushion : (old new : PortsValue) → new ≡ record old { cushion = new.cushion } → KeepsRow old new
keeps_cushion old new is = subst (KeepsRow old) (sym is) (record {
  events = refl;
  longer = prefix_self old.database.history;
  count = refl;
  settings = refl;
  actors = refl;
})
