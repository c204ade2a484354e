-- Results of the shared pincushion.
use Rattle.std.specs.Prelude.{◌≡◌, ℕ, List}
use Rattle.txc_stream.specs.Names.{Name}
use Rattle.txc_cushion.specs.Cushion.{CushionValue, IsCushion}

-- some pincushion of this row of events answers so
abbrev pub CushionMayAnswer : {A : Type 0} → Name → (CushionValue → A → Type 0) → A → Type 0
CushionMayAnswer events answers a = (c : CushionValue) × (c.events ≡ events) × IsCushion c × answers c a
