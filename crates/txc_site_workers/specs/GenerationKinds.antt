-- The carried entries that a site takes over.
use Rattle.std.specs.Prelude.{◌≡◌, IfSome}
use Rattle.txc_app.specs.declared.app.App as app
use Rattle.txc_stream.specs.Names.{Name}
use Rattle.txc_site_workers.specs.declared.carried_entries.GenerationKind.{GenerationKind}
use Rattle.txc_site_workers.specs.declared.carried_entries.GenerationKind.TheVariants.{Alone, InTurn}

-- the entries with which the nodes of the site begin, if any, are of a database of this history
abbrev pub GoesOverTo : {A : Type 0} {a : app.Ghosts A} → Name → GenerationKind A a → Type 0
GoesOverTo events Alone = Unit {0}
GoesOverTo events (InTurn carried_entries) = IfSome carried_entries (λ w. w.front.events ≡ events)
