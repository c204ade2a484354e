use Rattle.std.proofs.Common.{◌≡◌, List, Result, Ok, Err, IfOk, Some, refl, subst}
use Rattle.txc_stream.specs.Names.{Name}
use Rattle.txc_db.specs.FrontsAndFeeds.{FrontValue}
use Rattle.txc_cushion.specs.declared.pin.Pin.{Pin}
use Rattle.txc_cushion.specs.declared.pins.Pins.{Pins}
use Rattle.txc_txn_ports.specs.declared.bounds.Bounds.{Bounds}
use Rattle.txc_txn_client.specs.PinLease.{HandedValue, KeptValue, fresh_of, HasBegunKept, IsKeptAfter}
use Rattle.txc_txn_client.proofs.pin_lease.PinLease.fresh.Goals as goal

-- a transaction begins with the fresh ones of what is kept then
begun_kept : {A E : Type 0} (pins : A → List Pin) (front : A → FrontValue) (events : Name) (asked : Bounds) (before after : KeptValue)
    (handed : HandedValue) → after.handed ≡ Some handed → IsKeptAfter events asked before handed → (r : Result A E)
    → IfOk r (λ given. pins given ≡ fresh_of asked handed) → IfOk r (λ given. front given ≡ handed.front)
    → IfOk r (λ given. HasBegunKept events asked before after (pins given) (front given))
begun_kept pins front events asked before after handed some since (Ok given) members seen =
    record { kept = record { handed = handed; some = some; since = since }; members = members; seen = seen }
begun_kept pins front events asked before after handed some since (Err error) members seen = tt

pub returns-in-Ok-clause-kept : goal.returns-in-Ok-clause-kept
returns-in-Ok-clause-kept g c =
    begun_kept (λ (given : Pins). given.pins.items) (λ (given : Pins). given.front) g.J.Naming.database_history c.args.bounds.now c.args.self
    (record { most = c.self.inside.most; handed = Some c.in-Ok.handed }) c.in-Ok.handed refl
    (subst (λ (before : KeptValue). IsKeptAfter g.J.Naming.database_history c.args.bounds.now before c.in-Ok.handed) c.self.view_is c.in-Ok.ensures.kept)
    c.fresh-pins.result c.fresh-pins.ensures.pins c.fresh-pins.ensures.front
