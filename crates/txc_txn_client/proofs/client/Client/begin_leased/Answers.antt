use Rattle.std.proofs.Common.{◌≡◌, subst}
use Rattle.std.specs.Prelude.{IfOk, Ok, Result}
use Rattle.txc_txn_client.proofs.client.Client.begin_leased.Goals as goal

-- what holds of a result that is Ok holds of its value
of_ok : {A E : Type 0} (P : A → Type 0) (r : Result A E) (a : A) → r ≡ Ok a → IfOk r P → P a
of_ok {A} {E} P r a is holds = subst (λ (it : Result A E). IfOk it P) is holds

pub new-requires : goal.new-requires
new-requires g c = record {
  fits = of_ok _ _ _ c.in-Ok.is c.begun_leased-begun.ensures.fits g.A.App.next c.self.inside.registry c.self.invariant;
  holds = of_ok _ _ _ c.in-Ok.is c.begun_leased-begun.ensures.holds g.A.App.next c.self.inside.registry;
}
