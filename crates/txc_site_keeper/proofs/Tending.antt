-- What the keeper of a site that keeps itself did, one keep more.
use Rattle.std.proofs.Common.{◌≡◌, ℕ, ◌≤◌, List, [], ◌∷◌, inl, inr, refl, subst, sym}
use Rattle.std.specs.Prelude.{Option, Result, Ok, Err, IfOk, IfErr}
use Rattle.txc_shared.specs.declared.settings.NodeSettings.{NodeSettings}
use Rattle.txc_stream.specs.Names.{Name}
use Rattle.txc_site_keeper.specs.declared.site_keeper.KeeperSettings.{KeeperSettings}
use Rattle.txc_site_keeper.specs.SiteKeeper.{OwnKeeperValue, due_after, due_at, HasLooked, HasTended, HasTendedSince, IsNewOwnKeeper, IsTendedBy}

-- it has tended so, and the next keep is due at this moment
abbrev pub HasTendedUntil : Name → (ℕ → Name) → List NodeSettings → Option ℕ → (ℕ → Type 0) → KeeperSettings → OwnKeeperValue → ℕ → Type 0
HasTendedUntil row histories nodes budget tells keeping own due =
    (since : HasTendedSince row histories nodes budget tells keeping own) × (due ≡ due_at keeping.every since.moments)

module _ (row : Name) (histories : ℕ → Name) (nodes : List NodeSettings) (budget : Option ℕ) (tells : ℕ → Type 0) (keeping : KeeperSettings) where
  pub since_begun : (own : OwnKeeperValue) → IsNewOwnKeeper nodes budget own → HasTendedUntil row histories nodes budget tells keeping own 0
  since_begun own new = (record { first = own; moments = []; new = new; kept = refl }, refl)

  once_more : (before after : OwnKeeperValue) (due now : ℕ) → HasTendedUntil row histories nodes budget tells keeping before due → tells now → due ≤ now
      → HasTended row histories now keeping.age before after
      → HasTendedUntil row histories nodes budget tells keeping after (due_after keeping.every now)
  once_more before after due now (since, at) told late kept = (
    record {
      first = since.first;
      moments = now ∷ since.moments;
      new = since.new;
      kept = (before, since.kept, told, subst (λ (n : ℕ). n ≤ now) at late, kept);
    },
    refl,
  )

  pub looked_on : (before after : OwnKeeperValue) (due now next : ℕ) → HasTendedUntil row histories nodes budget tells keeping before due → tells now
      → HasLooked row histories keeping due now before after next
      → HasTendedUntil row histories nodes budget tells keeping after next
  looked_on before after due now next until told (inl kept) =
      subst (λ (n : ℕ). HasTendedUntil row histories nodes budget tells keeping after n) (sym kept.2)
      (once_more before after due now until told kept.0 kept.1)
  looked_on before after due now next until told (inr left) =
      subst (λ (n : ℕ). HasTendedUntil row histories nodes budget tells keeping after n) (sym left.2)
      (subst (λ (own : OwnKeeperValue). HasTendedUntil row histories nodes budget tells keeping own due) (sym left.1) until)

  pub told_so : (own : OwnKeeperValue) (due : ℕ) → HasTendedUntil row histories nodes budget tells keeping own due → IsTendedBy row nodes budget tells keeping own.tended
  told_so own due until = record { histories = histories; own = own; since = until.0; told = refl }

-- what a call that did not refuse, or that refused, says of what it gave
pub ok_at : {T E : Type 0} (P : T → Type 0) (r : Result T E) (x : T) → r ≡ Ok x → IfOk r P → P x
ok_at {T} {E} P r x is h = subst (λ (s : Result T E). IfOk s P) is h

pub err_at : {T E : Type 0} (P : E → Type 0) (r : Result T E) (e : E) → r ≡ Err e → IfErr r P → P e
err_at {T} {E} P r e is h = subst (λ (s : Result T E). IfErr s P) is h
