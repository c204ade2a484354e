use Rattle.std.proofs.Common.{◌≡◌, ◌≤◌, ◌∙◌, inl, inr, ap, sym, subst, ℕ, List, length, max, arith}
use Rattle.txc_stream.specs.Names.{HasRow}
use Rattle.txc_db.specs.HeldHistory.{HistoryValue}
use Rattle.txc_db.specs.DatabaseValue.{least}
use Rattle.txc_db.proofs.HeldStamps.{within_newest, least_low, least_high}
use Rattle.txc_db.proofs.Sound.{vacuum_sound}
use Rattle.txc_db.proofs.db_core.DbCore.vacuum.Goals as goal

pub forget-requires : goal.forget-requires
forget-requires c =
    let newest : c.newest-newest.result ≡ length c.self.inside.told.history = c.newest-newest.ensures in
    let is : c.least_held-horizon.result ≡ least (length c.self.inside.told.history) c.self.inside.holds.items =
    c.least_held-horizon.ensures ∙ (ap (λ (n : ℕ). least n c.deref.result.now) newest ∙ ap (λ (xs : List ℕ). least (length c.self.inside.told.history) xs) c.deref.ensures.value) in
    let high = least_high (length c.self.inside.told.history) c.self.inside.holds.items in
    let number : c.number.result ≡ c.least_held-horizon.result = c.number.ensures.answer in
    omega (arith, number, is, high)

pub invariant_of-self-2 : goal.invariant_of-self-2
invariant_of-self-2 c =
    let newest : c.newest-newest.result ≡ length c.self.inside.told.history = c.newest-newest.ensures in
    let is : c.least_held-horizon.result ≡ least (length c.self.inside.told.history) c.self.inside.holds.items =
    c.least_held-horizon.ensures ∙ (ap (λ (n : ℕ). least n c.deref.result.now) newest ∙ ap (λ (xs : List ℕ). least (length c.self.inside.told.history) xs) c.deref.ensures.value) in
    let sound = c.self.invariant.1 c.if-self.false in
    let low = least_low c.self.inside.horizon (length c.self.inside.told.history) c.self.inside.holds.items sound.kept.kept sound.held in
    let number : c.number.result ≡ c.least_held-horizon.result = c.number.ensures.answer in
    let first : c.self.inside.told.first ≤ c.self.inside.horizon = c.self.invariant.0 in
    let kept : c.forget.new.self.first ≤ max c.self.inside.told.first c.number.result = c.forget.ensures.low in
    let events : c.forget.new.self.events ≡ c.self.inside.told.events = ap (λ (h : HistoryValue). h.events) c.forget.ensures.same in
    let list : c.forget.new.self.history ≡ c.self.inside.told.history = ap (λ (h : HistoryValue). h.history) c.forget.ensures.same in (
      omega (arith, number, is, low, first, kept),
      λ whole. rw (events, list) (vacuum_sound _ c.least_held-horizon.result c.purge.new.self c.in_ok-purge.ensures.keeps is (c.self.invariant.1 whole)),
      elim c.forget.ensures.kept [
        | inl row ↦ inl (subst HasRow (sym events) row)
        | inr all ↦ elim c.self.invariant.2 [ inl row ↦ inl (subst HasRow (sym events) row) | inr same ↦ inr (omega (arith, number, is, low, all, same)) ]
      ],
    )

pub least_held-horizon-requires : goal.least_held-horizon-requires
least_held-horizon-requires c = let sound = c.self.invariant.1 c.if-self.false in record {
  rising = rw c.deref.ensures.value sound.rising;
  within = rw (c.deref.ensures.value, c.newest-newest.ensures) (within_newest c.self.inside.horizon _ _ sound.held);
}
