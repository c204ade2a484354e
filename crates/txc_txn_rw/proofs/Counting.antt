-- How often a call that uses no node may still ask.
use Rattle.std.proofs.Common.{◌≡◌, ⊎_elim, ℕ, suc, ◌-◌, ◌<◌, ◌≤◌, Option, Some, None, refl, sym, subst, arith, inl, inr}
use Rattle.txc_call.specs.declared.frames.TheConstants.{MAX_CALL_ASKS}
use Rattle.txc_call.specs.declared.need.Need.{Need}
use Rattle.txc_call.specs.declared.need.Need.TheVariants as needs
use Rattle.txc_call.specs.declared.need.Outcome.{Outcome}
use Rattle.txc_call.specs.declared.reply.Reply.{Reply}
use Rattle.txc_call.specs.declared.reply.Reply.TheVariants as replies
use Rattle.txc_call.specs.Needs.{ReplyFits}
use Rattle.txc_call.specs.CallMachine.{Calling, GoesOn}
use Rattle.txc_rows.specs.declared.query.Query.{Query}
use Rattle.txc_txn_rw.specs.RwCore.{HasCounted, IsDone}

-- none where the call is done; else one more than it may still ask
abbrev pub left : Option Need → ℕ → ℕ
left (Some (needs.Value o)) asked = 0
left (Some (needs.Lookup k)) asked = suc (MAX_CALL_ASKS - asked)
left (Some (needs.Query q)) asked = suc (MAX_CALL_ASKS - asked)
left (Some (needs.Insert e)) asked = suc (MAX_CALL_ASKS - asked)
left (Some (needs.Begin k)) asked = suc (MAX_CALL_ASKS - asked)
left (Some (needs.Resume x)) asked = suc (MAX_CALL_ASKS - asked)
left None asked = suc (MAX_CALL_ASKS - asked)

left_most : (need : Option Need) (asked : ℕ) → left need asked ≤ suc (MAX_CALL_ASKS - asked)
left_most (Some (needs.Value o)) asked = omega arith
left_most (Some (needs.Lookup k)) asked = omega arith
left_most (Some (needs.Query q)) asked = omega arith
left_most (Some (needs.Insert e)) asked = omega arith
left_most (Some (needs.Begin k)) asked = omega arith
left_most (Some (needs.Resume x)) asked = omega arith
left_most None asked = omega arith

-- a need that has a reply is no value
left_some : (need : Need) (reply : Reply) (asked : ℕ) → ReplyFits need reply → left (Some need) asked ≡ suc (MAX_CALL_ASKS - asked)
left_some (needs.Lookup k) reply asked fits = refl
left_some (needs.Query q) reply asked fits = refl
left_some (needs.Insert e) reply asked fits = refl
left_some need reply asked fits = absurd fits

-- each reply leaves less
pub less : (old : Option Need) (need : Need) (reply : Reply) (asked : ℕ) (c : Calling) → old ≡ Some need → ReplyFits need reply
    → GoesOn asked c → c.asked ≤ MAX_CALL_ASKS → left c.need c.asked < left old asked
less old need reply asked c is fits on most =
    let was : left old asked ≡ suc (MAX_CALL_ASKS - asked) = subst (λ (o : Option Need). left o asked ≡ suc (MAX_CALL_ASKS - asked)) (sym is) (left_some need reply asked fits) in
    ⊎_elim
    (λ (done : (o : Outcome) × (c.need ≡ Some (needs.Value o))).
    let none : left c.need c.asked ≡ 0 = subst (λ (n : Option Need). left n c.asked ≡ 0) (sym done.1) refl in
    omega (arith, was, none))
    (λ (more : asked < c.asked). let at_most = left_most c.need c.asked in omega (arith, was, more, most, at_most))
    on

pub counted_first : (c : Calling) → HasCounted c c
counted_first c = go c.need refl
  where
    go : (need : Option Need) → c.need ≡ need → HasCounted c c
    go None is = inr (λ done. subst (λ (n : Option Need). IsDone n) is done, omega arith)
    go (Some (needs.Lookup k)) is = inr (λ done. subst (λ (n : Option Need). IsDone n) is done, omega arith)
    go (Some (needs.Query q)) is = inr (λ done. subst (λ (n : Option Need). IsDone n) is done, omega arith)
    go (Some (needs.Insert e)) is = inr (λ done. subst (λ (n : Option Need). IsDone n) is done, omega arith)
    go (Some (needs.Begin k)) is = inr (λ done. subst (λ (n : Option Need). IsDone n) is done, omega arith)
    go (Some (needs.Resume x)) is = inr (λ done. subst (λ (n : Option Need). IsDone n) is done, omega arith)
    go (Some (needs.Value o)) is = inl (subst (λ (n : Option Need). IsDone n) (sym is) tt)

-- a need that has a reply is no value
undone : (need : Need) (reply : Reply) → ReplyFits need reply → ¬ (IsDone (Some need))
undone (needs.Lookup k) reply fits done = done
undone (needs.Query q) reply fits done = done
undone (needs.Insert e) reply fits done = done
undone (needs.Begin k) reply fits done = done
undone (needs.Resume x) reply fits done = done
undone (needs.Value o) replies.Miss fits done = fits
undone (needs.Value o) (replies.Hit hit) fits done = fits
undone (needs.Value o) (replies.Found found) fits done = fits
undone (needs.Value o) replies.Inserted fits done = fits

-- each reply is counted
pub counted_next : (first old new : Calling) (need : Need) (reply : Reply) → old.need ≡ Some need → ReplyFits need reply → GoesOn old.asked new
    → HasCounted first old → HasCounted first new
counted_next first old new need reply is fits on h =
    let open_call : ¬ (IsDone old.need) = λ done. undone need reply fits (subst (λ (n : Option Need). IsDone n) is done) in
    ⊎_elim
    (λ (done : (o : Outcome) × (new.need ≡ Some (needs.Value o))). inl (subst (λ (n : Option Need). IsDone n) (sym done.1) tt))
    (λ (more : old.asked < new.asked).
    ⊎_elim
    (λ (done : IsDone old.need). absurd (open_call done))
    (λ (so_far : (¬ (IsDone first.need)) × (first.asked ≤ old.asked)). let less = so_far.1 in inr (so_far.0, omega (arith, more, less)))
    h)
    on

-- a reply that leads to another ask is counted
pub counted_ask : (asked : ℕ) (mid : Calling) (after : ℕ) → GoesOn asked mid → (¬ (IsDone mid.need)) × (mid.asked ≤ after) → asked < after
counted_ask asked mid after on two =
    let more = two.1 in
    ⊎_elim
    (λ (done : (o : Outcome) × (mid.need ≡ Some (needs.Value o))). absurd (two.0 (subst (λ (n : Option Need). IsDone n) (sym done.1) tt)))
    (λ (less : asked < mid.asked). omega (arith, more, less))
    on

-- a call that needs a query has asked as often or more
pub counted_query : (old new : Calling) (q : Query) → new.need ≡ Some (needs.Query q) → HasCounted old new → (¬ (IsDone old.need)) × (old.asked ≤ new.asked)
counted_query old new q is = ⊎_elim (λ (done : IsDone new.need). absurd (subst (λ (n : Option Need). IsDone n) is done)) (λ two. two)
