use Rattle.std.proofs.Common.{◌≡◌, ◌∷◌, Ok, Err, false, take, refl, ap, sym, subst, ◌∙◌}
use Rattle.std.specs.Prelude.{slice_get, OnErr}
use Rattle.txc_stamp.specs.Interval.{Interval, shown}
use Rattle.txc_node.specs.declared.entry.Entry.{Entry}
use Rattle.txc_node.specs.declared.node.Inserted.TheVariants.{Stored}
use Rattle.txc_node.specs.Entries.{others}
use Rattle.txc_node.specs.Cache.{Cache, IsBounded, is_kept, outcome, after_insert, replayed_reach, entries_with, evicted_entry}
use Rattle.txc_node.specs.contracts.node.NodeCore.{the_view}
use Rattle.txc_node.proofs.Inserts.{kept_state, stored_state}
use Rattle.txc_node.proofs.LawLemmas.{insert_bounded}
use Rattle.txc_node.proofs.Puts.{kept_by}
use Rattle.txc_node.proofs.node.NodeCore.insert.Goals as goal

pub returns-then-ends_no_earlier-clause-after : goal.returns-then-ends_no_earlier-clause-after
returns-then-ends_no_earlier-clause-after c =
    let e = c.args.entry in
    let n = the_view c.self.inside in
    let is = kept_by n e c.replay_for-reach.result c.standing-found.result c.ends_no_earlier.result c.ends_no_earlier.ensures (rw c.keyed.ensures at c.standing-found.ensures) c.replay_for-reach.ensures.value in
    rw (← c.self.view_is) (kept_state n e (sym is ∙ c.if-ends_no_earlier.true)).0

pub returns-then-ends_no_earlier-clause-answer : goal.returns-then-ends_no_earlier-clause-answer
returns-then-ends_no_earlier-clause-answer c =
    let e = c.args.entry in
    let n = the_view c.self.inside in
    let is = kept_by n e c.replay_for-reach.result c.standing-found.result c.ends_no_earlier.result c.ends_no_earlier.ensures (rw c.keyed.ensures at c.standing-found.ensures) c.replay_for-reach.ensures.value in
    (kept_state n e (sym is ∙ c.if-ends_no_earlier.true)).1 ∙ ap (λ (m : Cache). outcome m e) c.self.view_is

pub returns-in_err-evicted-clause-refused : goal.returns-in_err-evicted-clause-refused
returns-in_err-evicted-clause-refused c =
    let e = c.args.entry in
    let n = the_view c.self.inside in
    let is = kept_by n e c.replay_for-reach.result c.standing-found.result c.ends_no_earlier.result c.ends_no_earlier.ensures (rw c.keyed.ensures at c.standing-found.ensures) c.replay_for-reach.ensures.value in
    let no : is_kept c.args.self.now e ≡ false = ap (λ (m : Cache). is_kept m e) (sym c.self.view_is) ∙ sym is ∙ c.if-ends_no_earlier.false in
    elim c.from_residual.result as (λ r. OnErr r (is_kept c.args.self.now e ≡ false)) [ Ok _ ↦ tt | Err _ ↦ no ]

pub invariant_of-self-2 : goal.invariant_of-self-2
invariant_of-self-2 c =
    let e = c.args.entry in
    let n = the_view c.self.inside in
    let is = kept_by n e c.replay_for-reach.result c.standing-found.result c.ends_no_earlier.result c.ends_no_earlier.ensures (rw c.keyed.ensures at c.standing-found.ensures) c.replay_for-reach.ensures.value in
    let entries : c.put.new.self.entries ≡ take n.capacity (entries_with n e) =
    c.in_ok-evicted.ensures.entries ∙ ap (λ (i : Interval). let f : Entry = record e { reach = i } in take n.capacity (f ∷ others e n.entries)) c.replay_for-reach.ensures.value in
    let state = stored_state n e c.put.new.self.entries (evicted_entry n e) (sym is ∙ c.if-ends_no_earlier.false) entries refl in
    rw c.in_ok-evicted.ensures.capacity (subst IsBounded (sym state.0) (insert_bounded n e c.self.invariant))

pub returns-clause-after : goal.returns-clause-after
returns-clause-after c =
    let e = c.args.entry in
    let n = the_view c.self.inside in
    let is = kept_by n e c.replay_for-reach.result c.standing-found.result c.ends_no_earlier.result c.ends_no_earlier.ensures (rw c.keyed.ensures at c.standing-found.ensures) c.replay_for-reach.ensures.value in
    let entries : c.put.new.self.entries ≡ take n.capacity (entries_with n e) =
    c.in_ok-evicted.ensures.entries ∙ ap (λ (i : Interval). let f : Entry = record e { reach = i } in take n.capacity (f ∷ others e n.entries)) c.replay_for-reach.ensures.value in
    let state = stored_state n e c.put.new.self.entries (evicted_entry n e) (sym is ∙ c.if-ends_no_earlier.false) entries refl in
    rw c.in_ok-evicted.ensures.capacity (state.0 ∙ ap (λ (m : Cache). after_insert m e) c.self.view_is)

pub returns-clause-answer : goal.returns-clause-answer
returns-clause-answer c =
    let e = c.args.entry in
    let n = the_view c.self.inside in
    let is = kept_by n e c.replay_for-reach.result c.standing-found.result c.ends_no_earlier.result c.ends_no_earlier.ensures (rw c.keyed.ensures at c.standing-found.ensures) c.replay_for-reach.ensures.value in
    let evicted : c.in_ok-evicted.evicted ≡ evicted_entry n e =
    c.in_ok-evicted.ensures.evicted ∙ ap (λ (i : Interval). let f : Entry = record e { reach = i } in slice_get (f ∷ others e n.entries) n.capacity) c.replay_for-reach.ensures.value in
    let state = stored_state n e (take n.capacity (entries_with n e)) c.in_ok-evicted.evicted (sym is ∙ c.if-ends_no_earlier.false) refl evicted in
    let reach : c.shown-reach.result ≡ shown n.processed (replayed_reach n e) = c.shown-reach.ensures ∙ ap (shown n.processed) c.replay_for-reach.ensures.value in
    ap (λ (i : Interval). Stored i c.in_ok-evicted.evicted) reach ∙ state.1 ∙ ap (λ (m : Cache). outcome m e) c.self.view_is
