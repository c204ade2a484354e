use Rattle.std.proofs.Common.{◌≡◌, inr, ℕ, [], ◌∷◌, ◌∙◌, ap, map, sym, subst, arith}
use Rattle.txc_rows.specs.RowTags.{tags_between}
use Rattle.txc_rows.specs.Versions.{counted_from, purged}
use Rattle.txc_rows.specs.KeptStates.{KeepsBegun}
use Rattle.txc_stream.specs.Names.{unstored}
use Rattle.txc_db.specs.Facts.{EventValue}
use Rattle.txc_db.specs.History.{History, state_after_event}
use Rattle.txc_db.specs.DatabaseValue.{DatabaseValue, newest, newest_state, IsSound}
use Rattle.txc_db.proofs.Begun.{beside_begun, begun_is, begun_state, begun_sound}
use Rattle.txc_db.proofs.db_core.DbCore.begin_anew.Goals as goal

pub begun-requires-clause-tagged : goal.begun-requires-clause-tagged
begun-requires-clause-tagged c =
    subst (λ (e : EventValue). e.tags ≡ tags_between [] (state_after_event [] e)) (sym c.of-draft.ensures)
    (beside_begun c.states_are_maps.ensures.puts c.net_changes_are_differences.ensures.transition (newest_state c.args.self.now))

pub invariant_of-self-2 : goal.invariant_of-self-2
invariant_of-self-2 c =
    let begins = c.begun.ensures.history ∙ ap (λ (e : EventValue). let l : History = e ∷ [] in l) c.of-draft.ensures in
    let sound : IsSound c.args.self.now = subst IsSound c.self.view_is (c.self.invariant.1 c.if-self.false) in
    let keeps = subst (λ (v : DatabaseValue). KeepsBegun (newest v) v.versions c.begin_at.new.self) c.self.view_is
    (subst (λ (n : ℕ). KeepsBegun n c.self.inside.store c.begin_at.new.self) c.newest-newest.ensures c.in_ok-begin_at.ensures.keeps) in (
      let first = c.begun.ensures.first in let low = c.after-self-inside.ensures in omega (arith, first, low),
      λ whole. begun_sound c.states_are_maps.ensures.puts c.net_changes_are_differences.ensures.transition c.args.self.now _ begins (ap (λ (v : DatabaseValue). v.most) c.self.view_is) sound c.after-self-inside.ensures c.clear.ensures.items keeps,
      inr (c.begun.ensures.first ∙ sym c.after-self-inside.ensures),
    )

pub returns-clause-after : goal.returns-clause-after
returns-clause-after c =
    let begins = c.begun.ensures.history ∙ ap (λ (e : EventValue). let l : History = e ∷ [] in l) c.of-draft.ensures in
    let left = subst (λ (v : DatabaseValue). c.begin_at.new.self ≡ map (counted_from (newest v)) (purged (newest v) v.versions)) c.self.view_is
    (subst (λ (n : ℕ). c.begin_at.new.self ≡ map (counted_from n) (purged n c.self.inside.store)) c.newest-newest.ensures c.in_ok-begin_at.ensures.after) in
    begun_is c.args.self.now _ (unstored c.args.pen.number) c.begun.ensures.events begins left (ap (λ (v : DatabaseValue). v.most) c.self.view_is) c.after-self-inside.ensures c.clear.ensures.items c.if-self.false

pub returns-clause-state : goal.returns-clause-state
returns-clause-state c =
    let begins = c.begun.ensures.history ∙ ap (λ (e : EventValue). let l : History = e ∷ [] in l) c.of-draft.ensures in
    let sound : IsSound c.args.self.now = subst IsSound c.self.view_is (c.self.invariant.1 c.if-self.false) in
    let new : DatabaseValue = record {
      events = c.begun.result.events;
      history = c.begun.result.history;
      versions = c.begin_at.new.self;
      most = c.self.inside.most;
      horizon = c.after-self-inside.result;
      holds = c.clear.new.self.items;
      broken = c.self.inside.broken;
    } in
    begun_state c.states_are_maps.ensures.puts c.net_changes_are_differences.ensures.transition c.args.self.now new begins (ap (λ (v : DatabaseValue). v.most) c.self.view_is) sound
