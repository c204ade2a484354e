use Rattle.std.proofs.Common.{◌≡◌, ◌+◌, suc, List, [], ◌∷◌, ◌++◌, ℕ, length, ap, sym, subst, ◌∙◌, refl, add-one}
use Rattle.txc_rows.specs.declared.query.Change.{Change}
use Rattle.txc_rows.specs.States.{after_changes}
use Rattle.txc_rows.specs.RowTags.{tags_between}
use Rattle.txc_rows.specs.Net.{IsNet}
use Rattle.txc_rows.specs.KeptStates.{KeepsWritten}
use Rattle.txc_db.specs.Facts.{EventValue, commit, net_of}
use Rattle.txc_db.specs.HeldHistory.{HistoryValue, event_in}
use Rattle.txc_db.specs.History.{History, state_at, state_after_event}
use Rattle.txc_db.specs.DatabaseValue.{DatabaseValue, newest_state}
use Rattle.txc_db.proofs.Sound.{commit_sound}
use Rattle.txc_db.proofs.db_core.DbCore.append_commit.Goals as goal

pub append-requires-clause-tagged : goal.append-requires-clause-tagged
append-requires-clause-tagged c =
    let items = c.args.net.changes.items in
    let before = state_at c.prepare_commit.new.self.history (length c.prepare_commit.new.self.history) in
    let tags = subst (λ (v : DatabaseValue). c.args.net.tags ≡ tags_between (newest_state v) (after_changes items (newest_state v))) (sym c.self.view_is) c.requires.tags in
    let same : c.prepare_commit.new.self.history ≡ c.self.inside.told.history = ap (λ (h : HistoryValue). h.history) c.in_ok-event.ensures.same in
    let here = subst (λ (l : History). c.args.net.tags ≡ tags_between (state_at l (length l)) (after_changes items (state_at l (length l)))) (sym same) tags in
    subst (λ (e : EventValue). e.tags ≡ tags_between before (state_after_event before e)) (sym c.in_ok-event.ensures.event) here

pub invariant_of-self-else-not-append : goal.invariant_of-self-else-not-append
invariant_of-self-else-not-append c =
    let items = c.args.net.changes.items in
    let prepared = c.in_ok-event.ensures.same in
    let after = c.if-not-append.ensures.after refl in
    let events : c.append.new.self.events ≡ c.self.inside.told.events = ap (λ (h : HistoryValue). h.events) after ∙ ap (λ (h : HistoryValue). h.events) prepared in
    let first : c.append.new.self.first ≡ c.self.inside.told.first = ap (λ (h : HistoryValue). h.first) after ∙ ap (λ (h : HistoryValue). h.first) prepared in
    let list : c.append.new.self.history ≡ c.self.inside.told.history ++ record { fact = commit c.args.net.changes.items; tags = c.args.net.tags } ∷ [] =
    ap (λ (h : HistoryValue). h.history) after ∙ (ap (λ (h : HistoryValue). h.history ++ event_in c.in_ok-event.event ∷ []) prepared
    ∙ ap (λ (e : EventValue). c.self.inside.told.history ++ e ∷ []) c.in_ok-event.ensures.event) in
    let net : c.net.result.now ≡ c.args.net.changes.items = c.net.ensures ∙ ap (λ (e : EventValue). net_of e.fact) c.in_ok-event.ensures.event in
    let stamp : c.after-stamp.result ≡ suc (length c.self.inside.told.history) = c.after-stamp.ensures ∙ (ap (λ (n : ℕ). n + 1) c.len-events.ensures.shown ∙ add-one (length c.self.inside.told.history)) in
    let transition = subst (λ (v : DatabaseValue). IsNet (newest_state v) items (after_changes items (newest_state v))) (sym c.self.view_is) c.requires.net in
    let tags = subst (λ (v : DatabaseValue). c.args.net.tags ≡ tags_between (newest_state v) (after_changes items (newest_state v))) (sym c.self.view_is) c.requires.tags in
    let keeps = subst (λ (n : ℕ). KeepsWritten items n c.self.inside.store c.write.new.self) stamp (subst (λ (ns : List Change). KeepsWritten ns c.after-stamp.result c.self.inside.store c.write.new.self) net c.in_ok-write.ensures.keeps) in (
      rw first c.self.invariant.0,
      λ whole. rw (events, list) (commit_sound c.versions_keep_states.ensures.agreed _ items (record { fact = commit items; tags = c.args.net.tags }) c.write.new.self refl transition tags keeps (c.self.invariant.1 whole)),
      rw (events, first) c.self.invariant.2,
    )
