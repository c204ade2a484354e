use Rattle.std.proofs.Common.{◌≡◌, ◌+◌, List, [], ◌∷◌, ◌++◌, ℕ, length, refl, ap, sym, subst, ◌∙◌}
use mathlib.Core.List.{IsPrefix}
use Rattle.txc_stream.proofs.Offered.{prefix_push}
use Rattle.txc_rows.specs.RowTags.{tags_between}
use Rattle.txc_db.specs.Facts.{EventValue}
use Rattle.txc_db.specs.FrontsAndFeeds.{FrontValue}
use Rattle.txc_db.specs.HeldHistory.{HistoryValue, event_in}
use Rattle.txc_db.specs.History.{History, pin_event, state_at, state_after_event}
use Rattle.txc_db.proofs.Sound.{pin_sound}
use Rattle.txc_db.proofs.db_core.DbCore.pin.Goals as goal

pub append-requires-clause-tagged : goal.append-requires-clause-tagged
append-requires-clause-tagged c =
    let before = state_at c.prepare_pin.new.self.history (length c.prepare_pin.new.self.history) in
    subst (λ (e : EventValue). e.tags ≡ tags_between before (state_after_event before e)) (sym c.in_ok-event.ensures.event) (sym (c.tags_are_sound.ensures.none before))

pub invariant_of-self-2 : goal.invariant_of-self-2
invariant_of-self-2 c =
    let prepared = c.in_ok-event.ensures.same in
    let after = c.if-not-append.ensures.after refl in
    let events : c.append.new.self.events ≡ c.self.inside.told.events = ap (λ (h : HistoryValue). h.events) after ∙ ap (λ (h : HistoryValue). h.events) prepared in
    let first : c.append.new.self.first ≡ c.self.inside.told.first = ap (λ (h : HistoryValue). h.first) after ∙ ap (λ (h : HistoryValue). h.first) prepared in
    let list : c.append.new.self.history ≡ c.self.inside.told.history ++ pin_event c.args.now ∷ [] =
    ap (λ (h : HistoryValue). h.history) after ∙ (ap (λ (h : HistoryValue). h.history ++ event_in c.in_ok-event.event ∷ []) prepared
    ∙ ap (λ (e : EventValue). c.self.inside.told.history ++ e ∷ []) c.in_ok-event.ensures.event) in
    let holds : c.push_reserved.new.self.items ≡ c.self.inside.holds.items ++ c.after-stamp.result ∷ [] = c.push_reserved.ensures.items ∙ ap (λ (xs : List ℕ). xs ++ c.after-stamp.result ∷ []) c.in_ok-reserve.ensures.items in
    let stamp : c.after-stamp.result ≡ length c.self.inside.told.history + 1 = c.after-stamp.ensures ∙ ap (λ (n : ℕ). n + 1) c.len-events.ensures.shown in
    let laws = c.versions_keep_states.ensures in (
      rw first c.self.invariant.0,
      λ whole. rw (events, list, holds) (pin_sound laws.agreed laws.quiet c.tags_are_sound.ensures.none _ c.args.now c.after-stamp.result stamp (c.self.invariant.1 whole)),
      rw (events, first) c.self.invariant.2,
    )

pub lengthen-requires-clause-begins : goal.lengthen-requires-clause-begins
lengthen-requires-clause-begins c =
    let was = c.self.inside.told.history in
    let e = event_in c.in_ok-event.event in
    let prepared = c.in_ok-event.ensures.same in
    let whole : c.front-3.result.now.history ≡ c.self.inside.told.history ++ event_in c.in_ok-event.event ∷ [] =
    ap (λ (f : FrontValue). f.history) c.front-3.ensures ∙ (ap (λ (h : HistoryValue). h.history) (c.if-not-append.ensures.after refl) ∙ ap (λ (h : HistoryValue). h.history ++ e ∷ []) prepared) in
    let old : c.in_ok-front.front.history ≡ c.self.inside.told.history = ap (λ (f : FrontValue). f.history) (c.in_ok-front.ensures ∙ c.front.ensures) ∙ ap (λ (h : HistoryValue). h.history) prepared in
    subst (λ (l : History). IsPrefix c.in_ok-front.front.history l) (sym whole) (subst (λ (l : History). IsPrefix l (was ++ e ∷ [])) (sym old) (prefix_push was e))
