use Rattle.std.proofs.Common.{◌≡◌, ◌∷◌, ◌++◌, [], ◌∙◌, Option, Some, length, ap, sym, subst}
use Rattle.txc_stream.specs.FrontValue.{Shown}
use Rattle.txc_stream.specs.Windows.{WindowValue}
use Rattle.txc_rows.specs.RowTags.{tags_between}
use Rattle.txc_db.specs.Facts.{EventValue}
use Rattle.txc_db.specs.History.{History, AreTagged, state_at, state_after_event}
use Rattle.txc_db.specs.HeldHistory.{HistoryValue, HasWindow}
use Rattle.txc_db.proofs.Histories.{tagged_pushed}
use Rattle.txc_db.proofs.history.History.write.Goals as goal

pub unstored-requires-clause-tagged : goal.unstored-requires-clause-tagged
unstored-requires-clause-tagged c =
    let e = c.args.next.draft.value in
    let hist = c.self.inside.front.history in
    let kept : HasWindow (Some c.in-Some.window) c.self.inside.front = subst (λ (w : Option (WindowValue EventValue)). HasWindow w c.self.inside.front) c.in-Some.is c.self.invariant.2 in
    let list : c.again.result.list ≡ c.self.inside.front.history ++ c.args.next.draft.value ∷ [] =
    ap (λ (s : Shown EventValue). s.list) (c.again.ensures ∙ c.front.ensures) ∙ (ap (λ (w : WindowValue EventValue). w.list) c.append.ensures ∙ ap (λ (l : History). l ++ e ∷ []) kept.2) in
    let beside = subst (λ (h : HistoryValue). e.tags ≡ tags_between (state_at h.history (length h.history)) (state_after_event (state_at h.history (length h.history)) e)) (sym c.self.view_is) c.requires.tagged in
    subst AreTagged (sym list) (tagged_pushed hist e c.is_tagged.ensures beside)
