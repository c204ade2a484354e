use Rattle.std.proofs.Common.{◌≡◌, ◌+◌, ◌-◌, ◌<◌, ◌≤◌, ◌∙◌, Option, Some, length, slice_get, ap, subst, arith}
use Rattle.std.specs.Prelude.{IfSome}
use Rattle.std.specs.Arc.{arc_value}
use Rattle.txc_stream.specs.Windows.{WindowValue}
use Rattle.txc_db.specs.Facts.{EventValue}
use Rattle.txc_db.specs.History.{History, tags_at}
use Rattle.txc_db.specs.HeldHistory.{HistoryValue, HasWindow}
use Rattle.txc_db.proofs.Tagged.{noted_tags}
use Rattle.txc_db.proofs.history.History.kept_tags.Goals as goal

pub returns : goal.returns
returns c =
    let hist = c.self.inside.front.history in
    let kept : HasWindow (Some c.in-Some.window) c.self.inside.front = subst (λ (w : Option (WindowValue EventValue)). HasWindow w c.self.inside.front) c.in-Some.is c.self.invariant.2 in
    let long : length c.self.inside.front.history ≡ length c.args.self.now.history = ap (λ (h : HistoryValue). length h.history) c.self.view_is in
    let last : c.args.number ≤ length c.args.self.now.history = c.requires.last in
    let first : c.args.self.now.first < c.args.number = c.requires.kept in
    let same : (c.args.number - 1) + 1 ≡ c.args.number = omega (arith, first) in
    let note = subst (λ (l : History). IfSome (slice_get l (c.args.number - 1)) (λ (x : EventValue). arc_value c.get.result.now ≡ x.tags)) kept.2 c.get.ensures in
    noted_tags hist c.is_tagged.ensures (c.args.number - 1) (arc_value c.get.result.now) (omega (arith, long, last, first)) note
    ∙ (ap (tags_at hist) same ∙ ap (λ (h : HistoryValue). tags_at h.history c.args.number) c.self.view_is)
