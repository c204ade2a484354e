use Rattle.std.proofs.Common.{◌≡◌, ◌∙◌, ◌+◌, ◌-◌, ap, subst, arith}
use Rattle.txc_db.specs.History.{tags_at}
use Rattle.txc_db.specs.FrontsAndFeeds.{FrontValue}
use Rattle.txc_db.proofs.Tagged.{tagged_at}
use Rattle.txc_db.proofs.history_front.HistoryFront.event_at.Goals as goal

pub returns-in-Some-clause-tags : goal.returns-in-Some-clause-tags
returns-in-Some-clause-tags c =
    let same : (c.args.number - 1) + 1 ≡ c.args.number = omega (arith, c.requires.first) in
    let tags = tagged_at c.self.inside.front.list c.self.invariant.1 (c.args.number - 1) c.get.result.now c.get.ensures in
    subst (λ (v : FrontValue). c.get.result.now.tags ≡ tags_at v.history c.args.number) c.self.view_is (tags ∙ ap (tags_at c.self.inside.front.list) same)
