use Rattle.std.proofs.Common.{◌≡◌, ◌∙◌, arith}
use Rattle.std.proofs.lemmas.List.Elements.{All-rest}
use Rattle.txc_site_workers.proofs.GoesOver.{number_of_node}
use Rattle.txc_site_workers.proofs.site_parts.SiteParts.carry_entries.Goals as goal

pub carry_entries-requires-clause-number : goal.carry_entries-requires-clause-number
carry_entries-requires-clause-number g c =
    let its = c.args.self.now in
    number_of_node its.plan its.nodes.items c.number-number.result c.index.result.now its.planned (omega (arith, its.nodes.ok.0)) c.index.ensures
    ∙ c.number-number.ensures

pub loop-left-preserved-then-number-len : goal.loop-left-preserved-then-number-len
loop-left-preserved-then-number-len g c =
    All-rest (λ node. node.seen.events ≡ c.args.carried_entries.whole.events) _ _ _ c.in-Some.ensures.steps.0 c.loop-left.invariant

pub loop-left-preserved : goal.loop-left-preserved
loop-left-preserved g c =
    All-rest (λ node. node.seen.events ≡ c.args.carried_entries.whole.events) _ _ _ c.in-Some.ensures.steps.0 c.loop-left.invariant
