-- What goes over to the nodes of a site.
use Rattle.std.proofs.Common.{◌≡◌, ℕ, ◌<◌, List, get_or, length, ap, ◌∙◌, arith}
use Rattle.std.proofs.lemmas.List.FromFn.{get_or-map-range_with_len, length-map-range_with_len}
use Rattle.txc_shared.specs.declared.settings.NodeSettings.{NodeSettings}
use Rattle.txc_site_workers.specs.declared.plan.Plan.{Plan}
use Rattle.txc_site_workers.specs.Plans.{nodes_of, settings_of_node}

-- the node at a place has its number
pub number_of_node : (plan : Plan) (nodes : List NodeSettings) (k : ℕ) (node : NodeSettings) → nodes ≡ nodes_of plan → k < length nodes
    → node ≡ get_or nodes k node → node.number ≡ k
number_of_node plan nodes k node made within is =
    let made_at = λ (n : ℕ). settings_of_node plan n in
    let many = length-map-range_with_len made_at 0 plan.nodes in
    ap (λ (s : NodeSettings). s.number) (is ∙ ap (λ (xs : List NodeSettings). get_or xs k node) made
    ∙ get_or-map-range_with_len made_at 0 plan.nodes k k node (omega (arith, within, ap length made, many)) (omega arith))
