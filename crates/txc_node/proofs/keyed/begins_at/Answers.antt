use Rattle.txc_node.proofs.KeyReaches.{place_stands, stands_found}
use Rattle.std.proofs.Common.{Some, None, sym, ◌∙◌}
use Rattle.std.specs.List.{find}
use Rattle.txc_node.specs.Entries.{same_place}
use Rattle.txc_node.proofs.keyed.begins_at.Goals as goal

pub returns-in-None : goal.returns-in-None
returns-in-None c = λ e es are begins.
    place_stands e es c.args.versions.now c.args.lo None are begins (sym c.in-None.is ∙ c.position.ensures)

pub returns-in-Some : goal.returns-in-Some
returns-in-Some c = λ e es are begins.
    let at = c.in-Some.at in
    stands_found e.key es c.args.versions.now (find (λ o. same_place o e) es) at c.get-reach.result are c.get-reach.ensures (place_stands e es c.args.versions.now c.args.lo (Some at) are begins (sym c.in-Some.is ∙ c.position.ensures))
