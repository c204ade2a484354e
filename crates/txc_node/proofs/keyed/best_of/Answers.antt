use Rattle.txc_node.proofs.KeyReaches.{best_stands, stands_found}
use Rattle.std.proofs.Common.{Some, None}
use Rattle.std.specs.List.{find}
use Rattle.txc_node.specs.Entries.{is_best}
use Rattle.txc_node.proofs.keyed.best_of.Goals as goal

pub returns-in-None : goal.returns-in-None
returns-in-None c = λ key es are.
    let a = c.args in
    best_stands a.processed key a.lo a.hi es a.versions.now None are (rw c.in-None.is at (c.best.ensures.best key es are))

pub returns-in-Some : goal.returns-in-Some
returns-in-Some c = λ key es are.
    let a = c.args in
    let at = c.in-Some.at in
    stands_found key es a.versions.now (find (is_best a.processed key a.lo a.hi es) es) at c.get-reach.result are c.get-reach.ensures (best_stands a.processed key a.lo a.hi es a.versions.now (Some at) are (rw c.in-Some.is at (c.best.ensures.best key es are)))
