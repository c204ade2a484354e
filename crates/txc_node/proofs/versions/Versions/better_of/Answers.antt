use Rattle.std.proofs.Common.{◌≡◌, true, false}
use Rattle.txc_node.specs.IndexedEntries.{meets, lasts_longer}
use Rattle.txc_node.proofs.Best.{best_skips, best_keeps, best_begins, best_takes}
use Rattle.txc_node.proofs.KeyReaches.{range_at, lasts_at}
use Rattle.txc_node.proofs.versions.Versions.better_of.Goals as goal

pub returns-then-not-meets-clause-so_far : goal.returns-then-not-meets-clause-so_far
returns-then-not-meets-clause-so_far c = λ key es are.
    let a = c.args in
    let misses : meets a.processed a.lo a.hi c.get-reach.result ≡ false = cc in
    best_skips a.processed key a.lo a.hi es a.i a.best (c.requires.so_far key es are) (range_at a.processed key a.lo a.hi es a.self.now a.i c.get-reach.result false are c.get-reach.ensures misses)

pub returns-then-lasts_longer-clause-so_far : goal.returns-then-lasts_longer-clause-so_far
returns-then-lasts_longer-clause-so_far c = λ key es are.
    let a = c.args in
    let b = c.in-Some.b in
    let fits : meets a.processed a.lo a.hi c.get-reach.result ≡ true = cc in
    let over : lasts_longer a.processed c.get-reach.result c.get.result ≡ true = cc in
    best_takes a.processed key a.lo a.hi es a.i b (rw c.in-Some.is at (c.requires.so_far key es are)) (range_at a.processed key a.lo a.hi es a.self.now a.i c.get-reach.result true are c.get-reach.ensures fits) (lasts_at a.processed key es a.self.now a.i b c.get-reach.result c.get.result true are c.get-reach.ensures c.get.ensures over)

pub returns-in-None-clause-so_far : goal.returns-in-None-clause-so_far
returns-in-None-clause-so_far c = λ key es are.
    let a = c.args in
    let fits : meets a.processed a.lo a.hi c.get-reach.result ≡ true = cc in
    best_begins a.processed key a.lo a.hi es a.i (rw c.in-None.is at (c.requires.so_far key es are)) (range_at a.processed key a.lo a.hi es a.self.now a.i c.get-reach.result true are c.get-reach.ensures fits)

pub returns-else-lasts_longer-clause-so_far : goal.returns-else-lasts_longer-clause-so_far
returns-else-lasts_longer-clause-so_far c = λ key es are.
    let a = c.args in
    let b = c.in-Some.b in
    let under : lasts_longer a.processed c.get-reach.result c.get.result ≡ false = cc in
    best_keeps a.processed key a.lo a.hi es a.i b (rw c.in-Some.is at (c.requires.so_far key es are)) (lasts_at a.processed key es a.self.now a.i b c.get-reach.result c.get.result false are c.get-reach.ensures c.get.ensures under)
