use Rattle.std.proofs.Common.{◌≡◌, ◌-◌, ℕ, drop, sym, subst, ◌∙◌, arith}
use Rattle.txc_node.specs.Sweep.{AreAllLasting}
use Rattle.txc_node.proofs.Lasting.{listed_last}
use Rattle.txc_node.proofs.key_index.KeyIndex.keep_lasting.Goals as goal

pub returns : goal.returns
returns c = λ k.
    let s = c.args.sweep.now in
    let xs = c.loop-n.self.versions.entries in
    let done : c.len-len.result - c.loop-n.n ≡ 0 = omega (arith, c.loop-n-test.false) in
    let whole : AreAllLasting s.processed s.horizon xs = subst (λ (n : ℕ). AreAllLasting s.processed s.horizon (drop n xs)) done c.loop-n.invariant.from in
    sym (listed_last s.processed s.horizon xs k whole) ∙ c.loop-n.invariant.same k
