use Rattle.std.proofs.Common.{◌≡◌, ◌∙◌, ℕ, max, ap, arith, rules}
use Rattle.txc_stream.specs.Windows.{WindowValue}
use Rattle.txc_stream.proofs.Noting.{forget_done}
use Rattle.txc_stream.proofs.window.Window.forget.Goals as goal

pub returns : goal.returns
returns g c =
    let i = c.loop-self.invariant in
    let done : c.loop-self.self.first ≡ max c.args.self.now.first c.args.before = forget_done c.args.self.now.first c.loop-self.self.first c.args.before i.low i.high (search (arith, rules)) in
    i.same ∙ ap (λ (n : ℕ). let v : WindowValue g.row.T.Denot = record c.args.self.now { first = n; room = c.loop-self.self.room } in v) done
