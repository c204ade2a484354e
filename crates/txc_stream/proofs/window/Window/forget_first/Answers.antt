use Rattle.std.proofs.Common.{◌<◌, length, sym, subst, arith}
use Rattle.txc_stream.specs.Windows.{WindowValue}
use Rattle.txc_stream.proofs.Noting.{kept_rest}
use Rattle.txc_stream.proofs.window.Window.forget_first.Goals as goal

pub invariant_of-self : goal.invariant_of-self
invariant_of-self g c =
    let w = c.self.inside in
    let h = c.self.invariant in
    let some : w.first < length w.front.list = subst (λ (v : WindowValue g.row.T.Denot). v.first < length v.list) (sym c.self.view_is) c.requires in
    rw c.pop_front.ensures.rest (record {
      name = h.name;
      whole = h.whole;
      begins = omega (arith, some);
      noted = kept_rest g.M.Witnessed.notes w.front.list w.first w.notes.items h.noted;
    })
