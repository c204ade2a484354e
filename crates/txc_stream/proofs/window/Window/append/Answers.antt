use Rattle.std.proofs.Common.{◌≡◌, ◌++◌, ◌∷◌, [], List, length, drop, refl, ap, subst, length-append, arith}
use Rattle.txc_stream.specs.Windows.{AreNotes}
use Rattle.txc_stream.proofs.Noting.{kept_push}
use Rattle.txc_stream.proofs.window.Window.append.Goals as goal

pub invariant_of-self : goal.invariant_of-self
invariant_of-self g c =
    let w = c.self.inside in
    let h = c.self.invariant in
    let written = w.pen.list in
    let x = c.args.draft.value in
    let long = ap length h.whole in
    let kept : AreNotes g.M.Witnessed.notes (drop w.first written) w.notes.items = subst (λ (l : List g.row.T.Denot). AreNotes g.M.Witnessed.notes (drop w.first l) w.notes.items) h.whole h.noted in
    rw (c.append.ensures.shown, c.append.ensures.after, c.push_back_reserved.ensures.items) (record {
      name = h.name;
      whole = refl;
      begins = omega (arith, h.begins, long, length-append written (x ∷ []));
      noted = kept_push g.M.Witnessed.notes written w.first w.notes.items x c.args.note kept (omega (arith, h.begins, long)) c.requires.noted;
    })
