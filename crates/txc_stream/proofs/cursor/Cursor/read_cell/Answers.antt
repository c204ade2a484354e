use Rattle.std.proofs.Common.{◌≡◌, ◌∙◌, ◌+◌, ◌++◌, ◌∷◌, [], ℕ, List, inr, true, length, refl, sym, ap, eqb-true, rules}
use Rattle.txc_stream.specs.FrontValue.{Shown}
use Rattle.txc_stream.specs.Published.{WalkerValue}
use Rattle.txc_stream.proofs.Walking.{next_of}
use Rattle.txc_stream.proofs.cursor.Cursor.read_cell.Goals as goal

pub returns-clause-next : goal.returns-clause-next
returns-clause-next g c =
    let yes : c.is_next.result ≡ true = search rules in
    let more : c.len-2.result ≡ c.len.result + 1 = eqb-true c.len-2.result (c.len.result + 1) (sym c.is_next.ensures ∙ yes) in
    let long : length c.posted.inside.front.list ≡ length c.self.inside.front.list + 1 = sym c.len-2.ensures.shown ∙ (more ∙ ap (λ (n : ℕ). n + 1) c.len.ensures.shown) in
    let next = next_of c.self.inside.front.list c.posted.inside.front.list c.agree.ensures long in
    let was = ap (λ (v : WalkerValue g.row.T.Denot). v.list) c.self.view_is in
    inr (record {
      taken = c.requires;
      found = refl;
      next = next.0;
      is = ap (λ (f : Shown g.row.T.Denot). f.list) c.again.ensures ∙ (next.1 ∙ ap (λ (l : List g.row.T.Denot). l ++ next.0 ∷ []) was);
    })
