use Rattle.std.proofs.Common.{◌≡◌, ◌++◌, ◌∷◌, [], List, map, refl, sym, ap, ◌∙◌, rules, map-id}
use Rattle.std.proofs.lemmas.Iterator.Consumers.{YieldsList-end}
use Rattle.std.proofs.lemmas.Iterator.Adapters.{YieldsList-from_vec}
use Rattle.txc_rows.specs.States.{RowValue}
use Rattle.txc_rows.specs.declared.query.Change.{Change}
use Rattle.txc_rows.specs.declared.query.Change.TheVariants.{Put}
use Rattle.txc_db_carry.proofs.carrying.puts_of.Goals as goal

map_push : (xs : List RowValue) (x : RowValue) → map Put (xs ++ x ∷ []) ≡ map Put xs ++ Put x ∷ []
map_push [] x = refl
map_push (y ∷ ys) x = ap (λ (zs : List Change). Put y ∷ zs) (map_push ys x)

pub loop-row-preserved : goal.loop-row-preserved
loop-row-preserved c = c.in_ok-push.ensures.items ∙ (ap (λ (xs : List Change). xs ++ Put c.in-Some.row ∷ []) c.loop-row.invariant ∙ sym (map_push c.loop-row.yielded c.in-Some.row))

pub returns : goal.returns
returns c =
    let end = YieldsList-end (YieldsList-from_vec {s = c.into_iter-row-iterator.result} c.args.rows.items (search rules) (search rules))
    c.loop-row.yielded c.loop-row.row-iterator c.loop-row.yielded_by c.next.result c.next.new.self c.in-None.is c.next.ensures.steps in
    c.loop-row.invariant ∙ ap (map Put) (sym (map-id c.loop-row.yielded) ∙ end.0)
