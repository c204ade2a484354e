use Rattle.std.proofs.Common.{OnOk, sym, subst}
use Rattle.std.proofs.lemmas.Result.{on_ok_weaker}
use Rattle.std.specs.Map.Iter.{deref}
use Rattle.txc_rows.specs.declared.query.Query.{Query}
use Rattle.txc_rows.specs.LatestTable.{AddsAround}
use Rattle.txc_rows.proofs.FindLemmas.{asked}
use Rattle.txc_rows.proofs.NearLemmas.{adds_all, first_adds}
use Rattle.txc_rows.proofs.replaced.Replaced.add_later.Goals as goal

pub returns-in-ById : goal.returns-in-ById
returns-in-ById c =
    let xs = c.args.self.now in
    let old = c.args.found.now.items in
    let new = c.add_found.new.found.items in
    subst (λ (q : Query). OnOk c.add_found.result (AddsAround c.args.at (asked q c.args.from xs) old new)) (sym c.in-ById.is)
    (on_ok_weaker c.add_found.result (first_adds deref c.args.at xs c.requires.each c.requires.ended c.in-ById.field-0 c.in-ById.field-1 c.args.from c.requires.after c.first_dead-first.result (rw c.in-ById.is at c.first_dead-first.ensures) old new) c.add_found.ensures)

pub returns-in_default : goal.returns-in_default
returns-in_default c =
    let xs = c.args.self.now in
    on_ok_weaker c.find.result (λ finding. adds_all c.args.at (asked c.args.query.now c.args.from xs) c.args.found.now.items c.find.new.found.items finding.more finding.same finding.are) c.find.ensures
