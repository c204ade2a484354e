use Rattle.std.proofs.Common.{subst}
use Rattle.txc_world.specs.PortRequests.{QueryTransition}
use Rattle.txc_world.proofs.PortsLemmas.{keeps_same, query_refused}
use Rattle.txc_world.proofs.keeping.keep.Goals as goal

pub returns-in-Ok-with_rows : goal.returns-in-Ok-with_rows
returns-in-Ok-with_rows g c =
    let told = c.in-Ok-with_rows.ensures.rows in
    let found = (subst (QueryTransition c.in-Query.query c.in-Query.stamp c.args.ports.now) told.0 c.answer.ensures.transition).0 in
    rw c.in-Query.is (record {
      transition = (c.answer.ensures.same, (_, found.answer, found.tag, told.1));
      keeps = keeps_same c.args.ports.now c.answer.new.self c.answer.ensures.same;
    })

pub returns-in-Err-with_rows : goal.returns-in-Err-with_rows
returns-in-Err-with_rows g c = rw c.in-Query.is (record {
  transition = (
    c.answer.ensures.same,
    query_refused c.args.ports.now c.in-Query.query c.in-Query.stamp c.answer.result c.in-Err-with_rows.refusal c.answer.ensures.transition c.in-Err-with_rows.ensures.refused,
  );
  keeps = keeps_same c.args.ports.now c.answer.new.self c.answer.ensures.same;
})
