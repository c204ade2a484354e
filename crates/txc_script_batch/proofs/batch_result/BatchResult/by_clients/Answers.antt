use Rattle.std.proofs.Common.{rules, arith}
use Rattle.txc_script_batch.proofs.batch_result.BatchResult.by_clients.Goals as goal

pub run_batch-requires : goal.run_batch-requires
run_batch-requires g c = λ κs within.
    let asked = c.requires.1.1.1.1.1.1.1.1.1.1 in
    let by = asked.0 in
    (search rules, (search rules, (search rules, (search rules, (search rules, (search rules, (search rules, (search rules, (search rules, (search rules, (search rules, (search rules, (omega (arith, by.count, c.args.clients.ok.0, c.args.settings.workers_in_range.0), (omega (arith, by.count, c.args.clients.ok.0, c.args.settings.workers_in_range.1), asked.1))))))))))))))
