use Rattle.std.proofs.Common.{◌∙◌}
use Rattle.txc_node.specs.Cache.{lookup_answer}
use Rattle.txc_node.specs.Steps.{found_reply}
use Rattle.txc_node.specs.declared.op.Op.TheVariants.{Lookup}
use Rattle.txc_shared.specs.Histories.{next_record}
use Rattle.txc_shared.proofs.log.Log.prepare_lookup.Goals as goal

pub returns-in_ok-boxed-clause-awaits : goal.returns-in_ok-boxed-clause-awaits
returns-in_ok-boxed-clause-awaits c =
    let reply = found_reply (lookup_answer c.args.core.now c.args.key.now c.args.lo c.args.hi) in
    c.in_ok-boxed.ensures reply ∙ (λ i. next_record c.args.pass c.args.self.now.records (Lookup (c.copy-key.ensures i) c.args.lo c.args.hi) reply)
