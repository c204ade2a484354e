use Rattle.txc_script_node.proofs.Digits.{all_joined}
use Rattle.txc_script_node.proofs.output.put_args.Goals as goal

pub returns-in-Some-clause-after : goal.returns-in-Some-clause-after
returns-in-Some-clause-after c = all_joined c.args.args.now c.in-Some.others.now _ _ _ c.in-Some.first.now c.in-Some.ensures.cases.0 c.put_u32.ensures.after c.put_others.ensures.after
