use Rattle.txc_caller.proofs.Taken.{advanced_so, refused_so}
use Rattle.txc_caller.proofs.nodes.take_event.Goals as goal

pub returns-in-Err : goal.returns-in-Err
returns-in-Err g c = refused_so c.args.node.now c.advance_by.new.self c.in-Err.refusal c.in-Err.ensures.posted c.in-Err.ensures.left

pub returns-in-Ok-Taken : goal.returns-in-Ok-Taken
returns-in-Ok-Taken g c =
    advanced_so c.args.node.now c.advance_by.new.self c.advance_by.new.self.seen c.in-Ok-Taken.field-0 c.in-Ok-Taken.ensures.seen.events c.in-Ok-Taken.ensures.after
