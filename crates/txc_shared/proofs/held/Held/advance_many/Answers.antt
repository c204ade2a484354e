use Rattle.std.proofs.Common.{refl, inl, [], ◌∷◌, subst, arith}
use Rattle.txc_shared.specs.Nodes.{seeing, HasAdvanced}
use Rattle.txc_shared.specs.Passes.{HasTaken}
use Rattle.txc_shared.proofs.Together.{grown_self, grown_then, one_taken_more, more_of_its_own, grows_by_none, left_by_others, stand_together}
use Rattle.txc_shared.proofs.held.Held.advance_many.Goals as goal

pub loop-init : goal.loop-init
loop-init g c = ([], refl, refl, refl, grown_self c.args.pass.now, inl (refl, refl))

pub loop-preserved : goal.loop-preserved
loop-preserved g c =
    let before = c.loop.invariant in
    let step = c.in-Ok-Taken in
    let row = g.J.Naming.database_history in
    let old = c.args.pass.now in
    let mid = c.loop.pass in
    let new = c.advance.new.pass in
    let taken = subst (HasTaken row mid new) step.field-0-is step.ensures.taken in
    let goes = subst (HasAdvanced (seeing c.loop.self c.advance.new.self.seen) mid.pass c.advance.new.self) step.field-0-is step.ensures.after in (
      step.field-0-0 ∷ before.0,
      one_taken_more row old mid new before.0 step.field-0-0 step.field-0-1 before.1 c.advance.ensures.step.longer taken,
      omega (arith, before.2),
      omega (arith, before.3),
      grown_then old mid new before.4 c.advance.ensures.step.longer,
      more_of_its_own row old mid new c.loop.self c.advance.new.self c.advance.new.self.seen c.loop.taken step.field-0-0 step.field-0-1 before.4 before.5 taken goes step.ensures.shown,
    )

pub returns-clause-together : goal.returns-clause-together
returns-clause-together g c =
    let pass = c.loop.pass in
    stand_together c.args.pass.now pass pass c.loop.self c.loop.taken c.loop.invariant.4 c.loop.invariant.5 (grows_by_none pass.pass pass.records)

pub returns-in-Ok-Idle-clause-together : goal.returns-in-Ok-Idle-clause-together
returns-in-Ok-Idle-clause-together g c =
    let pass = c.loop.pass in
    let idle = subst (HasTaken g.J.Naming.database_history pass c.advance.new.pass) c.in-Ok-Idle.field-0-is c.in-Ok-Idle.ensures.taken in
    stand_together c.args.pass.now pass c.advance.new.pass c.loop.self c.loop.taken c.loop.invariant.4 c.loop.invariant.5 idle.0

pub returns-in-Err-clause-together : goal.returns-in-Err-clause-together
returns-in-Err-clause-together g c =
    let pass = c.loop.pass in
    let others = left_by_others (g.J.Naming.node_histories pass.settings.number) pass c.advance.new.pass c.in-Err.error c.in-Err.ensures.step.left in
    stand_together c.args.pass.now pass c.advance.new.pass c.loop.self c.loop.taken c.loop.invariant.4 c.loop.invariant.5 others
