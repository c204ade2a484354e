use Rattle.std.proofs.Common.{◌≡◌, ◌∙◌, List, [], ◌∷◌, ◌++◌, Ok, ap, length, refl, sym, subst, arith}
use Rattle.txc_db.specs.FrontsAndFeeds.{FrontValue}
use Rattle.txc_site.specs.Generations.{IsNextRefused, last_state}
use Rattle.txc_site.specs.declared.error.GenerationError.TheVariants as errors
use Rattle.txc_site.proofs.Turns.{HaveGoneOn, enough_so, failed_so, is_error, no_next_so, none_came, one_more}
use Rattle.txc_site.proofs.generations.go_on.Goals as goal

pub loop-init : goal.loop-init
loop-init g c = record {
  came =
      none_came c.args.plan (g.C.Clock.tells c.args.clock.now) c.args.count g.A.FunctionTable.numbers (g.V.Worker.gives c.args.workers.now) (g.V.Recurring.continues c.args.workers.now) c.args.begun.front
      c.args.generations.now.items c.requires.none;
  row = c.requires.row;
  room = c.requires.room;
  carried = c.requires.carried;
}

pub returns-in_err-reserve : goal.returns-in_err-reserve
returns-in_err-reserve g c =
    let end = c.from_residual.result in
    let before =
    subst (λ came. HaveGoneOn c.args.plan (g.C.Clock.tells c.args.clock.now) c.args.count g.A.FunctionTable.numbers (g.V.Worker.gives c.args.workers.now) (g.V.Recurring.continues c.args.workers.now) c.args.begun.front came c.loop.begun.front)
    (sym c.in_err-reserve.ensures.items) c.loop.invariant.came in
    failed_so c.args.plan (g.C.Clock.tells c.args.clock.now) c.args.count g.A.FunctionTable.numbers (g.V.Worker.gives c.args.workers.now) (g.V.Recurring.continues c.args.workers.now) c.args.begun.front
    c.reserve.new.self.items c.loop.begun.front end errors.Memory before (is_error end errors.Memory c.from_residual.ensures.1) (λ gs. tt)

pub returns-then-not-should_continue : goal.returns-then-not-should_continue
returns-then-not-should_continue g c =
    let one = c.in_ok-ended.ended.generation in
    let number : one.number ≡ length c.loop.generations.items = omega (arith, c.in_ok-ended.ensures.number, c.len-number.ensures, c.reserve.new.self.ok.0, ap length c.in_ok-reserve.ensures.items) in
    let added : c.push_reserved.new.self.items ≡ c.loop.generations.items ++ one.outputs ∷ [] = c.push_reserved.ensures.items ∙ ap (λ (xs : List _). xs ++ one.outputs ∷ []) c.in_ok-reserve.ensures.items in
    enough_so c.args.plan (g.C.Clock.tells c.args.clock.now) c.args.count g.A.FunctionTable.numbers (g.V.Worker.gives c.args.workers.now) (g.V.Recurring.continues c.args.workers.now) c.args.begun.front
    c.loop.generations.items c.push_reserved.new.self.items c.loop.begun.front c.loop.invariant.came one c.in_ok-ended.ensures.generation number
    c.in_ok-ended.ensures.begun added (Ok tt) tt refl c.if-not-should_continue.ensures

pub returns-in_err-begun : goal.returns-in_err-begun
returns-in_err-begun g c =
    let one = c.in_ok-ended.ended.generation in
    let number : one.number ≡ length c.loop.generations.items = omega (arith, c.in_ok-ended.ensures.number, c.len-number.ensures, c.reserve.new.self.ok.0, ap length c.in_ok-reserve.ensures.items) in
    let added : c.push_reserved.new.self.items ≡ c.loop.generations.items ++ one.outputs ∷ [] = c.push_reserved.ensures.items ∙ ap (λ (xs : List _). xs ++ one.outputs ∷ []) c.in_ok-reserve.ensures.items in
    let end = c.from_residual-in_err-begun.result in
    let error = c.in_err-begun.field-0.0 in
    no_next_so c.args.plan (g.C.Clock.tells c.args.clock.now) c.args.count g.A.FunctionTable.numbers (g.V.Worker.gives c.args.workers.now) (g.V.Recurring.continues c.args.workers.now) c.args.begun.front
    c.loop.generations.items c.push_reserved.new.self.items c.loop.begun.front c.loop.invariant.came one c.in_ok-ended.ensures.generation number
    c.in_ok-ended.ensures.begun added end error (is_error end error c.from_residual-in_err-begun.ensures.1) c.if-not-should_continue.ensures
    (subst (λ (front : FrontValue). IsNextRefused c.args.plan.events front error) (sym c.in_ok-ended.ensures.ended) c.in_err-begun.ensures.refused)

pub loop-preserved : goal.loop-preserved
loop-preserved g c =
    let one = c.in_ok-ended.ended.generation in
    let number : one.number ≡ length c.loop.generations.items = omega (arith, c.in_ok-ended.ensures.number, c.len-number.ensures, c.reserve.new.self.ok.0, ap length c.in_ok-reserve.ensures.items) in
    let added : c.push_reserved.new.self.items ≡ c.loop.generations.items ++ one.outputs ∷ [] = c.push_reserved.ensures.items ∙ ap (λ (xs : List _). xs ++ one.outputs ∷ []) c.in_ok-reserve.ensures.items in
    record {
      came =
          one_more c.args.plan (g.C.Clock.tells c.args.clock.now) c.args.count g.A.FunctionTable.numbers (g.V.Worker.gives c.args.workers.now) (g.V.Recurring.continues c.args.workers.now) c.args.begun.front
          c.loop.generations.items c.push_reserved.new.self.items c.loop.begun.front c.loop.invariant.came one c.in_ok-ended.ensures.generation number
          c.in_ok-ended.ensures.begun added c.in_ok-begun.begun.front c.if-not-should_continue.ensures
          (c.in_ok-begun.ensures.state ∙ ap last_state (sym c.in_ok-ended.ensures.ended)) c.in_ok-begun.ensures.anew;
      row = c.in_ok-begun.ensures.row;
      room = c.in_ok-begun.ensures.room;
      carried = c.in_ok-begun.ensures.carried;
    }
