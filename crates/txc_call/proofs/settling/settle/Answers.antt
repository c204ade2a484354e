use Rattle.std.proofs.Common.{◌≡◌, ℕ, ◌+◌, ◌≤◌, Some, None, List, ◌∷◌, length, refl, sym, ap, subst, ◌∙◌, arith, Option}
use Rattle.std.specs.Prelude.{vec_len}
use Rattle.txc_stamp.specs.Interval.{Interval}
use Rattle.txc_call_registry.specs.Activity.{idle}
use Rattle.txc_call_registry.specs.Objects.{Objects, with_activity}
use Rattle.txc_app.specs.declared.app.Limits.{Limits}
use Rattle.txc_app.specs.declared.ask.Ask.{Ask}
use Rattle.txc_app.specs.declared.ask.Ask.TheVariants.{Call, Done}
use Rattle.txc_call.specs.declared.frame.Frame.{Frame}
use Rattle.txc_call.specs.declared.need.Need.{Need}
use Rattle.txc_call.specs.declared.need.Need.TheVariants.{Insert}
use Rattle.txc_call.specs.CallSteps.{stays_held, with_ask, AfterOneAsk}
use Rattle.txc_call.specs.MachineTurn.{count_refusal, entry_of_frame, needing, DoneTransition, Turn}
use Rattle.txc_call.proofs.Transitions.{short_by, turn_err}
use Rattle.txc_call.proofs.OneAsk.{one_allowed, one_refused}
use Rattle.txc_call.proofs.settling.settle.Goals as goal

pub returns-in_err-check_order-in-Call-clause-answer : goal.returns-in_err-check_order-in-Call-clause-answer
returns-in_err-check_order-in-Call-clause-answer c = λ frame rest objects is.
    let asked = c.args.frames.now.asked in
    let error = c.in_err-check_order-in-Call.field-0.0 in
    let k = c.in-Call.key in
    let refused = c.in_err-check_order-in-Call.ensures frame rest (c.in_ok-count.ensures.same_stack ∙ is) in
    let counted = c.in_ok-count.ensures.refused frame rest is in
    rw (c.in-Call.is, turn_err c.from_residual-in_err-check_order-in-Call.result error c.count.new.self.stack c.count.new.self.asked (with_ask objects frame.key.function (Call k)) c.from_residual-in_err-check_order-in-Call.ensures.1)
    (one_refused c.args.limits rest asked frame objects (Call k) error counted refused)

-- the innermost frame is done with these bytes and closed, and this is needed then
settled_done : (limits : Limits) (frame done : Frame) (rest stack : List Frame) (asked n : ℕ) (objects : Objects) (ask : Ask) (bytes : List ℕ) (reach : Option Interval) (need : Need)
    → frame ∷ rest ≡ done ∷ stack → n ≡ asked + 1 → None ≡ count_refusal limits.asks frame.answers asked → length bytes ≤ limits.value → ask ≡ Done bytes → done.reach ≡ reach
    → ((turn : Turn) → turn ≡ needing stack (asked + 1) need (with_activity objects done.key.function idle)
    → DoneTransition stack (asked + 1) done reach bytes (with_activity objects done.key.function idle) (stays_held stack asked done turn) turn)
    → AfterOneAsk limits rest asked frame ask objects (needing stack n need (with_ask objects frame.key.function ask))
settled_done limits frame done rest stack asked n objects ask bytes reach need popped count counted short is_ask is_reach transition =
    let is_frame : done ≡ frame = cc in
    let is_rest : stack ≡ rest = cc in
    let turn : Turn = needing stack n need (with_activity objects done.key.function idle) in
    let counted' : None ≡ count_refusal limits.asks done.answers asked = rw is_frame counted in
    let at = one_allowed limits stack asked done objects (Done bytes) turn counted' (short_by limits.value bytes short)
    (subst (λ (r : Option Interval). DoneTransition stack (asked + 1) done r bytes (with_activity objects done.key.function idle) (stays_held stack asked done turn) turn) (sym is_reach)
    (transition turn (ap (λ (m : ℕ). needing stack m need (with_activity objects done.key.function idle)) count))) in
    subst (λ (fs : List Frame). AfterOneAsk limits fs asked frame ask objects (needing stack n need (with_ask objects frame.key.function ask))) is_rest
    (subst (λ (f : Frame). AfterOneAsk limits stack asked f ask objects (needing stack n need (with_ask objects f.key.function ask))) is_frame
    (subst (λ (a : Ask). AfterOneAsk limits stack asked done a objects (needing stack n need (with_ask objects done.key.function a))) (sym is_ask) at))

pub returns-in-Some-reach-clause-answer : goal.returns-in-Some-reach-clause-answer
returns-in-Some-reach-clause-answer c = λ frame rest objects is.
    let done = c.in-Some-pop.frame in
    let bytes = c.in-Some.value in
    let few : vec_len c.into_vec.result ≤ c.args.limits.value = c.in-Some.ensures.only_if.0 refl in
    let same : length bytes ≡ length c.into_vec.result.items = ap (λ bs. length bs) c.in-Some.ensures.answer in
    settled_done c.args.limits frame done rest c.pop.new.self c.args.frames.now.asked c.count.new.self.asked objects c.args.ask bytes (Some c.in-Some-reach.reach)
    (Insert (entry_of_frame done bytes c.in-Some-reach.reach)) (sym is ∙ sym c.in_ok-count.ensures.same_stack ∙ c.in-Some-pop.ensures) c.in_ok-count.ensures.after
    (c.in_ok-count.ensures.refused frame rest is) (omega (arith, few, same, c.into_vec.result.ok.0))
    (c.in-Done.is ∙ ap (λ bs. Done bs) (sym (c.in-Some.ensures.answer ∙ c.into_vec.ensures))) c.in-Some-reach.is (λ turn e. e)

pub returns-in-None-clause-answer : goal.returns-in-None-clause-answer
returns-in-None-clause-answer c = λ frame rest objects is.
    let done = c.in-Some-pop.frame in
    let bytes = c.in-Some.value in
    let few : vec_len c.into_vec.result ≤ c.args.limits.value = c.in-Some.ensures.only_if.0 refl in
    let same : length bytes ≡ length c.into_vec.result.items = ap (λ bs. length bs) c.in-Some.ensures.answer in
    settled_done c.args.limits frame done rest c.pop.new.self c.args.frames.now.asked c.count.new.self.asked objects c.args.ask bytes None
    c.value_need.result (sym is ∙ sym c.in_ok-count.ensures.same_stack ∙ c.in-Some-pop.ensures) c.in_ok-count.ensures.after
    (c.in_ok-count.ensures.refused frame rest is) (omega (arith, few, same, c.into_vec.result.ok.0))
    (c.in-Done.is ∙ ap (λ bs. Done bs) (sym (c.in-Some.ensures.answer ∙ c.into_vec.ensures))) c.in-None.is
    (λ turn e. e ∙ ap (λ (x : Need). needing c.pop.new.self (c.args.frames.now.asked + 1) x (with_activity objects done.key.function idle)) c.value_need.ensures)
