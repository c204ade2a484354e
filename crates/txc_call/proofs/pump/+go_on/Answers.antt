use Rattle.std.proofs.Common.{◌≡◌, ◌≢◌, ℕ, ◌+◌, ◌<◌, true≢false, Some, None, Ok, Err, List, [], ◌∷◌, length, refl, sym, ap, subst, ◌∙◌, arith, Option, IsSome}
use Rattle.txc_tags.specs.Keys.{Call}
use Rattle.txc_stamp.specs.Interval.{Interval}
use Rattle.txc_call_registry.specs.Activity.{idle}
use Rattle.txc_call_registry.specs.Objects.{Objects, activity_of, with_activity, AllIdle}
use Rattle.txc_app.specs.declared.ask.Ask.{Ask}
use Rattle.txc_app.specs.declared.ask.Ask.TheVariants as asks
use Rattle.txc_call.specs.declared.error.CallError.TheVariants as errors
use Rattle.txc_call.specs.declared.frame.Frame.{Frame}
use Rattle.txc_call.specs.declared.need.HeldAnswer.{HeldAnswer}
use Rattle.txc_call.specs.declared.need.Need.{Need}
use Rattle.txc_call.specs.declared.need.Need.TheVariants as needs
use Rattle.txc_call.specs.Frames.{released, AreFew, IsOpen}
use Rattle.txc_call.specs.Reaches.{ReachesMeet}
use Rattle.txc_call.specs.CallSteps.{with_ask, AfterNeed, NeedsFunction}
use Rattle.txc_call.specs.MachineTurn.{Standing, needing, outwards, turn_of, unreached, AfterAsk, AfterValue}
use Rattle.txc_call.proofs.OpenFrames.{closed, few_rest}
use Rattle.txc_call.proofs.Transitions.{done_onward, given_place, held_onward, turn_err, value_of_held, value_out}
use Rattle.txc_call.proofs.OneAsk.{at_limits, asks_absent, asks_refused, asks_settled, begins_none, first_few, held_for, looks_up, with_ask_by}
use Rattle.txc_call.proofs.pump.+go_on.Goals as goal

stops_by : (need : Need) → ((k : Call) → need ≡ needs.Begin k → ⊥) → ((x : HeldAnswer) → need ≡ needs.Resume x → ⊥) → NeedsFunction (Some need) → ⊥
stops_by (needs.Lookup k) begins resumes runs = runs
stops_by (needs.Query q) begins resumes runs = runs
stops_by (needs.Insert e) begins resumes runs = runs
stops_by (needs.Value o) begins resumes runs = runs
stops_by (needs.Begin k) begins resumes runs = begins k refl
stops_by (needs.Resume x) begins resumes runs = resumes x refl

pub returns-in_err-need-clause-answer : goal.returns-in_err-need-clause-answer
returns-in_err-need-clause-answer g t c = λ frame rest is.
    let next = g.A.App.next in
    let objects = c.args.registry.now in
    let asked = c.args.frames.now.asked in
    let error = c.in_err-need.field-0.0 in
    rw (turn_err c.from_residual.result error c.settle.new.frames.stack c.settle.new.frames.asked objects c.from_residual.ensures.1)
    (asks_refused next.limits rest asked frame objects c.args.ask error (outwards next rest asked frame (Err error)) (at_limits c.limits-limits.result next.limits rest asked frame c.args.ask objects (Err error) c.limits-limits.ensures.answer (c.in_err-need.ensures.answer frame rest objects is)))

pub returns-then-not-has-clause-answer : goal.returns-then-not-has-clause-answer
returns-then-not-has-clause-answer g t c = λ frame rest is.
    let next = g.A.App.next in
    let objects = c.args.registry.now in
    let asked = c.args.frames.now.asked in
    let top = c.in-Some.ensures in
    let both : c.in-Some.frame.now ∷ top.0 ≡ frame ∷ rest = sym top.1 ∙ is in
    let same : c.in-Some.frame.now ≡ frame = cc in
    let f_is : c.function-function.result ≡ frame.key.function = c.function-function.ensures.answer ∙ ap (λ (x : Frame). x.key.function) same in
    let registry_is : c.release_done.new.registry ≡ with_ask objects frame.key.function c.args.ask =
    with_ask_by objects c.release_done.new.registry frame.key.function c.function-function.result c.args.ask c.is_done-done.result f_is c.is_done-done.ensures c.release_done.ensures.after in
    let s : Standing = record { frames = c.settle.new.frames.stack; asked = c.settle.new.frames.asked; need = Some c.in_ok-need.need; objects = with_ask objects frame.key.function c.args.ask } in
    let k : Call = c.in-Lookup.key in
    let needed : Some c.in_ok-need.need ≡ Some (needs.Lookup k) = ap (λ (n : Need). Some n) c.in-Lookup.is in
    let transition = at_limits c.limits-limits.result next.limits rest asked frame c.args.ask objects (Ok s) c.limits-limits.ensures.answer (c.in_ok-need.ensures.answer frame rest objects is) in
    let stays : c.release_done.new.registry ≡ objects = registry_is ∙ (looks_up next.limits rest asked frame objects s c.args.ask k needed transition).0 in
    let none : IsSome (activity_of objects k.function) → ⊥ = λ some.
    absurd (true≢false (sym (c.if-not-has.ensures.1 (rw (stays, c.function-called.ensures.answer) some)))) in
    rw c.function-called.ensures.answer (asks_absent next.limits rest asked frame objects s c.args.ask k (outwards next rest asked frame (Err (errors.NoFunction k.function))) needed none transition)

pub returns-then-not-has-clause-released : goal.returns-then-not-has-clause-released
returns-then-not-has-clause-released g t c =
    let next = g.A.App.next in
    let objects = c.args.registry.now in
    let asked = c.args.frames.now.asked in
    let top = c.in-Some.ensures in
    let frame : Frame = c.in-Some.frame.now in
    let rest : List Frame = top.0 in
    let same : frame ≡ frame = refl in
    let f_is : c.function-function.result ≡ frame.key.function = c.function-function.ensures.answer ∙ ap (λ (x : Frame). x.key.function) same in
    let registry_is : c.release_done.new.registry ≡ with_ask objects frame.key.function c.args.ask =
    with_ask_by objects c.release_done.new.registry frame.key.function c.function-function.result c.args.ask c.is_done-done.result f_is c.is_done-done.ensures c.release_done.ensures.after in
    let s : Standing = record { frames = c.settle.new.frames.stack; asked = c.settle.new.frames.asked; need = Some c.in_ok-need.need; objects = with_ask objects frame.key.function c.args.ask } in
    let needed : Some c.in_ok-need.need ≡ Some (needs.Lookup c.in-Lookup.key) = ap (λ (n : Need). Some n) c.in-Lookup.is in
    let two = looks_up next.limits rest asked frame objects s c.args.ask c.in-Lookup.key needed (at_limits c.limits-limits.result next.limits rest asked frame c.args.ask objects (Ok s) c.limits-limits.ensures.answer (c.in_ok-need.ensures.answer frame rest objects top.1)) in
    let stays : c.release_done.new.registry ≡ objects = registry_is ∙ two.0 in
    let stack_is : c.settle.new.frames.stack ≡ c.args.frames.now.stack = two.1 ∙ sym top.1 in
    let free : AllIdle (released c.settle.new.frames.stack c.release_done.new.registry) =
    subst (λ (fs : List Frame). AllIdle (released fs c.release_done.new.registry)) (sym stack_is) (subst (λ (os : Objects). AllIdle (released c.args.frames.now.stack os)) (sym stays) c.requires.open.free) in
    free

pub returns-else-not-has-clause-answer : goal.returns-else-not-has-clause-answer
returns-else-not-has-clause-answer g t c = λ frame rest is.
    let next = g.A.App.next in
    let objects = c.args.registry.now in
    let asked = c.args.frames.now.asked in
    let top = c.in-Some.ensures in
    let both : c.in-Some.frame.now ∷ top.0 ≡ frame ∷ rest = sym top.1 ∙ is in
    let same : c.in-Some.frame.now ≡ frame = cc in
    let f_is : c.function-function.result ≡ frame.key.function = c.function-function.ensures.answer ∙ ap (λ (x : Frame). x.key.function) same in
    let registry_is : c.release_done.new.registry ≡ with_ask objects frame.key.function c.args.ask =
    with_ask_by objects c.release_done.new.registry frame.key.function c.function-function.result c.args.ask c.is_done-done.result f_is c.is_done-done.ensures c.release_done.ensures.after in
    let s : Standing = record { frames = c.settle.new.frames.stack; asked = c.settle.new.frames.asked; need = Some c.in_ok-need.need; objects = with_ask objects frame.key.function c.args.ask } in
    let k : Call = c.in-Lookup.key in
    let needed : Some c.in_ok-need.need ≡ Some (needs.Lookup k) = ap (λ (n : Need). Some n) c.in-Lookup.is in
    let transition = at_limits c.limits-limits.result next.limits rest asked frame c.args.ask objects (Ok s) c.limits-limits.ensures.answer (c.in_ok-need.ensures.answer frame rest objects is) in
    let stays : c.release_done.new.registry ≡ objects = registry_is ∙ (looks_up next.limits rest asked frame objects s c.args.ask k needed transition).0 in
    let here : IsSome (activity_of objects k.function) =
    subst (λ (os : Objects). IsSome (activity_of os k.function)) stays (subst (λ (n : ℕ). IsSome (activity_of c.release_done.new.registry n)) c.function-called.ensures.answer (c.if-not-has.ensures.0 refl)) in
    let there : (j : Call) → s.need ≡ Some (needs.Lookup j) → IsSome (activity_of objects j.function) = λ j needs_j.
    let two : Some (needs.Lookup k) ≡ Some (needs.Lookup j) = sym needed ∙ needs_j in
    let one : k ≡ j = cc in
    subst (λ (x : Call). IsSome (activity_of objects x.function)) one here in
    let stops : NeedsFunction s.need → ⊥ = λ runs. subst (λ (n : Option Need). NeedsFunction n) needed runs in
    subst (λ (os : Objects). AfterAsk next rest asked frame c.args.ask objects (needing c.settle.new.frames.stack c.settle.new.frames.asked (needs.Lookup k) os)) (sym registry_is)
    (subst (λ (n : Need). AfterAsk next rest asked frame c.args.ask objects (needing c.settle.new.frames.stack c.settle.new.frames.asked n (with_ask objects frame.key.function c.args.ask))) c.in-Lookup.is
    (asks_settled next.limits rest asked frame objects s next c.args.ask there stops transition))

pub returns-in_default-need : goal.returns-in_default-need
returns-in_default-need g t c =
    let next = g.A.App.next in
    let objects = c.args.registry.now in
    let asked = c.args.frames.now.asked in
    let stops : NeedsFunction (Some c.in_ok-need.need) → ⊥ = stops_by c.in_ok-need.need
    (λ k is. let top = c.in-Some.ensures in
    begins_none next.limits top.0 asked c.in-Some.frame.now objects (record { frames = c.settle.new.frames.stack; asked = c.settle.new.frames.asked; need = Some c.in_ok-need.need; objects = with_ask objects c.in-Some.frame.now.key.function c.args.ask })
    c.args.ask k (ap (λ (n : Need). Some n) is) (at_limits c.limits-limits.result next.limits top.0 asked c.in-Some.frame.now c.args.ask objects (Ok (record { frames = c.settle.new.frames.stack; asked = c.settle.new.frames.asked; need = Some c.in_ok-need.need; objects = with_ask objects c.in-Some.frame.now.key.function c.args.ask })) c.limits-limits.ensures.answer (c.in_ok-need.ensures.answer c.in-Some.frame.now top.0 objects top.1)))
    c.in_default-need.not-Resume in
    record {
      answer = λ frame rest is.
          let top = c.in-Some.ensures in
          let both : c.in-Some.frame.now ∷ top.0 ≡ frame ∷ rest = sym top.1 ∙ is in
          let same : c.in-Some.frame.now ≡ frame = cc in
          let f_is : c.function-function.result ≡ frame.key.function = c.function-function.ensures.answer ∙ ap (λ (x : Frame). x.key.function) same in
          let registry_is : c.release_done.new.registry ≡ with_ask objects frame.key.function c.args.ask =
          with_ask_by objects c.release_done.new.registry frame.key.function c.function-function.result c.args.ask c.is_done-done.result f_is c.is_done-done.ensures c.release_done.ensures.after in
          let s : Standing = record { frames = c.settle.new.frames.stack; asked = c.settle.new.frames.asked; need = Some c.in_ok-need.need; objects = with_ask objects frame.key.function c.args.ask } in
          let there : (j : Call) → s.need ≡ Some (needs.Lookup j) → IsSome (activity_of objects j.function) = λ j needs_j.
          let one : c.in_ok-need.need ≡ needs.Lookup j = cc in
          absurd (c.in_default-need.not-Lookup j one) in
          subst (λ (os : Objects). AfterAsk next rest asked frame c.args.ask objects (needing c.settle.new.frames.stack c.settle.new.frames.asked c.in_ok-need.need os)) (sym registry_is)
          (asks_settled next.limits rest asked frame objects s next c.args.ask there stops (at_limits c.limits-limits.result next.limits rest asked frame c.args.ask objects (Ok s) c.limits-limits.ensures.answer (c.in_ok-need.ensures.answer frame rest objects is)));
      settled = stops;
      released = tt;
      same_top = c.settle.ensures.same_top;
      functions = c.release_done.ensures.functions;
    }

pub resume-requires-clause-open : goal.resume-requires-clause-open
resume-requires-clause-open g t c =
    let next = g.A.App.next in
    let objects = c.args.registry.now in
    let asked = c.args.frames.now.asked in
    let top = c.in-Some.ensures in
    let frame : Frame = c.in-Some.frame.now in
    let rest : List Frame = top.0 in
    let same : frame ≡ frame = refl in
    let f_is : c.function-function.result ≡ frame.key.function = c.function-function.ensures.answer ∙ ap (λ (x : Frame). x.key.function) same in
    let registry_is : c.release_done.new.registry ≡ with_ask objects frame.key.function c.args.ask =
    with_ask_by objects c.release_done.new.registry frame.key.function c.function-function.result c.args.ask c.is_done-done.result f_is c.is_done-done.ensures c.release_done.ensures.after in
    let s : Standing = record { frames = c.settle.new.frames.stack; asked = c.settle.new.frames.asked; need = Some c.in_ok-need.need; objects = with_ask objects frame.key.function c.args.ask } in
    let h = held_for next.limits rest asked frame objects s c.args.ask c.in-Resume.held (ap (λ (n : Need). Some n) c.in-Resume.is) (at_limits c.limits-limits.result next.limits rest asked frame c.args.ask objects (Ok s) c.limits-limits.ensures.answer (c.in_ok-need.ensures.answer frame rest objects top.1)) in
    let here : IsOpen next objects c.args.frames.now.top (asks.Done h.bytes) (frame ∷ rest) =
    subst (λ (fs : List Frame). IsOpen next objects c.args.frames.now.top (asks.Done h.bytes) fs) top.1 (subst (λ (a : Ask). IsOpen next objects c.args.frames.now.top a c.args.frames.now.stack) h.is c.requires.open) in
    let after : c.release_done.new.registry ≡ with_activity objects frame.key.function idle = registry_is ∙ ap (λ (a : Ask). with_ask objects frame.key.function a) h.is in
    (asks.Call frame.key, rw (after, h.stack, c.settle.ensures.same_top) (closed next objects c.args.frames.now.top (asks.Done h.bytes) frame rest here), tt)

pub resume-requires-clause-some : goal.resume-requires-clause-some
resume-requires-clause-some g t c =
    let next = g.A.App.next in
    let objects = c.args.registry.now in
    let asked = c.args.frames.now.asked in
    let top = c.in-Some.ensures in
    let frame : Frame = c.in-Some.frame.now in
    let rest : List Frame = top.0 in
    let same : frame ≡ frame = refl in
    let f_is : c.function-function.result ≡ frame.key.function = c.function-function.ensures.answer ∙ ap (λ (x : Frame). x.key.function) same in
    let registry_is : c.release_done.new.registry ≡ with_ask objects frame.key.function c.args.ask =
    with_ask_by objects c.release_done.new.registry frame.key.function c.function-function.result c.args.ask c.is_done-done.result f_is c.is_done-done.ensures c.release_done.ensures.after in
    let s : Standing = record { frames = c.settle.new.frames.stack; asked = c.settle.new.frames.asked; need = Some c.in_ok-need.need; objects = with_ask objects frame.key.function c.args.ask } in
    let h = held_for next.limits rest asked frame objects s c.args.ask c.in-Resume.held (ap (λ (n : Need). Some n) c.in-Resume.is) (at_limits c.limits-limits.result next.limits rest asked frame c.args.ask objects (Ok s) c.limits-limits.ensures.answer (c.in_ok-need.ensures.answer frame rest objects top.1)) in
    let few : AreFew next.limits.asks rest = few_rest next.limits.asks c.args.frames.now.stack rest frame top.1 c.requires.few in
    let first = first_few next.limits.asks rest h.some few in
    let reach : None ≡ c.in-Resume.held.reach = sym (ap (λ (x : HeldAnswer). x.reach) h.held) in
    (first.0, first.1, h.stack ∙ first.2, first.3, subst (λ (r : Option Interval). ReachesMeet first.0.reach r) reach first.4)

pub go_on-requires : goal.go_on-requires
go_on-requires g t c κs within =
    let next = g.A.App.next in
    let objects = c.args.registry.now in
    let asked = c.args.frames.now.asked in
    let top = c.in-Some.ensures in
    let frame : Frame = c.in-Some.frame.now in
    let rest : List Frame = top.0 in
    let same : frame ≡ frame = refl in
    let f_is : c.function-function.result ≡ frame.key.function = c.function-function.ensures.answer ∙ ap (λ (x : Frame). x.key.function) same in
    let registry_is : c.release_done.new.registry ≡ with_ask objects frame.key.function c.args.ask =
    with_ask_by objects c.release_done.new.registry frame.key.function c.function-function.result c.args.ask c.is_done-done.result f_is c.is_done-done.ensures c.release_done.ensures.after in
    let s : Standing = record { frames = c.settle.new.frames.stack; asked = c.settle.new.frames.asked; need = Some c.in_ok-need.need; objects = with_ask objects frame.key.function c.args.ask } in
    let h = held_for next.limits rest asked frame objects s c.args.ask c.in-Resume.held (ap (λ (n : Need). Some n) c.in-Resume.is) (at_limits c.limits-limits.result next.limits rest asked frame c.args.ask objects (Ok s) c.limits-limits.ensures.answer (c.in_ok-need.ensures.answer frame rest objects top.1)) in
    let few : AreFew next.limits.asks c.settle.new.frames.stack = subst (AreFew next.limits.asks) (sym h.stack) (few_rest next.limits.asks c.args.frames.now.stack rest frame top.1 c.requires.few) in
    let some : c.settle.new.frames.stack ≢ [] = λ none. h.some (sym h.stack ∙ none) in
    let place = given_place next.limits.asks c.settle.new.frames.stack c.resume.new.self.stack c.in-Resume.held.reach c.in-Resume.held.tags some c.in_ok-next-in-Resume.ensures.frame few in
    let shorter : length c.resume.new.self.stack < t = omega (arith, place.0, ap (λ (fs : List Frame). length fs) top.1, ap (λ (fs : List Frame). length fs) h.stack, c.decreases) in
    (shorter, (within.0, (within.1, (c.in_ok-next-in-Resume.ensures.open, (place.1, place.2)))))

pub returns-in_err-next-in-Resume-clause-answer : goal.returns-in_err-next-in-Resume-clause-answer
returns-in_err-next-in-Resume-clause-answer g t c = λ frame rest is.
    let next = g.A.App.next in
    let objects = c.args.registry.now in
    let asked = c.args.frames.now.asked in
    let top = c.in-Some.ensures in
    let both : c.in-Some.frame.now ∷ top.0 ≡ frame ∷ rest = sym top.1 ∙ is in
    let same : c.in-Some.frame.now ≡ frame = cc in
    let f_is : c.function-function.result ≡ frame.key.function = c.function-function.ensures.answer ∙ ap (λ (x : Frame). x.key.function) same in
    let registry_is : c.release_done.new.registry ≡ with_ask objects frame.key.function c.args.ask =
    with_ask_by objects c.release_done.new.registry frame.key.function c.function-function.result c.args.ask c.is_done-done.result f_is c.is_done-done.ensures c.release_done.ensures.after in
    let s : Standing = record { frames = c.settle.new.frames.stack; asked = c.settle.new.frames.asked; need = Some c.in_ok-need.need; objects = with_ask objects frame.key.function c.args.ask } in
    let h = held_for next.limits rest asked frame objects s c.args.ask c.in-Resume.held (ap (λ (n : Need). Some n) c.in-Resume.is) (at_limits c.limits-limits.result next.limits rest asked frame c.args.ask objects (Ok s) c.limits-limits.ensures.answer (c.in_ok-need.ensures.answer frame rest objects is)) in
    let error = c.in_err-next-in-Resume.field-0.0 in
    rw (turn_err c.from_residual-in_err-next-in-Resume.result error c.resume.new.self.stack c.resume.new.self.asked c.resume.new.registry c.from_residual-in_err-next-in-Resume.ensures.1, h.is)
    (done_onward next asked rest frame h.bytes objects (Err error) h.counted h.short h.no_reach
    (value_out next (asked + 1) rest (unreached frame h.bytes) (with_activity objects frame.key.function idle) error h.some c.in_err-next-in-Resume.ensures.refused))

pub returns-in_ok-next-in-Resume-clause-answer : goal.returns-in_ok-next-in-Resume-clause-answer
returns-in_ok-next-in-Resume-clause-answer g t c = λ frame rest is.
    let next = g.A.App.next in
    let objects = c.args.registry.now in
    let asked = c.args.frames.now.asked in
    let top = c.in-Some.ensures in
    let both : c.in-Some.frame.now ∷ top.0 ≡ frame ∷ rest = sym top.1 ∙ is in
    let same : c.in-Some.frame.now ≡ frame = cc in
    let f_is : c.function-function.result ≡ frame.key.function = c.function-function.ensures.answer ∙ ap (λ (x : Frame). x.key.function) same in
    let registry_is : c.release_done.new.registry ≡ with_ask objects frame.key.function c.args.ask =
    with_ask_by objects c.release_done.new.registry frame.key.function c.function-function.result c.args.ask c.is_done-done.result f_is c.is_done-done.ensures c.release_done.ensures.after in
    let s : Standing = record { frames = c.settle.new.frames.stack; asked = c.settle.new.frames.asked; need = Some c.in_ok-need.need; objects = with_ask objects frame.key.function c.args.ask } in
    let h = held_for next.limits rest asked frame objects s c.args.ask c.in-Resume.held (ap (λ (n : Need). Some n) c.in-Resume.is) (at_limits c.limits-limits.result next.limits rest asked frame c.args.ask objects (Ok s) c.limits-limits.ensures.answer (c.in_ok-need.ensures.answer frame rest objects is)) in
    let turn = turn_of c.go_on.result c.go_on.new.frames.stack c.go_on.new.frames.asked c.go_on.new.registry in
    let some : c.settle.new.frames.stack ≢ [] = λ none. h.some (sym h.stack ∙ none) in
    let after : c.release_done.new.registry ≡ with_activity objects frame.key.function idle = registry_is ∙ ap (λ (a : Ask). with_ask objects frame.key.function a) h.is in
    let onward = held_onward next c.settle.new.frames.asked c.settle.new.frames.stack c.resume.new.self.stack c.in-Resume.held c.in_ok-next-in-Resume.next c.release_done.new.registry c.resume.new.registry turn
    some c.in_ok-next-in-Resume.ensures.frame c.in_ok-next-in-Resume.ensures.objects c.in_ok-next-in-Resume.ensures.answer
    (λ (f : Frame) (outer : List Frame) e. subst (λ (n : ℕ). AfterAsk next outer n f c.in_ok-next-in-Resume.next c.resume.new.registry turn) c.resume.ensures.same_count (c.go_on.ensures.answer f outer e)) in
    let value : AfterValue next rest (asked + 1) (unreached frame h.bytes) (with_activity objects frame.key.function idle) turn =
    value_of_held next (asked + 1) rest (unreached frame h.bytes) (with_activity objects frame.key.function idle) turn h.some
    (subst (λ (x : HeldAnswer). AfterNeed next rest (asked + 1) (with_activity objects frame.key.function idle) (needs.Resume x) turn) h.held
    (subst (λ (os : Objects). AfterNeed next rest (asked + 1) os (needs.Resume c.in-Resume.held) turn) after
    (subst (λ (n : ℕ). AfterNeed next rest n c.release_done.new.registry (needs.Resume c.in-Resume.held) turn) h.count
    (subst (λ (fs : List Frame). AfterNeed next fs c.settle.new.frames.asked c.release_done.new.registry (needs.Resume c.in-Resume.held) turn) h.stack onward)))) in
    rw h.is (done_onward next asked rest frame h.bytes objects turn h.counted h.short h.no_reach value)
