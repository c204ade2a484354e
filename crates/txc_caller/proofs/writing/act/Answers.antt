use Rattle.std.proofs.Common.{◌≡◌, ◌∙◌, ◌++◌, List, Option, Some, refl, sym, ap, subst}
use Rattle.std.specs.Prelude.{OnErr, OnOk}
use Rattle.txc_tags.specs.Keys.{Call}
use Rattle.txc_db.specs.DatabaseValue.{DatabaseValue}
use Rattle.txc_db.specs.History.{state_at}
use Rattle.txc_app.specs.AnswersSoFar.{IsRight}
use Rattle.txc_app.specs.declared.app.Limits.{Limits}
use Rattle.txc_app.specs.Eval.{Next}
use Rattle.txc_app.specs.declared.ask.Ask.{Ask}
use Rattle.txc_call_registry.specs.Objects.{Objects}
use Rattle.txc_call.specs.CallMachine.{Calling, IsCalling}
use Rattle.txc_call.specs.Frames.{answers_in}
use Rattle.txc_call.specs.declared.need.Need.{Need}
use Rattle.txc_call.specs.CallSteps.{objects_after, AfterRan}
use Rattle.txc_call_ghosts.specs.Steps.{objects_after_ask, objects_after_need}
use Rattle.txc_txn_rw.specs.ByHand.{RwHandTurn, RwObjectsLeft, answers_by_hand}
use Rattle.txc_txn_rw.specs.RwCore.{RwHolds, RwValue}
use Rattle.txc_caller.specs.Ports.{CallerPorts}
use Rattle.txc_caller.specs.ComputedFunctions.{computed_calls, computed_in}
use Rattle.txc_caller.specs.CallerWrite.{queried_for}
use Rattle.txc_caller.proofs.Lent.{ask_there, some_need}
use Rattle.txc_caller.proofs.Telling.{StandsNext, ran_next}
use Rattle.txc_caller.proofs.WriteActs.{around_asked, asked_from, is_top, led_answers, led_same, led_top, led_unended, no_answer_more, objects_follow, read_once, rests_after, same_but, stepped, told_when_led, unread_once, why_refused}
use Rattle.txc_caller.proofs.writing.act.Goals as goal

pub ran-first-requires : goal.ran-first-requires
ran-first-requires g c =
    let old : RwValue = c.args.core.now in
    let objects : Objects = c.args.told.now.objects in
    let need = some_need old.call.need c.requires.runs in
    record {
      most_value = c.limits-limits.ensures.value;
      most_asks = c.limits-limits.ensures.asks;
      runs = c.requires.runs;
      none = c.requires.none;
      asks = (g.A.App.next, objects, need.0, sym c.limits-limits.ensures.answer, need.1, c.requires.asks need.0 need.1, ask_there objects old.call.frames need.0 c.args.ask c.requires.functions c.requires.there, c.requires.fits);
    }

pub lead-last-requires : goal.lead-last-requires
lead-last-requires g c =
    let old : RwValue = c.args.core.now in
    let objects : Objects = c.args.told.now.objects in
    let need = some_need old.call.need c.requires.runs in
    let os : Objects = objects_after objects old.call.frames need.0 c.args.ask in
    record {
      turn = c.ran-first.ensures.asked.turn_fits;
      fits = λ q is. (
        g.A.App.next,
        os,
        c.ran-first.ensures.fits g.A.App.next objects os need.0 (sym c.limits-limits.ensures.answer) need.1 (c.requires.asks need.0 need.1)
            (ask_there objects old.call.frames need.0 c.args.ask c.requires.functions c.requires.there)
            (subst (λ (t : RwHandTurn). RwObjectsLeft os t os) (sym is) refl) c.requires.fits,
      );
    }

pub returns : goal.returns
returns g c =
    let next : Next = g.A.App.next in
    let objects : Objects = c.args.told.now.objects in
    let old : RwValue = c.args.core.now in
    let mid : RwValue = c.ran-first.new.self in
    let new : RwValue = c.lead-last.new.core in
    let after : Objects = c.settle.new.told.objects in
    let d : DatabaseValue = c.args.ports.now.database in
    let ask : Ask = c.args.ask in
    let first : RwHandTurn = c.ran-first.result in
    let last : RwHandTurn = c.lead-last.result in
    let limits : Limits = c.limits-limits.result in
    let is_limits : limits ≡ next.limits = c.limits-limits.ensures.answer in
    let step = c.step_after.ensures.step in
    let led = c.lead-last.ensures.led in
    let asked = c.ran-first.ensures.asked in
    let need = some_need old.call.need c.requires.runs in
    let due = c.requires.asks need.0 need.1 in
    let there = ask_there objects old.call.frames need.0 ask c.requires.functions c.requires.there in
    let os : Objects = objects_after objects old.call.frames need.0 ask in
    let at_ask : c.ran-after.result.objects ≡ objects_after_ask objects old.call ask = c.ran-after.ensures.after ∙ ap (λ (m : Calling). objects_after_ask objects m ask) c.machine.ensures in
    let at_need : c.ran-after.result.objects ≡ os = at_ask ∙ ap (λ (n : Option Need). objects_after_need objects old.call.frames n ask) need.1 in
    let left : RwObjectsLeft os last after = subst (λ (x : Objects). RwObjectsLeft x last after) at_need c.settle.ensures.left in
    let first_fits = λ (m : Objects) (l : RwObjectsLeft os first m). c.ran-first.ensures.fits next objects m need.0 (sym is_limits) need.1 due there l c.requires.fits in
    let first_holds = λ (m : Objects) (l : RwObjectsLeft os first m). c.ran-first.ensures.holds next objects m d.history need.0 (sym is_limits) need.1 due there l c.requires.fits c.requires.holds in
    let fits = c.lead-last.ensures.fits next os after first_fits left in
    let holds = c.lead-last.ensures.holds next os after first_fits first_holds left in
    let transition = asked.transition need.0 need.1 objects in
    let computed : List Call = computed_calls old.call in
    let in_need : computed_in old.call.frames (Some need.0) ≡ computed = sym (ap (λ (n : Option Need). computed_in old.call.frames n) need.1) in
    let stands = subst (λ (ks : List Call). StandsNext ks ask transition.0) in_need (ran_next limits old.call.frames old.call.asked objects need.0 ask transition.0 transition.1) in
    let from = asked_from computed ask transition.0 mid first stands transition.2 asked.turn_fits in
    let then = led_same d mid new first last led in
    let rests = rests_after new last c.lead-last.ensures.turn c.lead-last.ensures.heard in
    let same = same_but old mid new asked.same then rests c.requires.none in
    let answers = ap (λ (v : RwValue). v.answers) then ∙ asked.answers in
    record {
      fits = fits;
      holds = subst (λ (p : CallerPorts). RwHolds next p.database.history after new) (sym c.lead-last.ensures.same) holds;
      functions = c.settle.ensures.functions ∙ c.ran-after.ensures.functions;
      rests = rests;
      step = λ k top.
          let is : old.call.top ≡ k = is_top old.call k top in
          stepped old.answers k new last c.step_after.result c.lead-last.ensures.turn step
          (subst (λ (j : Call). new.answers ≡ answers_by_hand old.answers j last) is (answers ∙ led_answers d mid new old.answers old.call.top first last led))
          (λ on. led_top d mid new first last led ∙ (asked.goes_on (led_unended d mid new first last led on) ∙ is));
      told = told_when_led next after (state_at d.history old.base) old.call d mid new ask c.step_after.result first last
          (λ none. around_asked next objects after (state_at d.history old.base) old.call new.call need.0 ask need.1 c.requires.fits.call c.requires.runs
          (subst (λ (t : RwHandTurn). RwObjectsLeft os t after) none left))
          (λ x frame outer is at.
          subst (λ (v : RwValue). IsRight next frame.key.function (state_at d.history v.base) (next.says frame.key.function frame.key.args (answers_in after frame.key.function)) x.answer) same
          (c.step_after.ensures.right next after d.history x frame outer fits holds is at))
          (λ q is none.
          subst (λ (x : Objects). IsCalling next x mid.call) (sym (subst (λ (t : RwHandTurn). RwObjectsLeft os t after) none left))
          (first_fits os (subst (λ (t : RwHandTurn). RwObjectsLeft os t os) (sym is) refl)).call)
          asked.turn_fits fits.call from led step;
      objects = objects_follow objects c.ran-after.result.objects after old.call new.call ask last c.step_after.result at_ask c.settle.ensures.left step;
      queried = subst (λ (v : RwValue). OnOk c.step_after.result (new.queried ≡ v.queried ++ queried_for ask)) asked.same
          (read_once d computed mid new ask first last c.step_after.result from led step);
      unqueried = subst (λ (v : RwValue). OnErr c.step_after.result (new.queried ≡ v.queried)) asked.same
          (unread_once d computed mid new first last c.step_after.result led step);
      undone = λ undone. answers ∙ no_answer_more computed old.answers old.call.top ask mid.call first from undone;
      refused = why_refused next.limits d computed old mid new objects need.0 ask need.1 transition.0 first last c.step_after.result
          (subst (λ (l : Limits). AfterRan l old.call.frames old.call.asked objects need.0 ask transition.0) is_limits transition.1) transition.2 from (ap (λ (v : RwValue). v.base) asked.same) led step;
      same = same;
      ports = c.lead-last.ensures.same;
    }
