use Rattle.std.proofs.Common.{◌≡◌, inl, inr, None, ap, length, refl, sym, subst, ◌∙◌}
use Rattle.txc_db.specs.History.{History}
use Rattle.txc_cushion.specs.declared.pins.Pins.{Pins}
use Rattle.txc_txn.specs.TxnCore.{value_of, CoreHolds, CoreValue, IsIdle}
use Rattle.txc_txn.specs.RunningTxn.{TxnValue}
use Rattle.txc_world.specs.declared.actor.Actor.TheVariants.{Idle}
use Rattle.txc_world.specs.declared.reply.Reply.TheVariants.{Refused}
use Rattle.txc_world.specs.declared.reply.Refusal.TheVariants.{Memory}
use Rattle.txc_world.specs.declared.step.ActorStep.TheVariants.{BeginRo}
use Rattle.txc_world.specs.ActorStep.{IsActed}
use Rattle.txc_world.specs.Actors.{CoreHasBegun}
use Rattle.txc_world.specs.Holdings.{account_of_core, nothing, GivesBack, TakesOnlyItsOwn}
use Rattle.txc_world.specs.Observation.{reading}
use Rattle.txc_world.specs.Parts.{IsPartOf}
use Rattle.txc_world.specs.Ports.{whole_of, PortsValue}
use Rattle.txc_world.proofs.Acted.{refused_so}
use Rattle.txc_world.proofs.Fairness.{fair_fresh}
use Rattle.txc_world.proofs.Giving.{all_again}
use Rattle.txc_world.proofs.Whole.{keeps_cushion}
use Rattle.txc_world.proofs.acting.begin_ro.Goals as goal

pub new-txn-requires : goal.new-txn-requires
new-txn-requires g c =
    let seen : c.in-Ok-begin.core.seen ≡ c.in-Ok.pins.front = ap (λ (v : CoreValue). v.seen) c.in-Ok-begin.ensures.answer in
    record {
      fits = c.in-Ok-begin.ensures.fits g.A.App.next c.args.registry c.requires.idle;
      holds = subst (λ (L : History). CoreHolds g.A.App.next L c.args.registry (value_of c.in-Ok-begin.core)) (sym (ap (λ f. f.history) seen))
          (c.in-Ok-begin.ensures.holds g.A.App.next c.in-Ok.pins.front.history c.args.registry c.in-Ok.ensures.allowed);
    }

pub returns-in-Ok-begin-clause-transition : goal.returns-in-Ok-begin-clause-transition
returns-in-Ok-begin-clause-transition g c =
    let is = c.new-txn.ensures in
    let begun : CoreHasBegun c.args.renew_after c.args.bounds c.args.ports.now c.fresh.new.self (value_of c.in-Ok-begin.core) = record {
      pins = c.in-Ok.pins;
      fresh = c.in-Ok.ensures.transition;
      core = rw (sym c.len-nodes.ensures) c.in-Ok-begin.ensures.answer;
    } in (
      subst (λ (t : TxnValue). CoreHasBegun c.args.renew_after c.args.bounds c.args.ports.now c.fresh.new.self t.core) (sym is) begun,
      ap (λ (t : TxnValue). t.objects) is,
      refl,
      refl,
    )

pub returns-in-Ok-begin-clause-acted : goal.returns-in-Ok-begin-clause-acted
returns-in-Ok-begin-clause-acted g c =
    let old = c.args.ports.now in
    let new = c.fresh.new.self in
    let is = c.new-txn.ensures in
    let same = c.fresh.ensures.same in
    let answer = c.in-Ok-begin.ensures.answer in
    let core : c.new-txn.result.core ≡ value_of c.in-Ok-begin.core = ap (λ (t : TxnValue). t.core) is in
    let seen : c.new-txn.result.core.seen ≡ c.in-Ok.pins.front = ap (λ (v : CoreValue). v.seen) (core ∙ answer) in
    let part : IsPartOf (whole_of new) c.in-Ok.pins.front = subst (λ (p : PortsValue). IsPartOf (whole_of p) c.in-Ok.pins.front) (sym same) c.in-Ok.ensures.part in
    record {
      fits = record {
        seen = subst (IsPartOf (whole_of new)) (sym seen) part;
        nodes = ap (λ (v : CoreValue). v.nodes) (core ∙ answer) ∙ c.len-nodes.ensures ∙ sym (ap (λ (p : PortsValue). length p.nodes) same);
        call = subst IsIdle (sym core) c.in-Ok-begin.ensures.idle;
      };
      told = ap (λ (v : CoreValue). reading (record { bounds = v.bounds; call = None; answers = v.recorded })) (core ∙ answer);
      history = ap (λ (p : PortsValue). p.database.history) same;
      due = inl refl;
      explained = tt;
      keeps = keeps_cushion old new same;
      spare = ap (λ (p : PortsValue). p.spare) same;
      counts = record {
        own_only = subst (λ (v : CoreValue). TakesOnlyItsOwn old new nothing (account_of_core v)) (sym (core ∙ answer))
            (fair_fresh old new c.args.bounds.now c.args.bounds.staleness c.args.bounds.at_least c.in-Ok.pins c.count_right.ensures c.in-Ok.ensures.transition);
        loss = tt;
      };
    }

-- out of memory for the core, the pins are given back, so that all is as it was
returned : goal.returns-in-Err-clause-transition
returned g c =
    let same =
    all_again c.args.ports.now c.fresh.new.self c.give_back_pins.new.self c.args.bounds.now c.args.bounds.staleness c.args.bounds.at_least c.in-Ok.pins
    c.count_right.ensures c.in-Ok.ensures.transition
    (subst (λ (given : Pins). GivesBack c.fresh.new.self c.give_back_pins.new.self given.pins.items) c.in-Err.ensures.handed_back c.give_back_pins.ensures.users)
    c.give_back_pins.ensures.pins in
    (refl, same, refl)

pub returns-in-Err-clause-transition : goal.returns-in-Err-clause-transition
returns-in-Err-clause-transition = returned

pub returns-in-Err-clause-acted : goal.returns-in-Err-clause-acted
returns-in-Err-clause-acted g c =
    subst (λ (p : PortsValue). IsActed g.A.App.next (BeginRo c.args.bounds) c.args.ports.now p (Idle c.args.registry) (Idle c.args.registry) (Refused Memory)) (sym (returned g c).1)
    (refused_so g.A.App.next (BeginRo c.args.bounds) c.args.ports.now (Idle c.args.registry) Memory c.requires.idle (inr refl) tt)

pub returns-in_default-clause-transition : goal.returns-in_default-clause-transition
returns-in_default-clause-transition g c = (refl, c.in_default.ensures.transition, refl)

pub returns-in_default-clause-acted : goal.returns-in_default-clause-acted
returns-in_default-clause-acted g c =
    subst (λ (p : PortsValue). IsActed g.A.App.next (BeginRo c.args.bounds) c.args.ports.now p (Idle c.args.registry) (Idle c.args.registry) (Refused Memory)) (sym c.in_default.ensures.transition)
    (refused_so g.A.App.next (BeginRo c.args.bounds) c.args.ports.now (Idle c.args.registry) Memory c.requires.idle (inr refl) tt)
