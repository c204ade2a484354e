use Rattle.std.proofs.Common.{◌≡◌, Some, refl, sym, subst}
use Rattle.txc_txn_ports.specs.declared.turn.Turn.TheVariants.{Ask, Ended}
use Rattle.txc_txn_rw.specs.ByHand.{RwHandTurn, RwObjectsLeft, IsRwHandTurn}
use Rattle.txc_caller.proofs.WriteActs.{heard_after, right_reply_to}
use Rattle.txc_caller.proofs.writing.lead.Goals as goal

pub returns-in-Some-Ask-clause-fits : goal.returns-in-Some-Ask-clause-fits
returns-in-Some-Ask-clause-fits g c = λ next objects after before left.
    let is : c.args.turn ≡ Some (Ask c.in-Some-Ask.query) = cc (c.in-Some-Ask.is, c.in-Some-Ask.field-0-is) in
    c.hear.ensures.fits next objects after left (before objects (subst (λ (t : RwHandTurn). RwObjectsLeft objects t objects) (sym is) refl))

pub returns-in-Some-Ask-clause-holds : goal.returns-in-Some-Ask-clause-holds
returns-in-Some-Ask-clause-holds g c = λ next objects after before holds left.
    let is : c.args.turn ≡ Some (Ask c.in-Some-Ask.query) = cc (c.in-Some-Ask.is, c.in-Some-Ask.field-0-is) in
    let same : RwObjectsLeft objects c.args.turn objects = subst (λ (t : RwHandTurn). RwObjectsLeft objects t objects) (sym is) refl in
    let asked : IsRwHandTurn c.args.core.now (Some (Ask c.in-Some-Ask.query)) = subst (λ (t : RwHandTurn). IsRwHandTurn c.args.core.now t) is c.requires.turn in
    c.hear.ensures.holds next objects after c.args.ports.now.database.history left
    (right_reply_to c.args.ports.now.database.history c.args.core.now c.base.result c.find-found.result c.in-Some-Ask.query c.base.ensures asked.0 c.find-found.ensures.answer)
    (before objects same) (holds objects same)

pub returns-in-Some-Ask-clause-heard : goal.returns-in-Some-Ask-clause-heard
returns-in-Some-Ask-clause-heard g c =
    let is : c.args.turn ≡ Some (Ask c.in-Some-Ask.query) = cc (c.in-Some-Ask.is, c.in-Some-Ask.field-0-is) in
    let asked : IsRwHandTurn c.args.core.now (Some (Ask c.in-Some-Ask.query)) = subst (λ (t : RwHandTurn). IsRwHandTurn c.args.core.now t) is c.requires.turn in
    heard_after c.args.core.now c.in-Some-Ask.query c.find-found.result c.hear.new.self c.hear.result (c.hear.ensures.transition c.in-Some-Ask.query asked.0)

pub returns-in-Some-Ended-clause-fits : goal.returns-in-Some-Ended-clause-fits
returns-in-Some-Ended-clause-fits g c = λ next objects after before left.
    let is : c.args.turn ≡ Some (Ended c.in-Some-Ended.outcome) = cc (c.in-Some-Ended.is, c.in-Some-Ended.field-0-is) in
    before after (subst (λ (t : RwHandTurn). RwObjectsLeft objects t after) (sym is) left)

pub returns-in-Some-Ended-clause-holds : goal.returns-in-Some-Ended-clause-holds
returns-in-Some-Ended-clause-holds g c = λ next objects after before holds left.
    let is : c.args.turn ≡ Some (Ended c.in-Some-Ended.outcome) = cc (c.in-Some-Ended.is, c.in-Some-Ended.field-0-is) in
    holds after (subst (λ (t : RwHandTurn). RwObjectsLeft objects t after) (sym is) left)

pub returns-in-None-clause-fits : goal.returns-in-None-clause-fits
returns-in-None-clause-fits g c = λ next objects after before left. before after (subst (λ (t : RwHandTurn). RwObjectsLeft objects t after) (sym c.in-None.is) left)

pub returns-in-None-clause-holds : goal.returns-in-None-clause-holds
returns-in-None-clause-holds g c = λ next objects after before holds left. holds after (subst (λ (t : RwHandTurn). RwObjectsLeft objects t after) (sym c.in-None.is) left)
