use Rattle.std.proofs.Common.{◌≡◌, Option, Some, None, Result, ap}
use Rattle.txc_tags.specs.Keys.{Call}
use Rattle.txc_app.specs.declared.ask.Ask.{Ask}
use Rattle.txc_caller.specs.Ports.{HasGrownDatabase}
use Rattle.txc_caller.specs.CallerTxn.{CallerValue, KeepsCaller}
use Rattle.txc_caller.specs.declared.step.CallerError.{CallerError}
use Rattle.txc_caller.specs.declared.step.Step.{Step}
use Rattle.txc_caller.proofs.Letting.{grown_same}
use Rattle.txc_c.specs.Opened.{calling_of, stepped_call, HasMadeAsk, StepsIn}
use Rattle.txc_c.specs.declared.opened.Open.{Open}
use Rattle.txc_c.specs.declared.opened.Open.TheVariants.{Reading, Writing}
use Rattle.txc_c.proofs.opened.Open.ask.Goals as goal

-- whatever comes of an ask, the caller is of the same row, and its history has only grown
module _ (ask : Ask) (c : CallerValue) (step : Result Step CallerError) (c' : CallerValue) where
  abbrev Keeps : Type 0
  Keeps = KeepsCaller c c' × HasGrownDatabase c.ports.database c'.ports.database

  same_keeps : c' ≡ c → Keeps
  same_keeps is = (
    record { row = ap (λ (v : CallerValue). v.ports.database.events) is; renew_after = ap (λ (v : CallerValue). v.renew_after) is },
    grown_same c.ports.database c'.ports.database (ap (λ (v : CallerValue). v.ports.database) is),
  )

  made_keeps : (k : Call) (x x' : Open) → HasMadeAsk ask k c x step c' x' → Keeps
  made_keeps k (Reading t) (Reading t') is = (is.caller, is.grown)
  made_keeps k (Reading t) (Writing w') is = absurd is
  made_keeps k (Writing w) (Writing w') is = same_keeps is.caller
  made_keeps k (Writing w) (Reading t') is = absurd is

  step_keeps : (top : Option Call) (x x' : Open) → StepsIn top ask c x step c' x' → Keeps
  step_keeps None x x' is = same_keeps is.2
  step_keeps (Some k) x x' is = made_keeps k x x' is

pub returns-clause-caller : goal.returns-clause-caller
returns-clause-caller c =
    (step_keeps c.args.ask c.args.caller.now c.step-step.result c.step-step.new.caller (stepped_call c.args.ask (calling_of c.args.self.now)) c.args.self.now c.step-step.new.self
    c.step-step.ensures.step).0

pub returns-clause-grown : goal.returns-clause-grown
returns-clause-grown c =
    (step_keeps c.args.ask c.args.caller.now c.step-step.result c.step-step.new.caller (stepped_call c.args.ask (calling_of c.args.self.now)) c.args.self.now c.step-step.new.self
    c.step-step.ensures.step).1
