-- A transaction between two calls.
use Rattle.std.proofs.Common.{◌≡◌, ⊎_elim, List, [], ◌∷◌, ◌++◌, Option, None, Ok, Err, sym, ap, subst, ◌∙◌, Contains}
use Rattle.std.specs.Prelude.{Result, Vec, IfErr, IfOk, OnErr, OnOk}
use Rattle.std.specs.declared.alloc.Global.{Global}
use Rattle.std.proofs.lemmas.List.Elements.{All-contains, Contains-push}
use Rattle.txc_rows.specs.declared.query.Change.{Change}
use Rattle.txc_rows.specs.declared.query.Query.{Query}
use Rattle.txc_rows.specs.States.{RowValue, State}
use Rattle.txc_db.specs.History.{History}
use Rattle.txc_app.specs.Eval.{Next}
use Rattle.txc_call_registry.specs.Objects.{Objects, AllIdle}
use Rattle.txc_call.specs.declared.need.Need.{Need}
use Rattle.txc_call.specs.Needs.{NeedFits}
use Rattle.txc_txn_ports.specs.declared.error.TxnError.{TxnError}
use Rattle.txc_txn_ports.specs.declared.error.TxnError.TheVariants.{Memory}
use Rattle.txc_txn_rw.specs.declared.given.Given.{Given}
use Rattle.txc_txn_rw.specs.declared.given.Given.TheVariants as given
use Rattle.txc_txn_rw.specs.Transitions.{IsQueryLeft}
use Rattle.txc_txn_rw.specs.Answers.{AreRightIn, IsRightIn}
use Rattle.txc_txn_rw.specs.RwCore.{RwValue, RwHolds, IsRwIdle, IsRw}
use Rattle.txc_txn_rw.specs.RwTxn.{IsRwResting, RwTxnValue}
use Rattle.txc_txn_rw.proofs.Holding.{at_rest_holds}

-- at rest, whatever the objects do
pub holds_at_rest : (next : Next) (L : History) (os os' : Objects) (c : RwValue) → c.call.frames ≡ [] → c.call.need ≡ None → RwHolds next L os c → RwHolds next L os' c
holds_at_rest next L os os' c empty none h = record {
  within = h.within;
  answers = h.answers;
  call = λ changes agree. at_rest_holds next _ os' c.call empty none;
}

pub rested : (next : Next) (L : History) (os : Objects) (c : RwValue) → IsRw next os c → IsRwIdle c → RwHolds next L os c → AllIdle os × IsRwResting next L c
rested next L os c fits idle h =
    let at_rest : (c.call.frames ≡ []) × AllIdle os = subst (λ (n : Option Need). NeedFits next os c.call.top n c.call.frames) idle.0 fits.call in
    (at_rest.1, record { frames = at_rest.0; need = idle.0; reading = idle.1; holds = λ os'. holds_at_rest next L os os' c at_rest.0 idle.0 h })

-- what is kept of a history is kept of the same by another name
pub holds_by : (next : Next) (F L : History) (os os' : Objects) (c c' : RwValue) → F ≡ L → (RwHolds next F os c → RwHolds next F os' c') → RwHolds next L os c → RwHolds next L os' c'
holds_by next F L os os' c c' same step h =
    subst (λ (M : History). RwHolds next M os' c') same (step (subst (λ (M : History). RwHolds next M os c) (sym same) h))

abbrev pub txn_of : RwValue → History → Objects → RwTxnValue
txn_of c L objects = record { core = c; history = L; objects = objects }

-- what a call changes of a transaction
pub called : (old new : RwValue) (L : History) (os os' : Objects)
    → new ≡ record old { queried = new.queried; answers = new.answers; call = new.call; reading = None }
    → old.reading ≡ None → os' ≡ os
    → txn_of new L os' ≡ txn_of (record old { queried = new.queried; answers = new.answers; call = new.call }) L os
called old new L os os' is none same =
    let core : new ≡ record old { queried = new.queried; answers = new.answers; call = new.call } = subst (λ (r : Option Query). new ≡ record old { queried = new.queried; answers = new.answers; call = new.call; reading = r }) (sym none) is in
    subst (λ (o : Objects). txn_of new L o ≡ txn_of (record old { queried = new.queried; answers = new.answers; call = new.call }) L os) (sym same)
    (ap (λ (w : RwValue). txn_of w L os) core)

-- a change more
pub written : (next : Next) (L : History) (c c' : RwValue) (changes : List Change) → c' ≡ record c { changes = changes } → IsRwResting next L c → IsRwResting next L c'
written next L c c' changes is h = subst (λ (w : RwValue). IsRwResting next L w) (sym is) record {
  frames = h.frames;
  need = h.need;
  reading = h.reading;
  holds = λ os. let k = h.holds os in record { within = k.within; answers = k.answers; call = k.call };
}

-- the last answer is right
pub last_right : (next : Next) (s : State) (before now : List Given) (x : Given) → now ≡ before ++ x ∷ [] → AreRightIn next s now → IsRightIn next s x
last_right next s before now x is right =
    All-contains (IsRightIn next s) now x right (subst (λ (xs : List Given). Contains xs x) (sym is) (Contains-push before x))

pub if_ok : {T E : Type 0} (P Q : T → Type 0) (r : Result T E) → ((v : T) → P v → Q v) → IfOk r P → IfOk r Q
if_ok P Q (Ok v) step h = step v h
if_ok P Q (Err e) step h = tt

-- a query of its own leaves it at rest
module _ (next : Next) (L : History) (c c' : RwValue) (q : Query) where
  pub queried_or_left : (r : Result (Vec RowValue Global) TxnError) → IfOk r (λ rows. c' ≡ record c { queried = c.queried ++ q ∷ []; answers = c.answers ++ given.Rows q rows.items ∷ [] })
      → IfErr r (IsQueryLeft c q c') → ((os : Objects) → RwHolds next L os c') → IsRwResting next L c → IsRwResting next L c'
  queried_or_left (Ok rows) after left holds h = record {
    frames = ap (λ (w : RwValue). w.call.frames) after ∙ h.frames;
    need = ap (λ (w : RwValue). w.call.need) after ∙ h.need;
    reading = ap (λ (w : RwValue). w.reading) after ∙ h.reading;
    holds = holds;
  }
  queried_or_left (Err error) after left holds h =
      ⊎_elim
      (λ (same : c' ≡ c). subst (IsRwResting next L) (sym same) h)
      (λ (read : (error ≡ Memory) × (c' ≡ record c { queried = c.queried ++ q ∷ [] })). record {
        frames = ap (λ (w : RwValue). w.call.frames) read.1 ∙ h.frames;
        need = ap (λ (w : RwValue). w.call.need) read.1 ∙ h.need;
        reading = ap (λ (w : RwValue). w.reading) read.1 ∙ h.reading;
        holds = holds;
      })
      left

pub written_or_not : {T E : Type 0} (r : Result T E) (next : Next) (L : History) (c c' : RwValue) (changes : List Change)
    → OnOk r (c' ≡ record c { changes = changes }) → OnErr r (c' ≡ c) → IsRwResting next L c → IsRwResting next L c'
written_or_not (Ok done) next L c c' changes after unchanged h = written next L c c' changes after h
written_or_not (Err e) next L c c' changes after unchanged h = subst (λ (w : RwValue). IsRwResting next L w) (sym unchanged) h
