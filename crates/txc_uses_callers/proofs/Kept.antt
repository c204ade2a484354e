-- What stays true of a transaction from act to act.
use Rattle.std.proofs.Common.{◌≡◌, ◌∙◌, ℕ, List, [], ◌∷◌, ◌++◌, Option, Some, None, Ok, Err, refl, ap, sym, subst}
use Rattle.std.specs.Prelude.{Result}
use Rattle.txc_tags.specs.Keys.{Call}
use Rattle.txc_rows.specs.States.{State}
use Rattle.txc_rows.specs.declared.query.Change.{Change}
use Rattle.txc_rows.specs.declared.query.Query.{Query}
use Rattle.txc_db.specs.History.{History}
use Rattle.txc_txn_ports.specs.declared.error.TxnError.{TxnError}
use Rattle.txc_txn_rw.specs.RwCore.{RwHolds}
use Rattle.txc_caller.specs.CallerWrite.{CallerWriting, ChangeLeaves}
use Rattle.txc_app.specs.Eval.{Next}
use Rattle.txc_app.specs.declared.ask.Answer.{Answer}
use Rattle.txc_app.specs.declared.ask.Ask.TheVariants as asks
use Rattle.txc_call.specs.CallMachine.{Calling}
use Rattle.txc_call.specs.declared.need.Need.{Need}
use Rattle.txc_call.specs.declared.need.Need.TheVariants as needs
use Rattle.txc_txn.specs.RunningTxn.{TxnValue}
use Rattle.txc_caller.specs.CallerTxn.{CallerValue, IsOf, KeepsCaller, KeepsTxn}
use Rattle.txc_caller.specs.ComputedFunctions.{computed_calls, computed_in, told_answer, top_call, top_or, IsOpenWith, IsToldAfterAsk}
use Rattle.txc_caller.specs.declared.step.Step.TheVariants.{Answered, Compute}
use Rattle.txc_uses_callers.specs.Labels.{label_call, labels, BeginsLabel}

-- the transaction stays the caller's
pub stays_of : (c c' : CallerValue) (t t' : TxnValue) → KeepsCaller c c' → KeepsTxn t t' → IsOf c t → IsOf c' t'
stays_of c c' t t' kept keeps of = record {
  row = keeps.events ∙ (of.row ∙ sym kept.row);
  renew_after = keeps.settings.renew_after ∙ (of.renew_after ∙ sym kept.renew_after);
}

-- without an open call, the outermost one is this
pub top_is : (call : Calling) (k : Call) → call.need ≡ None → top_or call k ≡ k
top_is call k none = rw none refl

-- and none is computed
pub none_computed : (call : Calling) → call.need ≡ None → computed_calls call ≡ []
none_computed call none = rw none refl

-- the function of the label begins
pub begins : (old new : Calling) (id : ℕ) (k : Call) → k ≡ label_call id → old.need ≡ None → IsOpenWith (top_or old k) None new
    → computed_calls new ≡ k ∷ computed_calls old → BeginsLabel id new
begins old new id k is none stands calls = record {
  top = stands.top ∙ ap Some (top_is old k none ∙ is);
  only = calls ∙ (ap (λ (cs : List Call). k ∷ cs) (none_computed old none) ∙ ap (λ (k' : Call). k' ∷ []) is);
  untold = stands.told_is;
}

-- a change leaves what was answered
pub change_leaves : (L : History) (change : Change) (old new : CallerWriting) (kept : Result (Unit {0}) TxnError) → ChangeLeaves change old new kept
    → RwHolds labels L old.objects old.core → RwHolds labels L new.objects new.core
change_leaves L change old new (Ok kept) leaves holds = subst (λ (w : CallerWriting). RwHolds labels L w.objects w.core) (sym leaves.1)
    (record { within = holds.within; answers = holds.answers; call = holds.call })
change_leaves L change old new (Err error) leaves holds = subst (λ (w : CallerWriting). RwHolds labels L w.objects w.core) (sym leaves.0) holds
