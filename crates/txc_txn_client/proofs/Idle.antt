-- Between two calls all objects are idle, so that they are the same after a call.
use Rattle.std.proofs.Common.{◌≡◌, Option, subst}
use Rattle.txc_app.specs.Eval.{Next}
use Rattle.txc_call_registry.specs.Objects.{Objects, numbers_of, AllIdle}
use Rattle.txc_call_registry.proofs.Offered.{idle_same}
use Rattle.txc_call.specs.declared.need.Need.{Need}
use Rattle.txc_call.specs.Needs.{NeedFits}
use Rattle.txc_txn.specs.TxnCore.{IsIdle}
use Rattle.txc_txn.specs.RunningTxn.{TxnValue, IsTxn}

module _ (next : Next) (old : TxnValue) (kept : IsTxn next old) (idle : IsIdle old.core) where
  pub all_idle : AllIdle old.objects
  all_idle = (subst (λ (n : Option Need). NeedFits next old.objects old.core.call.top n old.core.call.frames) idle.0 kept.fits.call).1

  pub objects_stay : (objects : Objects) → AllIdle objects → numbers_of objects ≡ numbers_of old.objects
      → objects ≡ old.objects
  objects_stay objects free same = idle_same objects old.objects free all_idle same
