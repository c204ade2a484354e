-- How a job's calls go.
use Rattle.txc_stream.specs.Names.{Name}
use Rattle.std.proofs.Common.{◌≡◌, ◌∙◌, ℕ, suc, ◌<◌, List, ◌∷◌, ◌++◌, length, get_or, take, drop, Result, Err, sym, ap, subst}
use Rattle.std.proofs.lemmas.List.{take-append-drop}
use Rattle.std.proofs.Math.Seq.{drop-cons}
use Rattle.txc_tags.specs.Keys.{Call}
use Rattle.txc_app.specs.Eval.{Next}
use Rattle.txc_call_registry.specs.Objects.{Objects, numbers_of, AllIdle}
use Rattle.txc_txn_ports.specs.declared.bounds.Bounds.{Bounds}
use Rattle.txc_txn_ports.specs.declared.error.TxnError.{TxnError}
use Rattle.txc_txn.specs.RunningTxn.{IsTxn}
use Rattle.txc_txn_client.specs.Run.{HasRun}
use Rattle.txc_txn_client.specs.RoTxn.{RoTxnValue}
use Rattle.txc_work.specs.Batches.{keys_of, IsRefusedAt}

-- where the keys before this one were answered, its call is the first that was refused
pub refused_at : (next : Next) (row : Name) (node_histories : ℕ → Name) (objects : Objects) (bounds : Bounds) (keys : List Call) (i : ℕ) (key copy : Call)
    (old new : RoTxnValue) (result : Result (List ℕ) TxnError) (error : TxnError)
    → IsTxn next old.txn → AllIdle old.txn.objects → old.txn.objects ≡ objects
    → i < length keys → key ≡ get_or keys i key → copy ≡ key → keys_of old.txn.core.recorded ≡ take i keys
    → old.txn.core.bounds ≡ bounds → result ≡ Err error → HasRun next row node_histories old copy new result
    → IsRefusedAt next row node_histories (numbers_of objects) bounds keys error
refused_at next row node_histories objects bounds keys i key copy old new result error valid idle of below at same answered bounded is run = record {
  before = take i keys;
  key = key;
  after = drop (suc i) keys;
  old = old;
  new = new;
  stands = sym (take-append-drop i keys) ∙ ap (λ l. take i keys ++ l) (drop-cons keys i key below ∙ ap (λ k. k ∷ drop (suc i) keys) (sym at));
  valid = valid;
  idle = idle;
  of_functions = ap numbers_of of;
  bounded = bounded;
  answered = answered;
  run = subst (λ r. HasRun next row node_histories old key new r) is (subst (λ k. HasRun next row node_histories old k new result) same run);
}
