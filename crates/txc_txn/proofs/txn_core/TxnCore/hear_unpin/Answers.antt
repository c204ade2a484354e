use Rattle.std.proofs.Common.{rules}
use Rattle.txc_call_registry.specs.Objects.{AllIdle}
use Rattle.txc_txn.proofs.txn_core.TxnCore.hear_unpin.Goals as goal

pub returns : goal.returns
returns c = record {
  fits = λ next objects after there left h.
      let idle : AllIdle after = rw c.drop_call.ensures.answer at left in c.drop_call.ensures.fits next objects after idle h;
  holds = λ next objects after L left right h holds. c.drop_call.ensures.holds next objects after L holds;
  turn_fits = search rules;
  transition = search rules;
  rests = tt;
  adds = search rules;
  pins = search rules;
  taken = search rules;
  left = search rules;
  recorded = search rules;
  goes_on = search rules;
  same = search rules;
}
