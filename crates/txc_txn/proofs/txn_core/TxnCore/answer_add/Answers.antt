use Rattle.std.proofs.Common.{rules}
use Rattle.txc_txn.proofs.txn_core.TxnCore.answer_add.Goals as goal

pub returns-in-Some-first : goal.returns-in-Some-first
returns-in-Some-first g c = record {
  fits = search rules;
  holds = search rules;
  turn_fits = search rules;
  transition = search rules;
  adds = search rules;
  pins = search rules;
  taken = search rules;
  left = search rules;
  recorded = search rules;
  goes_on = search rules;
  functions = search rules;
  same = search rules;
}
