use Rattle.std.proofs.Common.{rules}
use Rattle.txc_call.specs.declared.need.Need.TheVariants as needs
use Rattle.txc_txn.specs.TxnCore.{value_of}
use Rattle.txc_txn.specs.ByHand.{HearTransition}
use Rattle.txc_txn.proofs.ByHand.{inserted_holds}
use Rattle.txc_txn.proofs.txn_core.TxnCore.heard.Goals as goal

pub returns-in-Insert : goal.returns-in-Insert
returns-in-Insert c =
    let transition : HearTransition (value_of c.args.self.now) c.args.reply (value_of c.take.new.self) c.take.result =
    rw c.in-Insert.is (λ entry is. c.take.ensures.transition (needs.Insert entry) is) in
    record {
      fits = λ next objects after there left h. c.take.ensures.fits next objects after left h;
      holds = λ next objects after L left right h holds. c.take.ensures.holds next objects after L left (λ n is. inserted_holds next L n) h holds;
      turn_fits = search rules;
      transition = transition;
      rests = rw c.in-Insert.is c.take.ensures.rests;
      adds = search rules;
      pins = search rules;
      taken = search rules;
      left = search rules;
      recorded = search rules;
      goes_on = search rules;
      same = search rules;
    }
