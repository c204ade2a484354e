use Rattle.std.proofs.Common.{◌≡◌, [], refl, rules}
use Rattle.txc_txn.specs.TxnCore.{value_of}
use Rattle.txc_txn.specs.Transitions.{StartTransition}
use Rattle.txc_txn.proofs.txn_core.TxnCore.start_by_hand.Goals as goal

pub returns-then-is_empty-clause-begun : goal.returns-then-is_empty-clause-begun
returns-then-is_empty-clause-begun c = λ objects there.
    let empty : c.args.self.now.pins.members ≡ [] = search rules in
    let asks = c.pin_by_hand.ensures.asks empty in
    let transition : StartTransition (value_of c.args.self.now) objects c.args.key (value_of c.pin_by_hand.new.self) objects c.pin_by_hand.result = record {
      pins = λ none. record {
        asks = c.pin_by_hand.ensures.pins asks;
        waits = c.pin_by_hand.ensures.waits asks;
        same_call = c.pin_by_hand.ensures.same_call asks;
        same_objects = refl;
      };
      begins = λ some. absurd (some empty);
    } in
    search (rules, transition)
