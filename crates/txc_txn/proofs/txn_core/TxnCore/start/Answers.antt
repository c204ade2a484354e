use Rattle.std.proofs.Common.{◌≡◌, [], rules}
use Rattle.txc_txn.specs.TxnCore.{value_of}
use Rattle.txc_txn.specs.Transitions.{StartTransition}
use Rattle.txc_txn.proofs.txn_core.TxnCore.start.Goals as goal

pub returns-then-is_empty-clause-begun : goal.returns-then-is_empty-clause-begun
returns-then-is_empty-clause-begun g c =
    let empty : c.args.self.now.pins.members ≡ [] = search rules in
    let asks = c.ask_pin.ensures.asks empty in
    let transition : StartTransition (value_of c.args.self.now) c.args.registry.now c.args.key (value_of c.ask_pin.new.self) c.ask_pin.new.registry c.ask_pin.result = record {
      pins = λ none. record {
        asks = c.ask_pin.ensures.pins asks;
        waits = c.ask_pin.ensures.waits asks;
        same_call = c.ask_pin.ensures.same_call asks;
        same_objects = c.ask_pin.ensures.same_objects asks;
      };
      begins = λ some. absurd (some empty);
    } in
    search (rules, transition)
