use Rattle.std.proofs.Common.{◌≢◌, []}
use Rattle.txc_pinset.specs.Members.{kept}
use Rattle.txc_txn.specs.TxnCore.{value_of}
use Rattle.txc_txn.proofs.Cores.{all_held, core_narrowed, holds_narrowed}
use Rattle.txc_txn.proofs.Cited.{keeps_exactly, never_empty}
use Rattle.txc_txn.proofs.txn_core.TxnCore.narrow.Goals as goal

pub returns-clause-fits : goal.returns-clause-fits
returns-clause-fits c = λ next objects h.
    let some : kept c.args.reach c.args.self.now.pins.members ≢ [] = λ none. cc (c.in_ok-narrow.ensures.refused.1 none) in
    rw c.in_ok-narrow.ensures.after (core_narrowed keeps_exactly never_empty next objects (value_of c.args.self.now) c.args.reach some c.requires h)

pub returns-clause-holds : goal.returns-clause-holds
returns-clause-holds c = λ next objects L h.
    let some : kept c.args.reach c.args.self.now.pins.members ≢ [] = λ none. cc (c.in_ok-narrow.ensures.refused.1 none) in
    rw c.in_ok-narrow.ensures.after (holds_narrowed keeps_exactly never_empty next objects (value_of c.args.self.now) c.args.reach some L h)

pub returns-clause-within : goal.returns-clause-within
returns-clause-within c = rw c.in_ok-narrow.ensures.after (all_held keeps_exactly c.args.self.now.pins c.args.reach)
