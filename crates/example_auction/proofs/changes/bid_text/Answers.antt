use Rattle.std.proofs.Common.{[], ◌∷◌, string_bytes, rules, arith}
use Rattle.std.proofs.lemmas.Result.{IfOk-weaker}
use Rattle.example_auction.proofs.Bodies.{between_numbers}
use Rattle.example_auction.proofs.changes.bid_text.Goals as goal

pub returns-clause-body : goal.returns-clause-body
returns-clause-body c =
    IfOk-weaker c.format.result _ _
    (λ text is. between_numbers (58 ∷ 117 ∷ 115 ∷ 101 ∷ 114 ∷ []) (string_bytes text) c.args.amount c.args.user (omega (arith, c.ranges.amount)) (omega (arith, c.ranges.user)) (omega arith) (search rules) is)
    c.format.ensures.ok
