use Rattle.std.proofs.Common.{[], ◌∷◌, string_bytes, rules, arith}
use Rattle.std.proofs.lemmas.Result.{IfOk-weaker}
use Rattle.example_auction.proofs.Bodies.{numbered}
use Rattle.example_auction.proofs.changes.user_name.Goals as goal

pub returns : goal.returns
returns c =
    IfOk-weaker c.format.result _ _
    (λ text is. numbered (117 ∷ 115 ∷ 101 ∷ 114 ∷ []) (string_bytes text) c.args.user (omega (arith, c.ranges.user)) (omega arith) (omega arith) (search rules) is)
    c.format.ensures.ok
