use Rattle.std.proofs.Common.{[], ◌∷◌, string_bytes, rules, arith}
use Rattle.std.proofs.lemmas.Result.{IfOk-weaker}
use Rattle.example_auction.proofs.Bodies.{numbered}
use Rattle.example_auction.proofs.changes.title.Goals as goal

pub returns : goal.returns
returns c =
    IfOk-weaker c.format.result _ _
    (λ text is. numbered (105 ∷ 116 ∷ 101 ∷ 109 ∷ []) (string_bytes text) c.args.item (omega (arith, c.ranges.item)) (omega arith) (omega arith) (search rules) is)
    c.format.ensures.ok
