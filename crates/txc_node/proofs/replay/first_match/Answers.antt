use Rattle.std.proofs.Common.{◌≡◌, true, get_or, sym, arith, [], List}
use Rattle.txc_tags.specs.declared.tag.Tag.{Tag}
use Rattle.txc_tags.specs.Tags.{sets_match}
use Rattle.txc_node.proofs.Positions.{position_from_here, position_from_none}
use Rattle.txc_node.proofs.replay.first_match.Goals as goal

pub returns-then-matches_at : goal.returns-then-matches_at
returns-then-matches_at c =
    let a = c.args in
    let xs = a.recent.now.items in
    let is = c.matches_at.ensures [] in
    let hit : sets_match (get_or xs c.loop-i.i []) a.tags.now ≡ true = cc in
    sym (position_from_here (λ (t : List Tag). sets_match t a.tags.now) xs a.from c.loop-i.i [] (omega (arith, c.loop-i.auto.i)) (omega (arith, c.loop-i-test.true, c.len-i-end.ensures.len)) c.loop-i.invariant hit)

pub returns : goal.returns
returns c =
    let a = c.args in
    sym (position_from_none (λ (t : List Tag). sets_match t a.tags.now) a.recent.now.items a.from (λ k l from e. c.loop-i.invariant k (omega (arith, l, c.loop-i-test.false, c.len-i-end.ensures.len)) from e))
