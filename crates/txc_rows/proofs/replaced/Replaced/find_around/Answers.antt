use Rattle.std.proofs.Common.{◌≡◌, ◌+◌, ℕ, max, subst, arith, rules}
use Rattle.std.proofs.lemmas.Result.{on_ok_weaker}
use Rattle.txc_rows.specs.ReplacedIndex.{dead_between}
use Rattle.txc_rows.specs.LatestTable.{AddsAround}
use Rattle.txc_rows.proofs.FindLemmas.{asked}
use Rattle.txc_rows.proofs.DeadLemmas.{both_parts}
use Rattle.txc_rows.proofs.NearLemmas.{adds_both}
use Rattle.txc_rows.proofs.replaced.Replaced.find_around.Goals as goal

pub returns : goal.returns
returns c =
    let q = c.args.query.now in
    let xs = c.args.self.now in
    let from = c.args.from in
    let at = c.args.at in
    let later : c.max.result ≡ max c.args.from (c.args.at + 1) = search (arith, rules) in
    let first : AddsAround c.args.at (asked c.args.query.now (max c.args.from (c.args.at + 1)) c.args.self.now) c.args.found.now.items c.add_later.new.found.items
    = subst (λ (n : ℕ). AddsAround c.args.at (asked c.args.query.now n c.args.self.now) c.args.found.now.items c.add_later.new.found.items) later c.in_ok-add_later.ensures in
    on_ok_weaker c.add_last.result (adds_both at (asked q from xs) (asked q (max from (at + 1)) xs) (dead_between q from at xs) c.args.found.now.items c.add_later.new.found.items c.add_last.new.found.items (both_parts q xs c.requires.each c.requires.ended from at) first) c.add_last.ensures
