use Rattle.std.proofs.Common.{◌≡◌}
use Rattle.txc_rows.proofs.replaced.Replaced.drop_gone.Given as goal

abbrev pub invariant-loop : goal.invariant-loop
invariant-loop l = l.self ≡ l.fn.self
