use Rattle.std.proofs.Common.{◌≡◌, vec_len}
use Rattle.txc_site_workers.proofs.site_stats.Tally.each.Given as goal

abbrev pub invariant-loop : goal.invariant-loop
invariant-loop l = vec_len l.tallies ≡ l.counter
