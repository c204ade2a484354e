-- The totals of a node, as C numbers.
use Rattle.std.specs.Prelude.{ℕ, nat_le, if◌then◌else◌}
use Rattle.txc_c.specs.declared.totals.TxcTotals.{TxcTotals}

-- the greatest count that crosses
abbrev pub most_told : ℕ
most_told = 18446744073709551615

-- the entries, the bytes of their values, and the entries that trims have dropped, of which at most `most_told`
-- are shown
abbrev pub crossing_totals : ℕ → ℕ → ℕ → TxcTotals
crossing_totals entries bytes trimmed = record {
  entries = entries;
  bytes = bytes;
  trimmed = if nat_le trimmed most_told then trimmed else most_told;
}
