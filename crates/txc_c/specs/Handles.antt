-- Handles that are opened and closed, and the counts of their nodes.
use Rattle.std.specs.Prelude.{◌≡◌, ℕ, nat_le, if◌then◌else◌, Option, Some, None}
use Rattle.txc_node.specs.Counts.{counts_of}
use Rattle.txc_tags.specs.declared.key.TheConstants.{LAST_FUNCTION}
use Rattle.txc_c.specs.CountedNode.{totals_of_node, Counted}
use Rattle.txc_c.specs.declared.totals.TxcTotals.{TxcTotals}
use Rattle.txc_c_types.specs.CacheViews.{are_sizes, crossing_counts}
use Rattle.txc_c_types.specs.declared.crossing.TxcCounts.{TxcCounts}
use Rattle.txc_c_types.specs.declared.numbers.TheConstants.{DONE, CLOSED, ALREADY_OPEN, BAD_ARGUMENT}

-- the number of an opening that has memory
abbrev pub open_number : Option Counted → ℕ → ℕ → ℕ
open_number (Some n) capacity recent = ALREADY_OPEN
open_number None capacity recent = if are_sizes capacity recent then DONE else BAD_ARGUMENT

-- the number of a closing
abbrev pub close_number : {A : Type 0} → Option A → ℕ
close_number None = CLOSED
close_number (Some n) = DONE

-- the number of a call for the counts of a function
abbrev pub count_number : Option Counted → ℕ → ℕ
count_number None function = CLOSED
count_number (Some n) function = if nat_le function LAST_FUNCTION then DONE else BAD_ARGUMENT

-- the number of a call for the totals of a node
abbrev pub totals_number : Option Counted → ℕ
totals_number None = CLOSED
totals_number (Some n) = DONE

-- the totals of the node; without a node nothing is written
abbrev pub totals_told : Option Counted → TxcTotals → TxcTotals
totals_told None old = old
totals_told (Some n) old = totals_of_node n

-- the counts of that function; without a node, or without such a function, nothing is written
abbrev pub counts_told : Option Counted → ℕ → TxcCounts → TxcCounts
counts_told None function old = old
counts_told (Some n) function old =
    if nat_le function LAST_FUNCTION then crossing_counts (counts_of n.totals.functions function) else old
