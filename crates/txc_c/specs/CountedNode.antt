-- A node whose replies are counted, and what a call leaves of it.
use Rattle.std.specs.Prelude.{◌≡◌, ℕ, ◌+◌, ◌^◌, ◌<◌, ◌≤◌, true, false, List, [], length, Option, Some, None}
use Rattle.txc_node.specs.declared.value.TheConstants.{MOST_VALUE_LEN}
use Rattle.txc_node.specs.declared.hit.HitValue.{HitValue}
use Rattle.txc_node.specs.declared.op.Op.{Op}
use Rattle.txc_node.specs.declared.reply.Reply.{Reply}
use Rattle.txc_node.specs.Cache.{bytes_of, Cache, empty_cache}
use Rattle.txc_node.specs.Counts.{Totals, counts_of, sum_of, counts_for, events_by, closed_by, swept_by, trimmed_by, AreCountsOf}
use Rattle.txc_node.specs.Steps.{function_of, is_refusal, reply_to, after_op}
use Rattle.txc_c.specs.Totals.{crossing_totals}
use Rattle.txc_c.specs.declared.totals.TxcTotals.{TxcTotals}

-- the cache of the node, and the counts of its replies
pub record Counted : Type 0 where
  pub cache : Cache
  pub totals : Totals

-- its entries, the bytes of their values in all, and the entries that trims have dropped
abbrev pub totals_of_node : Counted → TxcTotals
totals_of_node n = crossing_totals (length n.cache.entries) (bytes_of n.cache.entries) n.totals.trimmed

-- an empty cache, no reply of which was counted
pub record IsOpened (capacity recent : ℕ) (n : Counted) : Type 0 where
  pub empty : n.cache ≡ empty_cache capacity recent
  pub none : AreCountsOf [] n.totals

-- the handle has such a node
abbrev pub HasOpened : ℕ → ℕ → Option Counted → Type 0
HasOpened capacity recent None = ⊥
HasOpened capacity recent (Some n) = IsOpened capacity recent n

-- one reply more was counted, to a step of that function, if it is of one
pub record AddsReply (function : Option ℕ) (reply : Reply HitValue) (old new : Totals) : Type 0 where
  pub functions : (f : ℕ) → counts_of new.functions f
      ≡ sum_of (counts_of old.functions f) (counts_for f function reply)
  pub replies : new.replies ≡ old.replies + 1
  pub events : new.events ≡ old.events + events_by reply
  pub closed : new.closed ≡ old.closed + closed_by reply
  pub swept : new.swept ≡ old.swept + swept_by reply
  pub trimmed : new.trimmed ≡ old.trimmed + trimmed_by reply

-- The totals after a reply: the first 2^64 - 1 replies that are not refusals are counted.
pub record TotalsAfter (function : Option ℕ) (reply : Reply HitValue) (old new : Totals) : Type 0 where
  pub counted : is_refusal reply ≡ false → old.replies + 1 < 2 ^ 64 → AddsReply function reply old new
  pub refused : is_refusal reply ≡ true → new ≡ old
  pub full : 2 ^ 64 ≤ old.replies + 1 → new ≡ old

-- the node after a step: its cache after it, and its reply counted
pub record LeavesCounted (old : Counted) (op : Op) (new : Counted) : Type 0 where
  pub cache : new.cache ≡ after_op MOST_VALUE_LEN old.cache op
  pub totals : TotalsAfter (function_of op) (reply_to MOST_VALUE_LEN old.cache op) old.totals new.totals

-- the handle has a node, which is left so by the one that it had
abbrev pub HasLeft : Counted → Op → Option Counted → Type 0
HasLeft old op None = ⊥
HasLeft old op (Some new) = LeavesCounted old op new

-- the handle after a call: without a node, none; with the same node if an argument is malformed; else with the
-- node after the step
abbrev pub CallLeaves : Option Counted → Option Op → Option Counted → Type 0
CallLeaves None asked new = new ≡ None
CallLeaves (Some n) None new = new ≡ Some n
CallLeaves (Some n) (Some op) new = HasLeft n op new
