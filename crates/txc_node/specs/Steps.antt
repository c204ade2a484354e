-- Steps as values: requests to a node, its replies, and the cache after them.
use Rattle.std.specs.Prelude.{◌≡◌, ℕ, ◌+◌, Bool, true, false, Option, Some, None, nat_lt, ◌==◌, ◌⊎◌, if◌then◌else◌, length}
use Rattle.txc_node.specs.declared.entry.Entry.{Entry}
use Rattle.txc_node.specs.declared.entry.EntryError.{EntryError}
use Rattle.txc_node.specs.declared.entry.EntryError.TheVariants as entries
use Rattle.txc_node.specs.declared.hit.Hit.{Hit}
use Rattle.txc_node.specs.declared.hit.HitValue.{HitValue}
use Rattle.txc_node.specs.declared.op.Op.{Op}
use Rattle.txc_node.specs.declared.op.Op.TheVariants.{Insert, Lookup, Event, Sweep, Trim}
use Rattle.txc_node.specs.declared.refusal.Refusal.{Refusal}
use Rattle.txc_node.specs.declared.refusal.Refusal.TheVariants.{EmptyRange, BadReach, OutOfOrder, ValueTooLong, Memory}
use Rattle.txc_node.specs.declared.reply.Reply.{Reply}
use Rattle.txc_node.specs.declared.reply.Reply.TheVariants as replies
use Rattle.txc_node.specs.Hit.{seen}
use Rattle.txc_node.specs.Cache.{Cache, lookup_answer, after_lookup, is_kept, outcome, after_insert, closed_count, after_event, swept_count, after_sweep, trimmed_count, after_trim}

-- the function whose call is looked up or inserted
abbrev pub function_of : Op → Option ℕ
function_of (Insert e) = Some e.key.function
function_of (Lookup key lo hi) = Some key.function
function_of (Event stamp tags) = None
function_of (Sweep horizon) = None
function_of (Trim most) = None

-- ---- replies

-- the reply is an error
abbrev pub is_refusal : {H : Type 0} → Reply H → Bool
is_refusal (replies.Inserted inserted) = false
is_refusal (replies.Hit hit) = false
is_refusal replies.Miss = false
is_refusal (replies.Closed count) = false
is_refusal (replies.Swept count) = false
is_refusal (replies.Trimmed count) = false
is_refusal (replies.Refused refusal) = true

-- the reply, with a copy of its hit
abbrev pub seen_reply : Reply Hit → Reply HitValue
seen_reply (replies.Inserted inserted) = replies.Inserted inserted
seen_reply (replies.Hit hit) = replies.Hit (seen hit)
seen_reply replies.Miss = replies.Miss
seen_reply (replies.Closed count) = replies.Closed count
seen_reply (replies.Swept count) = replies.Swept count
seen_reply (replies.Trimmed count) = replies.Trimmed count
seen_reply (replies.Refused refusal) = replies.Refused refusal

-- the reply of a lookup, by its result
abbrev pub found_reply : Option HitValue → Reply HitValue
found_reply None = replies.Miss
found_reply (Some shown) = replies.Hit shown

-- ---- errors

-- the error of a step for an entry that cannot be made
abbrev pub refusal_by : EntryError → Refusal
refusal_by entries.BadReach = BadReach
refusal_by entries.ValueTooLong = ValueTooLong

-- the error of such an entry, if a value may have at most `longest` bytes: its last known stamp is below its
-- first; or else its value is too long
abbrev pub entry_refusal : ℕ → Entry → Option Refusal
entry_refusal longest e =
    if nat_lt e.reach.known e.reach.lo then Some BadReach
    else (if nat_lt longest (length e.value) then Some ValueTooLong else None)

-- The error of a step, if a value may have at most `longest` bytes, whatever memory is left: an entry that
-- cannot be made; stamps of a lookup that end before they begin; an event that is not the next.
abbrev pub refusal_of : ℕ → Cache → Op → Option Refusal
refusal_of longest c (Insert e) = entry_refusal longest e
refusal_of longest c (Lookup key lo hi) = if nat_lt hi lo then Some EmptyRange else None
refusal_of longest c (Event stamp tags) = if stamp == c.processed + 1 then None else Some (OutOfOrder c.processed)
refusal_of longest c (Sweep horizon) = None
refusal_of longest c (Trim most) = None

-- ---- steps

-- the reply of a step that does not fail
abbrev pub step_reply : Cache → Op → Reply HitValue
step_reply c (Insert e) = replies.Inserted (outcome c e)
step_reply c (Lookup key lo hi) = found_reply (lookup_answer c key lo hi)
step_reply c (Event stamp tags) = replies.Closed (closed_count c stamp tags)
step_reply c (Sweep horizon) = replies.Swept (swept_count c horizon)
step_reply c (Trim most) = replies.Trimmed (trimmed_count c most)

-- the cache that it leaves
abbrev pub after_step : Cache → Op → Cache
after_step c (Insert e) = after_insert c e
after_step c (Lookup key lo hi) = after_lookup c key lo hi
after_step c (Event stamp tags) = after_event c stamp tags
after_step c (Sweep horizon) = after_sweep c horizon
after_step c (Trim most) = after_trim c most

-- a step fails with the error, or has its reply
abbrev pub reply_by : Option Refusal → Reply HitValue → Reply HitValue
reply_by None reply = reply
reply_by (Some refusal) reply = replies.Refused refusal

-- the reply if memory can be allocated and a value may have at most `longest` bytes
abbrev pub reply_to : ℕ → Cache → Op → Reply HitValue
reply_to longest c op = reply_by (refusal_of longest c op) (step_reply c op)

-- a failed step changes nothing
abbrev pub cache_by : Option Refusal → Cache → Cache → Cache
cache_by None c next = next
cache_by (Some refusal) c next = c

-- the cache that is left then
abbrev pub after_op : ℕ → Cache → Op → Cache
after_op longest c op = cache_by (refusal_of longest c op) c (after_step c op)

-- a step that may fail for memory: an insertion that does not keep an old entry
abbrev pub MayGrow : ℕ → Cache → Op → Type 0
MayGrow longest c (Insert e) = (entry_refusal longest e ≡ None) × (is_kept c e ≡ false)
MayGrow longest c (Lookup key lo hi) = ⊥
MayGrow longest c (Event stamp tags) = ⊥
MayGrow longest c (Sweep horizon) = ⊥
MayGrow longest c (Trim most) = ⊥

-- The step has this reply, and leaves that cache: those with memory at hand; or it may need memory, fails for
-- it, and changes nothing.
abbrev pub MayReply : ℕ → Cache → Op → Reply HitValue → Cache → Type 0
MayReply longest c op reply next =
    ((reply ≡ reply_to longest c op) × (next ≡ after_op longest c op))
    ⊎ (MayGrow longest c op × (reply ≡ replies.Refused Memory) × (next ≡ c))
