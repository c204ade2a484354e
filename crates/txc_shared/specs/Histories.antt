-- Histories of a node: lists of records, each of a step of the versioned cache.
use Rattle.std.specs.Prelude.{◌≡◌, None, ℕ, ◌≤◌, ◌==◌, List, length, fold, count_by, Bool, true, false}
use Rattle.txc_db.specs.History.{History, tags_at}
use Rattle.txc_node.specs.Cache.{Cache}
use Rattle.txc_node.specs.Steps.{refusal_of, step_reply, after_step}
use Rattle.txc_node.specs.declared.value.TheConstants.{MOST_VALUE_LEN}
use Rattle.txc_node.specs.declared.hit.HitValue.{HitValue}
use Rattle.txc_node.specs.declared.op.Op.{Op}
use Rattle.txc_node.specs.declared.op.Op.TheVariants.{Insert, Lookup, Event, Sweep, Trim}
use Rattle.txc_node.specs.declared.reply.Reply.{Reply}
use Rattle.txc_node.specs.declared.record.Record.{Record}
use Rattle.txc_app.specs.EachAfter.{EachAfter}

-- the cache after the steps of these records
abbrev pub cache_after : Cache → List Record → Cache
cache_after c rs = fold (λ (before : Cache) (r : Record). after_step before r.op) c rs

-- an event is one of the database's history, with its tags
abbrev pub IsOfHistory : History → Op → Type 0
IsOfHistory L (Event stamp tags) = (stamp ≤ length L) × (tags ≡ tags_at L stamp)
IsOfHistory L (Lookup key lo hi) = Unit {0}
IsOfHistory L (Insert e) = Unit {0}
IsOfHistory L (Sweep horizon) = Unit {0}
IsOfHistory L (Trim most) = Unit {0}

-- the number of the records that a pass made
abbrev pub records_of : ℕ → List Record → ℕ
records_of pass rs = count_by (λ (r : Record). r.pass == pass) rs

-- The record may follow those before it: its step does not fail in the cache that they leave, and has that
-- reply; its event is the history's; and its turn is the number of records that its pass made before.
pub record IsNext (L : History) (start : Cache) (before : List Record) (r : Record) : Type 0 where
  pub possible : refusal_of MOST_VALUE_LEN (cache_after start before) r.op ≡ None
  pub reply : r.reply ≡ step_reply (cache_after start before) r.op
  pub event : IsOfHistory L r.op
  pub turn : r.turn ≡ records_of r.pass before

-- a legal history of a node that began with this cache: each record may follow those before it
pub record IsLegal (L : History) (start : Cache) (rs : List Record) : Type 0 where
  pub each : EachAfter (IsNext L start) rs

-- the step takes an event
abbrev pub is_event : Op → Bool
is_event (Event stamp tags) = true
is_event (Lookup key lo hi) = false
is_event (Insert e) = false
is_event (Sweep horizon) = false
is_event (Trim most) = false

-- the number of the records that take an event
abbrev pub events_of : List Record → ℕ
events_of rs = count_by (λ (r : Record). is_event r.op) rs

-- the next record of a pass
abbrev pub next_record : ℕ → List Record → Op → Reply HitValue → Record
next_record pass rs op reply = record { pass = pass; turn = records_of pass rs; op = op; reply = reply }
