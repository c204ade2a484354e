-- Laws of the entries of nodes and of runs.
use Rattle.std.specs.Prelude.{ℕ, Bool, None, suc, ◌≡◌, ◌≤◌, ◌+◌, true, false, List, [], ◌∷◌, ◌++◌, length, Some}
use mathlib.Core.List.{IsPrefix}
use Rattle.txc_tags.specs.Keys.{Call}
use Rattle.txc_db.specs.History.{History, tags_at}
use Rattle.txc_node.specs.declared.entry.Entry.{Entry}
use Rattle.txc_node.specs.declared.hit.HitValue.{HitValue}
use Rattle.txc_node.specs.declared.op.Op.{Op}
use Rattle.txc_node.specs.declared.record.Record.{Record}
use Rattle.txc_node.specs.Cache.{Cache, empty_cache_at, entry_after, replayed_entry, lookup_answer}
use Rattle.txc_node.specs.declared.value.TheConstants.{MOST_VALUE_LEN}
use Rattle.txc_node.specs.Steps.{refusal_of, step_reply, after_step}
use Rattle.txc_app.specs.Eval.{Next}
use Rattle.txc_app.specs.Claims.{IsTrueIn}
use Rattle.txc_shared.specs.Runs.{IsShownTrue, KeepsTags, IsTrueCache, IsNode, IsTrueStep}
use Rattle.txc_shared.specs.Histories.{cache_after, IsOfHistory, IsLegal, events_of, next_record}

-- ---- entries

-- the hit of an entry stays true when the next event is taken
abbrev pub TrueAfterEvent : Type 0
TrueAfterEvent = (next : Next) (L : History) (processed : ℕ) (e : Entry)
    → IsShownTrue next L processed e → suc processed ≤ length L
    → IsShownTrue next L (suc processed) (entry_after (suc processed) (tags_at L (suc processed)) e)

-- a true entry is shown true once the events that it missed are replayed
abbrev pub TrueAfterReplay : Type 0
TrueAfterReplay = (next : Next) (L : History) (c : Cache) (e : Entry)
    → IsTrueIn next L e → e.reach.lo ≤ e.reach.known → KeepsTags L c → c.processed ≤ length L
    → IsShownTrue next L c.processed (replayed_entry c e)

-- ---- histories of a node

-- a node without records and entries, after events that it has seen
abbrev pub NodeBegins : Type 0
NodeBegins = (next : Next) (L : History) (capacity depth from : ℕ)
    → from ≤ length L → IsNode next L (empty_cache_at capacity depth from) [] (empty_cache_at capacity depth from) false

-- the step may be made: it does not fail in the cache, its event is the history's, and its entry is true
pub record MayStep (next : Next) (L : History) (c : Cache) (op : Op) : Type 0 where
  pub possible : refusal_of MOST_VALUE_LEN c op ≡ None
  pub event : IsOfHistory L op
  pub is_true : IsTrueStep next L op

-- a node that makes such a step, with its record
abbrev pub NodeGoesOn : Type 0
NodeGoesOn = (next : Next) (L : History) (start : Cache) (rs : List Record) (c : Cache) (pass : ℕ) (op : Op)
    → IsNode next L start rs c false → MayStep next L c op
    → IsNode next L start (rs ++ next_record pass rs op (step_reply c op) ∷ []) (after_step c op) false

-- a node that makes such a step without its record is broken
abbrev pub NodeBreaks : Type 0
NodeBreaks = (next : Next) (L : History) (start : Cache) (rs : List Record) (c : Cache) (broken : Bool)
    (op : Op)
    → IsNode next L start rs c broken → MayStep next L c op → IsNode next L start rs (after_step c op) true

-- a node that sees a longer history of the database
abbrev pub NodeSeesMore : Type 0
NodeSeesMore = (next : Next) (L M : History) (start : Cache) (rs : List Record) (c : Cache) (broken : Bool)
    → IsPrefix L M → IsNode next L start rs c broken → IsNode next M start rs c broken

-- a legal history is legal in a longer history of the database
abbrev pub LegalInLonger : Type 0
LegalInLonger = (L M : History) (start : Cache) (rs : List Record)
    → IsPrefix L M → IsLegal L start rs → IsLegal M start rs

-- no record is a legal history
abbrev pub NoRecordIsLegal : Type 0
NoRecordIsLegal = (L : History) (start : Cache) → IsLegal L start []

-- the first records of a legal history are legal
abbrev pub BeginningIsLegal : Type 0
BeginningIsLegal = (L : History) (start : Cache) (rs all : List Record)
    → IsPrefix rs all → IsLegal L start all → IsLegal L start rs

-- the result of a lookup in a true cache is true
abbrev pub AnswersAreTrue : Type 0
AnswersAreTrue = (next : Next) (L : History) (c : Cache) (key : Call) (lo hi : ℕ) (found : HitValue)
    → IsTrueCache next L c → lookup_answer c key lo hi ≡ Some found
    → IsTrueIn next L (record { key = key; value = found.value; reach = found.reach; tags = found.tags })

-- a legal history leaves a cache that took as many events more as its records take
abbrev pub EventsAreTaken : Type 0
EventsAreTaken = (L : History) (start : Cache) (rs : List Record)
    → IsLegal L start rs → (cache_after start rs).processed ≡ start.processed + events_of rs
