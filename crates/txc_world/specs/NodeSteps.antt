-- The effect of a step at a node.
use Rattle.std.specs.Prelude.{◌≡◌, ◌⊎◌, ℕ, Result, Ok, Err, Option, Some, None, false}
use Rattle.txc_tags.specs.Keys.{Call}
use Rattle.txc_db.specs.FrontsAndFeeds.{FrontValue}
use Rattle.txc_node.specs.declared.entry.Entry.{Entry}
use Rattle.txc_node.specs.declared.hit.HitValue.{HitValue}
use Rattle.txc_node.specs.declared.op.Op.TheVariants.{Insert, Lookup, Sweep}
use Rattle.txc_node.specs.Cache.{lookup_answer, outcome, swept_count}
use Rattle.txc_shared.specs.declared.advanced.Advanced.{Advanced}
use Rattle.txc_shared.specs.declared.error.NodeError.{NodeError}
use Rattle.txc_shared.specs.declared.error.NodeError.TheVariants.{Memory}
use Rattle.txc_shared.specs.declared.insertion.Insertion.{Insertion}
use Rattle.txc_shared.specs.Nodes.{NodeValue, after_call, seeing, insertion_of, HasAdvanced, IsLonger}
use Rattle.txc_shared.specs.Refusals.{CanRecord, IsLookupRefused, IsNodeLeft, IsStepRefused, IsTakingRefused}

-- the node failed at the lookup
abbrev pub HasRefusedLookup : NodeValue → ℕ → ℕ → NodeValue → Type 0
HasRefusedLookup old lo hi new = (e : NodeError) × IsLookupRefused old lo hi e × IsNodeLeft old new e

-- Of a lookup: the node made the step, and returns its entry of the call, or has none; or it failed, which is a
-- miss.
abbrev pub LookupTransition : ℕ → Call → ℕ → ℕ → NodeValue → NodeValue → Option HitValue → Type 0
LookupTransition pass key lo hi old new (Some shown) = (new ≡ after_call old pass (Lookup key lo hi))
    × (lookup_answer old.cache key lo hi ≡ Some shown)
LookupTransition pass key lo hi old new None =
    ((new ≡ after_call old pass (Lookup key lo hi)) × (lookup_answer old.cache key lo hi ≡ None))
    ⊎ HasRefusedLookup old lo hi new

-- the node has seen what the front shows, and then made the step of the insertion
pub record NodeHasInserted (pass : ℕ) (seen : FrontValue) (entry : Entry) (old new : NodeValue)
    (insertion : Insertion) : Type 0 where
  pub longer : IsLonger old.seen seen new.seen
  pub after : new ≡ after_call (seeing old new.seen) pass (Insert entry)
  pub answer : insertion ≡ insertion_of (outcome old.cache entry)

-- the node failed at the step
abbrev pub HasRefusedStep : NodeValue → NodeValue → Type 0
HasRefusedStep old new = (e : NodeError) × IsStepRefused old e × IsNodeLeft old new e

-- Of an insertion: the node made the step; or it failed, and stores nothing.
abbrev pub InsertTransition : ℕ → FrontValue → Entry → NodeValue → NodeValue → Option Insertion → Type 0
InsertTransition pass seen entry old new (Some insertion) = NodeHasInserted pass seen entry old new insertion
InsertTransition pass seen entry old new None = HasRefusedStep old new

-- ---- steps of the keeper

-- of an advance: as of any event that is taken; but memory may be missing before a full history, since the
-- front of the whole is made first
abbrev pub IsAdvanceRefused : NodeValue → NodeError → Type 0
IsAdvanceRefused n Memory = n.broken ≡ false
IsAdvanceRefused n e = IsTakingRefused n e

-- of an advance: the node has seen the whole history, and took the next event, or has taken all; or it failed
abbrev pub AdvanceTransition : ℕ → FrontValue → NodeValue → NodeValue → Result Advanced NodeError → Type 0
AdvanceTransition pass whole old new (Ok advanced) = (old.broken ≡ false)
    × HasAdvanced (seeing old whole) pass new advanced
AdvanceTransition pass whole old new (Err e) = IsNodeLeft old new e × IsAdvanceRefused old e

-- of a sweep: the node made the step, and returns how many entries it dropped; or it failed
abbrev pub SweepTransition : ℕ → ℕ → NodeValue → NodeValue → Result ℕ NodeError → Type 0
SweepTransition pass horizon old new (Ok count) = CanRecord old × (new ≡ after_call old pass (Sweep horizon))
    × (count ≡ swept_count old.cache horizon)
SweepTransition pass horizon old new (Err e) = IsNodeLeft old new e × IsStepRefused old e
