-- Errors of the calls of a node, and the node after them.
use Rattle.std.specs.Prelude.{◌≡◌, ◌≢◌, ◌⊎◌, ℕ, ◌+◌, ◌^◌, ◌<◌, ◌≤◌, length, true, false}
use mathlib.Core.List.{IsPrefix}
use Rattle.txc_stream.specs.Names.{Name, HasRow}
use Rattle.txc_shared.specs.declared.error.NodeError.{NodeError}
use Rattle.txc_shared.specs.declared.error.NodeError.TheVariants.{Broken, EmptyRange, HistoryFull, PassesFull, Memory}
use Rattle.txc_shared.specs.declared.log.TheConstants.{MAX_PASSES}
use Rattle.txc_shared.specs.declared.settings.NodeSettings.{NodeSettings}
use Rattle.txc_shared.specs.Nodes.{NodeValue, IsHistoryFull, HasRecordRoom}
use Rattle.txc_shared.specs.Passes.{PassValue, DoAgree}

-- a step can be recorded: the node is not broken, and there is room for another record
pub record CanRecord (n : NodeValue) : Type 0 where
  pub whole : n.broken ≡ false
  pub room : HasRecordRoom n.name n.records

-- another record may be in the log after the node's, if its history is stored
pub record MayBeForestalled (n : NodeValue) : Type 0 where
  pub recorded : CanRecord n
  pub in_row : HasRow n.name

-- of a step: broken, or the history is full; and then no memory, or another record in the log
abbrev pub IsStepRefused : NodeValue → NodeError → Type 0
IsStepRefused n Broken = (n.broken ≡ true) ⊎ MayBeForestalled n
IsStepRefused n EmptyRange = ⊥
IsStepRefused n HistoryFull = (n.broken ≡ false) × IsHistoryFull n.name n.records
IsStepRefused n PassesFull = ⊥
IsStepRefused n Memory = CanRecord n

-- a record needs memory if it is stored, or if there are as many as can be counted
abbrev pub MayLackMemory : NodeValue → Type 0
MayLackMemory n = HasRow n.name ⊎ (2 ^ 64 ≤ length n.records + 1)

-- of a sweep or a trim: as of a step; but no memory only for the record
abbrev pub IsTidyRefused : NodeValue → NodeError → Type 0
IsTidyRefused n Memory = CanRecord n × MayLackMemory n
IsTidyRefused n e = IsStepRefused n e

-- the tags of the next event may be unknown: it is not stored
pub record MayLackTags (n : NodeValue) : Type 0 where
  pub recorded : CanRecord n
  pub in_none : ¬ (HasRow n.seen.events)

-- of the next event: as of a step; or broken, if its tags are unknown
abbrev pub IsTakingRefused : NodeValue → NodeError → Type 0
IsTakingRefused n Broken = IsStepRefused n Broken ⊎ MayLackTags n
IsTakingRefused n e = IsStepRefused n e

-- of a lookup: before a full history also that the stamps end before they begin
abbrev pub IsLookupRefused : NodeValue → ℕ → ℕ → NodeError → Type 0
IsLookupRefused n lo hi Broken = (n.broken ≡ true) ⊎ (MayBeForestalled n × (lo ≤ hi))
IsLookupRefused n lo hi EmptyRange = (n.broken ≡ false) × (hi < lo)
IsLookupRefused n lo hi e = IsStepRefused n e × (lo ≤ hi)

-- of counts: broken
abbrev pub IsCountRefused : NodeValue → NodeError → Type 0
IsCountRefused n Broken = n.broken ≡ true
IsCountRefused n e = ⊥

-- of a pass: broken, or too many passes; and then no memory
abbrev pub IsPassRefused : NodeValue → NodeError → Type 0
IsPassRefused n Broken = n.broken ≡ true
IsPassRefused n PassesFull = (n.broken ≡ false) × (MAX_PASSES ≤ n.passes)
IsPassRefused n Memory = (n.broken ≡ false) × (n.passes < MAX_PASSES)
IsPassRefused n e = ⊥

-- the call found another record in the log after the node's: nothing that callers saw has changed, and each
-- later call fails; the cache may have made the step
pub record IsNodeBroken (old new : NodeValue) : Type 0 where
  pub was : old.broken ≡ false
  pub is : new ≡ record old { cache = new.cache; seen = new.seen; broken = true }
  pub events : new.seen.events ≡ old.seen.events
  pub seen : IsPrefix old.seen.history new.seen.history

-- the node after an error: as before; after `Broken`, it was broken before, or is so from now on
abbrev pub IsNodeLeft : NodeValue → NodeValue → NodeError → Type 0
IsNodeLeft old new Broken = ((new ≡ old) × (old.broken ≡ true)) ⊎ IsNodeBroken old new
IsNodeLeft old new e = new ≡ old

-- ---- under the lock

-- through a pass: before all else broken, if the node does not agree with the pass
abbrev pub IsRefusedThrough : (NodeValue → NodeError → Type 0) → NodeValue → PassValue → NodeError → Type 0
IsRefusedThrough refused n p Broken = refused n Broken ⊎ ¬ (DoAgree n p)
IsRefusedThrough refused n p e = refused n e × DoAgree n p

-- of a new pass: before all else broken, if the node has other settings
abbrev pub IsNewPassRefused : NodeSettings → NodeValue → NodeError → Type 0
IsNewPassRefused settings n Broken = (n.broken ≡ true) ⊎ (settings ≢ n.settings)
IsNewPassRefused settings n e = IsPassRefused n e × (settings ≡ n.settings)

-- some node of a named history fails so
abbrev pub NodeMayRefuse : (ℕ → Name) → (NodeValue → NodeError → Type 0) → NodeError → Type 0
NodeMayRefuse histories refused e = (n : NodeValue) × (n.name ≡ histories n.settings.number) × refused n e
