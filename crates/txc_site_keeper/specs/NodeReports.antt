-- The effect of a keeper's step on the nodes of a site.
use Rattle.std.specs.Prelude.{◌≡◌, ℕ, List, [], ◌∷◌, Option, Some, None, Ok, Err, IfErr, IfOk, Result}
use Rattle.txc_stream.specs.Names.{Name}
use Rattle.txc_node.specs.declared.op.Op.TheVariants.{Sweep, Trim}
use Rattle.txc_node.specs.declared.reply.Reply.TheVariants.{Swept, Trimmed}
use Rattle.txc_shared.specs.declared.advanced.Ended.{Ended}
use Rattle.txc_shared.specs.declared.advanced.Ended.TheVariants.{Refused}
use Rattle.txc_shared.specs.declared.error.NodeError.{NodeError}
use Rattle.txc_shared.specs.Passes.{HasMade}
use Rattle.txc_site_keeper.specs.Room.{IsRoomLeft}
use Rattle.txc_shared.specs.Refusals.{IsTidyRefused}
use Rattle.txc_shared.specs.EventBatch.{HasTakenMany}
use Rattle.txc_site_ledger.specs.CommitCounter.{counted_again}
use Rattle.txc_site_keeper.specs.KeeperNodes.{KeeperNodeValue, HasNotRefused, HasBeenRefused, IsSamePass}
use Rattle.txc_site_keeper.specs.declared.keeper.NodeReport.{NodeReport}
use Rattle.txc_site_keeper.specs.declared.keeper.TheConstants.{MAX_TAKEN}

-- the number of the node's errors, after its taking of events ended so
abbrev pub refusals_after : ℕ → Ended → ℕ
refusals_after refusals (Refused error) = counted_again refusals
refusals_after refusals ended = refusals

-- the node took `taken` events, at most `most`, for the keeper's pass, and ended so; an error is counted
pub record HasTakenEvents (row : Name) (histories : ℕ → Name) (most : ℕ) (old : KeeperNodeValue) (taken : ℕ) (ended : Ended) (new : KeeperNodeValue) : Type 0 where
  pub took : HasTakenMany row histories most old.pass taken ended new.pass
  pub refusals : new.refusals ≡ refusals_after old.refusals ended

-- the node was swept and dropped this many entries, or failed; without a horizon it was not swept
abbrev pub HasSwept : (ℕ → Name) → KeeperNodeValue → Option ℕ → Option (Result ℕ NodeError) → KeeperNodeValue → Type 0
HasSwept histories old (Some horizon) (Some result) new =
    IfOk result (λ count. HasMade old.pass new.pass (Sweep horizon) (Swept count) × HasNotRefused old new)
    × IfErr result (λ error. HasBeenRefused histories IsTidyRefused old error new)
HasSwept histories old None None new = new ≡ old
HasSwept histories old horizon swept new = ⊥

-- the node was trimmed to its budget and dropped this many entries, or failed; without a budget it was not
-- trimmed
abbrev pub HasTrimmed : (ℕ → Name) → KeeperNodeValue → Option ℕ → Option (Result ℕ NodeError) → KeeperNodeValue → Type 0
HasTrimmed histories old (Some most) (Some result) new =
    IfOk result (λ count. HasMade old.pass new.pass (Trim most) (Trimmed count) × HasNotRefused old new)
    × IfErr result (λ error. HasBeenRefused histories IsTidyRefused old error new)
HasTrimmed histories old None None new = new ≡ old
HasTrimmed histories old budget trimmed new = ⊥

-- the effect on a keeper's node, which keeps its pass, and the remaining room in the history as its pass has
-- seen it
pub record HasKeptNode (row : Name) (histories : ℕ → Name) (horizon : Option ℕ) (old : KeeperNodeValue) (kept : NodeReport) (new : KeeperNodeValue) : Type 0 where
  pub between : KeeperNodeValue
  pub after : KeeperNodeValue
  pub advanced : HasTakenEvents row histories MAX_TAKEN old kept.taken kept.ended between
  pub swept : HasSwept histories between horizon kept.swept after
  pub trimmed : HasTrimmed histories after old.budget kept.trimmed new
  pub same : IsSamePass old new
  pub left : IsRoomLeft (histories new.pass.settings.number) new.pass.records kept.records_left

-- the same of each node, in order
abbrev pub HaveKept : Name → (ℕ → Name) → Option ℕ → List KeeperNodeValue → List NodeReport → List KeeperNodeValue → Type 0
HaveKept row histories horizon [] [] [] = Unit {0}
HaveKept row histories horizon (old ∷ olds) (kept ∷ all) (new ∷ news) =
    HasKeptNode row histories horizon old kept new × HaveKept row histories horizon olds all news
HaveKept row histories horizon olds all news = ⊥

-- the horizon, if there is one
abbrev pub ok_of : {T E : Type 0} → Result T E → Option T
ok_of (Ok x) = Some x
ok_of (Err e) = None
