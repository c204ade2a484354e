-- Events that a node takes together.
use Rattle.std.specs.Prelude.{◌≡◌, ℕ, ◌≤◌, List, ◌++◌, length}
use Rattle.txc_stream.specs.Names.{Name}
use Rattle.txc_node.specs.declared.record.Record.{Record}
use Rattle.txc_shared.specs.declared.advanced.Advanced.TheVariants as advances
use Rattle.txc_shared.specs.declared.advanced.Ended.{Ended}
use Rattle.txc_shared.specs.declared.advanced.Ended.TheVariants.{Idle, Paused, Refused}
use Rattle.txc_shared.specs.Histories.{records_of}
use Rattle.txc_shared.specs.Passes.{PassValue, HasGrown, GrowsByOthers, HasTaken, HasTakenEach, IsPassLeft}
use Rattle.txc_shared.specs.Refusals.{IsTakingRefused, IsRefusedThrough, NodeMayRefuse}

-- After `taken` events no event was left that the node had seen, or it had taken as many as it may at once, or
-- the next one failed. In the last case some node of its history fails so, and leaves the pass so.
abbrev pub HasStopped : Name → (ℕ → Name) → ℕ → PassValue → ℕ → Ended → PassValue → Type 0
HasStopped row histories most old taken Idle new = HasTaken row old new advances.Idle
HasStopped row histories most old taken Paused new = (new ≡ old) × (taken ≡ most)
HasStopped row histories most old taken (Refused error) new =
    NodeMayRefuse histories (λ n. IsRefusedThrough IsTakingRefused n old) error
    × IsPassLeft (histories old.settings.number) old new error

-- The pass took that many events, at most `most`, each with a record of its own, and stopped so. If one failed,
-- those before it were taken and are counted.
pub record HasTakenMany (row : Name) (histories : ℕ → Name) (most : ℕ) (old : PassValue) (taken : ℕ) (ended : Ended) (new : PassValue) : Type 0 where
  pub stamps : List ℕ
  pub last : PassValue
  pub took : HasTakenEach row old stamps last
  pub counted : taken ≡ length stamps
  pub few : taken ≤ most
  pub grown : HasGrown last new
  pub end : HasStopped row histories most last taken ended new

-- the observed records are followed by records of other passes, and then by `count` of its own, with none
-- between them
pub record EndTogether (pass count : ℕ) (old new : List Record) : Type 0 where
  pub others : List Record
  pub own : List Record
  pub is : new ≡ old ++ others ++ own
  pub none : records_of pass others ≡ 0
  pub all : records_of pass own ≡ length own
  pub counted : length own ≡ count

-- its own records are adjacent, since they were made under one lock: before and after them are only records of
-- others
pub record StandTogether (pass count : ℕ) (old new : List Record) : Type 0 where
  pub between : List Record
  pub own : EndTogether pass count old between
  pub after : GrowsByOthers pass between new
