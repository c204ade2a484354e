-- The generations of a site, one after the other.
use Rattle.std.specs.Prelude.{◌≡◌, ◌⊎◌, ℕ, ◌+◌, ◌≤◌, max, Bool, true, false, List, [], ◌∷◌, ◌++◌, All, Option, Result, Ok, Err, Vec, length, map, vec_len}
use Rattle.std.specs.declared.alloc.Global.{Global}
use Rattle.txc_stream.specs.Names.{Name}
use mathlib.Core.List.{IsPrefix}
use Rattle.txc_app.specs.Eval.{Next}
use Rattle.txc_db_carry.specs.Carry.{IsCarryRefused}
use Rattle.txc_db_carry.specs.Rooms.{IsHistoryFor, room_for}
use Rattle.txc_db.specs.declared.error.DbError.TheVariants as databases
use Rattle.txc_db.specs.DatabaseValue.{DatabaseValue, front_of}
use Rattle.txc_db.specs.History.{state_at}
use Rattle.txc_db.specs.FrontsAndFeeds.{FrontValue}
use Rattle.txc_rows.specs.States.{State}
use Rattle.txc_txn_rw.specs.RwCore.{RwValue}
use Rattle.txc_txn_rw.specs.declared.rw_txn.Committed.{Committed}
use Rattle.txc_site.specs.declared.error.GenerationError.{GenerationError}
use Rattle.txc_site.specs.declared.error.GenerationError.TheVariants as generations
use Rattle.txc_site.specs.declared.generations.OpeningCommit.{OpeningCommit}
use Rattle.txc_site.specs.declared.generations.GenerationsResult.{GenerationsResult}
use Rattle.txc_site_workers.specs.declared.plan.Plan.{Plan}
use Rattle.txc_site.specs.declared.recurring.Generation.{Generation}
use Rattle.txc_site_workers.specs.Sites.{AreWorkersRefused, HaveCome}
use Rattle.txc_site_workers.specs.SiteKeeperByPlan.{IsTendedAsPlanned}
use Rattle.txc_site_ledger.specs.ChangeResult.{IsWritten}

-- the state after all events that a front shows
abbrev pub last_state : FrontValue → State
last_state front = state_at front.history (length front.history)

-- as short as a history that has just begun with its state: no more events than that has rows, or one
abbrev pub IsShort : FrontValue → Type 0
IsShort front = length front.history ≤ max 1 (length (last_state front))

-- A generation over a database whose history is stored by the plan. Its history at the end extends that at the
-- beginning. There are `count` outputs, each of which the thread of its number gives there. Its own keeper kept
-- as the plan prescribes, at moments of the clock.
pub record IsGeneration {T : Type 0} (plan : Plan) (tells : ℕ → Type 0) (count : ℕ) (gives : Plan → Name → ℕ → T → Type 0) (g : Generation T) : Type 0 where
  pub room : IsHistoryFor plan.events g.begun.events
  pub row : g.ended.events ≡ g.begun.events
  pub goes_on : IsPrefix g.begun.history g.ended.history
  pub each : vec_len g.outputs ≡ count
  pub came : HaveCome (gives plan g.begun.events) g.outputs.items
  pub tended : IsTendedAsPlanned plan tells g.begun.events g.tended

-- The next generation has the next number. It begins with the state that the one before ended with, in a
-- history as short as one that has just begun.
pub record ComesAfter {T : Type 0} (g next : Generation T) : Type 0 where
  pub number : next.number ≡ g.number + 1
  pub state : last_state next.begun ≡ last_state g.ended
  pub anew : IsShort next.begun

-- each comes after the one before it
abbrev pub ComeAfter : {T : Type 0} → Generation T → List (Generation T) → Type 0
ComeAfter g [] = Unit {0}
ComeAfter g (next ∷ rest) = ComesAfter g next × ComeAfter next rest

-- the first has the number 0 and begins with what the opening left, and each other comes after the one before
-- it
abbrev pub AreInTurn : {T : Type 0} → FrontValue → List (Generation T) → Type 0
AreInTurn opened [] = Unit {0}
AreInTurn opened (first ∷ rest) = (first.number ≡ 0) × (first.begun ≡ opened) × ComeAfter first rest

-- it is the last of them, after those
abbrev pub IsLast : {T : Type 0} → List (Generation T) → Generation T → List (Generation T) → Type 0
IsLast before last all = all ≡ before ++ last ∷ []

-- ---- the end

-- of a generation: an error of its workers; or its database gave no front of its whole history
abbrev pub IsGenerationRefused : List ℕ → GenerationError → Type 0
IsGenerationRefused numbers (generations.Workers error) = AreWorkersRefused numbers error
IsGenerationRefused numbers (generations.Ended error) = (error ≡ databases.Memory) ⊎ (error ≡ databases.Broken)
IsGenerationRefused numbers error = ⊥

-- of the next one: the carry failed in a database of that history; or there is no memory
abbrev pub IsNextRefused : Option ℕ → FrontValue → GenerationError → Type 0
IsNextRefused room ended (generations.Carry error) = (d : DatabaseValue) × (front_of d ≡ ended) × IsCarryRefused d (room_for room) error
IsNextRefused room ended generations.Memory = Unit {0}
IsNextRefused room ended error = ⊥

-- after these generations: the next one failed, or the last one's entries could not be carried over, or there
-- was no memory
abbrev pub IsEndRefused : {T : Type 0} → Option ℕ → List ℕ → List (Generation T) → GenerationError → Type 0
IsEndRefused {T} room numbers all (generations.Carry error) =
    (before : List (Generation T)) × (last : Generation T) × IsLast before last all × IsNextRefused room last.ended (generations.Carry error)
IsEndRefused room numbers all generations.Memory = Unit {0}
IsEndRefused room numbers all error = IsGenerationRefused numbers error

-- The workers wanted another generation after each but the last, and none after that; or one after each, and
-- there was none.
abbrev pub GenerationsHaveEnded : {T U : Type 0} → (Generation T → Bool → Type 0) → Option ℕ → List ℕ → List (Generation T) → Result U GenerationError → Type 0
GenerationsHaveEnded {T} goes room numbers all (Ok u) = (before : List (Generation T)) × (last : Generation T) × IsLast before last all
    × All (λ g. goes g true) before × goes last false
GenerationsHaveEnded goes room numbers all (Err error) = All (λ g. goes g true) all × IsEndRefused room numbers all error

-- The generations came in turn, from the state after the opening, each over its own database, whose history is
-- stored by the plan. Their outputs are in their order.
pub record HaveServed {T U : Type 0} (plan : Plan) (tells : ℕ → Type 0) (count : ℕ) (numbers : List ℕ) (gives : Plan → Name → ℕ → T → Type 0)
    (goes : Generation T → Bool → Type 0) (opened : FrontValue) (came : List (Vec T Global)) (end : Result U GenerationError) : Type 0 where
  pub generations : List (Generation T)
  pub outputs : came ≡ map (λ g. g.outputs) generations
  pub each : All (IsGeneration plan tells count gives) generations
  pub turns : AreInTurn opened generations
  pub ended : GenerationsHaveEnded goes plan.events numbers generations end

-- the commit of an opening that left this front
abbrev pub committed_with : {O : Type 0} → OpeningCommit O → FrontValue → Committed
committed_with opened front = record { stamp = opened.stamp; answers = opened.answers; front = front }

-- Over a database whose history is stored by the plan, the opening was committed in its first run. The
-- generations came after it.
pub record IsServed {O T : Type 0} (next : Next) (plan : Plan) (tells : ℕ → Type 0) (count : ℕ) (numbers : List ℕ) (makes : RwValue → O → Type 0)
    (gives : Plan → Name → ℕ → T → Type 0) (goes : Generation T → Bool → Type 0) (served : GenerationsResult O T) : Type 0 where
  pub front : FrontValue
  pub room : IsHistoryFor plan.events front.events
  pub opened : IsWritten next front.events makes served.opening.output (committed_with served.opening front)
  pub once : vec_len served.opening.conflicts ≡ 0
  pub came : HaveServed plan tells count numbers gives goes front served.generations.items served.end
