-- Three snapshots worked by hand, and two faulty histories: a note is missing, and a pin is within a step.
use Rattle.std.specs.Prelude.{◌≡◌, ℕ, zero, suc, ◌*◌, ◌≤◌, Bool, true, false, List, [], ◌∷◌, ◌++◌, take, Option, Some, None, codes}
use Rattle.std.specs.Str.{bytes_eq}
use Rattle.txc_tags.specs.Keys.{Call}
use Rattle.txc_rows.specs.declared.query.Change.TheVariants.{Put}
use Rattle.txc_rows.specs.States.{State}
use Rattle.txc_db.specs.Facts.{commit, EventValue}
use Rattle.txc_db.specs.History.{History, state_at, pin_event}
use Rattle.txc_app.specs.Eval.{eval, small_limits}
use Rattle.txc_app_external.specs.Snapshots.{Read, Tag, Snapshots, ReadsAreCovered, version_row, IsVersionTable}
use Rattle.txc_app_external.specs.Functions.{OwnAct, read, call, done, Functions, uncached, over_versions}
use Rattle.txc_app_external.specs.VersionHistory.{FollowsSnapshots}
use Rattle.txc_app_external.specs.Laws.{AreNumbered, ValuesAreUncached}

-- ---- a database

-- a tag of an item, and one of its bids
abbrev pub item : Tag
item = record { table = 0; id = 7 }

abbrev pub bids : Tag
bids = record { table = 1; id = 7 }

-- a read of the item's price; any other is one of its highest bid
abbrev pub price : Read
price = codes "price"

abbrev pub highest : Read
highest = codes "highest"

-- the price is a, b and c in the three snapshots, and the highest bid p, p and q
abbrev pub worked_find : ℕ → Bool → List ℕ
worked_find zero true = codes "a"
worked_find (suc zero) true = codes "b"
worked_find (suc (suc k)) true = codes "c"
worked_find zero false = codes "p"
worked_find (suc zero) false = codes "p"
worked_find (suc (suc k)) false = codes "q"

-- the price is covered by the item, any other read by its bids
abbrev pub worked_tags : Bool → List Tag
worked_tags true = item ∷ []
worked_tags false = bids ∷ []

-- that database, if these tags were noted
abbrev pub noted : List (List Tag) → Snapshots
noted steps = record {
  steps = steps;
  tags_of = λ r. worked_tags (bytes_eq r price);
  find = λ k r. worked_find k (bytes_eq r price);
  moment = λ k. k * 1000;
}

-- the first step noted the item; the second one the item again, twice, and its bids
abbrev pub worked_database : Snapshots
worked_database = noted ((item ∷ []) ∷ (item ∷ bids ∷ item ∷ []) ∷ [])

-- function 0 returns the highest bid, and function 1 the price before the value of function 0
abbrev pub worked_acts : ℕ → List (List ℕ) → Option OwnAct
worked_acts zero [] = Some (read highest)
worked_acts zero (bid ∷ more) = Some (done bid)
worked_acts (suc zero) [] = Some (read price)
worked_acts (suc zero) (amount ∷ []) = Some (call (record { function = 0; args = [] }))
worked_acts (suc zero) (amount ∷ bid ∷ more) = Some (done (amount ++ bid))
worked_acts (suc (suc f)) results = None

abbrev pub worked_functions : Functions
worked_functions = record { acts = λ function args results. worked_acts function results; limits = small_limits }

-- a call of function 1
abbrev pub page : Call
page = record { function = 1; args = [] }

-- ---- its version tables, and a call of function 1

abbrev pub table_1 : State
table_1 = version_row item 1 ∷ []

abbrev pub table_2 : State
table_2 = version_row item 2 ∷ version_row bids 2 ∷ []

pub record WorkedSnapshots : Type 0 where
  pub premise : ReadsAreCovered worked_database
  pub numbered : AreNumbered worked_database
  pub first : IsVersionTable worked_database 0 []
  pub second : IsVersionTable worked_database 1 table_1
  pub third : IsVersionTable worked_database 2 table_2

-- the call has this value over the state, and as its uncached value in snapshot k
abbrev pub HasBoth : ℕ → State → List ℕ → Type 0
HasBoth k s value = (eval (over_versions worked_database worked_functions) page s ≡ Some value)
    × (uncached worked_functions (worked_database.find k) page ≡ Some value)

pub record WorkedValues : Type 0 where
  pub first : HasBoth 0 [] (codes "ap")
  pub second : HasBoth 1 table_1 (codes "bp")
  pub third : HasBoth 2 table_2 (codes "cq")

-- ---- histories

-- a commit of the tag's row with the number of the step
abbrev pub puts : Tag → ℕ → EventValue
puts t k = record { fact = commit (Put (version_row t k) ∷ []); tags = [] }

-- pins between the steps, of which the second is put by two commits
abbrev pub worked_history : History
worked_history = pin_event 0 ∷ puts item 1 ∷ pin_event 900 ∷ puts item 2 ∷ puts bids 2 ∷ pin_event 2000 ∷ []

pub record WorkedFollowing : Type 0 where
  pub follows : FollowsSnapshots worked_database worked_history
  pub begun : FollowsSnapshots worked_database (take 4 worked_history)
  pub first : state_at worked_history 1 ≡ []
  pub second : state_at worked_history 3 ≡ table_1
  pub third : state_at worked_history 6 ≡ table_2

-- ---- examples that fail

-- the second step did not note the item
abbrev pub missing : Snapshots
missing = noted ((item ∷ []) ∷ (bids ∷ []) ∷ [])

abbrev pub missing_table : State
missing_table = version_row item 1 ∷ version_row bids 2 ∷ []

abbrev pub missing_history : History
missing_history = puts item 1 ∷ puts bids 2 ∷ pin_event 2000 ∷ []

-- Then a cached value is the uncached one of no snapshot: the price of the second with the bid of the third. So
-- the conclusion of the law is false without its premise.
pub record MissingNote : Type 0 where
  pub numbered : AreNumbered missing
  pub follows : FollowsSnapshots missing missing_history
  pub state : state_at missing_history 3 ≡ missing_table
  pub table : IsVersionTable missing 2 missing_table
  pub cached : eval (over_versions missing worked_functions) page missing_table ≡ Some (codes "bq")
  pub torn : (k : ℕ) → uncached worked_functions (missing.find k) page ≡ Some (codes "bq") → ⊥
  pub premise : ReadsAreCovered missing → ⊥
  pub needed : ValuesAreUncached missing → ⊥

-- a pin between the two commits of the second step
abbrev pub torn_history : History
torn_history = pin_event 0 ∷ puts item 1 ∷ pin_event 900 ∷ puts item 2 ∷ pin_event 2000 ∷ puts bids 2 ∷ []

-- the state at that pin is the version table of no snapshot: it has the price of the third with the bid of the
-- first
pub record PinWithinStep : Type 0 where
  pub none : (k : ℕ) → k ≤ 2 → IsVersionTable worked_database k (state_at torn_history 5) → ⊥
  pub torn : eval (over_versions worked_database worked_functions) page (state_at torn_history 5) ≡ Some (codes "cp")
  pub no_other : (k : ℕ) → uncached worked_functions (worked_database.find k) page ≡ Some (codes "cp") → ⊥
  pub follows : FollowsSnapshots worked_database torn_history → ⊥
