-- Laws of read-write transactions.
use Rattle.std.specs.Prelude.{◌≡◌, ◌⊎◌, ℕ, ◌≤◌, true, List, length, Contains}
use mathlib.Core.List.{IsPrefix}
use Rattle.txc_rows.specs.declared.query.Query.{Query}
use Rattle.txc_rows.specs.RowTags.{covers_query}
use Rattle.txc_db.specs.History.{History, state_at}
use Rattle.txc_db.specs.DatabaseReply.{IsQuietIn, IsEventIn}
use Rattle.txc_app.specs.Eval.{Next}
use Rattle.txc_call_registry.specs.Objects.{Objects}
use Rattle.txc_txn_rw.specs.Answers.{AreRightIn}
use Rattle.txc_txn_rw.specs.RwCore.{RwValue, RwHolds, IsBegun, tags_of, tags_read}
use Rattle.txc_txn_rw.specs.Outcomes.{HasChanged, HasChangedNothing, IsCommitted}

-- a transaction that has just begun, in a history that has its base
abbrev pub HoldsAtFirst : Type 0
HoldsAtFirst = (next : Next) (L : History) (objects : Objects) (base : ℕ) (c : RwValue)
    → IsBegun base c → base ≤ length L → RwHolds next L objects c

-- a property that holds in a history holds in each longer one
abbrev pub HoldsInLonger : Type 0
HoldsInLonger = (next : Next) (L M : History) (objects : Objects) (c : RwValue)
    → IsPrefix L M → RwHolds next L objects c → RwHolds next M objects c

-- each answer is right at the base
abbrev pub AnswersAreRight : Type 0
AnswersAreRight = (next : Next) (L : History) (objects : Objects) (c : RwValue)
    → RwHolds next L objects c → AreRightIn next (state_at L c.base) c.answers

-- the tags of the answered queries cover each of these
abbrev pub TagsCoverQueries : Type 0
TagsCoverQueries = (queries : List Query) (q : Query) → Contains queries q
    → covers_query (tags_of queries) q ≡ true

-- if the database committed the changes of a transaction with the tags of its reads, and nothing changed, each
-- result is correct at the newest stamp
abbrev pub QuietCommitsAreRight : Type 0
QuietCommitsAreRight = (next : Next) (L : History) (objects : Objects) (c : RwValue) (stamp : ℕ)
    → RwHolds next L objects c → IsQuietIn L c.base (tags_read c) c.changes stamp
    → HasChangedNothing next L c.changes c.answers stamp

-- and if there is an event, before it
abbrev pub EventCommitsAreRight : Type 0
EventCommitsAreRight = (next : Next) (L : History) (objects : Objects) (c : RwValue) (stamp : ℕ)
    → RwHolds next L objects c → IsEventIn L c.base (tags_read c) c.changes stamp
    → HasChanged next L c.changes c.answers stamp

-- either way, each result is correct at the state to which the changes were made
abbrev pub CommitsAreRight : Type 0
CommitsAreRight = (next : Next) (L : History) (objects : Objects) (c : RwValue) (stamp : ℕ)
    → RwHolds next L objects c
    → IsQuietIn L c.base (tags_read c) c.changes stamp ⊎ IsEventIn L c.base (tags_read c) c.changes stamp
    → IsCommitted next L c stamp
