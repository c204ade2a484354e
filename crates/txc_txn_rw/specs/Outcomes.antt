-- The effect of a successful commit, and the stamp at which all results are correct.
use Rattle.std.specs.Prelude.{◌≡◌, ◌≢◌, ◌⊎◌, ℕ, ◌+◌, List, [], length, Some}
use Rattle.txc_rows.specs.declared.query.Change.{Change}
use Rattle.txc_rows.specs.Net.{net_changes}
use Rattle.txc_db.specs.History.{History, state_at, event_at, commit_event}
use Rattle.txc_app.specs.Eval.{Next}
use Rattle.txc_txn_rw.specs.declared.given.Given.{Given}
use Rattle.txc_txn_rw.specs.Answers.{AreRightIn}
use Rattle.txc_txn_rw.specs.RwCore.{RwValue}

-- the changes change nothing in the newest state, and each answer is right there
pub record HasChangedNothing (next : Next) (L : History) (changes : List Change) (answers : List Given)
    (stamp : ℕ) : Type 0 where
  pub newest : stamp ≡ length L
  pub none : net_changes (state_at L stamp) changes ≡ []
  pub right : AreRightIn next (state_at L stamp) answers

-- the newest event is the commit of the net changes over the state before it, and each answer is right in
-- that state
pub record HasChanged (next : Next) (L : History) (changes : List Change) (answers : List Given)
    (stamp : ℕ) : Type 0 where
  pub before : ℕ
  pub one_more : stamp ≡ before + 1
  pub newest : stamp ≡ length L
  pub some : net_changes (state_at L before) changes ≢ []
  pub event : event_at L stamp ≡ Some (commit_event (state_at L before) changes)
  pub right : AreRightIn next (state_at L before) answers

-- the commit that left this stamp changed something, or nothing
abbrev pub IsCommitted : Next → History → RwValue → ℕ → Type 0
IsCommitted next L c stamp = HasChangedNothing next L c.changes c.answers stamp
    ⊎ HasChanged next L c.changes c.answers stamp
