-- Calls of the database that only make its history longer.
use Rattle.std.proofs.Common.{◌≡◌, ℕ, List, [], ◌∷◌, Some, ap, sym, subst}
use Rattle.std.specs.Prelude.{Result, Ok, Err, IfErr, OnErr, OnOk}
use mathlib.Core.List.{IsPrefix}
use Rattle.txc_rows.specs.declared.query.Change.{Change}
use Rattle.txc_stream.proofs.Offered.{prefix_push, prefix_self}
use Rattle.txc_db.specs.Calls.{IsLeft}
use Rattle.txc_db.specs.DatabaseValue.{DatabaseValue, after_commit, after_event_of, after_hold, after_vacuum, newest_net, newest_state, where_some}
use Rattle.txc_db.specs.History.{commit_event, History}
use Rattle.txc_db.specs.declared.error.DbError.{DbError}
use Rattle.txc_caller.specs.Ports.{AreLetGo, HasGrownDatabase}
use Rattle.txc_caller.proofs.Asked.{left_grown}
use Rattle.txc_caller.proofs.Committing.{commit_events}
use Rattle.txc_caller.proofs.Letting.{grown_by, grown_same, grown_then, let_go_grown}

pub hold_grown : {T : Type 0} (old new : DatabaseValue) (r : Result T DbError) → OnOk r (new ≡ after_hold old) → OnErr r (new ≡ old) → HasGrownDatabase old new
hold_grown old new (Ok stamp) after unchanged = grown_by old new (ap (λ (d : DatabaseValue). d.events) after) (ap (λ (d : DatabaseValue). d.history) after)
hold_grown old new (Err error) after unchanged = grown_same old new unchanged

pub vacuum_grown : {T : Type 0} (old new : DatabaseValue) (r : Result T DbError) → OnOk r (new ≡ after_vacuum old) → OnErr r (new ≡ old) → HasGrownDatabase old new
vacuum_grown old new (Ok stamp) after unchanged = grown_by old new (ap (λ (d : DatabaseValue). d.events) after) (ap (λ (d : DatabaseValue). d.history) after)
vacuum_grown old new (Err error) after unchanged = grown_same old new unchanged

some_longer : (d other : DatabaseValue) (net : List Change) → IsPrefix d.history other.history → IsPrefix d.history (where_some net d other).history
some_longer d other [] h = prefix_self d.history
some_longer d other (c ∷ cs) h = h

pub commit_grown : {T : Type 0} (old new : DatabaseValue) (changes : List Change) (r : Result T DbError) → OnOk r (new ≡ after_commit old changes) → IfErr r (IsLeft old new) → HasGrownDatabase old new
commit_grown old new changes (Ok stamp) after left = record {
  events = commit_events old new changes after;
  longer = subst (λ (L : History). IsPrefix old.history L) (sym (ap (λ (d : DatabaseValue). d.history) after))
      (some_longer old (after_event_of old (commit_event (newest_state old) changes) (newest_net old changes)) (newest_net old changes)
      (prefix_push old.history (commit_event (newest_state old) changes)));
}
commit_grown old new changes (Err error) after left = left_grown old new error left

pub each_go_grown : (stamps : List ℕ) (old new : DatabaseValue) → AreLetGo stamps old new → HasGrownDatabase old new
each_go_grown [] old new same = grown_same old new same
each_go_grown (stamp ∷ stamps) old new gone = grown_then old gone.0 new (let_go_grown (Some stamp) old gone.0 gone.1) (each_go_grown stamps gone.0 new gone.2)
