-- What read-write transactions do to holds.
use Rattle.std.proofs.Common.{◌≡◌, ◌∙◌, ℕ, zero, List, [], ◌∷◌, ◌++◌, Result, Ok, Err, inl, inr, refl, ap, sym, subst, arith}
use Rattle.std.specs.Prelude.{Vec}
use Rattle.std.specs.declared.alloc.Global.{Global}
use Rattle.txc_tags.specs.declared.tag.Tag.{Tag}
use Rattle.txc_rows.specs.declared.query.Change.{Change}
use Rattle.txc_rows.specs.declared.query.Query.{Query}
use Rattle.txc_validity.specs.declared.answer.Found.{Found}
use Rattle.txc_db.specs.declared.error.DbError.{DbError}
use Rattle.txc_db.specs.Calls.{IsCommitRefused, IsHoldRefused}
use Rattle.txc_db.specs.History.{commit_event}
use Rattle.txc_db.specs.DatabaseValue.{after_event_of, newest_net, newest_state}
use Rattle.txc_cushion.specs.Entries.{times}
use Rattle.txc_txn_ports.specs.declared.error.TxnError.{TxnError}
use Rattle.txc_txn_ports.specs.declared.error.TxnError.TheVariants as txns
use Rattle.txc_app.specs.Eval.{Next}
use Rattle.txc_call_registry.specs.Objects.{Objects}
use Rattle.txc_rows.specs.States.{RowValue}
use Rattle.txc_txn_rw.specs.RwCore.{IsWriteRefused, QueryTurn, RwValue}
use Rattle.txc_world.specs.declared.port_outcome.PortOutcome.{PortOutcome}
use Rattle.txc_world.specs.declared.port_outcome.PortOutcome.TheVariants as dids
use Rattle.txc_world.specs.declared.reply.Reply.{Reply}
use Rattle.txc_world.specs.declared.reply.Reply.TheVariants as replies
use Rattle.txc_world.specs.Ports.{PortsValue}
use Rattle.txc_world.specs.PortRequests.{DoesTellFound, HoldTransition, QueryTransition}
use Rattle.txc_world.specs.Holdings.{nothing, Account, ActCounts, CountRight, HasLost, TakesOnlyItsOwn}
use Rattle.txc_world.specs.LostSnapshot.{IfDidLose, IfGone, IfLost, IfReplyLost, IfResultLost, IfTurnLost}
use Rattle.txc_world.specs.KeeperAtPorts.{CommitTransition}
use Rattle.txc_world.specs.WriterStep.{FindTransitionRw, HasAskedRw}
use Rattle.txc_world.proofs.Balance.{committed_holds}
use Rattle.txc_world.proofs.Fairness.{counts_itself, fair_hold, fair_same, gone_commit, gone_hold, gone_query, left_holds}
use Rattle.txc_world.proofs.Losing.{gone_so, request_lost, rw_not_lost}
use Rattle.txc_world.proofs.Times.{times_there}

-- the account of a transaction with the hold of its base
abbrev pub based : ℕ → Account
based base = record { taken = []; own = base ∷ [] }

-- ---- queries at the base

base_lost : (p : PortsValue) (base : ℕ) → times base p.database.holds ≡ 0 → HasLost p (based base)
base_lost p base gone = record {
  stamp = base;
  had = let some = times_there base (base ∷ []) (zero, omega arith, refl) in omega (arith, some);
  lost = gone;
}

module _ (p : PortsValue) (base : ℕ) where
  gone_lost : (e : DbError) → IfGone e (times base p.database.holds ≡ 0) → IfGone e (HasLost p (based base))
  gone_lost e gone = gone_so (times base p.database.holds ≡ 0) (HasLost p (based base)) (base_lost p base) e gone

  -- of a query of the open call
  pub loss_told : (query : Query) (found : Result Found DbError) (did : PortOutcome) → CountRight p → QueryTransition query base p found → DoesTellFound found did
      → IfDidLose did (HasLost p (based base))
  loss_told query (Ok found) did right transition told = rw told.1 tt
  loss_told query (Err e) did right transition told = rw told (gone_lost e (gone_query p right query base e transition))

  -- of a query of its own
  pub loss_found : (query : Query) (result : Result (Vec RowValue Global) TxnError) → CountRight p → FindTransitionRw query base p result → IfResultLost result (HasLost p (based base))
  loss_found query (Ok rows) right transition = tt
  loss_found query (Err e) right (inl want) = rw want tt
  loss_found query (Err e) right (inr refused) =
      rw refused.2 (request_lost (HasLost p (based base)) refused.0 (gone_lost refused.0 (gone_query p right query base refused.0 refused.1)))

  -- of its commit
  pub loss_commit : (read : List Tag) (changes : List Change) (e : DbError) → CountRight p → IsCommitRefused p.database base read changes e → IfGone e (HasLost p (based base))
  loss_commit read changes e right refused = gone_lost e (gone_commit p right base read changes e refused)

-- a hold is not refused so
pub loss_hold : (p : PortsValue) (P : Type 0) (e : DbError) → IsHoldRefused p.database e → IfGone e P
loss_hold p P e refused = gone_so ⊥ P (λ no. absurd no) e (gone_hold p e refused)

-- nor is a write
pub loss_write : (P : Type 0) (count : ℕ) (e : TxnError) → IsWriteRefused count e → IfLost e P
loss_write P count (txns.SnapshotLost horizon) refused = absurd refused
loss_write P count e refused = tt

-- what a turn of a call has lost, the database had lost
pub asked_lost : (P : Type 0) (next : Next) (query : Query) (p : PortsValue) (before after : RwValue) (was is : Objects) (did : PortOutcome) (turn : QueryTurn)
    → HasAskedRw next query p before after was is did turn → IfDidLose did P → IfTurnLost turn P
asked_lost P next query p before after was is did turn asks lost = go asks.found refl
  where
    go : (found : Result Found DbError) → asks.found ≡ found → IfTurnLost turn P
    go (Ok f) same = let on = asks.transition f same in rw_not_lost P on.0 after is turn on.2
    go (Err e) same =
        let told : did ≡ dids.Refused e = subst (λ (r : Result Found DbError). DoesTellFound r did) same asks.tells in
        rw (asks.refused e same) (request_lost P e (subst (λ (d : PortOutcome). IfDidLose d P) told lost))

-- ---- steps

-- the base stays, and so do the ports
pub counts_based : (old new : PortsValue) (base base' : ℕ) (reply : Reply) → new ≡ old → base' ≡ base → IfReplyLost reply (HasLost old (based base))
    → ActCounts old new (based base) (based base') reply
counts_based old new base base' reply same is loss = rw (same, is) (counts_itself old (based base) reply loss)

pub counts_unchanged : (old new : PortsValue) (a : Account) (reply : Reply) → new ≡ old → IfReplyLost reply (HasLost old a) → ActCounts old new a a reply
counts_unchanged old new a reply same loss = rw same (counts_itself old a reply loss)

-- the newest stamp is held
pub counts_begun : (old new : PortsValue) (base : ℕ) → HoldTransition old new (Ok base) → ActCounts old new nothing (based base) (replies.Based base)
counts_begun old new base transition = record {
  own_only = fair_hold old new [] base (ap (λ (p : PortsValue). p.database.holds) transition.0 ∙ ap (λ (s : ℕ). old.database.holds ++ s ∷ []) (sym transition.1))
      (ap (λ (p : PortsValue). p.cushion) transition.0);
  loss = tt;
}

-- a commit leaves the holds
pub fair_commit : (old new : PortsValue) (at base base' stamp : ℕ) (read : List Tag) (changes : List Change) → CommitTransition at read changes old new (Ok stamp) → base' ≡ base
    → TakesOnlyItsOwn old new (based base) (based base')
fair_commit old new at base base' stamp read changes transition is = rw is
    (fair_same old new (based base) (based base)
    (ap (λ (p : PortsValue). p.database.holds) transition.0
    ∙ committed_holds old.database (newest_net old.database changes) (after_event_of old.database (commit_event (newest_state old.database) changes) (newest_net old.database changes)) refl)
    (ap (λ (p : PortsValue). p.cushion) transition.0) (λ t. omega arith) (λ t. omega arith))

pub fair_not_committed : (old new : PortsValue) (at base : ℕ) (read : List Tag) (changes : List Change) (e : DbError) → CommitTransition at read changes old new (Err e)
    → TakesOnlyItsOwn old new (based base) (based base)
fair_not_committed old new at base read changes e transition =
    fair_same old new (based base) (based base) (left_holds old.database new.database e transition.0.left) (ap (λ (p : PortsValue). p.cushion) transition.0.is) (λ t. omega arith) (λ t. omega arith)
