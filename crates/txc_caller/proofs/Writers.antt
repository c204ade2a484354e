-- A transaction that writes, between two of its acts and at its end.
use Rattle.std.proofs.Common.{◌≡◌, ◌∙◌, ◌⊎◌, inl, inr, ℕ, ◌≤◌, List, [], ◌∷◌, ◌++◌, length, Option, Some, None, IsSome, refl, ap, sym, subst, arith}
use Rattle.std.specs.Prelude.{◌<◌, Result, Ok, Err, IfErr, IsOk, OnErr, OnOk}
use mathlib.Core.List.{IsPrefix}
use Rattle.txc_tags.specs.declared.tag.Tag.{Tag}
use Rattle.txc_rows.specs.declared.query.Change.{Change}
use Rattle.txc_rows.specs.declared.query.Query.{Query}
use Rattle.txc_db.specs.Calls.{IsBase, IsCommittable, IsCommitRefused, IsLeft}
use Rattle.txc_db.specs.declared.error.DbError.{DbError}
use Rattle.txc_db.specs.DatabaseValue.{DatabaseValue, after_commit, after_hold, front_of, newest}
use Rattle.txc_db.specs.History.{History}
use Rattle.txc_db.specs.DatabaseReply.{IsEventIn, IsQuietIn}
use Rattle.txc_db.proofs.Committed.{commit_result}
use Rattle.txc_db.proofs.Histories.{states_stay}
use Rattle.txc_app.specs.Eval.{Next}
use Rattle.txc_call_registry.specs.Objects.{Objects}
use Rattle.txc_call.specs.CallMachine.{Calling}
use Rattle.txc_call.specs.Needs.{InNeed, NeedFits}
use Rattle.txc_call.specs.CallSteps.{NeedsFunction}
use Rattle.txc_call.specs.declared.need.Need.{Need}
use Rattle.txc_shared.specs.Nodes.{NodeValue}
use Rattle.txc_txn.specs.TxnCore.{running_call}
use Rattle.txc_txn_rw.specs.ByHand.{IsRwByHand}
use Rattle.txc_txn_rw.specs.RwCore.{IsRwIdle, IsWriteRefused, ReadingFits, RwHolds, RwValue, tags_read}
use Rattle.txc_txn_rw.specs.declared.rw_core.TheConstants.{MAX_CHANGES}
use Rattle.txc_txn_rw.specs.Outcomes.{IsCommitted}
use Rattle.txc_txn_rw.proofs.Commits.{answer_lent, commits_are_right, event_tags_are_sound}
use Rattle.txc_txn_rw.proofs.Holding.{holds_in_longer}
use Rattle.txc_txn_ports.specs.declared.error.TxnError.{TxnError}
use Rattle.txc_caller.specs.Ports.{CallerPorts, HasGrownDatabase, IsLetGo, MayHaveTaken}
use Rattle.txc_caller.specs.CallerTxn.{CallerValue, KeepsCaller}
use Rattle.txc_caller.specs.ComputedFunctions.{top_call}
use Rattle.txc_caller.specs.CallerWrite.{CallerWriting, ChangeLeaves, HasCommittedWrite, IsCallerWrite, IsWriteCommitRefused, IsWriteLeft, held_base}
use Rattle.txc_caller.specs.declared.step.WriteError.TheVariants as writes
use Rattle.txc_caller.proofs.Letting.{let_go_history}

-- ---- how it stands

-- a call that is not open needs nothing
pub closed_call : (call : Calling) → ¬ (IsSome (top_call call)) → call.need ≡ None
closed_call call closed = by_need call.need closed
  where
    by_need : (need : Option Need) → ¬ (IsSome (running_call need call.top)) → need ≡ None
    by_need None closed = refl
    by_need (Some need) closed = absurd (closed refl)

-- what the core holds is of the call, the queries and the answers alone
pub same_fits : (next : Next) (objects : Objects) (c d : RwValue) → d.call ≡ c.call → d.reading ≡ c.reading → IsRwByHand next objects c → IsRwByHand next objects d
same_fits next objects c d call reading h = record {
  call = subst (λ (k : Calling). NeedFits next objects k.top k.need k.frames) (sym call) h.call;
  at_one = subst (λ (k : Calling). InNeed 1 k.need k.frames) (sym call) h.at_one;
  reading = subst (λ (k : Calling). ReadingFits d.reading k.need ⊎ ((d.reading ≡ None) × NeedsFunction k.need)) (sym call)
      (subst (λ (r : Option Query). ReadingFits r c.call.need ⊎ ((r ≡ None) × NeedsFunction c.call.need)) (sym reading) h.reading);
}

-- ---- changes

pub change_leaves : (change : Change) (old new : CallerWriting) (core : RwValue) (result : Result (Unit {0}) TxnError) → new ≡ record old { core = core }
    → OnOk result (core ≡ record old.core { changes = old.core.changes ++ change ∷ [] }) → (IsOk result → length old.core.changes < MAX_CHANGES)
    → IfErr result (IsWriteRefused (length old.core.changes)) → OnErr result (core ≡ old.core) → ChangeLeaves change old new result
change_leaves change old new core (Ok done) is after only_if refused unchanged = (only_if refl, is ∙ ap (λ (c : RwValue). record old { core = c }) after)
change_leaves change old new core (Err error) is after only_if refused unchanged = (is ∙ ap (λ (c : RwValue). record old { core = c }) unchanged, refused)

-- ---- the end

-- the answer of a commit
pub commit_says : (d new : DatabaseValue) (base stamp : ℕ) (read : List Tag) (changes : List Change) (L : History) → L ≡ new.history → new ≡ after_commit d changes
    → stamp ≡ newest new → IsCommittable d base read changes → IsQuietIn L base read changes stamp ⊎ IsEventIn L base read changes stamp
commit_says d new base stamp read changes L same after answer due =
    subst (λ (h : History). IsQuietIn h base read changes stamp ⊎ IsEventIn h base read changes stamp) (sym same)
    (commit_result d new base read changes (Ok (record { answer = stamp; front = front_of new })) after answer refl (λ ok. due))

-- what it holds in a history it holds in a longer one
pub holds_longer : (next : Next) (L M : History) (objects : Objects) (c : RwValue) → IsPrefix L M → RwHolds next L objects c → RwHolds next M objects c
holds_longer next L M objects c longer h = holds_in_longer states_stay next L M objects c longer h

-- once its changes are committed
pub is_committed : (next : Next) (L : History) (objects : Objects) (c : RwValue) (stamp : ℕ) → RwHolds next L objects c
    → IsQuietIn L c.base (tags_read c) c.changes stamp ⊎ IsEventIn L c.base (tags_read c) c.changes stamp → IsCommitted next L c stamp
is_committed next L objects c stamp h says = commits_are_right event_tags_are_sound next L objects c stamp h says

-- the hold that is taken away changes nothing of what the node has taken
pub taken_still : (unpin : Option ℕ) (d e : DatabaseValue) (old new : NodeValue) → IsLetGo unpin d e → MayHaveTaken d old new → MayHaveTaken e old new
taken_still None d e old new is taken = subst (λ (v : DatabaseValue). MayHaveTaken v old new) (sym is) taken
taken_still (Some stamp) d e old new (inl after) taken = subst (λ (v : DatabaseValue). MayHaveTaken v old new) (sym after) taken
taken_still (Some stamp) d e old new (inr left) taken = subst (λ (v : DatabaseValue). MayHaveTaken v old new) (sym left.0) taken

pub newest_still : (unpin : Option ℕ) (d e : DatabaseValue) → IsLetGo unpin d e → newest e ≡ newest d
newest_still None d e is = ap newest is
newest_still (Some stamp) d e (inl after) = ap newest after
newest_still (Some stamp) d e (inr left) = ap newest left.0

-- ---- a commit

-- its answer, in the history that is left once the hold is taken away
pub commit_done : (d new last : DatabaseValue) (unpin : Option ℕ) (base base' stamp : ℕ) (read read' : List Tag) (changes changes' : List Change) → base ≡ base' → read ≡ read' → changes ≡ changes'
    → new ≡ after_commit d changes → stamp ≡ newest new → IsCommittable d base read changes → IsLetGo unpin new last
    → IsQuietIn last.history base' read' changes' stamp ⊎ IsEventIn last.history base' read' changes' stamp
commit_done d new last unpin base base' stamp read read' changes changes' one two three after answer due gone =
    answer_lent last.history stamp base base' read read' changes changes' one two three
    (commit_says d new base stamp read changes last.history (let_go_history unpin new last gone) after answer due)

-- a caller with these ports
abbrev caller_of : CallerPorts → ℕ → CallerValue
caller_of p renew = record { ports = p; renew_after = renew }

module _ (old : CallerValue) (p0 p1 : CallerPorts) (renew : ℕ) (w : CallerWriting) (base : ℕ) (read : List Tag) (changes : List Change)
    (was : caller_of p0 renew ≡ old) (at : base ≡ w.core.base) (tags : read ≡ tags_read w.core) (same_changes : changes ≡ w.core.changes) where
  -- what it did
  pub committed_so : (p2 : CallerPorts) (unpin : Option ℕ) (stamp : ℕ) → IsRwIdle w.core → unpin ≡ held_base w → IsCommittable p0.database base read changes
      → p1.database ≡ after_commit p0.database changes → stamp ≡ newest p1.database → MayHaveTaken p1.database p0.node p1.node
      → p1 ≡ record p0 { database = p1.database; node = p1.node } → IsLetGo unpin p1.database p2.database → p2 ≡ record p1 { database = p2.database }
      → HasCommittedWrite old w stamp (caller_of p2 renew)
  committed_so p2 unpin stamp idle held could after answer taken same gone same' =
      let node : p2.node ≡ p1.node = ap (λ (p : CallerPorts). p.node) same' in
      let ports : p2 ≡ record p0 { database = p2.database; node = p2.node } =
      same' ∙ (ap (λ (p : CallerPorts). record p { database = p2.database }) same ∙ ap (λ (n : NodeValue). record p0 { database = p2.database; node = n }) (sym node)) in
      subst (λ (c : CallerValue). HasCommittedWrite c w stamp (caller_of p2 renew)) was record {
        idle = idle;
        could = subst (λ (cs : List Change). IsCommittable p0.database w.core.base (tags_read w.core) cs) same_changes
            (subst (λ (r : List Tag). IsCommittable p0.database w.core.base r changes) tags (subst (λ (b : ℕ). IsCommittable p0.database b read changes) at could));
        after = subst (λ (u : Option ℕ). IsLetGo u (after_commit p0.database w.core.changes) p2.database) held
            (subst (λ (d : DatabaseValue). IsLetGo unpin d p2.database) (after ∙ ap (λ (cs : List Change). after_commit p0.database cs) same_changes) gone);
        stamp_is = answer ∙ sym (newest_still unpin p1.database p2.database gone);
        taken = subst (λ (n : NodeValue). MayHaveTaken p2.database p0.node n) (sym node) (taken_still unpin p1.database p2.database p0.node p1.node gone taken);
        same = ap (λ (p : CallerPorts). caller_of p renew) ports;
      }

  -- why it was refused, and what that leaves
  pub commit_refused : (error : DbError) → IsCommitRefused p0.database base read changes error → IsWriteCommitRefused old w (writes.Database error)
  commit_refused error refused =
      subst (λ (c : CallerValue). IsWriteCommitRefused c w (writes.Database error)) was
      (subst (λ (cs : List Change). IsCommitRefused p0.database w.core.base (tags_read w.core) cs error) same_changes
      (subst (λ (r : List Tag). IsCommitRefused p0.database w.core.base r changes error) tags (subst (λ (b : ℕ). IsCommitRefused p0.database b read changes error) at refused)))

  pub commit_left : (error : DbError) → IsLeft p0.database p1.database error → p1 ≡ record p0 { database = p1.database } → IsWriteLeft old (writes.Database error) (caller_of p1 renew)
  commit_left error left same =
      subst (λ (c : CallerValue). IsWriteLeft c (writes.Database error) (caller_of p1 renew)) was
      (left, ap (λ (p : CallerPorts). caller_of p renew) same)

-- what every act keeps of its caller
pub keeps_ports : (old : CallerValue) (p q : CallerPorts) (renew : ℕ) → caller_of p renew ≡ old → HasGrownDatabase p.database q.database
    → KeepsCaller old (caller_of q renew)
keeps_ports old p q renew was grown = record {
  row = grown.events ∙ ap (λ (c : CallerValue). c.ports.database.events) was;
  renew_after = ap (λ (c : CallerValue). c.renew_after) was;
}

pub grown_ports : (old : CallerValue) (p q : CallerPorts) (renew : ℕ) → caller_of p renew ≡ old → HasGrownDatabase p.database q.database
    → HasGrownDatabase old.ports.database q.database
grown_ports old p q renew was grown = subst (λ (c : CallerValue). HasGrownDatabase c.ports.database q.database) was grown

-- ---- a change more

pub written_call : {T E : Type 0} (result : Result T E) (old new : RwValue) (changes : List Change) → OnOk result (new ≡ record old { changes = changes }) → OnErr result (new ≡ old)
    → new.call ≡ old.call
written_call (Ok done) old new changes after unchanged = ap (λ (v : RwValue). v.call) after
written_call (Err error) old new changes after unchanged = ap (λ (v : RwValue). v.call) unchanged

pub written_reading : {T E : Type 0} (result : Result T E) (old new : RwValue) (changes : List Change) → OnOk result (new ≡ record old { changes = changes }) → OnErr result (new ≡ old)
    → new.reading ≡ old.reading
written_reading (Ok done) old new changes after unchanged = ap (λ (v : RwValue). v.reading) after
written_reading (Err error) old new changes after unchanged = ap (λ (v : RwValue). v.reading) unchanged

-- it stands as it stood
pub written_fits : {T E : Type 0} (result : Result T E) (next : Next) (w : CallerWriting) (core : RwValue) (changes : List Change)
    → OnOk result (core ≡ record w.core { changes = changes }) → OnErr result (core ≡ w.core) → IsCallerWrite next w → IsCallerWrite next (record w { core = core })
written_fits result next w core changes after unchanged h =
    let reading = written_reading result w.core core changes after unchanged in
    record {
      fits = same_fits next w.objects w.core core (written_call result w.core core changes after unchanged) reading h.fits;
      functions = h.functions;
      rests = reading ∙ h.rests;
    }

pub changed_so : (change : Change) (inside old : CallerWriting) (core : RwValue) (result : Result (Unit {0}) TxnError) → inside ≡ old
    → OnOk result (core ≡ record inside.core { changes = inside.core.changes ++ change ∷ [] }) → (IsOk result → length inside.core.changes < MAX_CHANGES)
    → IfErr result (IsWriteRefused (length inside.core.changes)) → OnErr result (core ≡ inside.core) → ChangeLeaves change old (record inside { core = core }) result
changed_so change inside old core result is after only_if refused unchanged =
    subst (λ (v : CallerWriting). ChangeLeaves change v (record inside { core = core }) result) is
    (change_leaves change inside (record inside { core = core }) core result refl after only_if refused unchanged)

-- ---- a beginning

pub held_within : (p q : CallerPorts) (base : ℕ) → q ≡ record p { database = after_hold p.database } → base ≡ newest p.database → base ≤ length q.database.history
held_within p q base is at = let same = ap (λ (v : CallerPorts). length v.database.history) is in omega (arith, same, at)

pub base_within : (p q : CallerPorts) (base : ℕ) → q ≡ p → IsBase p.database base → base ≤ length q.database.history
base_within p q base is known = let same = ap (λ (v : CallerPorts). length v.database.history) is in let low = known.known in omega (arith, same, low)
