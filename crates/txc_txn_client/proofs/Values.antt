-- What a transaction's answers and its pins say, one by one.
use Rattle.std.proofs.Common.{◌≡◌, ℕ, List, [], ◌∷◌, ◌++◌, length, get_or, Some, Result, Ok, Err, IfOk, All, refl, subst, arith, length-append}
use Rattle.std.proofs.lemmas.List.{get_or_push}
use Rattle.txc_tags.specs.Keys.{Call}
use Rattle.txc_db.specs.History.{state_at}
use Rattle.txc_app.specs.Eval.{Next, eval}
use Rattle.txc_txn_ports.specs.Answers.{AreConsistent}
use Rattle.txc_txn_ports.specs.declared.recorded.Recorded.{Recorded}
use Rattle.txc_txn_ports.specs.declared.error.TxnError.{TxnError}
use Rattle.txc_txn_ports.specs.declared.turn.Turn.TheVariants.{Ended}
use Rattle.txc_txn.specs.TxnCore.{CoreValue, recorded_after}
use Rattle.txc_txn_client.specs.RoTxn.{IsValueAtMembers}

-- what holds of each item holds of the last one
of_last : {X : Type 0} (P : X → Type 0) (xs : List X) (x : X) → All P (xs ++ x ∷ []) → P x
of_last P xs x all = subst P (get_or_push xs x x (length xs) refl) (all (length xs) x (omega (arith, length-append xs (x ∷ []))))

-- the value that was recorded last is the call's at every member
pub value_of_last : (next : Next) (c : CoreValue) (old : List Recorded) (k : Call) (bytes : List ℕ)
    → All (λ p. AreConsistent next c.recorded (state_at c.seen.history p.stamp)) c.pins.members
    → c.recorded ≡ old ++ record { key = k; value = bytes } ∷ [] → IsValueAtMembers next c k bytes
value_of_last next c old k bytes all is = λ i d below.
    of_last (λ (r : Recorded). eval next r.key (state_at c.seen.history (get_or c.pins.members i d).stamp) ≡ Some r.value) old
    (record { key = k; value = bytes })
    (subst (λ (rs : List Recorded). AreConsistent next rs (state_at c.seen.history (get_or c.pins.members i d).stamp)) is (all i d below))

-- the value of a call that ended so
pub value_of_result : (next : Next) (c : CoreValue) (old : List Recorded) (k : Call) (result : Result (List ℕ) TxnError)
    → All (λ p. AreConsistent next c.recorded (state_at c.seen.history p.stamp)) c.pins.members
    → c.recorded ≡ recorded_after old (Ended result) (Some k) → IfOk result (IsValueAtMembers next c k)
value_of_result next c old k (Ok bytes) all is = value_of_last next c old k bytes all is
value_of_result next c old k (Err error) all is = tt
