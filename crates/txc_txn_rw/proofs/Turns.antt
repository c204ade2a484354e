-- Turns of a call.
use Rattle.std.proofs.Common.{◌≡◌, ℕ, suc, ◌-◌, ◌<◌, ◌≤◌, List, Some, Ok, Err, refl, sym, subst, ◌∙◌, arith}
use Rattle.std.specs.Prelude.{Result, IfOk}
use Rattle.txc_rows.specs.declared.query.Query.{Query}
use Rattle.txc_validity.specs.declared.answer.Found.{Found}
use Rattle.txc_db.specs.declared.error.DbError.{DbError}
use Rattle.txc_db.specs.History.{History}
use Rattle.txc_call.specs.declared.frames.TheConstants.{MAX_CALL_ASKS}
use Rattle.txc_txn_ports.specs.declared.turn.Turn.TheVariants.{Ask, Ended}
use Rattle.txc_txn_ports.specs.Turns.{IsAsk}
use Rattle.txc_tags.specs.Keys.{Call}
use Rattle.txc_txn_rw.specs.declared.given.Given.{Given}
use Rattle.txc_txn_rw.specs.RwCore.{QueryTurn, RwValue, answers_after, IsFoundAt, IsRightReply}

-- none where the call has ended; else one more than it may still ask
abbrev pub turns_left : QueryTurn → ℕ → ℕ
turns_left (Ask q) asked = suc (MAX_CALL_ASKS - asked)
turns_left (Ended result) asked = 0

pub fewer_turns : (q : Query) (new : QueryTurn) (before after : ℕ) → (IsAsk new → before < after) → after ≤ MAX_CALL_ASKS → turns_left new after < suc (MAX_CALL_ASKS - before)
fewer_turns q (Ask p) before after more most = let less = more tt in omega (arith, less, most)
fewer_turns q (Ended result) before after more most = omega arith

-- what was found for the query that is asked is a right reply
pub right_reply : (L : History) (c : RwValue) (reply : Result Found DbError) (q : Query) → c.reading ≡ Some q → IfOk reply (IsFoundAt L c.base q) → IsRightReply L c reply
right_reply L c (Err error) q asked found = tt
right_reply L c (Ok f) q asked found = λ other asked'.
    let two : Some q ≡ Some other = sym asked ∙ asked' in
    let same : q ≡ other = cc in
    subst (λ (p : Query). IsFoundAt L c.base p f) same found

-- a turn of the call after one that asks
pub answers_on : (before now : List Given) (k top : Call) (q : Query) (new : QueryTurn) → now ≡ answers_after before k (Ask q) → top ≡ k → answers_after now top new ≡ answers_after before k new
answers_on before now k top q (Ask p) is same = is
answers_on before now k top q (Ended (Ok v)) is same = rw (is, same) refl
answers_on before now k top q (Ended (Err error)) is same = is
