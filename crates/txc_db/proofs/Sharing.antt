-- What is done under the lock, as the caller of a shared database gets it.
use Rattle.std.proofs.Common.{◌≡◌, ◌≤◌, ℕ, length, refl, sym, subst}
use Rattle.std.specs.Prelude.{Result, Ok, Err, IfOk, IfErr, IsOk}
use Rattle.std.proofs.lemmas.Result.{IfErr-weaker, IfOk-weaker}
use Rattle.txc_rows.specs.declared.query.Query.{Query}
use Rattle.txc_validity.specs.declared.answer.Found.{Found}
use Rattle.txc_validity.specs.Answers.{IsAnswer}
use Rattle.txc_stream.specs.Names.{Name}
use Rattle.txc_db.specs.declared.answered.Answered.{Answered}
use Rattle.txc_db.specs.declared.error.DbError.{DbError}
use Rattle.txc_db.specs.FrontsAndFeeds.{FrontValue}
use Rattle.txc_db.specs.History.{state_at}
use Rattle.txc_db.specs.DatabaseValue.{DatabaseValue, newest, front_of}
use Rattle.txc_db.specs.Calls.{IsAnswerable, matching_of}
use Rattle.txc_db.specs.DatabaseReply.{IsDatabaseOf, MayAnswer, IsQueryAnswer, MayRefuse}

-- the database under the lock is the one that refuses
pub may_refuse : {T E : Type 0} (d : DatabaseValue) (events : Name) (refused : DatabaseValue → E → Type 0) (r : Result T E) → IsDatabaseOf events d → IfErr r (refused d) → IfErr r (MayRefuse events refused)
may_refuse d events refused r one h = IfErr-weaker r (refused d) (MayRefuse events refused) (λ e w. (d, one, w)) h

-- and the one that answers
pub may_answer : {T E : Type 0} (d : DatabaseValue) (events : Name) (answers : DatabaseValue → T → Type 0) (r : Result T E) → IsDatabaseOf events d → IfOk r (answers d) → IfOk r (MayAnswer events answers)
may_answer d events answers r one h = IfOk-weaker r (answers d) (MayAnswer events answers) (λ a w. (d, one, w)) h

-- so does a query
pub query_result : (d : DatabaseValue) (events : Name) (q : Query) (stamp : ℕ) (r : Result (Answered Found) DbError) → IsDatabaseOf events d
    → IfOk r (λ answered. IsAnswer (state_at d.history) q stamp d.horizon (newest d) answered.answer)
    → IfOk r (λ answered. answered.front ≡ front_of d)
    → (IsOk r → IsAnswerable d stamp)
    → (IsOk r → matching_of d q ≤ d.most)
    → IfOk r (MayAnswer events (λ v. IsQueryAnswer v q stamp))
query_result d events q stamp (Ok answered) one answer front known few = (
  d,
  one,
  record {
    known = known refl;
    few = few refl;
    front = front;
    answer = subst (λ (f : FrontValue). IsAnswer (state_at f.history) q stamp d.horizon (length f.history) answered.answer) (sym front) answer;
  },
)
query_result d events q stamp (Err e) one answer front known few = tt
