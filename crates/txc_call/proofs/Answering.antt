-- One answer more.
use Rattle.std.proofs.Common.{◌≡◌, ℕ, ◌<◌, ◌≤◌, List, [], ◌∷◌, ◌++◌, length, append-nil, append_assoc, Option, Some, sym, refl, ap, subst, ◌∙◌}
use Rattle.txc_stamp.specs.Interval.{Interval}
use Rattle.txc_tags.specs.declared.tag.Tag.{Tag}
use Rattle.txc_tags.specs.Keys.{Call}
use Rattle.txc_tags.specs.Tags.{with_tags}
use Rattle.txc_rows.specs.declared.query.Query.{Query}
use Rattle.txc_rows.specs.States.{RowValue, State, answer}
use Rattle.txc_db.specs.History.{History}
use Rattle.txc_app.specs.declared.ask.Ask.{Ask}
use Rattle.txc_app.specs.declared.ask.Ask.TheVariants as asks
use Rattle.txc_app.specs.declared.ask.Answer.{Answer}
use Rattle.txc_app.specs.declared.ask.Answer.TheVariants as answers
use Rattle.txc_app.specs.Eval.{Next, eval, met}
use Rattle.txc_app.specs.AnswersSoFar.{IsRight, AreRight, queries_of, queries_after, queries_for}
use Rattle.txc_app.specs.Claims.{RowsHold, ValueHolds}
use Rattle.txc_app.specs.Laws.{RightAnswersGiveTheValue}
use Rattle.txc_app.proofs.Offered.{each_push}
use Rattle.txc_call.specs.Reaches.{ReachesMeet, meet}
use Rattle.txc_call.specs.Frames.{AnswerHolds, AnswersHold}
use Rattle.txc_call.proofs.Claims.{both_hold, weaker}

module _ (next : Next) (k : Call) where
  queries_more : (s : State) (before given : List Answer) (x : Answer)
      → queries_after next k s before (given ++ x ∷ []) ≡ queries_after next k s before given ++ queries_of next s (next.says k.function k.args (before ++ given))
  queries_more s before [] x = rw (append-nil before, append-nil (queries_of next s (next.says k.function k.args before))) refl
  queries_more s before (y ∷ given) x =
      ap (λ (qs : List Query). queries_of next s (next.says k.function k.args before) ++ qs)
      (queries_more s (before ++ y ∷ []) given x
      ∙ ap (λ (zs : List Answer). queries_after next k s (before ++ y ∷ []) given ++ queries_of next s (next.says k.function k.args zs)) (append_assoc before (y ∷ []) given))
      ∙ sym (append_assoc (queries_of next s (next.says k.function k.args before)) (queries_after next k s (before ++ y ∷ []) given) (queries_of next s (next.says k.function k.args (before ++ y ∷ given))))

  -- what was given, and one answer more
  pub answers_more : (L : History) (given : List Answer) (ask : Ask) (x : Answer) (r r' : Option Interval) (tags tags' : List Tag)
      → next.says k.function k.args given ≡ Some ask → ReachesMeet r r'
      → AnswersHold next L k given r tags → AnswerHolds next L k.function ask x r' tags'
      → AnswersHold next L k (given ++ x ∷ []) (meet r r') (with_tags tags' tags)
  answers_more L given ask x r r' tags tags' asked m h new =
      weaker L (λ (s : State). AreRight next k s given × IsRight next k.function s (Some ask) x) (λ (s : State). AreRight next k s (given ++ x ∷ []))
      (λ (s : State). queries_for next k s given ++ queries_of next s (Some ask)) (λ (s : State). queries_for next k s (given ++ x ∷ [])) (meet r r') (with_tags tags' tags)
      (λ s two. (
        each_push (λ (before : List Answer) (a : Answer). IsRight next k.function s (next.says k.function k.args before) a) given x two.0
            (subst (λ (o : Option Ask). IsRight next k.function s o x) (sym asked) two.1),
        queries_more s [] given x ∙ ap (λ (o : Option Ask). queries_for next k s given ++ queries_of next s o) asked,
      ))
      (both_hold L (λ (s : State). AreRight next k s given) (λ (s : State). IsRight next k.function s (Some ask) x) (λ (s : State). queries_for next k s given) (λ (s : State). queries_of next s (Some ask)) r r' tags tags' m h new)

  -- what a call is done with, after these answers
  pub done_holds : RightAnswersGiveTheValue → (L : History) (given : List Answer) (bytes : List ℕ) (r : Option Interval) (tags : List Tag)
      → length given < next.limits.asks → next.says k.function k.args given ≡ Some (asks.Done bytes) → length bytes ≤ next.limits.value
      → AnswersHold next L k given r tags → ValueHolds next L k bytes r tags
  done_holds law L given bytes r tags few done short =
      weaker L (λ (s : State). AreRight next k s given) (λ (s : State). eval next k s ≡ Some bytes) (λ (s : State). queries_for next k s given) (met next k) r tags
      (λ s right. law next k s given bytes right few done short)

-- the value of a call of a function below answers the ask for it
pub value_answers : (next : Next) (L : History) (f : ℕ) (k : Call) (bytes : List ℕ) (r : Option Interval) (tags : List Tag) → k.function < f
    → ValueHolds next L k bytes r tags → AnswerHolds next L f (asks.Call k) (answers.Value bytes) r tags
value_answers next L f k bytes r tags below =
    weaker L (λ (s : State). eval next k s ≡ Some bytes) (λ (s : State). IsRight next f s (Some (asks.Call k)) (answers.Value bytes)) (met next k) (λ (s : State). queries_of next s (Some (asks.Call k))) r tags
    (λ s is. (record { bytes = bytes; is = refl; below = below; value = is }, refl))

-- the rows of a query answer the ask for them
pub rows_answer : (next : Next) (L : History) (f : ℕ) (q : Query) (rows : List RowValue) (r : Option Interval) (tags : List Tag)
    → RowsHold L q rows r tags → AnswerHolds next L f (asks.Query q) (answers.Rows rows) r tags
rows_answer next L f q rows r tags =
    weaker L (λ (s : State). rows ≡ answer q s) (λ (s : State). IsRight next f s (Some (asks.Query q)) (answers.Rows rows)) (λ (s : State). q ∷ []) (λ (s : State). queries_of next s (Some (asks.Query q))) r tags
    (λ s is. (ap answers.Rows is, refl))
