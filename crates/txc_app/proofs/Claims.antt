-- What holds over a reach.
use Rattle.std.proofs.Common.{◌≡◌, inl, ℕ, suc, List, [], ◌∷◌, ◌++◌, length-append, Option, Some, None, true, false, refl, sym, ap, subst, ◌∙◌, arith}
use Rattle.std.specs.List.{AllByRecursion}
use mathlib.Core.List.{IsPrefix}
use Rattle.txc_stamp.specs.Interval.{Interval}
use Rattle.txc_tags.specs.declared.tag.Tag.{Tag}
use Rattle.txc_tags.specs.Tags.{sets_match}
use Rattle.txc_tags.specs.Tags.{covers}
use Rattle.txc_tags.proofs.Lists.{both_true, and_true}
use Rattle.txc_tags.proofs.TagSets.{covers_held}
use Rattle.txc_rows.specs.declared.query.Query.{Query}
use Rattle.txc_rows.specs.States.{RowValue, State, answer}
use Rattle.txc_rows.specs.RowTags.{covers_query, query_tag}
use Rattle.txc_tags.specs.Keys.{Call}
use Rattle.txc_db.specs.History.{History, state_at, tags_at}
use Rattle.txc_db.specs.Laws.{EventTagsAreSound, StatesStay}
use Rattle.txc_app.specs.declared.ask.Answer.{Answer}
use Rattle.txc_app.specs.declared.ask.Answer.TheVariants as answers
use Rattle.txc_app.specs.declared.ask.Ask.{Ask}
use Rattle.txc_app.specs.Eval.{Next, eval, met}
use Rattle.txc_app.specs.AnswersSoFar.{IsRight, AreRight, queries_of}
use Rattle.txc_app.specs.Claims.{covers_all, HoldsIn, HoldsOver}
use Rattle.txc_app.specs.Laws.{EventLeaves, TrueInLonger, IsDoneAfter, FoundRowsHold, DoneAfterIsTrue}
use Rattle.txc_app.proofs.Evals.{equal_answers_decide}
use Rattle.txc_app.proofs.Offered.{each_none, each_push}
use Rattle.txc_app.proofs.Answers.{right_answers_give_the_value}

-- ---- one event

answers_stay : EventTagsAreSound → (L : History) (t : ℕ) (tags : List Tag) (qs : List Query) → covers_all tags qs ≡ true → sets_match (tags_at L (suc t)) tags ≡ false
    → AllByRecursion (λ q. answer q (state_at L t) ≡ answer q (state_at L (suc t))) qs
answers_stay law L t tags [] c apart = tt
answers_stay law L t tags (q ∷ qs) c apart =
    let two = both_true (covers_query tags q) (covers_all tags qs) c in
    (law L t q tags apart two.0, answers_stay law L t tags qs two.1 apart)

pub event_leaves : EventTagsAreSound → EventLeaves
event_leaves law next k L t tags c apart =
    equal_answers_decide next k (state_at L t) (state_at L (suc t)) (answers_stay law L t tags (met next k (state_at L t)) c apart)

-- ---- longer histories

holds_with_more : StatesStay → (L more : History) (right : State → Type 0) (rests : State → List Query) (reach : Interval) (tags : List Tag)
    → HoldsIn L right rests reach tags → HoldsIn (L ++ more) right rests reach tags
holds_with_more stay L more right rests reach tags h = record {
  within = let long = length-append L more in let w = h.within in omega (arith, long, w);
  holds = λ t inside. subst right (sym (stay L more t (let w = h.within in let i = inside.1 in omega (arith, w, i)))) (h.holds t inside);
  covered = λ still t inside.
      ap (λ (s : State). covers_all tags (rests s)) (stay L more t (let w = h.within in let i = inside.1 in omega (arith, w, i))) ∙ h.covered still t inside;
}

-- what holds in a history holds in a longer one
pub holds_in_longer : StatesStay → (L M : History) (right : State → Type 0) (rests : State → List Query) (reach : Option Interval) (tags : List Tag)
    → IsPrefix L M → HoldsOver L right rests reach tags → HoldsOver M right rests reach tags
holds_in_longer stay L M right rests None tags begins h = h
holds_in_longer stay L M right rests (Some reach) tags begins h =
    subst (λ (l : History). HoldsIn l right rests reach tags) begins.1 (holds_with_more stay L begins.0 right rests reach tags h)

pub true_in_longer : StatesStay → TrueInLonger
true_in_longer stay next L M e begins h =
    holds_in_longer stay L M (λ s. eval next e.key s ≡ Some e.value) (met next e.key) (Some e.reach) e.tags begins h

-- ---- a call that is done after one query

-- the tag of a query covers it
covers_itself : (q : Query) → covers_all (query_tag q ∷ []) (q ∷ []) ≡ true
covers_itself q = and_true (covers (query_tag q ∷ []) (query_tag q)) true (covers_held (query_tag q ∷ []) (query_tag q) (inl refl)) refl

pub found_rows_hold : FoundRowsHold
found_rows_hold L q t horizon found h tags = record {
  within = h.validity.high;
  holds = λ s inside. h.rows ∙ sym (h.validity.same s inside.0 inside.1);
  covered = λ still s inside. ap (λ (set : List Tag). covers_all set (q ∷ [])) tags ∙ covers_itself q;
}

-- what such a call gives in a state in which these are the rows
comes_to : (next : Next) (q : Query) (rows : List RowValue) (k : Call) (bytes : List ℕ) → IsDoneAfter next k q rows bytes
    → (s : State) → rows ≡ answer q s → (eval next k s ≡ Some bytes) × (met next k s ≡ q ∷ [])
comes_to next q rows k bytes done s same =
    let is_right : List Answer → Answer → Type 0 = λ before a. IsRight next k.function s (next.says k.function k.args before) a in
    let right : AreRight next k s (answers.Rows rows ∷ []) = each_push is_right [] (answers.Rows rows) (each_none is_right)
    (subst (λ (o : Option Ask). IsRight next k.function s o (answers.Rows rows)) (sym done.query) (ap answers.Rows same)) in
    let two = done.few in
    let it = right_answers_give_the_value next k s (answers.Rows rows ∷ []) bytes right (omega (arith, two)) done.done done.short in
    (it.0, it.1 ∙ ap (λ (o : Option Ask). queries_of next s o ++ []) done.query)

pub done_after_is_true : DoneAfterIsTrue
done_after_is_true next L q rows e h done = record {
  within = h.within;
  holds = λ t inside. (comes_to next q rows e.key e.value done (state_at L t) (h.holds t inside)).0;
  covered = λ still t inside. ap (covers_all e.tags) (comes_to next q rows e.key e.value done (state_at L t) (h.holds t inside)).1 ∙ h.covered still t inside;
}
