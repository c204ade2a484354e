-- What a page shows of an item, where both of its calls have their values in one state.
use denote.Ref.{Bor}
use Rattle.std.proofs.Common.{◌≡◌, ◌≢◌, ◌∙◌, ℕ, ◌-◌, List, [], ◌∷◌, ◌++◌, length, take, eqb, Bool, true, false, Option, Some, None, MatchOption, sym, ap, subst}
use Rattle.std.specs.Prelude.{if◌then◌else◌, nat_le, Result, Ok, IfOk}
use Rattle.std.specs.List.{ends_with}
use Rattle.std.proofs.lemmas.List.{append_assoc, append_cancel_right}
use Rattle.std.proofs.lemmas.Bool.Decides.{Decides-eqb}
use Rattle.std.proofs.lemmas.Slice.Eq.{ends_is}
use Rattle.std.proofs.lemmas.List.Elements.{All-same, All-head, All-tail}
use Rattle.txc_site.specs.States.{State, answer}
use Rattle.txc_site.specs.Query.TheVariants.{ById}
use Rattle.txc_site.specs.ValueLimits.{MAX_VALUE_LEN}
use Rattle.txc_site.specs.Answer.{Answer}
use Rattle.txc_site.specs.Answer.TheVariants.{Value}
use Rattle.txc_site.specs.Eval.{Evaluation, after_value, activation, call_below, eval}
use Rattle.txc_site.specs.History.{History, state_at}
use Rattle.txc_site.specs.Pin.{Pin}
use Rattle.txc_site.specs.Bounds.{Bounds}
use Rattle.txc_site.specs.Recorded.{Recorded}
use Rattle.txc_site.specs.TxnCore.{Explains}
use Rattle.txc_site.specs.PageResult.{PageResult}
use Rattle.example_auction.specs.Auction.{auction, call_with_argument, body_of, group_of, BIDS, ITEMS, USERS}
use Rattle.example_auction.specs.Pages.{IsWhole, ShowsBoth}
use Rattle.example_auction.specs.declared.pages.BothBids.{BothBids}

-- bytes that are no value give none
bytes_are : (b : Bool) (bytes value : List ℕ) → (if b then Some bytes else None) ≡ Some value → value ≡ bytes
bytes_are true bytes value is = cc is
bytes_are false bytes value is = absurd (cc is)

-- what follows a call that has a value
goes_on : (b : Bool) (bytes value page : List ℕ) (rest : Answer → Evaluation) → (if b then Some bytes else None) ≡ Some value
    → (after_value (if b then Some bytes else None) rest).value ≡ Some page → (rest (Value bytes)).value ≡ Some page
goes_on true bytes value page rest is shown = shown
goes_on false bytes value page rest is shown = absurd (cc is)

pub page_shows_bid : (item : ℕ) (s : State) (highest page : List ℕ) → eval auction (call_with_argument 0 item) s ≡ Some highest
    → eval auction (call_with_argument 1 item) s ≡ Some page → (before : List ℕ) × (page ≡ before ++ 124 ∷ highest)
unfolding activation call_below
page_shows_bid item s highest page called shown =
    let bid = body_of (answer (ById BIDS item) s) in
    let row = answer (ById ITEMS item) s in
    let title = body_of row in
    let seller = body_of (answer (ById USERS (group_of row)) s) in
    let whole = title ++ 124 ∷ seller ++ 124 ∷ bid in
    let its = bytes_are (nat_le (length bid) MAX_VALUE_LEN) bid highest called in
    let rest = goes_on (nat_le (length bid) MAX_VALUE_LEN) bid highest page _ called shown in
    let text = bytes_are (nat_le (length whole) MAX_VALUE_LEN) whole page rest in
    (title ++ 124 ∷ seller, text ∙ ap (λ (end : List ℕ). title ++ 124 ∷ seller ++ 124 ∷ end) (sym its))

-- what one receipt explains is of one state
pub both_are_whole : (L : History) (bounds : Bounds) (pin : Option Pin) (item : ℕ) (answers : List Recorded) (both : BothBids)
    → Explains auction L bounds pin answers → ShowsBoth item answers both → IsWhole both
both_are_whole L bounds None item answers both explained shown = absurd (cc (sym shown ∙ explained))
both_are_whole L bounds (Some pin) item answers both explained shown =
    let right = λ (r : Recorded). eval auction r.key (state_at L pin.stamp) ≡ Some r.value in
    let first : Recorded = record { key = call_with_argument 0 item; value = both.highest } in
    let second : Recorded = record { key = call_with_argument 1 item; value = both.page } in
    let each = All-same right (first ∷ second ∷ []) answers (sym shown) explained.2 in
    page_shows_bid item (state_at L pin.stamp) both.highest both.page (All-head right first (second ∷ []) each)
    (All-head right second [] (All-tail right first (second ∷ []) each))

-- and so is what a page of both calls showed
pub shown_is_whole : {E : Type 0} (item : ℕ) (bounds : Bounds) (r : Result (PageResult BothBids) E) (it : PageResult BothBids) → r ≡ Ok it
    → IfOk r (λ s. ShowsBoth item s.receipt.answers.items s.output)
    → IfOk r (λ s. Explains auction s.receipt.seen.history bounds s.receipt.pin s.receipt.answers.items) → IsWhole it.output
shown_is_whole {E} item bounds r it is shows explained =
    both_are_whole it.receipt.seen.history bounds it.receipt.pin item it.receipt.answers.items it.output
    (subst (λ (q : Result (PageResult BothBids) E). IfOk q (λ s. Explains auction s.receipt.seen.history bounds s.receipt.pin s.receipt.answers.items)) is explained)
    (subst (λ (q : Result (PageResult BothBids) E). IfOk q (λ s. ShowsBoth item s.receipt.answers.items s.output)) is shows)

-- a page that ends with the bid, after this: it is whole where this ends with a bar
module _ (page bid before : List ℕ) (stripped : page ≡ before ++ bid) (r : Bool) (tested : r ≡ ends_with eqb before (124 ∷ [])) where
  pub whole_if : r ≡ true → (front : List ℕ) × (page ≡ front ++ 124 ∷ bid)
  whole_if true_is =
      let front = take (length before - 1) before in
      let ended = (ends_is Decides-eqb before (124 ∷ []) r tested).0 true_is in
      (front, stripped ∙ ap (λ (xs : List ℕ). xs ++ bid) ended ∙ append_assoc front (124 ∷ []) bid)

  pub whole_only_if : (front : List ℕ) → page ≡ front ++ 124 ∷ bid → r ≡ true
  whole_only_if front whole =
      let both = sym stripped ∙ whole ∙ sym (append_assoc front (124 ∷ []) bid) in
      (ends_is Decides-eqb before (124 ∷ []) r tested).1 front (append_cancel_right before (front ++ 124 ∷ []) bid both)

-- what is left of a page where a bid is cut off its end
module _ (page bid p b : List ℕ) (r : Option (Bor (List ℕ)))
    (cut : MatchOption r ((front : List ℕ) → p ≢ front ++ b) (λ x. p ≡ x.now ++ b)) (page_is : p ≡ page) (bid_is : b ≡ bid) where
  pub left : (x : Bor (List ℕ)) → r ≡ Some x → page ≡ x.now ++ bid
  left x is =
      let was = subst (λ (q : Option (Bor (List ℕ))). MatchOption q ((front : List ℕ) → p ≢ front ++ b) (λ y. p ≡ y.now ++ b)) is cut in
      sym page_is ∙ was ∙ ap (λ (ys : List ℕ). x.now ++ ys) bid_is

  pub none_left : r ≡ None → (front : List ℕ) → page ≢ front ++ 124 ∷ bid
  none_left is front whole =
      let was = subst (λ (q : Option (Bor (List ℕ))). MatchOption q ((front : List ℕ) → p ≢ front ++ b) (λ y. p ≡ y.now ++ b)) is cut in
      was (front ++ 124 ∷ [])
      (page_is ∙ whole ∙ ap (λ (ys : List ℕ). front ++ 124 ∷ ys) (sym bid_is) ∙ sym (append_assoc front (124 ∷ []) b))
