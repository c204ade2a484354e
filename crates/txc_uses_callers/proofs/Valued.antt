-- The value of the call, in one state.
use Rattle.std.proofs.Common.{◌≡◌, ◌≢◌, ◌∙◌, ℕ, ◌==◌, List, [], ◌∷◌, ◌++◌, All, Bool, true, false, Option, Some, None, refl, ap, sym, subst}
use Rattle.std.specs.Prelude.{if◌then◌else◌, length, nat_le}
use Rattle.std.proofs.lemmas.List.Elements.{All-same, All-head}
use Rattle.txc_tags.specs.Keys.{Call}
use Rattle.txc_rows.specs.States.{State, answer}
use Rattle.txc_rows.specs.declared.query.Query.TheVariants.{ById}
use Rattle.txc_node.specs.declared.value.TheConstants.{MAX_VALUE_LEN}
use Rattle.txc_db.specs.History.{History, state_at}
use Rattle.txc_cushion.specs.declared.pin.Pin.{Pin}
use Rattle.txc_app.specs.declared.ask.Answer.{Answer}
use Rattle.txc_app.specs.declared.ask.Answer.TheVariants.{Rows}
use Rattle.txc_app.specs.declared.ask.Ask.TheVariants.{Query, Done}
use Rattle.txc_app.specs.Eval.{Evaluation, activation, after_ask, done_with, eval}
use Rattle.txc_app.specs.Eval as given_by
use Rattle.txc_txn_ports.specs.declared.bounds.Bounds.{Bounds}
use Rattle.txc_txn_ports.specs.declared.recorded.Recorded.{Recorded}
use Rattle.txc_txn.specs.TxnCore.{Explains}
use Rattle.txc_txn.specs.declared.receipt.Receipt.{Receipt}
use Rattle.txc_txn_rw.specs.Answers.{AreRightIn, IsRightIn}
use Rattle.txc_txn_rw.specs.declared.given.Given.{Given}
use Rattle.txc_txn_rw.specs.declared.given.Given.TheVariants as given
use Rattle.txc_caller.specs.CallerTxn.{recorded_as}
use Rattle.txc_uses_callers.specs.Labels.{first_body, first_group, label_call, label_in, label_of, labels, ShowsLabel}

-- bytes that are no value give none
bytes_are : (b : Bool) (bytes value : List ℕ) → (if b then Some bytes else None) ≡ Some value → value ≡ bytes
bytes_are true bytes value is = cc is
bytes_are false bytes value is = absurd (cc is)

-- what comes after a query: its rows are those of the state
module _ (s : State) (calls : given_by.Calls) where
  by_group : (b : Bool) (first other value : List ℕ) (id : ℕ) (rest : Answer → Evaluation)
      → (rest (Rows (answer (ById 1 id) s))).value ≡ (done_with MAX_VALUE_LEN other).value
      → (after_ask MAX_VALUE_LEN (λ q. answer q s) calls (if b then Some (Done first) else Some (Query (ById 1 id))) rest).value ≡ Some value
      → value ≡ (if b then first else other)
  by_group true first other value id rest goes_on is = bytes_are (nat_le (length first) MAX_VALUE_LEN) first value is
  by_group false first other value id rest goes_on is = bytes_are (nat_le (length other) MAX_VALUE_LEN) other value (sym goes_on ∙ is)

  by_id : (b : Bool) (label value : List ℕ) (id : ℕ) (rest : Answer → Evaluation)
      → ((rest (Rows (answer (ById 1 id) s))).value ≡ Some value → value ≡ label)
      → (after_ask MAX_VALUE_LEN (λ q. answer q s) calls (if b then Some (Done []) else Some (Query (ById 1 id))) rest).value ≡ Some value
      → value ≡ (if b then [] else label)
  by_id true label value id rest goes_on is = bytes_are true [] value is
  by_id false label value id rest goes_on is = goes_on is

-- what the call gives is the label in that state
pub label_is : (id : ℕ) (s : State) (value : List ℕ) → eval labels (label_call id) s ≡ Some value → value ≡ label_in s id
unfolding activation
label_is id s value is =
    let rows = answer (ById 1 id) s in
    by_id s _ (id == 0) (label_of s rows) value id _
    (λ found. by_group s _ (first_group rows == 0) (first_body rows) (first_body (answer (ById 1 (first_group rows)) s)) value (first_group rows) _ refl found) is

-- ---- in a receipt

shows_by : (L : History) (bounds : Bounds) (pin : Option Pin) (id : ℕ) (value : List ℕ) (answers : List Recorded)
    → Explains labels L bounds pin answers → answers ≡ recorded_as (label_call id) value ∷ []
    → (p : Pin) × (pin ≡ Some p) × (value ≡ label_in (state_at L p.stamp) id)
shows_by L bounds None id value answers explained are = absurd (cc (explained, are))
shows_by L bounds (Some p) id value answers explained are =
    let right = λ (r : Recorded). eval labels r.key (state_at L p.stamp) ≡ Some r.value in
    let shown = recorded_as (label_call id) value in
    (p, refl, label_is id (state_at L p.stamp) value (All-head right shown [] (All-same right (shown ∷ []) answers (sym are) explained.2)))

pub shows_label : (bounds : Bounds) (id : ℕ) (value : List ℕ) (receipt : Receipt)
    → Explains labels receipt.seen.history bounds receipt.pin receipt.answers.items → receipt.answers.items ≡ recorded_as (label_call id) value ∷ []
    → ShowsLabel id receipt value
shows_label bounds id value receipt explained are =
    let by = shows_by receipt.seen.history bounds receipt.pin id value receipt.answers.items explained are in
    record { pin = by.0; pinned = by.1; label_is = by.2 }

-- ---- in a write

pub written_label : (s : State) (id : ℕ) (value : List ℕ) (answers : List Given) → AreRightIn labels s answers
    → answers ≡ given.Value (label_call id) value ∷ [] → value ≡ label_in s id
written_label s id value answers right are =
    let its = given.Value (label_call id) value in
    label_is id s value (All-head (IsRightIn labels s) its [] (All-same (IsRightIn labels s) (its ∷ []) answers (sym are) right))
