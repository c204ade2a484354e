-- One call of a page more, and what the calls of a page leave at a node.
use Rattle.std.proofs.Common.{◌≡◌, ◌∙◌, ℕ, zero, suc, List, [], ◌∷◌, ◌++◌, slice_get, Option, Some, Result, Ok, Err, refl, sym, ap, subst, append-nil}
use Rattle.std.specs.Prelude.{IfOk, IsOk, OnErr, OnOk}
use Rattle.std.specs.List.{filter}
use Rattle.std.proofs.lemmas.List.Elements.{filter-append}
use Rattle.txc_stream.specs.Names.{Name}
use Rattle.txc_tags.specs.Keys.{Call}
use Rattle.txc_db.specs.History.{History}
use Rattle.txc_cushion.specs.declared.pin.Pin.{Pin}
use Rattle.txc_app.specs.Eval.{Next}
use Rattle.txc_shared.specs.Passes.{PassValue}
use Rattle.txc_txn_ports.specs.declared.bounds.Bounds.{Bounds}
use Rattle.txc_txn_ports.specs.declared.error.TxnError.{TxnError}
use Rattle.txc_txn_ports.specs.declared.recorded.Recorded.{Recorded}
use Rattle.txc_txn_ports.specs.Exchanges.{Exchange}
use Rattle.txc_txn.specs.TxnCore.{Explains, KeepsSettings}
use Rattle.txc_txn.specs.Sessions.{IsAtLeast}
use Rattle.txc_txn_client.specs.Laws.{asks, HasAdded}
use Rattle.txc_txn_client.specs.Ports.{HaveGrown}
use Rattle.txc_txn_client.specs.Run.{HasRun}
use Rattle.txc_txn_client.specs.RoTxn.{ClientValue, RoTxnValue, client_of}
pub use Rattle.txc_txn_client.proofs.Grown.{have_grown_self, have_grown_then}
use Rattle.txc_txn_client.proofs.Standing.{each_call_is_recorded_once, added_none, added_both}
use Rattle.txc_txn_client.proofs.Turns.{settings_then}
use Rattle.txc_site_pages.specs.declared.error.ReadError.TheVariants as reads
use Rattle.txc_site_ledger.specs.declared.run_error.RunError.{RunError}
use Rattle.txc_site_pages.specs.Pages.{answer_of, answers_of, exchanges_of, last_bounds, HasCalled, HaveCalled, IsLeftByRefused, IsPageRun, MadeCall, PageStepsAreItsCalls}

module _ (next : Next) (row : Name) (histories : ℕ → Name) where
  module _ (client : ClientValue) (bounds : Bounds) where
    -- no call was made
    pub none_called : (t : RoTxnValue) (c : ClientValue) (b : Bounds) → client_of t ≡ c → c ≡ client → t.txn.core.bounds ≡ b → b ≡ bounds
        → t.txn.core.recorded ≡ [] → HasCalled next row histories client bounds t
    none_called t c b of its limited same none = record {
      first = t;
      calls = [];
      began = of ∙ its;
      bounded = limited ∙ same;
      none = none;
      made = refl;
      answered = none;
      settings = record { bounds = refl; renew_after = refl; nodes = refl };
      functions = refl;
    }

    module _ (old new : RoTxnValue) (key : Call) where
      one_answered_more : (calls : List MadeCall) (result : Result (List ℕ) TxnError) → old.txn.core.recorded ≡ answers_of calls
          → IfOk result (λ value. new.txn.core.recorded ≡ old.txn.core.recorded ++ record { key = key; value = value } ∷ [])
          → OnErr result (new.txn.core.recorded ≡ old.txn.core.recorded)
          → new.txn.core.recorded ≡ answers_of calls ++ answer_of (key, result)
      one_answered_more calls (Ok value) before is same =
          let one : Recorded = record { key = key; value = value } in
          is ∙ ap (λ (l : List Recorded). l ++ one ∷ []) before
      one_answered_more calls (Err error) before is same = same ∙ before ∙ sym (append-nil (answers_of calls))

      pub one_called_more : (result : Result (List ℕ) TxnError) → HasCalled next row histories client bounds old
          → HasRun next row histories old key new result → HaveGrown old.passes new.passes
          → IfOk result (λ value. new.txn.core.recorded ≡ old.txn.core.recorded ++ record { key = key; value = value } ∷ [])
          → OnErr result (new.txn.core.recorded ≡ old.txn.core.recorded) → KeepsSettings old.txn.core new.txn.core
          → new.txn.objects ≡ old.txn.objects → HasCalled next row histories client bounds new
      one_called_more result before run grown is same settings functions = record {
        first = before.first;
        calls = (key, result) ∷ before.calls;
        began = before.began;
        bounded = before.bounded;
        none = before.none;
        made = (old, before.made, run, grown);
        answered = one_answered_more before.calls result before.answered is same;
        settings = settings_then before.first.txn.core old.txn.core new.txn.core before.settings settings;
        functions = functions ∙ before.functions;
      }

    -- what a transaction has of the client with which it began
    module _ (t : RoTxnValue) (called : HasCalled next row histories client bounds t) where
      bounds_stay : t.txn.core.bounds ≡ bounds
      bounds_stay = called.settings.bounds ∙ called.bounded

      pub explained_so : (L : History) (pin : Option Pin) (answers : List Recorded) → Explains next L t.txn.core.bounds pin answers
          → Explains next L bounds pin answers
      explained_so L pin answers h = subst (λ (b : Bounds). Explains next L b pin answers) bounds_stay h

      pub not_before_so : (pin : Option Pin) → IsAtLeast t.txn.core.bounds.at_least pin → IsAtLeast bounds.at_least pin
      not_before_so pin h = subst (λ (b : Bounds). IsAtLeast b.at_least pin) bounds_stay h

      passes_grow : HaveGrown client.passes t.passes
      passes_grow =
          subst (λ (ps : List PassValue). HaveGrown ps t.passes) (ap (λ (c : ClientValue). c.passes) called.began)
          (go called.first called.calls t called.made)
        where
          go : (old : RoTxnValue) (calls : List MadeCall) (new : RoTxnValue) → HaveCalled next row histories old calls new → HaveGrown old.passes new.passes
          go old [] new h = subst (λ (v : RoTxnValue). HaveGrown old.passes v.passes) (sym h) (have_grown_self old.passes)
          go old (call ∷ earlier) new h = have_grown_then old.passes h.0.passes new.passes (go old earlier h.0 h.1) h.3

      -- and what it leaves of him
      module _ (left : ClientValue) (is : left ≡ client_of t) where
        pub page_ran : (answers : List Recorded) → answers ≡ t.txn.core.recorded → IsPageRun next row histories client bounds answers left
        page_ran answers all = record { last = t; called = called; answered = sym all; ended = is }

        pub functions_left : left.objects ≡ client.objects
        functions_left =
            ap (λ (c : ClientValue). c.objects) is ∙ called.functions ∙ ap (λ (c : ClientValue). c.objects) called.began

        pub renew_after_left : left.renew_after ≡ client.renew_after
        renew_after_left =
            ap (λ (c : ClientValue). c.renew_after) is ∙ called.settings.renew_after ∙ ap (λ (c : ClientValue). c.renew_after) called.began

        pub passes_left : HaveGrown client.passes left.passes
        passes_left = subst (λ (c : ClientValue). HaveGrown client.passes c.passes) (sym is) passes_grow

    -- what a page that was refused leaves
    pub page_refused : (left : ClientValue) (answers : List Recorded) (cause : RunError) → IsPageRun next row histories client bounds answers left
        → IsLeftByRefused next row histories client bounds (reads.Page cause) left
    page_refused left answers cause ran = (answers, ran)

  -- ---- all calls at a node

  -- the pass at the same place
  grown_at : (node : ℕ) (olds news : List PassValue) (p : PassValue) → HaveGrown olds news → slice_get olds node ≡ Some p
      → (q : PassValue) × (slice_get news node ≡ Some q)
  grown_at node [] news p h is = absurd (cc is)
  grown_at node (x ∷ olds) [] p h is = absurd h
  grown_at zero (x ∷ olds) (y ∷ news) p h is = (y, refl)
  grown_at (suc node) (x ∷ olds) (y ∷ news) p h is = grown_at node olds news p h.1 is

  module _ (node : ℕ) (old : RoTxnValue) (before : PassValue) (was : slice_get old.passes node ≡ Some before) where
    all_added : (calls : List MadeCall) (new : RoTxnValue) (made : HaveCalled next row histories old calls new)
        → (q : PassValue) × (slice_get new.passes node ≡ Some q) × HasAdded (filter (asks node) (exchanges_of next row histories old calls new made)) before q
    all_added [] new made = (before, ap (λ (v : RoTxnValue). slice_get v.passes node) made ∙ was, added_none before)
    all_added (call ∷ earlier) new made =
        let so_far = all_added earlier made.0 made.1 in
        let last = grown_at node made.0.passes new.passes so_far.0 made.3 so_far.1 in
        let first = exchanges_of next row histories old earlier made.0 made.1 in
        let one = each_call_is_recorded_once next row histories made.0 new call.0 call.1 made.2 node so_far.0 last.0 so_far.1 last.1 in (
          last.0,
          last.1,
          subst (λ (l : List Exchange). HasAdded l before last.0) (sym (filter-append (asks node) first made.2.exchanges))
              (added_both before so_far.0 last.0 (filter (asks node) first) (filter (asks node) made.2.exchanges) so_far.2 one),
        )

pub page_steps_are_its_calls : PageStepsAreItsCalls
page_steps_are_its_calls next row histories old calls new made node before after was is =
    let all = all_added next row histories node old before was calls new made in
    let both : Some all.0 ≡ Some after = sym all.1 ∙ is in
    let same : all.0 ≡ after = cc both in
    subst (λ (q : PassValue). HasAdded (filter (asks node) (exchanges_of next row histories old calls new made)) before q) same all.2

-- no pass has seen less
pub none_have_grown : (a b : ClientValue) → a ≡ b → HaveGrown b.passes a.passes
none_have_grown a b same = subst (λ (c : ClientValue). HaveGrown b.passes c.passes) (sym same) (have_grown_self b.passes)

-- what holds of each transaction that began so holds where a page was shown
pub began_so : {T F S E : Type 0} (P : T → Type 0) (Q : Type 0) → ((txn : T) → P txn → Q) → (begun : Result T F) (shown : Result S E)
    → OnOk shown (IsOk begun) → IfOk begun P → OnOk shown Q
began_so P Q so (Ok txn) (Ok shown) is holds = so txn holds
began_so P Q so (Ok txn) (Err error) is holds = tt
began_so P Q so (Err refused) (Ok shown) is holds = cc is
began_so P Q so (Err refused) (Err error) is holds = tt

-- ---- the bounds of a page of the last state

pub explained_by : (next : Next) (L : History) (b c : Bounds) (pin : Option Pin) (answers : List Recorded) → Explains next L b pin answers → b ≡ c
    → Explains next L c pin answers
explained_by next L b c pin answers h is = subst (λ (d : Bounds). Explains next L d pin answers) is h

pub at_least_by : (b c : Bounds) (pin : Option Pin) → IsAtLeast b.at_least pin → b ≡ c → IsAtLeast c.at_least pin
at_least_by b c pin h is = subst (λ (d : Bounds). IsAtLeast d.at_least pin) is h

pub explained_newest : (next : Next) (L : History) (m n : ℕ) (pin : Option Pin) (answers : List Recorded) → Explains next L (last_bounds m) pin answers
    → m ≡ n → Explains next L (last_bounds n) pin answers
explained_newest next L m n pin answers h is = subst (λ (k : ℕ). Explains next L (last_bounds k) pin answers) is h

pub at_least_newest : (m n : ℕ) (pin : Option Pin) → IsAtLeast m pin → m ≡ n → IsAtLeast n pin
at_least_newest m n pin h is = subst (λ (k : ℕ). IsAtLeast k pin) is h
