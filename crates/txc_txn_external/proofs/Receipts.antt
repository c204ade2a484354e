-- The snapshot of a receipt.
use Rattle.std.proofs.Common.{◌≡◌, ℕ, List, [], ◌∷◌, Some, None, refl, sym, ap, ◌∙◌, arith}
use Rattle.std.proofs.lemmas.List.Elements.{All-from_recursion, recursion_from_All}
use Rattle.std.proofs.lemmas.Option.{same_Some}
use Rattle.std.specs.List.{AllByRecursion}
use Rattle.txc_db.specs.History.{History, state_at}
use Rattle.txc_cushion.specs.declared.pin.Pin.{Pin}
use Rattle.txc_txn_ports.specs.declared.bounds.Bounds.{Bounds}
use Rattle.txc_txn_ports.specs.declared.recorded.Recorded.{Recorded}
use Rattle.txc_app.specs.Eval.{eval}
use Rattle.txc_txn.specs.TxnCore.{Explains}
use Rattle.txc_app_external.specs.Snapshots.{Snapshots}
use Rattle.txc_app_external.specs.Functions.{Functions, uncached, over_versions}
use Rattle.txc_app_external.specs.Laws.{ValuesAreUncached, CachedIsUncached, ShowsSnapshot, PinsShowVersionTables}
use Rattle.txc_app_external.specs.WorkedSnapshots.{worked_functions, page, missing, missing_history, MissingNote}
use Rattle.txc_txn_external.specs.Laws.{IsOfOneSnapshot, AreOfOneSnapshot, ReceiptsShowSnapshots, ReceiptsNeedThePremise}

module _ (D : Snapshots) (own : Functions) (values : ValuesAreUncached D) where
  each : (L : History) (stamp moment : ℕ) (shows : ShowsSnapshot D L stamp moment) (answers : List Recorded)
      → AllByRecursion (λ r. eval (over_versions D own) r.key (state_at L stamp) ≡ Some r.value) answers
      → AllByRecursion (λ r. uncached own (D.find shows.number) r.key ≡ Some r.value) answers
  each L stamp moment shows [] all = tt
  each L stamp moment shows (r ∷ rs) all =
      (values own shows.number (state_at L stamp) r.key r.value shows.taken shows.table all.0, each L stamp moment shows rs all.1)

  of_pin : (L : History) (bounds : Bounds) (pin : Pin) (answers : List Recorded) → ShowsSnapshot D L pin.stamp pin.moment
      → Explains (over_versions D own) L bounds (Some pin) answers → IsOfOneSnapshot D own L bounds (Some pin) answers
  of_pin L bounds pin answers shows h =
      let allowed = h.1.allowed in
      let same : allowed.moment ≡ pin.moment = same_Some _ _ (sym allowed.pinned ∙ h.1.shown) in
      let fresh = allowed.fresh in let young = shows.no_later in (
        shows.number,
        record {
          taken = shows.taken;
          followed = shows.followed;
          fresh = omega (arith, same, fresh, young);
          at_least = allowed.late;
          uncached = All-from_recursion _ answers (each L pin.stamp pin.moment shows answers (recursion_from_All _ answers h.2));
        },
      )

of_receipt : PinsShowVersionTables → (D : Snapshots) → ValuesAreUncached D → AreOfOneSnapshot D
of_receipt pins D values own L bounds None answers follows h = h
of_receipt pins D values own L bounds (Some pin) answers follows h =
    of_pin D own values L bounds pin answers (pins D L pin.stamp pin.moment follows h.1.shown) h

pub receipts_show : CachedIsUncached → PinsShowVersionTables → ReceiptsShowSnapshots
receipts_show law pins D covered few = of_receipt pins D (law D covered few)

-- a receipt of the call whose note is missing
abbrev bounds : Bounds
bounds = record { now = 2000; staleness = 0; at_least = 0 }

abbrev missing_pin : Pin
missing_pin = record { stamp = 3; moment = 2000 }

abbrev missing_answers : List Recorded
missing_answers = record { key = page; value = 98 ∷ 113 ∷ [] } ∷ []

missing_explained : MissingNote → Explains (over_versions missing worked_functions) missing_history bounds (Some missing_pin) missing_answers
missing_explained note = (
  (λ e. cc e),
  record { shown = refl; allowed = record { moment = 2000; pinned = refl; fresh = omega arith; late = omega arith } },
  All-from_recursion (λ r. eval (over_versions missing worked_functions) r.key (state_at missing_history missing_pin.stamp) ≡ Some r.value) missing_answers (ap (eval (over_versions missing worked_functions) page) note.state ∙ note.cached, tt),
)

pub receipts_need : MissingNote → ReceiptsNeedThePremise
receipts_need note = (
  note.numbered,
  λ law.
      let it = law worked_functions missing_history bounds (Some missing_pin) missing_answers note.follows (missing_explained note) in
      let all = recursion_from_All (λ r. uncached worked_functions (missing.find it.0) r.key ≡ Some r.value) missing_answers it.1.uncached in
      note.torn it.0 all.0,
)
