-- The nodes of a site and their histories, by their numbers.
use Rattle.std.proofs.Common.{◌≡◌, ℕ, ◌+◌, ◌<◌, zero, suc, Option, List, [], ◌∷◌, ◌++◌, length, get_or, map, All, refl, sym, ap, subst, ◌∙◌, arith}
use Rattle.std.specs.List.{range_with_len}
use Rattle.txc_stream.specs.Names.{Name, stored}
use Rattle.std.proofs.lemmas.List.FromFn.{map-range_with_len_more}
use Rattle.txc_shared.specs.declared.settings.NodeSettings.{NodeSettings}
use Rattle.txc_site_workers.specs.declared.plan.Plan.{Plan}
use Rattle.txc_site_workers.specs.Plans.{settings_of_node}
use Rattle.txc_site_ledger.specs.declared.node_history.NodeHistory.{NodeHistory}
use Rattle.txc_db_carry.specs.Rooms.{IsHistoryFor}
use Rattle.txc_site_workers.specs.Histories.{AreHistoriesOf}
use Rattle.txc_site_ledger.specs.Histories.{IsNew, history_name}

-- so many places later
later_histories : (names : List Name) (name : Name) (n : ℕ) (histories : List NodeHistory) → AreHistoriesOf (λ k. get_or names k (stored [])) n histories
    → AreHistoriesOf (λ k. get_or (name ∷ names) k (stored [])) (n + 1) histories
later_histories names name n [] h = tt
later_histories names name n (x ∷ histories) h =
    let next : suc n ≡ n + 1 = omega arith in
    (h.0, h.1 ∙ ap (λ (m : ℕ). get_or (name ∷ names) m (stored [])) next, later_histories names name (n + 1) histories h.2)

-- each new history of a list is called as the one at its place
pub histories_by_place : (histories : List NodeHistory) → All IsNew histories → AreHistoriesOf (λ k. get_or (map history_name histories) k (stored [])) 0 histories
histories_by_place [] new = tt
histories_by_place (x ∷ histories) new = (
  new 0 x (omega arith),
  refl,
  later_histories (map history_name histories) (history_name x) 0 histories (histories_by_place histories (λ i d within. new (suc i) d (omega (arith, within)))),
)

-- each history that is stored so is called as the one at its place
pub stored_so_by_place : (room : Option ℕ) (histories : List NodeHistory) → All (λ history. IsHistoryFor room (history_name history)) histories
    → (number : ℕ) → number < length histories → IsHistoryFor room (get_or (map history_name histories) number (stored []))
stored_so_by_place room [] so number within = absurd (omega (arith, within))
stored_so_by_place room (x ∷ histories) so zero within = so 0 x within
stored_so_by_place room (x ∷ histories) so (suc n) within =
    stored_so_by_place room histories (λ i d less. so (suc i) d (omega (arith, less))) n (omega (arith, within))

-- one history less is left
pub one_history_less : (named : ℕ → Name) (n m : ℕ) (history : NodeHistory) (rest all : List NodeHistory) → AreHistoriesOf named n all
    → all ≡ history ∷ rest → m ≡ n + 1 → AreHistoriesOf named m rest
one_history_less named n m history rest all before step more =
    let left = subst (AreHistoriesOf named n) step before in
    subst (λ (k : ℕ). AreHistoriesOf named k rest) (sym more) left.2

-- one node more is made
pub one_node_more : (plan : Plan) (nodes more : List NodeSettings) (node : NodeSettings) (n m : ℕ)
    → nodes ≡ map (λ k. settings_of_node plan k) (range_with_len 0 n) → node ≡ settings_of_node plan n → more ≡ nodes ++ node ∷ [] → m ≡ n + 1
    → more ≡ map (λ k. settings_of_node plan k) (range_with_len 0 m)
one_node_more plan nodes more node n m before its added next =
    let made = λ (k : ℕ). settings_of_node plan k in
    added
    ∙ ap (λ (xs : List NodeSettings). xs ++ node ∷ []) before
    ∙ ap (λ (x : NodeSettings). map made (range_with_len 0 n) ++ x ∷ []) its
    ∙ sym (map-range_with_len_more made 0 n n (omega arith))
    ∙ ap (λ (k : ℕ). map made (range_with_len 0 k)) (sym next)
