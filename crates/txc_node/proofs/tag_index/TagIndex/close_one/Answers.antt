use Rattle.std.proofs.Common.{◌≡◌, ◌==◌, ◌<◌, length, arith, ℕ, suc, zero, true, false, List, [], ◌∷◌, None, Some, sym, ap, ◌∙◌}
use Rattle.std.specs.Prelude.{slice_get, slice_set, unwrap_or}
use Rattle.std.specs.Option.{option_map}
use Rattle.std.specs.HashMap.{HashMap}
use Rattle.std.proofs.lemmas.Option.{slice_get-get_or}
use borrow.Author.Tests.{eqb-true}
use Rattle.txc_tags.proofs.Offered.{both_true}
use Rattle.txc_tags.specs.declared.tag.Rows.{Rows}
use Rattle.txc_tags.specs.Tags.{rows_match}
use Rattle.txc_node.specs.declared.place.Place.{Place}
use Rattle.txc_node.specs.IndexedEntries.{lists_rows}
use Rattle.txc_node.proofs.tag_index.TagIndex.close_one.Goals as goal

module _ {S : Type 0} (rows : Rows) (q : Place) where
  -- what a table that is changed lists, and what the others do
  kept_set : (tables : List (HashMap Rows (List Place) S)) (at n : ℕ) (old new : HashMap Rows (List Place) S) → slice_get tables at ≡ Some old → (lists_rows old.entries rows q ≡ true → lists_rows new.entries rows q ≡ true)
      → unwrap_or (option_map (λ x. lists_rows x.entries rows q) (slice_get tables n)) false ≡ true → unwrap_or (option_map (λ x. lists_rows x.entries rows q) (slice_get (slice_set tables at new) n)) false ≡ true
  kept_set [] at n old new h k l = let none : None ≡ Some old = h in cc
  kept_set (x ∷ xs) zero zero old new h k l = let is : Some x ≡ Some old = h in let same : x ≡ old = cc in k (ap (λ (m : HashMap Rows (List Place) S). lists_rows m.entries rows q) (sym same) ∙ l)
  kept_set (x ∷ xs) zero (suc n) old new h k l = l
  kept_set (x ∷ xs) (suc at) zero old new h k l = l
  kept_set (x ∷ xs) (suc at) (suc n) old new h k l = kept_set xs at n old new h k l

pub returns-clause-spared : goal.returns-clause-spared
returns-clause-spared c = λ t q match_ there.
    let a = c.args in
    let tables = a.self.now.tables.items in
    let both = both_true (a.tag.now.table == t.table) (rows_match a.tag.now.rows t.rows) match_ in
    let same : t.table ≡ c.number-at.result = sym (eqb-true a.tag.now.table t.table both.0) ∙ sym c.number-at.ensures.answer in
    let within : c.number-at.result < length tables = omega (arith, c.number-at.ensures.answer, c.number-at.ensures.bound, a.self.now.whole) in
    let is = slice_get-get_or tables c.number-at.result c.index_mut.result.now within ∙ ap Some (sym c.index_mut.ensures.value) in
    c.close_by.ensures.spared t.rows q both.1
    (sym (ap (λ f. unwrap_or (option_map (λ x. lists_rows x.entries t.rows q) f) false) (ap (slice_get tables) same ∙ is)) ∙ there)

pub returns-clause-kept : goal.returns-clause-kept
returns-clause-kept c = λ t q live there.
    let tables = c.args.self.now.tables.items in
    let within : c.number-at.result < length tables = omega (arith, c.number-at.ensures.answer, c.number-at.ensures.bound, c.args.self.now.whole) in
    let is = slice_get-get_or tables c.number-at.result c.index_mut.result.now within ∙ ap Some (sym c.index_mut.ensures.value) in
    kept_set t.rows q tables c.number-at.result t.table c.index_mut.result.now c.close_by.new.buckets is (c.close_by.ensures.kept t.rows q live) there
