use Rattle.std.proofs.Common.{◌≡◌, true, false, ◌⊎◌, inl, inr, refl, sym, ap, subst, ◌∙◌}
use borrow.Author.Tests.{eqb-true}
use Rattle.std.proofs.lemmas.Bool.{false≢true}
use Rattle.txc_tags.specs.declared.tag.Rows.{Rows}
use Rattle.txc_tags.specs.declared.tag.Rows.TheVariants.{All, Id, Group}
use Rattle.txc_tags.specs.Tags.{are_all, rows_match}
use Rattle.txc_node.specs.IndexedEntries.{lists_rows}
use Rattle.txc_node.proofs.Invalidated.{spared_still, was_live}
use Rattle.txc_node.proofs.tag_index.close_by.Goals as goal

-- what matches rows that are not all of a table is all of them, or the same
matching : (rows r : Rows) → are_all rows ≡ false → rows_match rows r ≡ true → (r ≡ rows) ⊎ (r ≡ All)
matching All r not_all h = absurd (false≢true (sym not_all))
matching (Id n) All not_all h = inr refl
matching (Id n) (Id m) not_all h = inl (ap Id (sym (eqb-true n m h)))
matching (Id n) (Group m) not_all h = absurd (false≢true h)
matching (Group n) All not_all h = inr refl
matching (Group n) (Id m) not_all h = absurd (false≢true h)
matching (Group n) (Group m) not_all h = inl (ap Group (sym (eqb-true n m h)))

pub returns-clause-spared : goal.returns-clause-spared
returns-clause-spared c = λ r q match_ there.
    let a = c.args in
    let stamp = a.closing.now.stamp in
    let tags = a.closing.now.tags.now in
    let first = c.close_rows-count in
    let second = c.close_rows in
    elim (matching a.tag.now.rows r (sym c.is_wildcard.ensures ∙ c.if-is_wildcard.false) match_) [
      | inl same ↦ second.ensures.closes.spared q (first.ensures.spared q (subst (λ (x : Rows). lists_rows a.buckets.now.entries x q ≡ true) same there))
      | inr all ↦ spared_still stamp tags first.new.entries second.new.entries second.result q second.ensures.closes (λ live. second.ensures.spared q (first.ensures.kept All q live (subst (λ (x : Rows). lists_rows a.buckets.now.entries x q ≡ true) all there)))
    ]

pub returns-clause-kept : goal.returns-clause-kept
returns-clause-kept c = λ r q live there.
    let a = c.args in
    let first = c.close_rows-count in
    let second = c.close_rows in
    second.ensures.kept r q live (first.ensures.kept r q (was_live a.closing.now.stamp a.closing.now.tags.now first.new.entries second.new.entries second.result q second.ensures.closes live) there)
