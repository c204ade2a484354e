use Rattle.std.proofs.Common.{◌≡◌, List, [], true, false, refl, ◌∙◌, sym, subst}
use Rattle.std.specs.List.{AllByRecursion}
use Rattle.std.proofs.lemmas.Bool.{false≢true}
use Rattle.txc_node.specs.declared.place.Place.{Place}
use Rattle.txc_node.specs.IndexedEntries.{has_place, is_live, IsSpared}
use Rattle.txc_node.proofs.Buckets.{is_later, kept_behind, not_dead}
use Rattle.txc_node.proofs.Closings.{all_stay}
use Rattle.txc_node.proofs.Invalidated.{was_live}
use Rattle.txc_node.proofs.bucket.Bucket.close.Goals as goal

pub returns-then-is_live-clause-kept : goal.returns-then-is_live-clause-kept
returns-then-is_live-clause-kept c = λ t q live h.
    let i = c.self.inside in
    let a = c.args in
    let last = c.close_at-closed in
    let there = subst (λ (qs : List Place). has_place qs q ≡ true) (sym c.self.view_is) h in
    kept_behind q i.first i.others c.clean.new.self (c.clean.ensures q (was_live a.closing.now.stamp a.closing.now.tags.now c.at_each-count.new.entries last.new.self last.result.0 q last.ensures.closes live)) there

pub returns-clause-kept : goal.returns-clause-kept
returns-clause-kept c = λ t q live h.
    let i = c.self.inside in
    let a = c.args in
    let last = c.close_at-closed in
    let dead : is_live last.new.self.entries i.first ≡ false = sym last.ensures.live ∙ c.if-is_live.false in
    let there = subst (λ (qs : List Place). has_place qs q ≡ true) (sym c.self.view_is) h in
    let kept = c.clean.ensures q (was_live a.closing.now.stamp a.closing.now.tags.now c.at_each-count.new.entries last.new.self last.result.0 q last.ensures.closes live) (is_later q i.first i.others (not_dead last.new.self.entries i.first q dead live) there) in
    c.drop_first.ensures.kept t q i.first c.clean.new.self refl kept

pub returns-then-is_live-clause-spared : goal.returns-then-is_live-clause-spared
returns-then-is_live-clause-spared c =
    let a = c.args in
    let i = c.self.inside in
    let last = c.close_at-closed in
    let mid = c.at_each-count.new.entries.entries in
    let others = subst (λ (ps : List Place). AllByRecursion (IsSpared a.closing.now.stamp a.closing.now.tags.now mid) ps) c.as_slice.ensures c.at_each-count.ensures.spared in
    subst (AllByRecursion (IsSpared a.closing.now.stamp a.closing.now.tags.now last.new.self.entries)) c.self.view_is (last.ensures.spared, all_stay a.closing.now.stamp a.closing.now.tags.now mid last.new.self.entries i.others last.ensures.closes.spared others)

pub returns-clause-spared : goal.returns-clause-spared
returns-clause-spared c =
    let a = c.args in
    let i = c.self.inside in
    let last = c.close_at-closed in
    let mid = c.at_each-count.new.entries.entries in
    let others = subst (λ (ps : List Place). AllByRecursion (IsSpared a.closing.now.stamp a.closing.now.tags.now mid) ps) c.as_slice.ensures c.at_each-count.ensures.spared in
    subst (AllByRecursion (IsSpared a.closing.now.stamp a.closing.now.tags.now last.new.self.entries)) c.self.view_is (last.ensures.spared, all_stay a.closing.now.stamp a.closing.now.tags.now mid last.new.self.entries i.others last.ensures.closes.spared others)

pub returns-clause-none : goal.returns-clause-none
returns-clause-none c = λ t q h. (elim (is_live c.close_at-closed.new.self.entries q) as (λ b. is_live c.close_at-closed.new.self.entries q ≡ b → b ≡ false) [
  | true ↦ λ live.
      let i = c.self.inside in
      let a = c.args in
      let last = c.close_at-closed in
      let dead : is_live last.new.self.entries i.first ≡ false = sym last.ensures.live ∙ c.if-is_live.false in
      let there = subst (λ (qs : List Place). has_place qs q ≡ true) (sym c.self.view_is) h in
      let kept = c.clean.ensures q (was_live a.closing.now.stamp a.closing.now.tags.now c.at_each-count.new.entries last.new.self last.result.0 q last.ensures.closes live) (is_later q i.first i.others (not_dead last.new.self.entries i.first q dead live) there) in
      let gone : c.clean.new.self ≡ [] = c.drop_first.ensures.alone t i.first c.clean.new.self refl in
      absurd (false≢true (subst (λ (qs : List Place). has_place qs q ≡ true) gone kept))
  | false ↦ λ t. refl
]) refl
