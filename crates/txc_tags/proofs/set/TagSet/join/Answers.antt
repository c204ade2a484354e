use Rattle.std.proofs.Common.{List, sym, subst, ◌∙◌}
use Rattle.txc_tags.specs.declared.tag.Tag.{Tag}
use Rattle.txc_tags.specs.Tags.{IsCanonical}
use Rattle.txc_tags.proofs.Covering.{all_canonical, nothing_added}
use Rattle.txc_tags.proofs.set.TagSet.join.Goals as goal

pub invariant_of-self : goal.invariant_of-self
invariant_of-self c = subst (λ (s : List Tag). IsCanonical s) (sym c.in_err-reserve.ensures.items) c.self.invariant

pub invariant_of-self-2 : goal.invariant_of-self-2
invariant_of-self-2 c =
    let kept = subst (λ (s : List Tag). IsCanonical s) (sym c.in_ok-reserve.ensures.items) c.self.invariant in
    subst (λ (s : List Tag). IsCanonical s) (sym c.add_all.ensures) (all_canonical c.deref-3.result.now c.reserve.new.self.items kept)

pub returns-then-covers_all-clause-after : goal.returns-then-covers_all-clause-after
returns-then-covers_all-clause-after c =
    let mine = c.deref.ensures.value ∙ c.self.view_is in
    let its = c.deref-2.ensures.value ∙ c.other.view_is in
    sym (rw (mine, its) at (nothing_added c.deref-2.result.now c.deref.result.now (sym c.if-covers_all.ensures)))
