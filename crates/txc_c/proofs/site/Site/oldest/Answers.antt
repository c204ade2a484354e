use Rattle.std.proofs.Common.{ℕ, ◌∙◌, ◌≤◌, Option, ap, arith, subst}
use Rattle.slab.specs.Slab.{entries}
use Rattle.txc_c.specs.Sites.{IsSite, SiteValue}
use Rattle.txc_c.proofs.Oldest.{least_open, none_seen, seen_first, seen_later, IsAtMost, IsLeastBut}
use Rattle.txc_c.proofs.site.Site.oldest.Goals as goal
use Rattle.txc_c.proofs.site.Site.oldest.Goals.{in_default-via-in-Some-least+else-number-it, in_default-via-in_default}

pub loop-it-init : goal.loop-it-init
loop-it-init c =
    let left = c.into_iter-it-iterator.ensures.into_iter_gives ∙ (c.iter-it-items.ensures.rest ∙ ap (λ (s : SiteValue). entries s.opened) c.self.view_is) in (tt, tt, none_seen c.args.self.now.opened _ left)

pub loop-it-preserved-in-Some-least : goal.loop-it-preserved-in-Some-least
loop-it-preserved-in-Some-least c =
    let least = subst (λ (x : Option ℕ). IsLeastBut c.args.self.now.opened c.loop-it.it-iterator x) c.in-Some-least.is c.loop-it.invariant.2 in
    (tt, tt, seen_later _ _ _ _ _ c.in-Some.ensures.steps c.in-Some-least.number c.if-number-it.true least)

pub loop-it-preserved : goal.loop-it-preserved
loop-it-preserved c =
    let low : (n : ℕ) → IsAtMost c.loop-it.least n → c.in-Some.it.now.number ≤ n = elim c.in_default.branch [
      | in_default-via-in-Some-least+else-number-it w ↦ λ n high. let h : w.in-Some-least.number ≤ n = subst (λ (x : Option ℕ). IsAtMost x n) w.in-Some-least.is high in omega (arith, h, w.if-number-it.false)
      | in_default-via-in_default w ↦ λ n high. absurd (subst (λ (x : Option ℕ). IsAtMost x n) w.in_default.is high)
    ] in
    (tt, tt, seen_first _ _ _ _ _ c.in-Some.ensures.steps c.loop-it.least low c.loop-it.invariant.2)

pub returns : goal.returns
returns c =
    least_open c.args.self.now (subst (λ (s : SiteValue). IsSite s) c.self.view_is c.self.invariant) c.loop-it.it-iterator c.in-None.ensures.steps.0 c.loop-it.least c.loop-it.invariant.2
