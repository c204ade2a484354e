use Rattle.std.proofs.Common.{◌≡◌, true, false, refl, sym, ◌∙◌, ap}
use Rattle.std.specs.List.{list_any}
use Rattle.txc_pinset.specs.Members.{is_held_by}
use Rattle.txc_cushion.proofs.Offered.{none_kept, some_kept}
use Rattle.txc_pinset.proofs.Kept.{narrowed_held}
use Rattle.txc_pinset.proofs.pin_set.PinSet.narrow.Goals as goal

pub invariant_of-self : goal.invariant_of-self
invariant_of-self c =
    let members = c.self.inside.members.items in
    let some : list_any (is_held_by c.args.reach) members ≡ true = ap (list_any (is_held_by c.args.reach)) (sym c.deref.ensures.value) ∙ (sym c.holds_one.ensures ∙ c.if-holds_one.true) in
    rw c.keep_held.ensures (narrowed_held _ c.args.reach _ c.self.invariant.set (some_kept (is_held_by c.args.reach) members some))

pub returns-then-holds_one-clause-refused : goal.returns-then-holds_one-clause-refused
returns-then-holds_one-clause-refused c =
    let members = c.self.inside.members.items in
    let some : list_any (is_held_by c.args.reach) members ≡ true = ap (list_any (is_held_by c.args.reach)) (sym c.deref.ensures.value) ∙ (sym c.holds_one.ensures ∙ c.if-holds_one.true) in
    rw (← c.self.view_is) (λ e. absurd (cc), λ none. absurd (some_kept (is_held_by c.args.reach) members some none))

pub returns-else-holds_one-clause-refused : goal.returns-else-holds_one-clause-refused
returns-else-holds_one-clause-refused c =
    let members = c.self.inside.members.items in
    let none : list_any (is_held_by c.args.reach) members ≡ false = ap (list_any (is_held_by c.args.reach)) (sym c.deref.ensures.value) ∙ (sym c.holds_one.ensures ∙ c.if-holds_one.false) in
    rw (← c.self.view_is) (λ _. none_kept (is_held_by c.args.reach) members none, λ _. refl)
