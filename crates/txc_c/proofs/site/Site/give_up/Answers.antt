use Rattle.std.proofs.Common.{◌≡◌, ◌↔◌, ℕ, Bool, true, false, IsTrue, Option, Some, None, IsSome, refl, sym, subst}
use Rattle.slab.specs.Slab.{with_value}
use Rattle.txc_tags.specs.Keys.{Call}
use Rattle.txc_caller.specs.ComputedFunctions.{top_call}
use Rattle.txc_caller.proofs.Letting.{grown_self}
use Rattle.txc_c_types.specs.declared.numbers.TheConstants.{DONE, MISS}
use Rattle.txc_c.specs.Calls.{given_up_number, GiveUpAct, SiteGiveUpTransition}
use Rattle.txc_c.specs.Opened.{calling_of}
use Rattle.txc_c.specs.Sites.{SiteValue}
use Rattle.txc_c.proofs.Acting.{acted, acted_site}
use Rattle.txc_c.proofs.site.Site.give_up.Goals as goal
use Rattle.txc_c.proofs.site.Site.give_up.Goals.{then-give_up, else-give_up}

-- the number says whether a call was open
number_by : (top : Option Call) (up : Bool) (number : ℕ) → (IsTrue up ↔ IsSome top) → (up ≡ true → number ≡ DONE) → (up ≡ false → number ≡ MISS) → number ≡ given_up_number top
number_by (Some k) true number is done miss = done refl
number_by (Some k) false number is done miss = absurd (cc (is.1 refl))
number_by None true number is done miss = absurd (cc (is.0 refl))
number_by None false number is done miss = miss refl

pub invariant_of-self-2 : goal.invariant_of-self-2
invariant_of-self-2 c =
    let s : SiteValue = record { caller = c.self.inside.caller; opened = c.self.inside.opened; begun = c.self.inside.begun } in
    let there = sym c.in-Some.ensures.value in
    acted_site c.acts_leave_others.ensures s c.self.invariant c.args.txn c.place_of.result c.place_of.ensures c.in-Some.it.now there c.if-it-txn.false s.caller (record { row = refl; renew_after = refl })
    (grown_self s.caller.ports.database) c.give_up.new.self (c.give_up.ensures.of_caller s.caller (c.self.invariant.placed c.place_of.result c.in-Some.it.now there).of_caller)

pub returns : goal.returns
returns c =
    let s : SiteValue = record { caller = c.self.inside.caller; opened = c.self.inside.opened; begun = c.self.inside.begun } in
    let s' : SiteValue = record { caller = s.caller; opened = with_value s.opened c.place_of.result (record { number = c.in-Some.it.now.number; txn = c.give_up.new.self }); begun = s.begun } in
    let there = sym c.in-Some.ensures.value in
    let number : c.if-give_up.result ≡ given_up_number (top_call (calling_of c.in-Some.it.now.txn)) =
    elim c.if-give_up.branch [
      | then-give_up w ↦ number_by (top_call (calling_of c.in-Some.it.now.txn)) c.give_up.result c.if-give_up.result c.give_up.ensures.answer (λ up. w.result-is) (λ up. absurd (cc (up, w.if-give_up.true)))
      | else-give_up w ↦ number_by (top_call (calling_of c.in-Some.it.now.txn)) c.give_up.result c.if-give_up.result c.give_up.ensures.answer (λ up. absurd (cc (up, w.if-give_up.false))) (λ up. w.result-is)
    ] in
    subst (λ (old : SiteValue). SiteGiveUpTransition c.args.txn old c.if-give_up.result s') c.self.view_is
    (acted c.acts_leave_others.ensures s c.self.invariant c.args.txn c.place_of.result c.place_of.ensures c.in-Some.it.now there c.if-it-txn.false s.caller (record { row = refl; renew_after = refl })
    (grown_self s.caller.ports.database) c.give_up.new.self (c.give_up.ensures.of_caller s.caller (c.self.invariant.placed c.place_of.result c.in-Some.it.now there).of_caller) GiveUpAct (Unit {0})
    c.if-give_up.result (record { number_is = number; given_up = c.give_up.ensures.given_up; caller = refl }))
