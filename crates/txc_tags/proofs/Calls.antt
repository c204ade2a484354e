-- Two calls are the same exactly where they are equal.
use Rattle.std.proofs.Common.{◌≡◌, ◌↔◌, ◌==◌, ℕ, List, true, refl, ap, subst, ◌∙◌}
use Rattle.std.specs.Str.{bytes_eq}
use Rattle.std.proofs.lemmas.Slice.Eq.{bytes_eq-Decides}
use borrow.Author.Tests.{eqb-true, eq-eqb}
use Rattle.txc_tags.specs.Keys.{Call, same_call}
use Rattle.txc_tags.proofs.Lists.{both_true, and_true}

pub same_call_itself : (a : Call) → same_call a a ≡ true
same_call_itself a = and_true (a.function == a.function) (bytes_eq a.args a.args) (eq-eqb a.function a.function refl) ((bytes_eq-Decides a.args a.args).1 refl)

pub same_call_is : (a b : Call) → same_call a b ≡ true → a ≡ b
same_call_is a b e =
    let two = both_true (a.function == b.function) (bytes_eq a.args b.args) e in
    let function = eqb-true a.function b.function two.0 in
    let args = (bytes_eq-Decides a.args b.args).0 two.1 in
    ap (λ f. made f a.args) function ∙ ap (λ xs. made b.function xs) args
  where
    made : ℕ → List ℕ → Call
    made f xs = record { function = f; args = xs }

pub same_call_iff : (a b : Call) → (same_call a b ≡ true) ↔ (a ≡ b)
same_call_iff a b = (same_call_is a b, λ e. subst (λ (c : Call). same_call a c ≡ true) e (same_call_itself a))
