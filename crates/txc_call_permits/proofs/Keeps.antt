-- Each step of a pool keeps its rule.
use Rattle.std.proofs.Common.{◌≡◌, ℕ, zero, suc, ◌+◌, ◌-◌, ◌%◌, ◌^◌, ◌<◌, ◌≤◌, Bool, true, false, eqb, List, [], ◌∷◌, ◌++◌, get_or, set, sym, refl, ap, ◌∙◌, subst, arith, length-set, get_or-set_same, eq-eqb, ne_eqb}
use mathlib.Core.Logic.{dite}
use mathlib.Core.Option.{none, some, some-injective, some-ne-none}
use native.Mathlib.Decide.{ℕ_discrete}
use lib.ListN.{get_elem?}
use prog.Atomic.{either}
use Rattle.atomic_table.specs.Table.{State, Me, step, keeps, stepped, Allows, Splits}
use Rattle.atomic_table.proofs.Lists.{set_again}
use Rattle.txc_call_permits.specs.PermitPool.{permits_at, permits_out, IsCounted, takes_one, gives_one}

abbrev M : Type 0
M = Me (Unit {0}) Bool

abbrev St : Type 0
St = State (Unit {0}) Bool

permits_out-set : (l : List Bool) (i : ℕ) (v w : Bool) → get_elem? l i ≡ some v → permits_out (set l i w) + permits_at v ≡ permits_out l + permits_at w
permits_out-set [] i v w e = absurd (some-ne-none v (sym e))
permits_out-set (x ∷ xs) zero v w e = let is : permits_at x ≡ permits_at v = ap permits_at (some-injective x v e) in omega arith
permits_out-set (x ∷ xs) (suc i) v w e = let r = permits_out-set xs i v w e in omega arith

permits_out-snoc : (l : List Bool) → permits_out (l ++ false ∷ []) ≡ permits_out l
permits_out-snoc [] = refl
permits_out-snoc (x ∷ xs) = ap (λ (n : ℕ). permits_at x + n) (permits_out-snoc xs)

placed : (most : ℕ) (s : St) (r : IsCounted most s) (n id : ℕ) (me : M) (w : Bool) → permits_out (set s.views id w) ≡ n → n ≤ most
    → IsCounted most (stepped s 0 n id me.1 w keeps)
placed most s r n id me w is fits = let wide = r.0 in
    (length-set s.words 0 n ∙ wide, get_or-set_same s.words 0 n 0 (omega arith) ∙ sym is, omega arith)

pub splits : (most id : ℕ) → Splits (IsCounted most) id false false false
splits most id s r at =
    let same : permits_out (set s.views id false ++ false ∷ []) ≡ permits_out s.views = permits_out-snoc (set s.views id false) ∙ ap permits_out (set_again s.views id false at) in
    (r.0, r.1 ∙ sym same, subst (λ (n : ℕ). n ≤ most) (sym same) r.2)

pub takes : (most slots id : ℕ) (me : M) (old : ℕ) → me.0 ≡ false → old < most
    → Allows (IsCounted most) slots id me 0 (λ x. either (eqb x old) (old + 1) x) (takes_one (step slots 0 old (old + 1) none) me)
takes most slots id me old free room s r _ at _ = let x : ℕ = get_or s.words 0 0 in dite (ℕ_discrete x old)
    (λ hit. let sum = permits_out-set s.views id me.0 true at in let none_yet : permits_at me.0 ≡ 0 = ap permits_at free in let is = r.1 in (
      true,
      keeps,
      tt,
      subst (λ b. IsCounted most (stepped s 0 (either b (old + 1) x) id me.1 true keeps)) (sym (eq-eqb x old hit))
          (placed most s r (old + 1) id me true (omega arith) (omega arith)),
      ((λ _. refl), λ not. absurd (not hit)),
    ))
    (λ miss. let is = r.1 in let fits = r.2 in (
      me.0,
      keeps,
      tt,
      subst (λ b. IsCounted most (stepped s 0 (either b (old + 1) x) id me.1 me.0 keeps)) (sym (ne_eqb x old miss))
          (placed most s r x id me me.0 (ap permits_out (set_again s.views id me.0 at) ∙ sym is) (omega arith)),
      ((λ hit. absurd (miss hit)), λ _. refl),
    ))

pub gives : (most slots id : ℕ) (me : M) → me.0 ≡ true
    → Allows (IsCounted most) slots id me 0 (λ x. (x + (2 ^ 64 - 1)) % 2 ^ 64) (gives_one (step slots 0 1 0 none) me)
gives most slots id me held s r _ at small =
    let x : ℕ = get_or s.words 0 0 in
    let n : ℕ = permits_out (set s.views id false) in
    let one : permits_at me.0 ≡ 1 = ap permits_at held in
    let sum = permits_out-set s.views id me.0 false at in
    let is = r.1 in
    let fits = r.2 in
    let more : permits_out s.views ≡ n + 1 = omega arith in
    let room : x < 18446744073709551616 = small in
    let less : n ≡ (x + 18446744073709551615) % 18446744073709551616 = omega arith in
    (false, keeps, tt, subst (λ (z : ℕ). IsCounted most (stepped s 0 z id me.1 false keeps)) less (placed most s r n id me false refl (omega arith)), (omega arith, refl))
