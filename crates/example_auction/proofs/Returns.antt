-- What visitors did and saw who came again.
use Rattle.std.proofs.Common.{◌≡◌, ◌∙◌, ℕ, ◌+◌, ◌*◌, ◌^◌, ◌<◌, ◌≤◌, List, [], ◌∷◌, ◌++◌, map, length, true, false, Option, Result, Ok, refl, ap, subst, length-append, arith}
use Rattle.std.specs.Prelude.{◌↔◌, All, IsTrue, Vec}
use Rattle.std.specs.declared.alloc.Global.{Global}
use Rattle.std.specs.List.{sum_by}
use Rattle.std.proofs.Math.Nat.{mul-zero}
use Rattle.std.proofs.lemmas.List.{length-map}
use Rattle.std.proofs.lemmas.Nat.{mul-le}
use Rattle.std.proofs.lemmas.List.Elements.{All-head, All-map, All-tail, All-weaker}
use Rattle.txc_site.specs.FrontsAndFeeds.{FrontValue}
use Rattle.txc_site.specs.declared.error.GenerationError.{GenerationError}
use Rattle.txc_site.specs.Plan.{Plan}
use Rattle.txc_site.specs.declared.recurring.Generation.{Generation}
use Rattle.txc_site.specs.Generations.{AreInTurn, ComeAfter, GenerationsHaveEnded, HaveServed, IsGeneration}
use Rattle.example_auction.proofs.Tallies.{asked_in_all, sum_of_each, torn_in_all}
use Rattle.example_auction.specs.Tallies.{pages_of, HasTallied}
use Rattle.example_auction.specs.declared.arguments.Arguments.{Arguments}
use Rattle.example_auction.specs.declared.tally.Tally.{Tally}

module _ {T : Type 0} where
  -- the last has the number of those before it
  later_number : (g : Generation T) (before : List (Generation T)) (last : Generation T) → ComeAfter g (before ++ last ∷ [])
      → last.number ≡ g.number + 1 + length before
  later_number g [] last turns = omega (arith, turns.0.number)
  later_number g (h ∷ before) last turns = omega (arith, turns.0.number, later_number h before last turns.1)

  last_number : (opened : FrontValue) (before : List (Generation T)) (last : Generation T) → AreInTurn opened (before ++ last ∷ [])
      → last.number ≡ length before
  last_number opened [] last turns = turns.0
  last_number opened (g ∷ before) last turns = omega (arith, turns.0, later_number g before last turns.2)

  -- where those before it have lower numbers than this, it has none that is higher
  later_few : (most : ℕ) (g : Generation T) (before : List (Generation T)) (last : Generation T) → ComeAfter g (before ++ last ∷ [])
      → g.number < most → All (λ h. h.number < most) before → last.number ≤ most
  later_few most g [] last turns few each = omega (arith, few, turns.0.number)
  later_few most g (h ∷ before) last turns few each =
      later_few most h before last turns.1 (All-head (λ k. k.number < most) h before each) (All-tail (λ k. k.number < most) h before each)

  last_few : (most : ℕ) (opened : FrontValue) (before : List (Generation T)) (last : Generation T) → AreInTurn opened (before ++ last ∷ [])
      → All (λ h. h.number < most) before → last.number ≤ most
  last_few most opened [] last turns each = omega (arith, turns.0)
  last_few most opened (g ∷ before) last turns each =
      later_few most g before last turns.2 (All-head (λ k. k.number < most) g before each) (All-tail (λ k. k.number < most) g before each)

-- who comes again below a number of generations comes as often, and once before
came_so_often : {T U : Type 0} (most : ℕ) (room : Option ℕ) (numbers : List ℕ) (opened : FrontValue) (gs : List (Generation T)) (u : U) → AreInTurn opened gs
    → GenerationsHaveEnded (λ g more. IsTrue more ↔ (g.number < most)) room numbers gs (Ok u) → length gs ≡ most + 1
came_so_often {T} most room numbers opened gs u turns (before, last, is, went_on, stopped) =
    let ordered = subst (AreInTurn opened) is turns in
    let low = All-weaker (λ (g : Generation T). IsTrue true ↔ (g.number < most)) (λ g. g.number < most) (λ g goes. goes.0 refl) before went_on in
    let few = last_few most opened before last ordered low in
    let number = last_number opened before last ordered in
    let enough : most ≤ last.number = grind (arith, stopped.1) in
    omega (arith, few, number, enough, ap length is, length-append before (last ∷ []))

-- so many visitors were in each generation, and each asked for so many pages
module _ {U : Type 0} (plan : Plan) (tells : ℕ → Type 0) (a : Arguments) (numbers : List ℕ) (opened : FrontValue) (came tallies : List (Vec Tally Global))
    (end : Result U GenerationError) (u : U) (is : end ≡ Ok u) (same : tallies ≡ came)
    (served : HaveServed plan tells a.threads numbers (λ p row number tally. HasTallied a.pages a tally) (λ g more. IsTrue more ↔ (g.number < a.returns)) opened came end) where
  many : length served.generations ≡ a.returns + 1
  many =
      came_so_often a.returns plan.events numbers opened served.generations u served.turns
      (subst (λ (e : Result U GenerationError). GenerationsHaveEnded (λ g more. IsTrue more ↔ (g.number < a.returns)) plan.events numbers served.generations e) is served.ended)

  of_each : (f : Vec Tally Global → ℕ) (n : ℕ)
      → ((g : Generation Tally) → IsGeneration plan tells a.threads (λ p row number tally. HasTallied a.pages a tally) g → f g.outputs ≡ n)
      → sum_by f tallies ≡ (a.returns + 1) * n
  of_each f n one =
      ap (sum_by f) (same ∙ served.outputs)
      ∙ sum_of_each f n (map (λ g. g.outputs) served.generations)
      (All-map (λ ts. f ts ≡ n) (λ (g : Generation Tally). g.outputs) served.generations
      (All-weaker (IsGeneration plan tells a.threads (λ p row number tally. HasTallied a.pages a tally)) (λ g. f g.outputs ≡ n) one served.generations served.each))
      ∙ ap (λ (k : ℕ). k * n) (length-map served.generations (λ (g : Generation Tally). g.outputs) ∙ many)

  pub asked_in_generations : sum_by (λ ts. sum_by pages_of ts.items) tallies ≡ (a.returns + 1) * (a.threads * a.pages)
  asked_in_generations =
      of_each (λ ts. sum_by pages_of ts.items) (a.threads * a.pages)
      (λ g one. asked_in_all a.threads a.pages a g.outputs.items g.outputs.items refl (omega (arith, one.each, g.outputs.ok.0)) one.came)

  pub torn_in_generations : a.is_plain ≡ false → sum_by (λ ts. sum_by (λ t. t.torn) ts.items) tallies ≡ 0
  torn_in_generations plain =
      of_each (λ ts. sum_by (λ t. t.torn) ts.items) 0
      (λ g one. torn_in_all a.threads a.pages a g.outputs.items g.outputs.items refl (omega (arith, one.each, g.outputs.ok.0)) one.came plain)
      ∙ mul-zero (a.returns + 1)

  pub few_in_generations : a.returns < 2 ^ 8 → a.threads < 2 ^ 8 → a.pages < 2 ^ 32 → sum_by (λ ts. sum_by pages_of ts.items) tallies < 2 ^ 64
  few_in_generations returns threads pages =
      let one = mul-le a.threads a.pages 255 4294967295 (omega arith) (omega arith) in
      let all = mul-le (a.returns + 1) (a.threads * a.pages) 256 1095216660225 (omega arith) (omega (arith, one)) in
      omega (arith, asked_in_generations, all)
