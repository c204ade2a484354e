-- One generation more.
use Rattle.std.proofs.Common.{◌≡◌, ◌⊎◌, inl, inr, ◌∙◌, ℕ, ◌+◌, ◌≤◌, max, Bool, true, false, List, [], ◌∷◌, ◌++◌, Option, Result, Ok, Err, map, length, refl, sym, ap, subst, append-nil, length-append, arith}
use Rattle.std.specs.Prelude.{All, IfErr, Vec}
use Rattle.std.specs.Result.{IsErrAnd}
use Rattle.std.specs.declared.alloc.Global.{Global}
use Rattle.std.proofs.lemmas.List.{length-map, map-append}
use Rattle.std.proofs.lemmas.List.Elements.{All-nil, All-push}
use mathlib.Core.List.{IsPrefix}
use Rattle.txc_db.specs.declared.error.DbError.{DbError}
use Rattle.txc_db.specs.declared.error.DbError.TheVariants as databases
use Rattle.txc_db.specs.DatabaseValue.{DatabaseValue, after_vacuum, front_of, newest, newest_state}
use Rattle.txc_db.specs.FrontsAndFeeds.{FrontValue}
use Rattle.txc_stream.specs.Names.{Name}
use Rattle.txc_site.specs.declared.error.GenerationError.{GenerationError}
use Rattle.txc_site.specs.declared.error.GenerationError.TheVariants as generations
use Rattle.txc_site_workers.specs.declared.plan.Plan.{Plan}
use Rattle.txc_site.specs.declared.recurring.Generation.{Generation}
use Rattle.txc_site.specs.Generations.{AreInTurn, ComeAfter, ComesAfter, GenerationsHaveEnded, HaveServed, IsEndRefused, IsGeneration, IsGenerationRefused, IsNextRefused, IsShort, last_state}

-- of two beginnings the one that is not longer is a beginning of the other
pub shorter_begins : {X : Type 0} (xs ys : List X) → IsPrefix ys xs ⊎ IsPrefix xs ys → length xs ≤ length ys → IsPrefix xs ys
shorter_begins xs ys (inr begins) short = begins
shorter_begins {X} xs ys (inl (rest, is)) short = go rest is
  where
    go : (rest : List X) → ys ++ rest ≡ xs → IsPrefix xs ys
    go [] is = ([], append-nil xs ∙ sym is ∙ append-nil ys)
    go (r ∷ rs) is = absurd (omega (arith, short, ap length is, length-append ys (r ∷ rs)))

-- a database whose carry is refused shows what it did
pub same_front : (d e : DatabaseValue) → (e ≡ d) ⊎ (e ≡ after_vacuum d) → front_of e ≡ front_of d
same_front d e (inl is) = ap front_of is
same_front d e (inr is) = ap front_of is

-- a front of the whole of a short history is short
pub short_front : (d : DatabaseValue) (front : FrontValue) → front ≡ front_of d → newest d ≤ max 1 (length (newest_state d)) → IsShort front
short_front d front is few = subst IsShort (sym is) few

module _ {T : Type 0} where
  come_after_more : (first : Generation T) (gs : List (Generation T)) (g next : Generation T) → ComeAfter first (gs ++ g ∷ [])
      → ComesAfter g next → ComeAfter first ((gs ++ g ∷ []) ++ next ∷ [])
  come_after_more first [] g next before comes = (before.0, (comes, tt))
  come_after_more first (h ∷ gs) g next before comes = (before.0, come_after_more h gs g next before.1 comes)

  in_turn_more : (opened : FrontValue) (gs : List (Generation T)) (g next : Generation T) → AreInTurn opened (gs ++ g ∷ [])
      → ComesAfter g next → AreInTurn opened ((gs ++ g ∷ []) ++ next ∷ [])
  in_turn_more opened [] g next before comes = (before.0, before.1, (comes, tt))
  in_turn_more opened (first ∷ gs) g next before comes = (before.0, before.1, come_after_more first gs g next before.2 comes)

  outputs_more : (came more : List (Vec T Global)) (gs : List (Generation T)) (g : Generation T) → came ≡ map (λ g. g.outputs) gs
      → more ≡ came ++ g.outputs ∷ [] → more ≡ map (λ g. g.outputs) (gs ++ g ∷ [])
  outputs_more came more gs g before added =
      added
      ∙ ap (λ (xs : List (Vec T Global)). xs ++ g.outputs ∷ []) before
      ∙ sym (map-append (λ (h : Generation T). h.outputs) gs (g ∷ []))

  many : (came : List (Vec T Global)) (gs : List (Generation T)) → came ≡ map (λ g. g.outputs) gs → length came ≡ length gs
  many came gs is = ap length is ∙ length-map gs (λ (g : Generation T). g.outputs)

-- an error that is passed on
pub is_error : {U E : Type 0} (end : Result U E) (error : E) → IsErrAnd end (λ e. e ≡ error) → end ≡ Err error
is_error (Ok u) error h = absurd h
is_error {U} {E} (Err e) error h = ap (λ (x : E). Err x) h

-- there was no memory for it, or the database is broken, whatever else is then known
front_refused : {Less : Type 0} (error : DbError) → (error ≡ databases.Memory) ⊎ ((error ≡ databases.Broken) × Less)
    → (error ≡ databases.Memory) ⊎ (error ≡ databases.Broken)
front_refused error (inl is) = inl is
front_refused error (inr (is, less)) = inr is

-- a database gave no front of its whole history
pub no_front : {U Less : Type 0} (numbers : List ℕ) (end : Result U GenerationError) (error : DbError) → IsErrAnd end (λ e. e ≡ generations.Ended error)
    → (error ≡ databases.Memory) ⊎ ((error ≡ databases.Broken) × Less) → IfErr end (IsGenerationRefused numbers)
no_front numbers (Ok u) error is h = tt
no_front numbers (Err e) error is h = subst (IsGenerationRefused numbers) (sym is) (front_refused error h)

-- nor was there memory for that of the next one
pub no_next_front : {U : Type 0} (room : Option ℕ) (ended : FrontValue) (end : Result U GenerationError) → IsErrAnd end (λ e. e ≡ generations.Memory)
    → IfErr end (IsNextRefused room ended)
no_next_front room ended (Ok u) is = tt
no_next_front room ended (Err e) is = subst (IsNextRefused room ended) (sym is) tt

-- what ends a generation ends all
end_so : {T : Type 0} (room : Option ℕ) (numbers : List ℕ) (gs : List (Generation T)) (error : GenerationError) → IsGenerationRefused numbers error
    → IsEndRefused room numbers gs error
end_so room numbers gs (generations.Workers error) h = h
end_so room numbers gs (generations.Ended error) h = h
end_so room numbers gs (generations.Carry error) h = absurd h
end_so room numbers gs generations.Memory h = absurd h

-- and so does what refuses the next one
next_so : {T : Type 0} (room : Option ℕ) (numbers : List ℕ) (gs : List (Generation T)) (g : Generation T) (error : GenerationError) → IsNextRefused room g.ended error
    → IsEndRefused room numbers (gs ++ g ∷ []) error
next_so room numbers gs g (generations.Workers error) h = absurd h
next_so room numbers gs g (generations.Ended error) h = absurd h
next_so room numbers gs g (generations.Carry error) h = (gs, g, refl, h)
next_so room numbers gs g generations.Memory h = tt

module _ {T : Type 0} (plan : Plan) (tells : ℕ → Type 0) (count : ℕ) (numbers : List ℕ) (gives : Plan → Name → ℕ → T → Type 0) (goes : Generation T → Bool → Type 0)
    (opened : FrontValue) where
  -- After each of the generations that came, the workers wanted another. One that begins with this front comes
  -- next.
  pub record HaveGoneOn (came : List (Vec T Global)) (begun : FrontValue) : Type 0 where
    pub generations : List (Generation T)
    pub outputs : came ≡ map (λ g. g.outputs) generations
    pub each : All (IsGeneration plan tells count gives) generations
    pub turns : AreInTurn opened generations
    pub went_on : All (λ g. goes g true) generations
    pub next : (g : Generation T) → g.number ≡ length generations → g.begun ≡ begun → AreInTurn opened (generations ++ g ∷ [])

  -- none came
  pub none_came : (came : List (Vec T Global)) → came ≡ [] → HaveGoneOn came opened
  none_came came none = record {
    generations = [];
    outputs = none;
    each = All-nil (IsGeneration plan tells count gives);
    turns = tt;
    went_on = All-nil (λ g. goes g true);
    next = λ g number begun. (number, begun, tt);
  }

  -- there is no other, and none came after those
  pub failed_so : {U : Type 0} (came : List (Vec T Global)) (begun : FrontValue) (end : Result U GenerationError) (error : GenerationError) → HaveGoneOn came begun
      → end ≡ Err error → ((gs : List (Generation T)) → IsEndRefused plan.events numbers gs error)
      → HaveServed plan tells count numbers gives goes opened came end
  failed_so {U} came begun end error before is refused = record {
    generations = before.generations;
    outputs = before.outputs;
    each = before.each;
    turns = before.turns;
    ended = subst (GenerationsHaveEnded {T = T} {U = U} goes plan.events numbers before.generations) (sym is) (before.went_on, refused before.generations);
  }

  -- one more came
  module _ (came more : List (Vec T Global)) (begun : FrontValue) (before : HaveGoneOn came begun) (g : Generation T) (one : IsGeneration plan tells count gives g)
      (number : g.number ≡ length came) (begins : g.begun ≡ begun) (added : more ≡ came ++ g.outputs ∷ []) where
    turns_more : AreInTurn opened (before.generations ++ g ∷ [])
    turns_more = before.next g (number ∙ many came before.generations before.outputs) begins

    pub one_more : (next : FrontValue) → goes g true → last_state next ≡ last_state g.ended → IsShort next → HaveGoneOn more next
    one_more next goes_on state anew = record {
      generations = before.generations ++ g ∷ [];
      outputs = outputs_more came more before.generations g before.outputs added;
      each = All-push (IsGeneration plan tells count gives) before.generations g before.each one;
      turns = turns_more;
      went_on = All-push (λ g. goes g true) before.generations g before.went_on goes_on;
      next = λ h h_number h_begun. in_turn_more opened before.generations g h turns_more (record {
        number = h_number ∙ length-append before.generations (g ∷ []) ∙ ap (λ (n : ℕ). n + 1) (sym (number ∙ many came before.generations before.outputs));
        state = ap last_state h_begun ∙ state;
        anew = subst IsShort (sym h_begun) anew;
      });
    }

    -- the workers want no other
    pub enough_so : {U : Type 0} (end : Result U GenerationError) (u : U) → end ≡ Ok u → goes g false → HaveServed plan tells count numbers gives goes opened more end
    enough_so {U} end u is goes_on = record {
      generations = before.generations ++ g ∷ [];
      outputs = outputs_more came more before.generations g before.outputs added;
      each = All-push (IsGeneration plan tells count gives) before.generations g before.each one;
      turns = turns_more;
      ended =
          subst (GenerationsHaveEnded {T = T} {U = U} goes plan.events numbers (before.generations ++ g ∷ [])) (sym is)
          (before.generations, g, refl, before.went_on, goes_on);
    }

    -- they want another, and there is none
    pub no_next_so : {U : Type 0} (end : Result U GenerationError) (error : GenerationError) → end ≡ Err error → goes g true
        → IsNextRefused plan.events g.ended error → HaveServed plan tells count numbers gives goes opened more end
    no_next_so {U} end error is goes_on refused = record {
      generations = before.generations ++ g ∷ [];
      outputs = outputs_more came more before.generations g before.outputs added;
      each = All-push (IsGeneration plan tells count gives) before.generations g before.each one;
      turns = turns_more;
      ended =
          subst (GenerationsHaveEnded {T = T} {U = U} goes plan.events numbers (before.generations ++ g ∷ [])) (sym is)
          (All-push (λ g. goes g true) before.generations g before.went_on goes_on, next_so plan.events numbers before.generations g error refused);
    }
