-- The entries worked by hand.
use Rattle.std.proofs.Common.{◌≡◌, ℕ, zero, suc, ◌≤◌, [], ◌∷◌, Some, true, true≢false, refl, sym, ◌∙◌, arith}
use Rattle.txc_db.specs.History.{state_at}
use Rattle.txc_db.specs.WorkedHistory.{worked}
use Rattle.txc_app.specs.Eval.{activation, call_below, eval, met}
use Rattle.txc_app.specs.Claims.{covers_all}
use Rattle.txcache_functions.specs.Program.{program, call_of}
use Rattle.txcache_functions.specs.WorkedEntries.{absent, WorkedEntries}

none_at : (t : ℕ) → t ≤ 4 → eval program (call_of 0 (9 ∷ [])) (state_at worked t) ≡ Some []
unfolding activation call_below
none_at zero h = refl
none_at (suc zero) h = refl
none_at (suc (suc zero)) h = refl
none_at (suc (suc (suc zero))) h = refl
none_at (suc (suc (suc (suc zero)))) h = refl
none_at (suc (suc (suc (suc (suc t))))) h = absurd (omega arith)

covered_at : (t : ℕ) → t ≤ 4 → covers_all absent.tags (met program (call_of 0 (9 ∷ [])) (state_at worked t)) ≡ true
unfolding activation call_below
covered_at zero h = refl
covered_at (suc zero) h = refl
covered_at (suc (suc zero)) h = refl
covered_at (suc (suc (suc zero))) h = refl
covered_at (suc (suc (suc (suc zero)))) h = refl
covered_at (suc (suc (suc (suc (suc t))))) h = absurd (omega arith)

one_at : (t : ℕ) → 1 ≤ t → t ≤ 4 → eval program (call_of 0 (7 ∷ [])) (state_at worked t) ≡ Some (97 ∷ [])
unfolding activation call_below
one_at zero some h = absurd (omega arith)
one_at (suc zero) some h = refl
one_at (suc (suc zero)) some h = refl
one_at (suc (suc (suc zero))) some h = refl
one_at (suc (suc (suc (suc zero)))) some h = refl
one_at (suc (suc (suc (suc (suc t))))) some h = absurd (omega arith)

nothing_yet : eval program (call_of 0 (7 ∷ [])) (state_at worked 0) ≡ Some []
unfolding activation call_below
nothing_yet = refl

pub worked_entries : WorkedEntries
worked_entries = record {
  absent = record { within = omega arith; holds = λ t inside. none_at t inside.1; covered = λ still t inside. covered_at t inside.1 };
  too_soon = λ h. absurd (cc (sym nothing_yet ∙ h.holds 0 (omega arith, omega arith)));
  in_time = record { within = omega arith; holds = λ t inside. one_at t inside.0 inside.1; covered = λ still. absurd (true≢false (sym still)) };
}
