-- Only private functions need this file: how a run continues after a line.
use Rattle.std.specs.Prelude.{◌≡◌, ℕ, Bool, true, false, List}
use Rattle.txc_script.specs.Kinds.{ScriptKind, Given, IsFaultOf, is_malformed}
use Rattle.txc_script.specs.declared.fault.Status.{Status}
use Rattle.txc_script.specs.declared.fault.Status.TheVariants.{Done, Refused, Malformed}
use Rattle.txc_script.specs.declared.running.Flow.{Flow}
use Rattle.txc_script.specs.declared.running.Flow.TheVariants.{GoesOn, Stopped}

-- the run stops at a malformed line, for its number and its fault in this state
abbrev pub IsStoppedAt : {S A R F : Type 0} → ScriptKind S A R F → S → ℕ → List ℕ → Flow F → Type 0
IsStoppedAt kind s number line GoesOn = ⊥
IsStoppedAt kind s number line (Stopped malformed) =
    (malformed.number ≡ number) × IsFaultOf kind s line malformed.fault

-- the run continues after a well-formed line, and stops at a malformed one, which leaves the state unchanged
abbrev pub IsFlowAfter : {S A R F : Type 0} → ScriptKind S A R F → S → ℕ → List ℕ → Given A R → Flow F → Type 0
IsFlowAfter kind s number line given GoesOn = is_malformed given ≡ false
IsFlowAfter kind s number line given (Stopped malformed) =
    (is_malformed given ≡ true) × IsStoppedAt kind s number line (Stopped malformed)

-- the status of a run that ended so, by whether a refusal was written
abbrev pub status_after : {F : Type 0} → Bool → Flow F → Status F
status_after refused (Stopped malformed) = Malformed malformed
status_after true GoesOn = Refused
status_after false GoesOn = Done
