-- What a keep came to.
use Rattle.std.proofs.Common.{◌≡◌, ◌∙◌, ℕ, inl, length, subst}
use Rattle.txc_cushion.specs.Cushion.{retired}
use Rattle.txc_db.specs.DatabaseValue.{next_horizon}
use Rattle.txc_caller.specs.Ports.{HasRetired, HasVacuumedPorts}
use Rattle.txc_caller.specs.CallerTxn.{CallerValue, KeepsCaller}
use Rattle.txc_c.specs.Maintenance.{HasKept, HasSweptNode, HasVacuumed}
use Rattle.txc_c.specs.declared.kept.TxcKept.{TxcKept}

-- what two acts keep of the caller
pub keeps_then : (a b c : CallerValue) → KeepsCaller a b → KeepsCaller b c → KeepsCaller a c
keeps_then a b c one two = record { row = two.row ∙ one.row; renew_after = two.renew_after ∙ one.renew_after }

-- pins were retired, with so many told, and then the rest was done
pub kept_on : (now age : ℕ) (old mid new : CallerValue) (count number : ℕ) (was is : TxcKept) → HasRetired now age old.ports mid.ports → mid ≡ record old { ports = mid.ports }
    → count ≡ length (retired old.ports.cushion now age) → HasVacuumed mid number (record was { retired = count }) is new → HasKept now age old number was is new
kept_on now age old mid new count number was is retired_so same counted rest = inl (record {
  after = mid;
  retired_so = retired_so;
  same = same;
  rest = subst (λ (n : ℕ). HasVacuumed mid number (record was { retired = n }) is new) counted rest;
})

-- the node was swept after a vacuum, with the horizon that it left
pub vacuumed_on : (old mid new : CallerValue) (horizon told number : ℕ) (was is : TxcKept) → HasVacuumedPorts old.ports mid.ports → mid ≡ record old { ports = mid.ports }
    → horizon ≡ next_horizon old.ports.database → told ≡ horizon → HasSweptNode horizon mid number (record was { horizon = told }) is new → HasVacuumed old number was is new
vacuumed_on old mid new horizon told number was is vacuumed same at tells swept = inl (record {
  after = mid;
  vacuumed = vacuumed;
  same = same;
  rest = subst (λ (h : ℕ). HasSweptNode (next_horizon old.ports.database) mid number (record was { horizon = h }) is new) (tells ∙ at)
      (subst (λ (h : ℕ). HasSweptNode h mid number (record was { horizon = told }) is new) at swept);
})
