-- Texts that are compared.
use Rattle.std.proofs.Common.{◌≡◌, ℕ, Bool, true, false, List, sym, ◌∙◌}
use Rattle.std.specs.Str.{bytes_eq}
use Rattle.std.proofs.lemmas.Slice.Eq.{bytes_eq-Decides}

pub same_text : (text other word : List ℕ) (r : Bool) → other ≡ word → r ≡ bytes_eq text other → r ≡ true → text ≡ word
same_text text other word r is e h = (bytes_eq-Decides text other).0 (sym e ∙ h) ∙ is

pub other_text : (text other word : List ℕ) (r : Bool) → other ≡ word → r ≡ bytes_eq text other → r ≡ false → text ≡ word → ⊥
other_text text other word r is e h same = let k : r ≡ true = e ∙ (bytes_eq-Decides text other).1 (same ∙ sym is) in cc
