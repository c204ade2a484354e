-- The names of lines.
use Rattle.std.proofs.Common.{◌≡◌, ℕ, true, false, List, [], ◌∷◌, Option, Some, None, refl, sym, ap, ◌∙◌}
use Rattle.std.proofs.lemmas.Slice.Eq.{bytes_eq-Decides}
use Rattle.std.specs.Prelude.{if◌then◌else◌}
use Rattle.std.specs.Str.{bytes_eq}
use Rattle.txc_script_lines.specs.declared.name.LineName.{LineName}
use Rattle.txc_script_lines.specs.declared.name.LineName.TheVariants as names
use Rattle.txc_script_lines.specs.Names.{name_text}

-- the first of these names that a text is
abbrev find_name : List LineName → List ℕ → Option LineName
find_name [] text = None
find_name (name ∷ others) text = if bytes_eq text (name_text name) then Some name else find_name others text

abbrev read_name : List ℕ → Option LineName
read_name text = find_name (
    names.Put ∷ names.Remove ∷ names.Pin ∷ names.Query ∷ names.Ro ∷ names.Rw ∷ names.Session ∷ names.Call ∷ names.Step ∷ names.Finish
    ∷ names.Ask ∷ names.Write ∷ names.Pins ∷ names.Commit ∷ names.Abort ∷ names.Advance ∷ names.Sweep ∷ names.Tidy ∷ names.Counts ∷ []
    ) text

read_back : (name : LineName) → read_name (name_text name) ≡ Some name
read_back names.Put = refl
read_back names.Remove = refl
read_back names.Pin = refl
read_back names.Query = refl
read_back names.Ro = refl
read_back names.Rw = refl
read_back names.Session = refl
read_back names.Call = refl
read_back names.Step = refl
read_back names.Finish = refl
read_back names.Ask = refl
read_back names.Write = refl
read_back names.Pins = refl
read_back names.Commit = refl
read_back names.Abort = refl
read_back names.Advance = refl
read_back names.Sweep = refl
read_back names.Tidy = refl
read_back names.Counts = refl

-- no two names have one text
pub same_name : (a b : LineName) → name_text a ≡ name_text b → a ≡ b
same_name a b e = let same : Some a ≡ Some b = sym (read_back a) ∙ ap read_name e ∙ read_back b in cc

-- the first word of two lists that are equal, and the others
pub first_is : (a b : List ℕ) (xs ys : List (List ℕ)) → a ∷ xs ≡ b ∷ ys → a ≡ b
first_is a b xs ys e = cc

pub others_are : (a b : List ℕ) (xs ys : List (List ℕ)) → a ∷ xs ≡ b ∷ ys → xs ≡ ys
others_are a b xs ys e = cc

-- two texts of which a test says that they differ
pub apart : (a b : List ℕ) → bytes_eq a b ≡ false → a ≡ b → ⊥
apart a b other e = let same : bytes_eq a b ≡ true = (bytes_eq-Decides a b).1 e in cc
