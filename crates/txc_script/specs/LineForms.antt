-- Tables of the forms of lines.
use Rattle.std.specs.Prelude.{◌≡◌, ℕ, List, [], ◌∷◌, Option, Some, None, if◌then◌else◌}
use Rattle.std.specs.Str.{bytes_eq}
use Rattle.txc_script.specs.ParsedWords.{AllSaidOf, Mean}
use Rattle.txc_script.specs.Words.{words_of}
use Rattle.txc_script.specs.declared.line_fault.WordKind.{WordKind}

-- a form of lines: the name at the beginning, the kinds of the words after it, and the request that their
-- values make
pub record LineForm (A : Type 0) : Type 0 where
  pub name : List ℕ
  pub kinds : List WordKind
  pub asks : AllSaidOf kinds → A

-- the words after the name of such a line ask for this
pub record IsOfForm {A : Type 0} (form : LineForm A) (words : List (List ℕ)) (asked : A) : Type 0 where
  pub values : AllSaidOf form.kinds
  pub say : Mean form.kinds words values
  pub asks : asked ≡ form.asks values

-- the form of this name in a table, the first of them
abbrev pub form_named : {A : Type 0} → List (LineForm A) → List ℕ → Option (LineForm A)
form_named [] name = None
form_named (form ∷ forms) name = if bytes_eq name form.name then Some form else form_named forms name

-- the line is of a form of the table, and asks for this
pub record AsksBy {A : Type 0} (forms : List (LineForm A)) (line : List ℕ) (asked : A) : Type 0 where
  pub form : LineForm A
  pub words : List (List ℕ)
  pub named : form_named forms form.name ≡ Some form
  pub are : words_of line ≡ form.name ∷ words
  pub is : IsOfForm form words asked
