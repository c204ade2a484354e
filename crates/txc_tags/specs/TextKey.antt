-- The text of a key: `f`, the function's number, and in parentheses up to four numbers joined by commas.
use Rattle.std.specs.Prelude.{ℕ, ◌≤◌, List, ◌++◌, map, codes, length, All}
use Rattle.std.specs.Fmt.{decimal}
use Rattle.std.specs.List.{join_with_byte}
use Rattle.txc_tags.specs.declared.key.TheConstants.{LAST_FUNCTION, MAX_ARGS}
use Rattle.txc_tags.specs.Keys.{Call}
use Rattle.txc_tags.specs.declared.text.number.TheConstants.{LAST_NUMBER}

-- the text of a key
abbrev pub key_text : Call → List ℕ
key_text key =
    codes "f" ++ (decimal key.function ++ (codes "("
    ++ (join_with_byte 44 (map decimal key.args) ++ codes ")")))

-- the function is one of the functions, and there are few arguments, which are numbers of the grammar
pub record IsKeyInRange (key : Call) : Type 0 where
  pub function : key.function ≤ LAST_FUNCTION
  pub few : length key.args ≤ MAX_ARGS
  pub args : All (λ arg. arg ≤ LAST_NUMBER) key.args
