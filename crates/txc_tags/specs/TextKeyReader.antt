-- Only proofs need this file: the arguments of a key's text, up to its end.
use Rattle.std.specs.Prelude.{ℕ, ◌≤◌, List, ◌++◌, map, codes, length, All}
use Rattle.std.specs.Fmt.{decimal}
use Rattle.std.specs.List.{join_with_byte}
use Rattle.txc_tags.specs.declared.key.TheConstants.{MAX_ARGS}
use Rattle.txc_tags.specs.declared.text.number.TheConstants.{LAST_NUMBER}
use Rattle.txc_tags.specs.TextReader.{IsJoined}

-- arguments, joined by commas and closed
abbrev pub closed_text : List ℕ → List ℕ
closed_text args = join_with_byte 44 (map decimal args) ++ codes ")"

-- there are few, and each is a number of the grammar
abbrev pub AreArguments : List ℕ → Type 0
AreArguments args = (length args ≤ MAX_ARGS) × All (λ arg. arg ≤ LAST_NUMBER) args

-- the text of arguments, one at least
abbrev pub AreSome : List ℕ → Type 0
AreSome = IsJoined (λ arg. arg ≤ LAST_NUMBER) decimal (codes ")") (λ n. n ≤ MAX_ARGS) 0
