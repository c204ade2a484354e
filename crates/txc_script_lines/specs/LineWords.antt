-- The values of the words after the names of lines, and the queries and changes that they make.
use Rattle.std.specs.Prelude.{◌≡◌, ℕ, List, [], ◌∷◌, Option, Some, None, option_map}
use Rattle.txc_rows.specs.Values.{RowValue}
use Rattle.txc_rows.specs.declared.query.Change.{Change}
use Rattle.txc_rows.specs.declared.query.Change.TheVariants as changes
use Rattle.txc_rows.specs.declared.query.Query as made
use Rattle.txc_rows.specs.declared.query.Query.TheVariants as queries
use Rattle.txc_rows.specs.declared.row.TheConstants.{MAX_BODY_LEN}
use Rattle.txc_script.specs.Lines.{IsTextWord}
use Rattle.txc_script.specs.ParsedWords.{SayAll}
use Rattle.txc_script.specs.declared.line_fault.WordKind.{WordKind}
use Rattle.txc_script.specs.declared.parsed_word.ChangeName.{ChangeName}
use Rattle.txc_script.specs.declared.parsed_word.ChangeName.TheVariants.{Put, Remove}
use Rattle.txc_script.specs.declared.parsed_word.QueryName.TheVariants.{ById, ByGroup, All, Range}
use Rattle.txc_script.specs.declared.parsed_word.ParsedWord.{ParsedWord}
use Rattle.txc_script.specs.declared.parsed_word.ParsedWord.TheVariants.{Id, Query, Table, Text}
use Rattle.txc_script_lines.specs.Faults.{kinds_after_name, second_of}
use Rattle.txc_script_lines.specs.declared.name.LineName.{LineName}

-- the words after a line's name are of the required kinds, and have these values
pub record SaysAfter (name : LineName) (words : List (List ℕ)) (values : List ParsedWord) : Type 0 where
  pub kinds : List WordKind
  pub known : kinds_after_name name (second_of words) ≡ Some kinds
  pub say : SayAll kinds words values

-- the row of these values: its table, its id, its group and its body
abbrev pub row_said : List ParsedWord → Option RowValue
row_said (Table table ∷ Id id ∷ Id group ∷ Text body ∷ []) =
    Some (record { table = table; id = id; group = group; body = body })
row_said values = None

-- the change of this name, of these values
abbrev pub change_said : ChangeName → List ParsedWord → Option Change
change_said Put values = option_map changes.Put (row_said values)
change_said Remove (Table table ∷ Id id ∷ []) = Some (changes.Remove table id)
change_said Remove values = None

-- the query of these values: its name, and its arguments
abbrev pub query_said : List ParsedWord → Option made.Query
query_said (Query ById ∷ Table table ∷ Id id ∷ []) = Some (queries.ById table id)
query_said (Query ByGroup ∷ Table table ∷ Id group ∷ []) = Some (queries.ByGroup table group)
query_said (Query All ∷ Table table ∷ []) = Some (queries.All table)
query_said (Query Range ∷ Table table ∷ Id first ∷ Id last ∷ []) = Some (queries.Range table first last)
query_said values = None

-- each text is one that may be a body
abbrev pub AreBodies : List ParsedWord → Type 0
AreBodies [] = Unit {0}
AreBodies (Text body ∷ values) = IsTextWord MAX_BODY_LEN body × AreBodies values
AreBodies (value ∷ values) = AreBodies values
