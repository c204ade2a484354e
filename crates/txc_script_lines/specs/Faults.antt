-- The kinds of the words of lines, and the faults of these words.
use Rattle.std.specs.Prelude.{◌≡◌, ◌<◌, ◌≤◌, ℕ, List, [], ◌∷◌, ◌++◌, Option, Some, map, option_map, codes, length, take, MatchOption}
use Rattle.std.specs.List.{flat_map}
use Rattle.txc_rows.specs.declared.row.TheConstants.{MAX_BODY_LEN}
use Rattle.txc_script.specs.LineFaults.{IsKindsFault}
use Rattle.txc_script.specs.declared.fault.Status.{Status}
use Rattle.txc_script.specs.declared.line_fault.CommandFault.{CommandFault}
use Rattle.txc_script.specs.declared.line_fault.CommandFault.TheVariants.{Own}
use Rattle.txc_script.specs.declared.line_fault.WordKind.{WordKind}
use Rattle.txc_script.specs.declared.line_fault.WordKind.TheVariants.{Key, Stamp, Table, Id, Function, Number, Text, QueryName, ChangeName}
use Rattle.txc_script.specs.declared.parsed_word.QueryName as query_names
use Rattle.txc_script.specs.declared.parsed_word.QueryName.TheVariants as queries
use Rattle.txc_script.specs.declared.parsed_word.ChangeName as change_names
use Rattle.txc_script.specs.declared.parsed_word.ChangeName.TheVariants as changes
use Rattle.txc_script.specs.declared.unread.LineError.{LineError}
use Rattle.txc_script.specs.Lines.{change_named, change_text, query_named, query_text}
use Rattle.txc_script_lines.specs.Names.{name_text}
use Rattle.txc_script_lines.specs.declared.fault.OwnFault.{OwnFault}
use Rattle.txc_script_lines.specs.declared.fault.OwnFault.TheVariants.{Usage}
use Rattle.txc_script_lines.specs.declared.name.LineName.{LineName}
use Rattle.txc_script_lines.specs.declared.name.LineName.TheVariants as names
use Rattle.txc_tags.specs.declared.text.number.TheConstants.{LAST_NUMBER}
use Rattle.txc_script_lines.specs.declared.said.TheConstants.{LAST_MOMENT}

-- ---- the kinds of words

-- the number of an actor or a node
abbrev pub place : WordKind
place = Number LAST_NUMBER

-- a moment, or a time
abbrev pub moment : WordKind
moment = Number LAST_MOMENT

-- words after a line's name: the name of each in the line's form, and its kind
abbrev pub Parts : Type 0
Parts = List (List ℕ × WordKind)

abbrev pub kinds_of : Parts → List WordKind
kinds_of parts = map (λ part. part.1) parts

-- the words after the name of a query
abbrev pub parts_of_query : query_names.QueryName → Parts
parts_of_query queries.ById = (codes "TABLE", Table) ∷ (codes "ID", Id) ∷ []
parts_of_query queries.ByGroup = (codes "TABLE", Table) ∷ (codes "GROUP", Id) ∷ []
parts_of_query queries.All = (codes "TABLE", Table) ∷ []
parts_of_query queries.Range = (codes "TABLE", Table) ∷ (codes "FROM", Id) ∷ (codes "TO", Id) ∷ []

abbrev pub kinds_of_query : query_names.QueryName → List WordKind
kinds_of_query query = kinds_of (parts_of_query query)

-- the words after the name of a change
abbrev pub parts_of_change : change_names.ChangeName → Parts
parts_of_change changes.Put =
    (codes "TABLE", Table) ∷ (codes "ID", Id) ∷ (codes "GROUP", Id) ∷ (codes "BODY", Text MAX_BODY_LEN) ∷ []
parts_of_change changes.Remove = (codes "TABLE", Table) ∷ (codes "ID", Id) ∷ []

abbrev pub kinds_of_change : change_names.ChangeName → List WordKind
kinds_of_change change = kinds_of (parts_of_change change)

-- the words after a line's name; in the three lines that end in a query or a change, those before it
abbrev pub parts_after : LineName → Parts
parts_after names.Put = parts_of_change changes.Put
parts_after names.Remove = parts_of_change changes.Remove
parts_after names.Pin = (codes "NOW", moment) ∷ []
parts_after names.Query = (codes "STAMP", Stamp) ∷ []
parts_after names.Ro =
    (codes "ACTOR", place) ∷ (codes "NOW", moment) ∷ (codes "STALENESS", moment) ∷ (codes "STAMP", Stamp) ∷ []
parts_after names.Session = (codes "ACTOR", place) ∷ (codes "NOW", moment) ∷ (codes "STALENESS", moment) ∷ []
parts_after names.Call = (codes "ACTOR", place) ∷ (codes "KEY", Key) ∷ []
parts_after names.Advance = (codes "NODE", place) ∷ []
parts_after names.Sweep = (codes "NODE", place) ∷ (codes "STAMP", Stamp) ∷ []
parts_after names.Tidy = (codes "NOW", moment) ∷ (codes "AGE", moment) ∷ []
parts_after names.Counts = (codes "NODE", place) ∷ (codes "FUNCTION", Function) ∷ []
parts_after name = (codes "ACTOR", place) ∷ []

-- a word of this kind, and a query of this name, if it is one
abbrev pub query_line : WordKind → List ℕ → Option (List WordKind)
query_line first name = option_map (λ query. first ∷ QueryName ∷ kinds_of_query query) (query_named name)

-- an actor, and a change of this name, if it is one
abbrev pub change_line : List ℕ → Option (List WordKind)
change_line name = option_map (λ change. place ∷ ChangeName ∷ kinds_of_change change) (change_named name)

-- The kinds of the words after a line's name, of which the second word is this one. In three lines that word
-- must name a query or a change; if it does not, the kinds are not known.
abbrev pub kinds_after_name : LineName → List ℕ → Option (List WordKind)
kinds_after_name names.Query second = query_line Stamp second
kinds_after_name names.Ask second = query_line place second
kinds_after_name names.Write second = change_line second
kinds_after_name name second = Some (kinds_of (parts_after name))

-- the kinds of the first two words after the name of such a line
abbrev pub first_kinds : LineName → List WordKind
first_kinds names.Query = kinds_of (parts_after names.Query) ++ QueryName ∷ []
first_kinds names.Ask = kinds_of (parts_after names.Ask) ++ QueryName ∷ []
first_kinds names.Write = kinds_of (parts_after names.Write) ++ ChangeName ∷ []
first_kinds name = []

-- a name, and what the words after it are called
abbrev pub form_text : List ℕ → Parts → List ℕ
form_text name parts = name ++ flat_map (λ part. 32 ∷ part.0) parts

abbrev pub query_forms : List (List ℕ)
query_forms =
    map (λ query. form_text (query_text query) (parts_of_query query))
    (queries.ById ∷ queries.ByGroup ∷ queries.All ∷ queries.Range ∷ [])

abbrev pub change_forms : List (List ℕ)
change_forms =
    map (λ change. form_text (change_text change) (parts_of_change change)) (changes.Put ∷ changes.Remove ∷ [])

-- a line of this name that ends in the first of these forms, or in another one
abbrev pub usage_by : LineName → List (List ℕ) → List ℕ
usage_by name (first ∷ second ∷ others) =
    form_text (name_text name) (parts_after name)
    ++ (32 ∷ first ++ (codes " (or " ++ (second ++ (flat_map (λ form. codes ", or " ++ form) others ++ codes ")"))))
usage_by name forms = []

-- the form of a line that ends in a query or a change
abbrev pub usage_text : LineName → List ℕ
usage_text names.Query = usage_by names.Query query_forms
usage_text names.Ask = usage_by names.Ask query_forms
usage_text names.Write = usage_by names.Write change_forms
usage_text name = []

-- the second of the words, or no bytes if there are fewer
abbrev pub second_of : List (List ℕ) → List ℕ
second_of (first ∷ second ∷ words) = second
second_of words = []

-- ---- faults

-- the faults of the words of a line
abbrev pub WordsFault : Type 0
WordsFault = CommandFault OwnFault

-- the cause for which such a line was not answered, and the end of a run of such lines
abbrev pub WordsUnanswered : Type 0
WordsUnanswered = LineError OwnFault

abbrev pub WordsStatus : Type 0
WordsStatus = Status OwnFault

-- The fault of words whose second names no query and no change: the words end before it; else it names none, or
-- the word before it is not of its kind.
abbrev pub IsUnkindFault : LineName → List (List ℕ) → WordsFault → Type 0
IsUnkindFault name words (Own (Usage form)) = (form.now ≡ usage_text name) × (length words < 2)
IsUnkindFault name words fault = (2 ≤ length words) × IsKindsFault (first_kinds name) (take 2 words) fault

-- the fault of the words after a line's name
abbrev pub IsFaultAfter : LineName → List (List ℕ) → WordsFault → Type 0
IsFaultAfter name words fault =
    MatchOption (kinds_after_name name (second_of words)) (IsUnkindFault name words fault)
    (λ kinds. IsKindsFault kinds words fault)
