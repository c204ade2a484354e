-- The functions of the program: the next ask of each, or its value, by its arguments and the answers so far.
use Rattle.std.specs.Prelude.{ℕ, ◌==◌, if◌then◌else◌, List, [], ◌∷◌, ◌++◌, length, map, Option, Some, None}
use Rattle.std.specs.Fmt.{decimal}
use Rattle.std.specs.List.{join_with_byte}
use Rattle.txc_tags.specs.Keys.{Call as CallValue}
use Rattle.txc_rows.specs.Values.{RowValue}
use Rattle.txc_rows.specs.declared.query.Query.TheVariants.{ById, ByGroup, All, Range}
use Rattle.txc_app.specs.declared.ask.Ask.{Ask}
use Rattle.txc_app.specs.declared.ask.Ask.TheVariants.{Query, Call, Done}
use Rattle.txc_app.specs.declared.ask.Answer.{Answer}
use Rattle.txc_app.specs.declared.ask.Answer.TheVariants.{Rows, Value}
use Rattle.txc_app.specs.Eval.{Next, small_limits}

-- the table that they ask
abbrev pub TABLE : ℕ
TABLE = 1

-- a call of a function with these arguments
abbrev pub call_of : ℕ → List ℕ → CallValue
call_of function args = record { function = function; args = args }

-- the first row's body, or no byte
abbrev pub body_of : List RowValue → List ℕ
body_of [] = []
body_of (r ∷ rows) = r.body

-- the bodies, with a comma between two of them
abbrev pub bodies_of : List RowValue → List ℕ
bodies_of [] = []
bodies_of (r ∷ []) = r.body
bodies_of (r ∷ s ∷ rows) = r.body ++ 44 ∷ bodies_of (s ∷ rows)

-- the ids in decimal, with a comma between two of them
abbrev pub ids_of : List RowValue → List ℕ
ids_of rows = join_with_byte 44 (map (λ r. decimal r.id) rows)

-- the rows of an answer
abbrev pub rows_in : Answer → List RowValue
rows_in (Rows rows) = rows
rows_in (Value bytes) = []

-- the bytes of an answer
abbrev pub bytes_in : Answer → List ℕ
bytes_in (Rows rows) = []
bytes_in (Value bytes) = bytes

-- 0: the body at an id, or no byte
abbrev pub body_at : List ℕ → List Answer → Option Ask
body_at (id ∷ []) [] = Some (Query (ById TABLE id))
body_at (id ∷ []) (a ∷ more) = Some (Done (body_of (rows_in a)))
body_at args given = None

-- 1: the bodies of a group, with a comma between two of them
abbrev pub bodies_in : List ℕ → List Answer → Option Ask
bodies_in (group ∷ []) [] = Some (Query (ByGroup TABLE group))
bodies_in (group ∷ []) (a ∷ more) = Some (Done (bodies_of (rows_in a)))
bodies_in args given = None

-- 2: the bodies of a group, a semicolon, and the body at an id
abbrev pub bodies_and_body : List ℕ → List Answer → Option Ask
bodies_and_body (group ∷ id ∷ []) [] = Some (Call (call_of 1 (group ∷ [])))
bodies_and_body (group ∷ id ∷ []) (a ∷ []) = Some (Query (ById TABLE id))
bodies_and_body (group ∷ id ∷ []) (a ∷ b ∷ more) = Some (Done (bytes_in a ++ 59 ∷ body_of (rows_in b)))
bodies_and_body args given = None

-- 3: the number of rows, in decimal
abbrev pub row_count : List ℕ → List Answer → Option Ask
row_count [] [] = Some (Query (All TABLE))
row_count [] (a ∷ more) = Some (Done (decimal (length (rows_in a))))
row_count (arg ∷ args) given = None

-- 4: it calls itself
abbrev pub itself : List ℕ → List Answer → Option Ask
itself [] given = Some (Call (call_of 4 []))
itself (arg ∷ args) given = None

-- 5: it asks for one row again and again
abbrev pub again : List ℕ → List Answer → Option Ask
again (id ∷ []) given = Some (Query (ById TABLE id))
again args given = None

-- 6: the ids from one to another, with a comma between two of them
abbrev pub ids_in : List ℕ → List Answer → Option Ask
ids_in (first ∷ last ∷ []) [] = Some (Query (Range TABLE first last))
ids_in (first ∷ last ∷ []) (a ∷ more) = Some (Done (ids_of (rows_in a)))
ids_in args given = None

-- no function has this number
abbrev pub refuses : List ℕ → List Answer → Option Ask
refuses args given = None

-- the functions, by their numbers
abbrev pub functions : ℕ → List ℕ → List Answer → Option Ask
functions f =
    if f == 0 then body_at
    else (if f == 1 then bodies_in
    else (if f == 2 then bodies_and_body
    else (if f == 3 then row_count
    else (if f == 4 then itself
    else (if f == 5 then again
    else (if f == 6 then ids_in
    else refuses))))))

-- their meaning, within the limits of the program
abbrev pub program : Next
program = record { says = functions; limits = small_limits }
