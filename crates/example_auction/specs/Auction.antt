-- The functions of the auction: the next ask of each, or its value, by its arguments and the answers so far.
use Rattle.std.specs.Prelude.{ℕ, ◌==◌, if◌then◌else◌, List, [], ◌∷◌, ◌++◌, Option, Some, None}
use Rattle.txc_site.specs.Keys.{Call as CallValue}
use Rattle.txc_site.specs.Values.{RowValue}
use Rattle.txc_site.specs.Query.TheVariants.{ById, ByGroup}
use Rattle.txc_site.specs.Ask.{Ask}
use Rattle.txc_site.specs.Ask.TheVariants.{Query, Call, Done}
use Rattle.txc_site.specs.Answer.{Answer}
use Rattle.txc_site.specs.Answer.TheVariants.{Rows, Value}
use Rattle.txc_site.specs.Eval.{Next, small_limits}

-- an item is a row with its title, in the group of its seller
abbrev pub ITEMS : ℕ
ITEMS = 1

-- the highest bid on an item is the row of its id: the amount and the bidder
abbrev pub BIDS : ℕ
BIDS = 2

-- a user is a row with a name
abbrev pub USERS : ℕ
USERS = 3

-- the rows of an answer
abbrev pub rows_in : Answer → List RowValue
rows_in (Rows rows) = rows
rows_in (Value bytes) = []

-- the bytes of an answer
abbrev pub bytes_in : Answer → List ℕ
bytes_in (Rows rows) = []
bytes_in (Value bytes) = bytes

-- the first row's body, or no byte
abbrev pub body_of : List RowValue → List ℕ
body_of [] = []
body_of (r ∷ rows) = r.body

-- the first row's group, or 0
abbrev pub group_of : List RowValue → ℕ
group_of [] = 0
group_of (r ∷ rows) = r.group

-- the bodies, with a semicolon after each
abbrev pub titles_of : List RowValue → List ℕ
titles_of [] = []
titles_of (r ∷ rows) = r.body ++ 59 ∷ titles_of rows

-- a call of a function with one argument
abbrev pub call_with_argument : ℕ → ℕ → CallValue
call_with_argument function arg = record { function = function; args = arg ∷ [] }

-- 0: the highest bid on an item
abbrev pub highest_bid : List ℕ → List Answer → Option Ask
highest_bid (item ∷ []) [] = Some (Query (ById BIDS item))
highest_bid (item ∷ []) (bid ∷ more) = Some (Done (body_of (rows_in bid)))
highest_bid args given = None

-- 1: the page of an item: its title, the name of its seller, and the highest bid
abbrev pub item_page : List ℕ → List Answer → Option Ask
item_page (item ∷ []) [] = Some (Call (call_with_argument 0 item))
item_page (item ∷ []) (bid ∷ []) = Some (Query (ById ITEMS item))
item_page (item ∷ []) (bid ∷ row ∷ []) = Some (Query (ById USERS (group_of (rows_in row))))
item_page (item ∷ []) (bid ∷ row ∷ seller ∷ more) =
    Some (Done (body_of (rows_in row) ++ 124 ∷ body_of (rows_in seller) ++ 124 ∷ bytes_in bid))
item_page args given = None

-- 2: the titles of a user's items
abbrev pub items_of : List ℕ → List Answer → Option Ask
items_of (user ∷ []) [] = Some (Query (ByGroup ITEMS user))
items_of (user ∷ []) (rows ∷ more) = Some (Done (titles_of (rows_in rows)))
items_of args given = None

-- no function has this number
abbrev pub refuses : List ℕ → List Answer → Option Ask
refuses args given = None

-- the functions, by their numbers
abbrev pub auction_functions : ℕ → List ℕ → List Answer → Option Ask
auction_functions f = if f == 0 then highest_bid else (if f == 1 then item_page else (if f == 2 then items_of else refuses))

-- their meaning, within small limits
abbrev pub auction : Next
auction = record { says = auction_functions; limits = small_limits }
