-- The effect of asks, changes and copies in a transaction.
use Rattle.std.specs.Prelude.{◌≡◌, ◌⊎◌, ◌++◌, ◌∷◌, ℕ, [], nat_le, List, length, slice_get, Option, Some, None, Result, Ok, Err}
use Rattle.std.specs.Bool.{MatchBool}
use Rattle.txc_tags.specs.Keys.{Call}
use Rattle.txc_tags.specs.declared.tag.TheConstants.{LAST_TABLE}
use Rattle.txc_rows.specs.declared.query.Query.{Query}
use Rattle.txc_rows.specs.declared.query.Change.{Change}
use Rattle.txc_rows.specs.declared.query.Change.TheVariants.{Put, Remove}
use Rattle.txc_rows.specs.States.{answer}
use Rattle.txc_rows.specs.Values.{RowValue, AreBytes}
use Rattle.txc_db.specs.History.{state_at}
use Rattle.txc_app.specs.declared.ask.Ask.{Ask}
use Rattle.txc_app.specs.declared.ask.Ask.TheVariants as asks
use Rattle.txc_call_registry.specs.Objects.{numbers_of, AllIdle}
use Rattle.txc_cushion.specs.declared.pin.Pin.{Pin}
use Rattle.txc_txn_ports.specs.declared.error.TxnError.{TxnError}
use Rattle.txc_txn_ports.specs.declared.error.TxnError.TheVariants.{Memory}
use Rattle.txc_txn.specs.TxnCore.{IsIdle}
use Rattle.txc_txn.specs.RunningTxn.{IsTxn, TxnValue}
use Rattle.txc_txn_rw.specs.RwCore.{IsRwIdle}
use Rattle.txc_txn_rw.specs.Transitions.{IsQueryLeft}
use Rattle.txc_txn_rw.specs.declared.given.Given.TheVariants as given
use Rattle.txc_caller.specs.CallerTxn.{read_stamp, CallerValue, KeepsTxn}
use Rattle.txc_caller.specs.ComputedFunctions.{told_answer, top_call}
use Rattle.txc_caller.specs.CallerWrite.{CallerWriting, ChangeLeaves, IsOwnReadRefused}
use Rattle.txc_caller.specs.declared.step.CallerError.{CallerError}
use Rattle.txc_caller.specs.declared.step.Step.{Step}
use Rattle.txc_c_types.specs.CacheViews.{is_call, named_call, written_in}
use Rattle.txc_c_types.specs.Numbers.{bytes_number}
use Rattle.txc_c_types.specs.declared.crossing.TxcKey.{TxcKey}
use Rattle.txc_c_types.specs.declared.numbers.TheConstants.{ANSWERED, BAD_ARGUMENT, DONE, MISS, NO_MEMORY, NOT_OPEN, REFUSED}
use Rattle.txc_c.specs.Opaque.{opaque_next}
use Rattle.txc_c.specs.Opened.{calling_of, IsAskStep}
use Rattle.txc_c.specs.Receipts.{crossing_row, is_query, query_of}
use Rattle.txc_c.specs.Sites.{OneHasActed, OfNumber, SiteValue, Stays}
use Rattle.txc_c.specs.SiteReply.{buffer, last_answer_of, rows_found, step_bytes, step_len, step_number, Buffer, LastTold}
use Rattle.txc_c.specs.declared.opened.Open.{Open}
use Rattle.txc_c.specs.declared.opened.Open.TheVariants.{Reading, Writing}
use Rattle.txc_c.specs.declared.receipts.TxcQuery.{TxcQuery}
use Rattle.txc_c.specs.declared.receipts.TxcRow.{TxcRow}

-- the transaction of that number made this act, and every other is as it was; or none of that number is open,
-- and nothing is written
abbrev pub ActsAs : (CallerValue → Open → ℕ → CallerValue → Open → Type 0) → Type 0 → ℕ → SiteValue → ℕ → SiteValue → Type 0
ActsAs act unwritten n old number new = OfNumber (OneHasActed act n) unwritten n old number new

-- ---- steps

-- the effect of an ask, with this number and in the buffer
pub record StepAct (ask : Ask) (was is : Buffer) (c : CallerValue) (x : Open) (number : ℕ) (c' : CallerValue) (x' : Open) : Type 0 where
  pub step : Result Step CallerError
  pub is_step : IsAskStep ask c x step c' x'
  pub number_is : number ≡ step_number (length was.bytes) (told_answer (calling_of x')) step
  pub len_is : is.len ≡ step_len (told_answer (calling_of x')) step was.len
  pub bytes_are : is.bytes ≡ step_bytes (told_answer (calling_of x')) step was.bytes

-- an ask in the transaction of that number
abbrev pub SiteStepTransition : Ask → Buffer → Buffer → ℕ → SiteValue → ℕ → SiteValue → Type 0
SiteStepTransition ask was is n old number new = ActsAs (StepAct ask was is) (is ≡ was) n old number new

-- a call, if there can be such a call
abbrev pub SiteCallTransition : TxcKey → Buffer → Buffer → ℕ → SiteValue → ℕ → SiteValue → Type 0
SiteCallTransition key was is n old number new = MatchBool (is_call key) (SiteStepTransition (asks.Call (named_call key)) was is n old number new)
    (Stays BAD_ARGUMENT old number new × (is ≡ was))

-- the value of a function; or there was no memory for the bytes, and all is as it was
abbrev pub SiteFinishTransition : List ℕ → Buffer → Buffer → ℕ → SiteValue → ℕ → SiteValue → Type 0
SiteFinishTransition bytes was is n old number new =
    SiteStepTransition (asks.Done bytes) was is n old number new ⊎ (Stays NO_MEMORY old number new × (is ≡ was))

-- ---- a query

-- the number of the error with which a request of a transaction failed
abbrev pub txn_number : TxnError → ℕ
txn_number Memory = NO_MEMORY
txn_number error = REFUSED

-- A transaction that writes finds the rows in the state that it reads, and the query counts as read.
pub record HasFoundRows (query : Query) (c : CallerValue) (w : CallerWriting) (number count' : ℕ) (w' : CallerWriting) : Type 0 where
  pub rows : List RowValue
  pub rows_are : rows ≡ answer query (state_at c.ports.database.history w.core.base)
  pub number_is : number ≡ ANSWERED
  pub count_is : count' ≡ length rows
  pub after : w' ≡ record w {
    core = record w.core { queried = w.core.queried ++ query ∷ []; answers = w.core.answers ++ given.Rows query rows ∷ [] };
  }

-- or the query failed, and the transaction has no answer more
pub record HasRefusedRows (query : Query) (c : CallerValue) (w : CallerWriting) (number count count' : ℕ) (w' : CallerWriting) : Type 0 where
  pub error : TxnError
  pub number_is : number ≡ txn_number error
  pub refused : IsOwnReadRefused c.ports.database w.core.base query error
  pub left : IsQueryLeft w.core query w'.core error
  pub same : w' ≡ record w { core = w'.core }
  pub count_is : count' ≡ count

abbrev pub HasReadRowsItself : Query → ℕ → ℕ → CallerValue → CallerWriting → ℕ → CallerWriting → Type 0
HasReadRowsItself query count count' c w number w' =
    HasFoundRows query c w number count' w' ⊎ HasRefusedRows query c w number count count' w'

abbrev pub HasReadRows : Query → ℕ → ℕ → CallerValue → CallerWriting → ℕ → CallerValue → Open → Type 0
HasReadRows query count count' c w number c' (Writing w') = (c' ≡ c) × HasReadRowsItself query count count' c w number w'
HasReadRows query count count' c w number c' (Reading t) = ⊥

-- of a transaction that writes, by the state of its call
abbrev pub WriteQueryAct : Option Call → Query → ℕ → ℕ → CallerValue → CallerWriting → ℕ → CallerValue → Open → Type 0
WriteQueryAct (Some top) query count count' c w number c' x' =
    StepAct (asks.Query query) (buffer [] count) (buffer [] count') c (Writing w) number c' x'
WriteQueryAct None query count count' c w number c' x' = HasReadRows query count count' c w number c' x'

-- the function that is computed asks; or, if none is, a transaction that writes reads the rows itself
abbrev pub QueryAct : Query → ℕ → ℕ → CallerValue → Open → ℕ → CallerValue → Open → Type 0
QueryAct query count count' c (Reading t) number c' x' =
    StepAct (asks.Query query) (buffer [] count) (buffer [] count') c (Reading t) number c' x'
QueryAct query count count' c (Writing w) number c' x' = WriteQueryAct (top_call w.core.call) query count count' c w number c' x'

abbrev pub SiteQueryTransition : TxcQuery → ℕ → ℕ → ℕ → SiteValue → ℕ → SiteValue → Type 0
SiteQueryTransition query count count' n old number new =
    MatchBool (is_query query) (ActsAs (QueryAct (query_of query) count count') (count' ≡ count) n old number new)
    (Stays BAD_ARGUMENT old number new × (count' ≡ count))

-- ---- giving up

abbrev pub given_up_number : Option Call → ℕ
given_up_number (Some top) = DONE
given_up_number None = MISS

-- no call is open, no function runs, and the answers are as before
pub record HasGivenReadingUp (t t' : TxnValue) : Type 0 where
  pub idle : IsIdle t'.core
  pub same : t'.core ≡ record t.core { call = t'.core.call }
  pub objects : AllIdle t'.objects
  pub keeps : KeepsTxn t t'
  pub valid : IsTxn opaque_next t'

pub record HasGivenWritingUp (w w' : CallerWriting) : Type 0 where
  pub idle : IsRwIdle w'.core
  pub same : w' ≡ record w { core = record w.core { call = w'.core.call }; objects = w'.objects }
  pub objects : AllIdle w'.objects
  pub functions : numbers_of w'.objects ≡ numbers_of w.objects

abbrev pub HasGivenCallUp : Open → Open → Type 0
HasGivenCallUp (Reading t) (Reading t') = HasGivenReadingUp t t'
HasGivenCallUp (Reading t) (Writing w') = ⊥
HasGivenCallUp (Writing w) (Writing w') = HasGivenWritingUp w w'
HasGivenCallUp (Writing w) (Reading t') = ⊥

-- the whole open call is cancelled, if one is open
pub record GiveUpAct (c : CallerValue) (x : Open) (number : ℕ) (c' : CallerValue) (x' : Open) : Type 0 where
  pub number_is : number ≡ given_up_number (top_call (calling_of x))
  pub given_up : HasGivenCallUp x x'
  pub caller : c' ≡ c

abbrev pub SiteGiveUpTransition : ℕ → SiteValue → ℕ → SiteValue → Type 0
SiteGiveUpTransition n old number new = ActsAs GiveUpAct (Unit {0}) n old number new

-- ---- changes

-- the number of a change that is kept, or why it is not
abbrev pub change_number : Result (Unit {0}) TxnError → ℕ
change_number (Ok kept) = DONE
change_number (Err error) = txn_number error

-- of a transaction that writes: the number of the change's result; a transaction that only reads takes no
-- change
abbrev pub OpenChanges : Change → Open → ℕ → Open → Type 0
OpenChanges change (Writing w) number (Writing w') = (kept : Result (Unit {0}) TxnError) × (number ≡ change_number kept)
    × ChangeLeaves change w w' kept
OpenChanges change (Writing w) number (Reading t') = ⊥
OpenChanges change (Reading t) number x' = (number ≡ NOT_OPEN) × (x' ≡ Reading t)

abbrev pub ChangeAct : Change → CallerValue → Open → ℕ → CallerValue → Open → Type 0
ChangeAct change c x number c' x' = OpenChanges change x number x' × (c' ≡ c)

abbrev pub SiteChangeTransition : Change → ℕ → SiteValue → ℕ → SiteValue → Type 0
SiteChangeTransition change n old number new = ActsAs (ChangeAct change) (Unit {0}) n old number new

-- a put of that row, if it can be one
abbrev pub SitePutRowTransition : RowValue → ℕ → SiteValue → ℕ → SiteValue → Type 0
SitePutRowTransition row n old number new = (Stays BAD_ARGUMENT old number new × ¬ AreBytes row.body)
    ⊎ (Stays NO_MEMORY old number new ⊎ (AreBytes row.body × SiteChangeTransition (Put row) n old number new))

abbrev pub SitePutTransition : RowValue → ℕ → SiteValue → ℕ → SiteValue → Type 0
SitePutTransition row n old number new =
    MatchBool (nat_le row.table LAST_TABLE) (SitePutRowTransition row n old number new) (Stays BAD_ARGUMENT old number new)

-- a removal
abbrev pub SiteRemoveTransition : ℕ → ℕ → ℕ → SiteValue → ℕ → SiteValue → Type 0
SiteRemoveTransition table id n old number new =
    MatchBool (nat_le table LAST_TABLE) (SiteChangeTransition (Remove table id) n old number new) (Stays BAD_ARGUMENT old number new)

-- ---- outputs that change nothing

-- of the transaction of that number, if it is open
abbrev pub TellsOf : (Open → ℕ → Type 0) → Type 0 → Option Open → ℕ → Type 0
TellsOf tells unwritten (Some x) number = tells x number
TellsOf tells unwritten None number = (number ≡ NOT_OPEN) × unwritten

-- a row, but for its body, and its body, if there is such a row
abbrev pub RowTold : Option RowValue → ℕ → TxcRow → TxcRow → Buffer → Buffer → Type 0
RowTold None number row row' was is = (number ≡ MISS) × (row' ≡ row) × (is ≡ was)
RowTold (Some r) number row row' was is = (number ≡ bytes_number DONE (length was.bytes) r.body)
    × (row' ≡ crossing_row r) × (is.len ≡ length r.body) × (is.bytes ≡ written_in r.body was.bytes)

abbrev pub RowOf : ℕ → TxcRow → TxcRow → Buffer → Buffer → Option Open → ℕ → Type 0
RowOf at row row' was is x number =
    TellsOf (λ o n. RowTold (slice_get (rows_found o) at) n row row' was is) ((row' ≡ row) × (is ≡ was)) x number

-- the last answer
abbrev pub LastOf : Buffer → Buffer → Option Open → ℕ → Type 0
LastOf was is x number = TellsOf (λ o n. LastTold (last_answer_of o) n was is) (is ≡ was) x number

-- the stamp at which a transaction reads next; none if it pins the present first
abbrev pub stamp_read_next : Open → Option ℕ
stamp_read_next (Reading t) = read_stamp t.core
stamp_read_next (Writing w) = Some w.core.base

abbrev pub StampTold : Option ℕ → ℕ → ℕ → ℕ → Type 0
StampTold (Some stamp) number was is = (number ≡ DONE) × (is ≡ stamp)
StampTold None number was is = (number ≡ MISS) × (is ≡ was)

abbrev pub ReadStampOf : ℕ → ℕ → Option Open → ℕ → Type 0
ReadStampOf was is x number = TellsOf (λ o n. StampTold (stamp_read_next o) n was is) (is ≡ was) x number

-- one of the pins at which all answers of the transaction are right, the newest first
abbrev pub PinTold : Option Pin → ℕ → ℕ × ℕ → ℕ × ℕ → Type 0
PinTold (Some pin) number was is = (number ≡ DONE) × (is ≡ (pin.stamp, pin.moment))
PinTold None number was is = (number ≡ MISS) × (is ≡ was)

-- of a transaction that only reads
abbrev pub MemberTold : ℕ → ℕ × ℕ → ℕ × ℕ → Open → ℕ → Type 0
MemberTold at was is (Reading t) number = PinTold (slice_get t.core.pins.members at) number was is
MemberTold at was is (Writing w) number = (number ≡ NOT_OPEN) × (is ≡ was)

abbrev pub MemberOf : ℕ → ℕ × ℕ → ℕ × ℕ → Option Open → ℕ → Type 0
MemberOf at was is x number = TellsOf (MemberTold at was is) (is ≡ was) x number
