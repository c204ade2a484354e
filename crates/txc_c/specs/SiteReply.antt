-- The outputs of a step, and of the last answer, for the caller.
use Rattle.std.specs.Prelude.{◌≡◌, ℕ, ◌-◌, length, slice_get, List, [], Option, Some, None, Result, Ok, Err}
use Rattle.txc_tags.specs.Keys.{Call}
use Rattle.txc_rows.specs.Values.{RowValue}
use Rattle.txc_app.specs.declared.ask.Answer.{Answer}
use Rattle.txc_app.specs.declared.ask.Answer.TheVariants as answers
use Rattle.txc_txn_ports.specs.declared.recorded.Recorded.{Recorded}
use Rattle.txc_txn_rw.specs.declared.given.Given.{Given}
use Rattle.txc_txn_rw.specs.declared.given.Given.TheVariants as given
use Rattle.txc_caller.specs.ComputedFunctions.{told_answer, top_call}
use Rattle.txc_caller.specs.declared.step.CallerError.{CallerError}
use Rattle.txc_caller.specs.declared.step.CallerError.TheVariants as errors
use Rattle.txc_caller.specs.declared.step.Step.{Step}
use Rattle.txc_caller.specs.declared.step.Step.TheVariants as steps
use Rattle.txc_c_types.specs.CacheViews.{written_in}
use Rattle.txc_c_types.specs.Numbers.{bytes_number}
use Rattle.txc_c_types.specs.declared.numbers.TheConstants.{DONE, MISS, COMPUTE, ANSWERED, NOT_OPEN, REFUSED}
use Rattle.txc_c.specs.Opened.{calling_of}
use Rattle.txc_c.specs.declared.opened.Open.{Open}
use Rattle.txc_c.specs.declared.opened.Open.TheVariants.{Reading, Writing}

-- a buffer of the caller, and the length that is written with it
pub record Buffer : Type 0 where
  pub bytes : List ℕ
  pub len : ℕ

abbrev pub buffer : List ℕ → ℕ → Buffer
buffer bytes len = record { bytes = bytes; len = len }

-- ---- an answer: the value of a call, by this number if there is room for it; or of rows how many they are

abbrev pub answer_number : ℕ → ℕ → Answer → ℕ
answer_number number room (answers.Value value) = bytes_number number room value
answer_number number room (answers.Rows rows) = ANSWERED

abbrev pub answer_len : Answer → ℕ
answer_len (answers.Value value) = length value
answer_len (answers.Rows rows) = length rows

abbrev pub answer_bytes : Answer → List ℕ → List ℕ
answer_bytes (answers.Value value) old = written_in value old
answer_bytes (answers.Rows rows) old = old

-- ---- a step

-- the number of a step's error
abbrev pub error_number : CallerError → ℕ
error_number (errors.Txn error) = REFUSED
error_number errors.NoFunction = NOT_OPEN

-- the number of the answer that the next computed function has
abbrev pub told_number : ℕ → Option Answer → ℕ
told_number room (Some answer) = answer_number ANSWERED room answer
told_number room None = ANSWERED

abbrev pub told_len : Option Answer → ℕ → ℕ
told_len (Some answer) old = answer_len answer
told_len None old = old

abbrev pub told_bytes : Option Answer → List ℕ → List ℕ
told_bytes (Some answer) old = answer_bytes answer old
told_bytes None old = old

-- the step's number: a function must be computed; the value of the outermost call; or the answer that the
-- function has
abbrev pub step_number : ℕ → Option Answer → Result Step CallerError → ℕ
step_number room told (Ok steps.Compute) = COMPUTE
step_number room told (Ok (steps.Value value)) = bytes_number DONE room value
step_number room told (Ok steps.Answered) = told_number room told
step_number room told (Err error) = error_number error

abbrev pub step_len : Option Answer → Result Step CallerError → ℕ → ℕ
step_len told (Ok (steps.Value value)) old = length value
step_len told (Ok steps.Answered) old = told_len told old
step_len told step old = old

abbrev pub step_bytes : Option Answer → Result Step CallerError → List ℕ → List ℕ
step_bytes told (Ok (steps.Value value)) old = written_in value old
step_bytes told (Ok steps.Answered) old = told_bytes told old
step_bytes told step old = old

-- ---- the last answer

-- an answer, and by which number it is given
pub record Last : Type 0 where
  pub number : ℕ
  pub answer : Answer

abbrev pub last_in : {A : Type 0} → List A → Option A
last_in items = slice_get items (length items - 1)

-- to the function that is computed
abbrev pub last_told : Option Answer → Option Last
last_told (Some answer) = Some (record { number = ANSWERED; answer = answer })
last_told None = None

-- to an outermost call
abbrev pub last_recorded : Option Recorded → Option Last
last_recorded (Some r) = Some (record { number = DONE; answer = answers.Value r.value })
last_recorded None = None

-- to a transaction that writes: to an outermost call, or to a query of its own
abbrev pub last_given : Option Given → Option Last
last_given (Some (given.Value key value)) = Some (record { number = DONE; answer = answers.Value value })
last_given (Some (given.Rows query rows)) = Some (record { number = ANSWERED; answer = answers.Rows rows })
last_given None = None

-- if no function is computed
abbrev pub last_outside : Open → Option Last
last_outside (Reading t) = last_recorded (last_in t.core.recorded)
last_outside (Writing w) = last_given (last_in w.core.answers)

abbrev pub last_while : Option Call → Option Answer → Option Last → Option Last
last_while (Some top) told outside = last_told told
last_while None told outside = outside

-- the last answer: of the function that is computed, or else outside all functions
abbrev pub last_answer_of : Open → Option Last
last_answer_of x = last_while (top_call (calling_of x)) (told_answer (calling_of x)) (last_outside x)

abbrev pub answer_rows : Answer → List RowValue
answer_rows (answers.Rows rows) = rows
answer_rows (answers.Value value) = []

abbrev pub rows_of_last : Option Last → List RowValue
rows_of_last (Some last) = answer_rows last.answer
rows_of_last None = []

-- the rows found last, if no other answer came after them
abbrev pub rows_found : Open → List RowValue
rows_found x = rows_of_last (last_answer_of x)

-- it is written, if there is one
abbrev pub LastTold : Option Last → ℕ → Buffer → Buffer → Type 0
LastTold (Some last) number was is = (number ≡ answer_number last.number (length was.bytes) last.answer)
    × (is.len ≡ answer_len last.answer) × (is.bytes ≡ answer_bytes last.answer was.bytes)
LastTold None number was is = (number ≡ MISS) × (is ≡ was)
