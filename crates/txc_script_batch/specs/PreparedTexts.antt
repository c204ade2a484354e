-- The texts of changes and pins.
use Rattle.std.specs.Prelude.{ℕ, Bool, true, false, List, ◌++◌, Result, Ok, Err, codes}
use Rattle.std.specs.Fmt.{decimal}
use Rattle.txc_db.specs.Codes.{database_code}
use Rattle.txc_cushion.specs.Codes.{add_code}
use Rattle.txc_script_batch.specs.declared.prepared.PrepareError.{PrepareError}
use Rattle.txc_script_batch.specs.declared.prepared.PrepareError.TheVariants.{Database, Pincushion}

-- the text of the cause for which it was not made
abbrev pub prepare_error_text : PrepareError → List ℕ
prepare_error_text (Database error) = database_code error
prepare_error_text (Pincushion error) = add_code error

-- the newest stamp after it, or why it was not made
abbrev pub prepared_text : Result ℕ PrepareError → List ℕ
prepared_text (Ok stamp) = codes "at " ++ decimal stamp
prepared_text (Err error) = codes "refused " ++ prepare_error_text error

-- it was not made
abbrev pub is_refused_preparing : Result ℕ PrepareError → Bool
is_refused_preparing (Ok stamp) = false
is_refused_preparing (Err error) = true
