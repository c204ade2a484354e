-- Only private functions need this file: the reads of a run.
use Rattle.std.specs.Prelude.{◌≡◌, ◌≢◌, ◌⊎◌, Option, Some, None}
use Rattle.std.specs.declared.io.ErrorKind.{ErrorKind}
use Rattle.std.specs.declared.io.ErrorKind.TheVariants.{Interrupted}
use Rattle.txc_script.specs.declared.reads.Reads.{Reads}

-- the reader failed, otherwise than by an interruption
abbrev pub HasFailed : Option ErrorKind → Type 0
HasFailed None = ⊥
HasFailed (Some kind) = kind ≢ Interrupted

-- no read is left, or the reader has failed
abbrev pub IsOver : Reads → Type 0
IsOver reads = (reads.left ≡ 0) ⊎ HasFailed reads.failure
