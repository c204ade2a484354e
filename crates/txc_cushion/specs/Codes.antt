-- The codes of errors, with their numbers.
use Rattle.std.specs.Prelude.{ℕ, List, ◌++◌, codes}
use Rattle.std.specs.Fmt.{decimal}
use Rattle.txc_cushion.specs.declared.error.AddError.{AddError}
use Rattle.txc_cushion.specs.declared.error.AddError.TheVariants as adding

abbrev pub add_code : AddError → List ℕ
add_code adding.Full = codes "C2"
add_code (adding.Known stamp) = codes "C3 " ++ decimal stamp
add_code adding.Memory = codes "memory"
