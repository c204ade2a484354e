-- The codes of errors, with their numbers.
use Rattle.std.specs.Prelude.{ℕ, List, ◌++◌, codes}
use Rattle.std.specs.Fmt.{decimal}
use Rattle.txc_call.specs.declared.error.CallError.{CallError}
use Rattle.txc_call.specs.declared.error.CallError.TheVariants as calls

abbrev pub call_code : CallError → List ℕ
call_code (calls.NoFunction number) = codes "K1 " ++ decimal number
call_code (calls.CallOrder caller called) = codes "K2 " ++ (decimal caller ++ (codes " " ++ decimal called))
call_code calls.AskLimit = codes "K3"
call_code calls.Budget = codes "K4"
call_code calls.Busy = codes "K5"
call_code calls.ObjectMemory = codes "K6"
call_code calls.ValueTooLong = codes "K7"
call_code (calls.BadArguments number) = codes "K8 " ++ decimal number
call_code calls.Memory = codes "memory"
