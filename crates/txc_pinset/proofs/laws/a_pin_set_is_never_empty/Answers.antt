use Rattle.std.proofs.Common.{refl}
use Rattle.txc_pinset.proofs.Kept.{narrowed_is, joined_is}
use Rattle.txc_pinset.proofs.laws.a_pin_set_is_never_empty.Goals as goal

pub returns : goal.returns
returns c = record {
  begins = λ pins falls. record { falls = falls; some = λ _. refl };
  narrows = narrowed_is;
  joins = joined_is;
}
