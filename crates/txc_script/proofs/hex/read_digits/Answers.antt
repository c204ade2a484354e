use Rattle.std.proofs.Common.{arith, refl}
use Rattle.txc_script.proofs.HexDigits.{odd_digits, bad_digits}
use Rattle.txc_script.proofs.hex.read_digits.Goals as goal

pub returns-in-len1-clause-refused : goal.returns-in-len1-clause-refused
returns-in-len1-clause-refused c = ((λ h. odd_digits h.0 c.digits.bytes.items c.digits.rest.now c.args.text.now c.digits.invariant.read (omega arith) h.1.1), refl)

pub returns-in-None-clause-refused : goal.returns-in-None-clause-refused
returns-in-None-clause-refused c = ((λ h. bad_digits h.0 c.digits.bytes.items c.digits.rest.now c.args.text.now _ _ c.digits.invariant.read (omega arith) h.1.0 h.1.1 c.in-None.ensures.refused), refl)
