use Rattle.std.proofs.Common.{◌≡◌, ◌∷◌, sym, arith, ◌∙◌}
use Rattle.std.proofs.lemmas.Result.{IfErr-weaker}
use Rattle.txc_tags.specs.TextReader.{GoesWrong, IsNumber}
use Rattle.txc_tags.proofs.TextDigits.{no_digits}
use Rattle.txc_tags.specs.TextNumber.{digits_read}
use Rattle.txc_tags.proofs.TextReading.{nothing_left}
use Rattle.txc_tags.proofs.text.number.read_digits.Goals as goal

pub returns-in-None-clause-refused : goal.returns-in-None-clause-refused
returns-in-None-clause-refused c = IfErr-weaker c.end_digits.result _ (λ rest. GoesWrong (IsNumber c.args.most) c.args.text.now rest.now)
    (λ r e. no_digits c.args.most c.args.text.now c.loop-byte.rest.now (omega arith) c.loop-byte.number c.loop-byte.invariant.read
    (λ byte others more is k. c.in-None.ensures.none k.0 more k.1.0 (let p : c.in-Some.byte.now ∷ c.in-Some.others.now ≡ byte ∷ others = sym c.in-Some.ensures.cases.0 ∙ is in let q : c.in-Some.byte.now ≡ byte = cc in rw q k.1.1))
    r.now e) c.end_digits.ensures.none

pub returns-clause-refused : goal.returns-clause-refused
returns-clause-refused c = IfErr-weaker c.end_digits-2.result _ (λ rest. GoesWrong (IsNumber c.args.most) c.args.text.now rest.now)
    (λ r e. no_digits c.args.most c.args.text.now c.loop-byte.rest.now (omega arith) c.loop-byte.number c.loop-byte.invariant.read
    (nothing_left (IsNumber c.args.most) (digits_read c.loop-byte.number) c.loop-byte.rest.now c.in_default.ensures.cases)
    r.now e) c.end_digits-2.ensures.none
