use Rattle.std.proofs.Common.{sym, ap, ◌∙◌, arith}
use lib.Count.{count_trailing_zeros}
use lib.Lanes.{chunk}
use Rattle.std.proofs.lemmas.Simd.{length-chunk, leading_from_mask_l, trailing_mask_l}
use Rattle.txc_script.specs.Words.{is_blank}
use Rattle.txc_script.proofs.Scans.{blank_marks}
use Rattle.txc_script.proofs.scan.before_blank.Goals as goal

pub returns-then-marks-eq0 : goal.returns-then-marks-eq0
returns-then-marks-eq0 c =
    let v = chunk c.args.at 16 c.args.bytes.now in
    let long = length-chunk c.args.at 16 c.args.bytes.now c.requires in
    sym (leading_from_mask_l is_blank v (sym (blank_marks 16 v long (omega arith)) ∙ c.if-marks-eq0.true) ∙ long)

pub returns-else-marks-eq0 : goal.returns-else-marks-eq0
returns-else-marks-eq0 c =
    let v = chunk c.args.at 16 c.args.bytes.now in
    let long = length-chunk c.args.at 16 c.args.bytes.now c.requires in
    let marks = blank_marks 16 v long (omega arith) in
    ap (count_trailing_zeros 64) marks ∙ trailing_mask_l is_blank 64 v (omega arith) (omega arith)
