use Rattle.std.proofs.Common.{sym, ap, ◌∙◌, arith}
use lib.Count.{count_trailing_zeros}
use lib.Lanes.{chunk}
use Rattle.std.proofs.lemmas.Simd.{length-chunk, leading_from_mask_l, trailing_mask_l}
use Rattle.txc_script.proofs.Scans.{is_low, low_marks}
use Rattle.txc_script.proofs.scan.before_low.Goals as goal

pub returns-then-marks-eq0 : goal.returns-then-marks-eq0
returns-then-marks-eq0 c =
    let v = chunk c.args.at 16 c.args.bytes.now in
    let long = length-chunk c.args.at 16 c.args.bytes.now c.requires in
    sym (leading_from_mask_l is_low v (sym (low_marks v long) ∙ c.if-marks-eq0.true) ∙ long)

pub returns-else-marks-eq0 : goal.returns-else-marks-eq0
returns-else-marks-eq0 c =
    let v = chunk c.args.at 16 c.args.bytes.now in
    let long = length-chunk c.args.at 16 c.args.bytes.now c.requires in
    let marks = low_marks v long in
    ap (count_trailing_zeros 64) marks ∙ trailing_mask_l is_low 64 v (omega arith) (omega arith)
