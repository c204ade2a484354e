use Rattle.std.proofs.Common.{length}
use Rattle.std.proofs.lemmas.Bool.Decides.{Decides-eqb}
use Rattle.txc_script.proofs.Scans.{all_plain, not_all_plain}
use Rattle.txc_script.proofs.line.are_plain.Goals as goal

pub returns : goal.returns
returns c =
    let xs = c.args.bytes.now in
    let n = c.plain_len.result in
    let same = Decides-eqb n (length xs) in
    let found = c.plain_len.ensures in (
      (λ h. all_plain xs n (same.0 h) found.plain),
      (λ all. same.1 (not_all_plain xs n found.bound found.stops all)),
    )
