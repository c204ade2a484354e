use Rattle.std.proofs.Common.{sym}
use Rattle.txc_script.proofs.Cuts.{cut_at, no_cut}
use Rattle.txc_script.proofs.piece.cut_line.Goals as goal

pub returns-in-Some-clause-answer : goal.returns-in-Some-clause-answer
returns-in-Some-clause-answer c = let cut = cut_at 10 c.args.bytes.now c.in-Some.i (sym c.in-Some.ensures) in (cut.joined, cut.not_before)

pub returns-in-None-clause-refused : goal.returns-in-None-clause-refused
returns-in-None-clause-refused c = no_cut 10 c.args.bytes.now (sym c.in-None.ensures)
