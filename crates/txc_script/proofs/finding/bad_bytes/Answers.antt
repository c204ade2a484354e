use Rattle.txc_script.proofs.WordFaults.{plain_line}
use Rattle.txc_script.proofs.finding.bad_bytes.Goals as goal

pub unreachable-requires : goal.unreachable-requires
unreachable-requires g c = c.requires (plain_line c.args.line.now c.foreign_at.result c.if-line-gt-MAX_LINE_LEN.false c.foreign_at.ensures c.in-None.is)
