use Rattle.std.specs.Prelude.{codes}
use Rattle.txc_script.proofs.HexDigits.{hex_unread}
use Rattle.txc_script.proofs.Texts.{other_text}
use Rattle.txc_script.proofs.hex.read_hex.Goals as goal

pub returns-clause-refused : goal.returns-clause-refused
returns-clause-refused c =
    hex_unread c.args.text.now c.read_digits.result (other_text c.args.text.now c.as_slice.result.now (codes "-") c.eq.result c.as_slice.ensures c.eq.ensures c.if-eq.false) c.read_digits.ensures.refused
