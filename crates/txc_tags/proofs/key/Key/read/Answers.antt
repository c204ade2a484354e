use Rattle.std.proofs.Common.{Ok, sym, ap, ◌∙◌}
use Rattle.txc_tags.specs.TextKey.{key_text, IsKeyInRange}
use Rattle.txc_tags.proofs.TextReading.{longest}
use Rattle.txc_tags.proofs.TextKeys.{same_key_text}
use Rattle.txc_tags.proofs.key.Key.read.Goals as goal

pub returns-in-Ok-clause-read_back : goal.returns-in-Ok-clause-read_back
returns-in-Ok-clause-read_back c key t = ap Ok (same_key_text c.in-Ok.key key c.in-Ok.ensures.answer.0 t.0 (sym c.in-Ok.ensures.answer.1 ∙ t.1))

pub returns-in-Err-clause-refused : goal.returns-in-Err-clause-refused
returns-in-Err-clause-refused c = longest IsKeyInRange key_text c.args.text.now c.in-Err.rest.now c.in-Err.ensures.refused
