use Rattle.std.proofs.Common.{not, rules}
use Rattle.std.proofs.lemmas.Fn.{filter_same}
use Rattle.txc_cushion.specs.Entries.{is_retirable}
use Rattle.txc_cushion.proofs.retiring.retire.Goals as goal

pub returns : goal.returns
returns c = filter_same _ (λ e. not (is_retirable c.args.now c.args.age e)) _ (λ x b f' called. search rules) _ _ c.retain.ensures.filtered
