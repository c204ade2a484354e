use Rattle.std.proofs.Common.{rules}
use Rattle.std.proofs.lemmas.Fn.{filter_same}
use Rattle.txc_pinset.specs.Members.{is_held_by}
use Rattle.txc_pinset.proofs.pin_set.keep_held.Goals as goal

pub returns : goal.returns
returns c = filter_same _ (is_held_by c.args.reach) _ (λ x b f' called. search rules) _ _ c.retain.ensures.filtered
