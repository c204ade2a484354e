use Rattle.txc_script_batch.proofs.NothingWrong.{nothing_wrong}
use Rattle.txc_script_batch.proofs.laws.nothing_is_wrong_with_an_order.Goals as goal

pub returns : goal.returns
returns c = λ jobs line order fault asks wrong. nothing_wrong jobs line order fault asks wrong
