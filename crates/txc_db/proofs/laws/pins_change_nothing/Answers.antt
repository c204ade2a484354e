use Rattle.txc_db.proofs.Histories
use Rattle.txc_db.proofs.laws.pins_change_nothing.Goals as goal

pub returns : goal.returns
returns c = Histories.pins_change_nothing c.tags_are_sound.ensures.none
