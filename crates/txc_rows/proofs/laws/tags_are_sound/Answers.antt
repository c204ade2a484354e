use Rattle.txc_rows.proofs.RowTagLemmas
use Rattle.txc_rows.proofs.laws.tags_are_sound.Goals as goal

pub returns : goal.returns
returns c = record { sound = RowTagLemmas.tags_sound; none = RowTagLemmas.none_lost }
