use Rattle.txc_db.proofs.Histories.{event_tags_sound}
use Rattle.txc_db.proofs.laws.tags_are_sound.Goals as goal

pub returns : goal.returns
returns c = event_tags_sound c.states_are_maps.ensures.states c.tags_are_sound.ensures.sound
