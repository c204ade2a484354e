use Rattle.txc_app.proofs.Claims
use Rattle.txc_app.proofs.laws.event_leaves_what_it_does_not_match.Goals as goal

pub returns : goal.returns
returns c = Claims.event_leaves c.tags_are_sound.ensures
