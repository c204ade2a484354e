use Rattle.txc_shared.proofs.Entries
use Rattle.txc_shared.proofs.laws.entries_stay_true.Goals as goal

pub returns : goal.returns
returns c = record {
  event = Entries.true_after_event c.event_leaves_what_it_does_not_match.ensures;
  replay = Entries.true_after_replay c.event_leaves_what_it_does_not_match.ensures c.insertion_replays_what_was_missed.ensures.kept c.insertion_replays_what_was_missed.ensures.lost;
}
