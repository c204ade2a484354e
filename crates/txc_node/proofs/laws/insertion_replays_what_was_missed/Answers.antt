use Rattle.txc_node.proofs.ReplayLemmas.{replays_as_if_it_had_been_there, trusts_no_lost_event}
use Rattle.txc_node.proofs.laws.insertion_replays_what_was_missed.Goals as goal

pub returns : goal.returns
returns c = record { kept = replays_as_if_it_had_been_there; lost = trusts_no_lost_event }
