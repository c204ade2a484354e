use Rattle.std.proofs.Common.{refl}
use Rattle.txc_node.proofs.laws.worked_examples.Goals as goal

pub returns : goal.returns
returns c = record {
  closes_at_the_match = record { stored = refl; found_at_once = refl; no_match = refl; found_later = refl; match = refl; beyond_its_end = refl; found_closed = refl };
  replays_what_is_kept = record { both_kept = refl; one_kept = refl };
  waits_for_its_end = record { stored = refl; not_beyond = refl; by_wildcard = refl; found_closed = refl };
  drops_the_least_recently_used = record { kept = refl; used = refl; evicted = refl; gone = refl };
  prefers_the_later_begin = record { later_begin = refl; only_one = refl; longer = refl };
}
