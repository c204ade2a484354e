use Rattle.txc_node.proofs.LawLemmas.{finds_the_longest, misses_only_where_none}
use Rattle.txc_node.proofs.laws.lookup_finds_the_longest.Goals as goal

pub returns : goal.returns
returns c = record { longest = finds_the_longest; miss = misses_only_where_none }
