use Rattle.std.specs.Prelude.{map, string_bytes}
use Rattle.txcache_arguments.specs.ArgumentWords.{BeginWithName}
use Rattle.txcache_arguments.proofs.words.read_words.Given as goal

abbrev pub invariant-loop-number : goal.invariant-loop-number
invariant-loop-number g l = BeginWithName (map string_bytes l.words.items)
