use Rattle.std.proofs.Common.{refl, sym, subst}
use Rattle.lru.specs.LruCache.{LruCache}
use Rattle.txc_node.specs.declared.place.Place.{Place}
use Rattle.txc_node.specs.declared.stored.Stored.{Stored}
use Rattle.txc_node.specs.WeighedEntries.{IsWeighed}
use Rattle.txc_node.proofs.weighed.WeighedEntries.new.Goals as goal

pub invariant_of-result : goal.invariant_of-result
invariant_of-result c =
    subst (λ (m : LruCache Place Stored). IsWeighed m 0) (sym c.in_ok-cache.ensures) (record { sum = refl; short = tt; few = c.requires })
