-- Counts of what is recorded.
use Rattle.std.proofs.Common.{◌≡◌, ap}
use Rattle.txc_node.specs.declared.hit.HitValue.{HitValue}
use Rattle.txc_node.specs.declared.reply.Reply.{Reply}
use Rattle.txc_node.specs.Counts.{own_counts, dropped_function, events_by, closed_by, swept_by, trimmed_by}
use Rattle.txc_shared.specs.LockedNode.{DoCountAlike}

-- equal replies count alike
pub counts_alike : (one other : Reply HitValue) → one ≡ other → DoCountAlike one other
counts_alike one other is = record {
  own = ap (λ (r : Reply HitValue). own_counts r) is;
  dropped = ap (λ (r : Reply HitValue). dropped_function r) is;
  events = ap (λ (r : Reply HitValue). events_by r) is;
  closed = ap (λ (r : Reply HitValue). closed_by r) is;
  swept = ap (λ (r : Reply HitValue). swept_by r) is;
  trimmed = ap (λ (r : Reply HitValue). trimmed_by r) is;
}
