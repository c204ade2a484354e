-- No count exceeds the number of replies.
use Rattle.std.proofs.Common.{◌≡◌, ℕ, ◌+◌, ◌≤◌, Bool, true, false, eqb, cond, suc, zero, List, get_or, Option, Some, None, refl, subst, sym, ap, ◌∙◌, arith}
use Rattle.std.specs.Prelude.{replicate}
use Rattle.txc_node.specs.declared.counts.FunctionCounts.{FunctionCounts}
use Rattle.txc_node.specs.declared.node.Inserted.TheVariants.{Stored, Kept}
use Rattle.txc_node.specs.declared.reply.Reply.{Reply}
use Rattle.txc_node.specs.declared.reply.Reply.TheVariants as replies
use Rattle.txc_node.specs.CountBounds.{IsAtMost}
use Rattle.txc_node.specs.Counts.{none_counted, one_evicted, counts_of, sum_of, counts_if, own_counts, dropped_function}

pub constant : (n f : ℕ) (x : FunctionCounts) → get_or (replicate n x) f x ≡ x
constant zero f x = refl
constant (suc n) zero x = refl
constant (suc n) (suc f) x = constant n f x

pub none_at_most : (n : ℕ) → IsAtMost n none_counted
none_at_most n = record { lookups = omega arith; hits = omega arith; stored = omega arith; kept = omega arith; evicted = omega arith }

-- what a reply counts for its own function
record IsOwn (counts : FunctionCounts) : Type 0 where
  once : IsAtMost 1 counts
  no_eviction : counts.evicted ≡ 0

none_is_own : IsOwn none_counted
none_is_own = record { once = none_at_most 1; no_eviction = refl }

own : {H : Type 0} (reply : Reply H) → IsOwn (own_counts reply)
own (replies.Inserted (Stored reach evicted)) = record { once = record { lookups = omega arith; hits = omega arith; stored = omega arith; kept = omega arith; evicted = omega arith }; no_eviction = refl }
own (replies.Inserted (Kept entry)) = record { once = record { lookups = omega arith; hits = omega arith; stored = omega arith; kept = omega arith; evicted = omega arith }; no_eviction = refl }
own (replies.Hit hit) = record { once = record { lookups = omega arith; hits = omega arith; stored = omega arith; kept = omega arith; evicted = omega arith }; no_eviction = refl }
own replies.Miss = record { once = record { lookups = omega arith; hits = omega arith; stored = omega arith; kept = omega arith; evicted = omega arith }; no_eviction = refl }
own (replies.Closed count) = none_is_own
own (replies.Swept count) = none_is_own
own (replies.Trimmed count) = none_is_own
own (replies.Refused refusal) = none_is_own

-- these counts or none
by_function : (P : FunctionCounts → Type 0) (function : Option ℕ) (f : ℕ) (counts : FunctionCounts) → P none_counted → P counts → P (counts_if function f counts)
by_function P None f counts none some = none
by_function P (Some g) f counts none some =
    let go : (b : Bool) → P (cond b counts none_counted) = λ b. elim b as (λ v. P (cond v counts none_counted)) [ true ↦ some | false ↦ none ] in
    go (eqb g f)

-- an eviction counts no more than itself
record IsEviction (counts : FunctionCounts) : Type 0 where
  lookups : counts.lookups ≡ 0
  hits : counts.hits ≡ 0
  stored : counts.stored ≡ 0
  kept : counts.kept ≡ 0
  once : counts.evicted ≤ 1

pub one_more : {H : Type 0} (n : ℕ) (old mid new : List FunctionCounts) (function : Option ℕ) (reply : Reply H) (f : ℕ) → IsAtMost n (counts_of old f)
    → counts_of mid f ≡ sum_of (counts_of old f) (counts_if function f (own_counts reply))
    → counts_of new f ≡ sum_of (counts_of mid f) (counts_if (dropped_function reply) f one_evicted) → IsAtMost (n + 1) (counts_of new f)
one_more n old mid new function reply f h e k =
    let a = counts_of old f in
    let b = counts_if function f (own_counts reply) in
    let d = counts_if (dropped_function reply) f one_evicted in
    let bs : IsOwn b = by_function IsOwn function f (own_counts reply) none_is_own (own reply) in
    let ds : IsEviction d = by_function IsEviction (dropped_function reply) f one_evicted
    (record { lookups = refl; hits = refl; stored = refl; kept = refl; once = omega arith })
    (record { lookups = refl; hits = refl; stored = refl; kept = refl; once = omega arith }) in
    let all : counts_of new f ≡ sum_of (sum_of a b) d = k ∙ ap (λ m. sum_of m d) e in
    subst (IsAtMost (n + 1)) (sym all) (record {
      lookups = omega (arith, h.lookups, bs.once.lookups, ds.lookups);
      hits = omega (arith, h.hits, bs.once.hits, ds.hits);
      stored = omega (arith, h.stored, bs.once.stored, ds.stored);
      kept = omega (arith, h.kept, bs.once.kept, ds.kept);
      evicted = omega (arith, h.evicted, bs.no_eviction, ds.once);
    })
