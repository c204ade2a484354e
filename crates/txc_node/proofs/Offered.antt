-- What crates above may use of the proofs: what the clauses of the calls say as replies to steps.
use Rattle.std.proofs.Common.{◌≡◌, ◌≢◌, ℕ, ◌+◌, ◌<◌, ◌≤◌, false, List, length, Option, Some, None, refl, sym, ap, ◌∙◌, inl, inr, arith}
use Rattle.std.proofs.lemmas.Bool.Decides.{nat_tests}
use Rattle.txc_tags.specs.Keys.{Call}
use Rattle.txc_tags.specs.declared.tag.Tag.{Tag}
use Rattle.txc_node.specs.declared.entry.Entry.{Entry}
use Rattle.txc_node.specs.declared.hit.HitValue.{HitValue}
use Rattle.txc_node.specs.declared.node.Inserted.{Inserted}
use Rattle.txc_node.specs.declared.op.Op.{Op}
use Rattle.txc_node.specs.declared.op.Op.TheVariants.{Insert, Lookup, Event, Sweep, Trim}
use Rattle.txc_node.specs.declared.refusal.Refusal.{Refusal}
use Rattle.txc_node.specs.declared.refusal.Refusal.TheVariants.{EmptyRange, BadReach, OutOfOrder, ValueTooLong, Memory}
use Rattle.txc_node.specs.declared.reply.Reply.{Reply}
use Rattle.txc_node.specs.declared.reply.Reply.TheVariants as replies
use Rattle.txc_node.specs.Cache.{Cache, lookup_answer, after_lookup, is_kept, outcome, after_insert, closed_count, after_event, swept_count, after_sweep, trimmed_count, after_trim}
use Rattle.txc_node.specs.Steps.{found_reply, entry_refusal, refusal_of, step_reply, after_step, reply_by, reply_to, cache_by, after_op, MayReply}

-- a step that is not refused
done : (longest : ℕ) (c : Cache) (op : Op) (reply : Reply HitValue) (next : Cache) → refusal_of longest c op ≡ None → reply ≡ step_reply c op → next ≡ after_step c op → MayReply longest c op reply next
done longest c op reply next none is leaves = inl (is ∙ sym (ap (λ r. reply_by r (step_reply c op)) none), leaves ∙ sym (ap (λ r. cache_by r c (after_step c op)) none))

-- a step that is refused
refused : (longest : ℕ) (c : Cache) (op : Op) (refusal : Refusal) (next : Cache) → refusal_of longest c op ≡ Some refusal → next ≡ c → MayReply longest c op (replies.Refused refusal) next
refused longest c op refusal next is leaves = inl (sym (ap (λ r. reply_by r (step_reply c op)) is), leaves ∙ sym (ap (λ r. cache_by r c (after_step c op)) is))

-- ---- insertions

pub entry_is_made : (longest : ℕ) (e : Entry) → e.reach.lo ≤ e.reach.known → length e.value ≤ longest → entry_refusal longest e ≡ None
entry_is_made longest e l k = grind (arith, nat_tests)

pub entry_has_no_reach : (longest : ℕ) (e : Entry) → e.reach.known < e.reach.lo → entry_refusal longest e ≡ Some BadReach
entry_has_no_reach longest e l = grind (arith, nat_tests)

pub entry_is_too_long : (longest : ℕ) (e : Entry) → e.reach.lo ≤ e.reach.known → longest < length e.value → entry_refusal longest e ≡ Some ValueTooLong
entry_is_too_long longest e l k = grind (arith, nat_tests)

pub insertion_done : (longest : ℕ) (c : Cache) (e : Entry) (inserted : Inserted) (next : Cache) → entry_refusal longest e ≡ None → inserted ≡ outcome c e → next ≡ after_insert c e
    → MayReply longest c (Insert e) (replies.Inserted inserted) next
insertion_done longest c e inserted next none is leaves = done longest c (Insert e) (replies.Inserted inserted) next none (ap (λ i. replies.Inserted i) is) leaves

pub insertion_refused : (longest : ℕ) (c : Cache) (e : Entry) (refusal : Refusal) → entry_refusal longest e ≡ Some refusal → MayReply longest c (Insert e) (replies.Refused refusal) c
insertion_refused longest c e refusal is = refused longest c (Insert e) refusal c is refl

pub insertion_out_of_memory : (longest : ℕ) (c : Cache) (e : Entry) (next : Cache) → entry_refusal longest e ≡ None → is_kept c e ≡ false → next ≡ c
    → MayReply longest c (Insert e) (replies.Refused Memory) next
insertion_out_of_memory longest c e next none stores leaves = inr ((none, stores), refl, leaves)

-- ---- the other steps

pub lookup_done : (longest : ℕ) (c : Cache) (key : Call) (lo hi : ℕ) (found : Option HitValue) (next : Cache) → lo ≤ hi → found ≡ lookup_answer c key lo hi → next ≡ after_lookup c key lo hi
    → MayReply longest c (Lookup key lo hi) (found_reply found) next
lookup_done longest c key lo hi found next l is leaves =
    let none : refusal_of longest c (Lookup key lo hi) ≡ None = grind (arith, nat_tests) in
    done longest c (Lookup key lo hi) (found_reply found) next none (ap found_reply is) leaves

pub lookup_refused : (longest : ℕ) (c : Cache) (key : Call) (lo hi : ℕ) (next : Cache) → hi < lo → next ≡ c → MayReply longest c (Lookup key lo hi) (replies.Refused EmptyRange) next
lookup_refused longest c key lo hi next l leaves =
    let is : refusal_of longest c (Lookup key lo hi) ≡ Some EmptyRange = grind (arith, nat_tests) in
    refused longest c (Lookup key lo hi) EmptyRange next is leaves

pub event_done : (longest : ℕ) (c : Cache) (stamp : ℕ) (tags : List Tag) (count : ℕ) (next : Cache) → stamp ≡ c.processed + 1 → count ≡ closed_count c stamp tags → next ≡ after_event c stamp tags
    → MayReply longest c (Event stamp tags) (replies.Closed count) next
event_done longest c stamp tags count next l is leaves =
    let none : refusal_of longest c (Event stamp tags) ≡ None = grind (arith, nat_tests) in
    done longest c (Event stamp tags) (replies.Closed count) next none (ap (λ n. replies.Closed n) is) leaves

pub event_refused : (longest : ℕ) (c : Cache) (stamp : ℕ) (tags : List Tag) (next : Cache) → stamp ≢ c.processed + 1 → next ≡ c
    → MayReply longest c (Event stamp tags) (replies.Refused (OutOfOrder c.processed)) next
event_refused longest c stamp tags next other leaves =
    let is : refusal_of longest c (Event stamp tags) ≡ Some (OutOfOrder c.processed) = grind (arith, nat_tests) in
    refused longest c (Event stamp tags) (OutOfOrder c.processed) next is leaves

pub sweep_done : (longest : ℕ) (c : Cache) (horizon count : ℕ) (next : Cache) → count ≡ swept_count c horizon → next ≡ after_sweep c horizon
    → MayReply longest c (Sweep horizon) (replies.Swept count) next
sweep_done longest c horizon count next is leaves = done longest c (Sweep horizon) (replies.Swept count) next refl (ap (λ n. replies.Swept n) is) leaves

pub trim_done : (longest : ℕ) (c : Cache) (most count : ℕ) (next : Cache) → count ≡ trimmed_count c most → next ≡ after_trim c most
    → MayReply longest c (Trim most) (replies.Trimmed count) next
trim_done longest c most count next is leaves = done longest c (Trim most) (replies.Trimmed count) next refl (ap (λ n. replies.Trimmed n) is) leaves

-- ---- where memory is at hand

-- a step that is not refused for memory has one reply, and leaves one cache
pub replied_one_way : (longest : ℕ) (c : Cache) (op : Op) (reply : Reply HitValue) (next : Cache) → reply ≢ replies.Refused Memory → MayReply longest c op reply next
    → (reply ≡ reply_to longest c op) × (next ≡ after_op longest c op)
replied_one_way longest c op reply next other (inl h) = h
replied_one_way longest c op reply next other (inr h) = absurd (other h.1)
