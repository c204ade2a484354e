-- An insertion of an entry that can be made.
use Rattle.std.proofs.Common.{◌≡◌, ℕ, Option, Some, None, sym, subst, ap, ◌∙◌}
use Rattle.txc_node.specs.declared.value.TheConstants.{MOST_VALUE_LEN}
use Rattle.txc_node.specs.declared.entry.Entry.{Entry}
use Rattle.txc_node.specs.declared.hit.HitValue.{HitValue}
use Rattle.txc_node.specs.declared.node.Inserted.{Inserted}
use Rattle.txc_node.specs.declared.op.Op.TheVariants.{Insert}
use Rattle.txc_node.specs.declared.refusal.Refusal.{Refusal}
use Rattle.txc_node.specs.declared.reply.Reply.{Reply}
use Rattle.txc_node.specs.declared.reply.Reply.TheVariants as replies
use Rattle.txc_node.specs.Cache.{Cache, after_insert, outcome}
use Rattle.txc_node.specs.Steps.{entry_refusal, reply_by, reply_to, cache_by, after_op}
use Rattle.txc_c.specs.Numbers.{inserted_number, reply_number}
use Rattle.txc_c.specs.CountedNode.{Counted, TotalsAfter, LeavesCounted}
use Rattle.txc_c.specs.NodeReply.{StoredTold}
use Rattle.txc_c_types.specs.declared.crossing.TxcStored.{TxcStored}

made_reply : (c : Cache) (e : Entry) → entry_refusal MOST_VALUE_LEN e ≡ None → reply_to MOST_VALUE_LEN c (Insert e) ≡ replies.Inserted (outcome c e)
made_reply c e made = ap (λ (r : Option Refusal). reply_by r (replies.Inserted (outcome c e))) made

made_cache : (c : Cache) (e : Entry) → entry_refusal MOST_VALUE_LEN e ≡ None → after_op MOST_VALUE_LEN c (Insert e) ≡ after_insert c e
made_cache c e made = ap (λ (r : Option Refusal). cache_by r c (after_insert c e)) made

pub number_made : (c : Cache) (e : Entry) (i : Inserted) (n : ℕ) → entry_refusal MOST_VALUE_LEN e ≡ None → i ≡ outcome c e → n ≡ inserted_number i
    → n ≡ reply_number 0 (reply_to MOST_VALUE_LEN c (Insert e))
number_made c e i n made is number =
    number ∙ ap inserted_number is ∙ ap (λ (r : Reply HitValue). reply_number 0 r) (sym (made_reply c e made))

pub told_made : (c : Cache) (e : Entry) (i : Inserted) (old new : TxcStored) → entry_refusal MOST_VALUE_LEN e ≡ None → i ≡ outcome c e → StoredTold (Some (replies.Inserted i)) old new
    → StoredTold (Some (reply_to MOST_VALUE_LEN c (Insert e))) old new
told_made c e i old new made is h =
    subst (λ (r : Reply HitValue). StoredTold (Some r) old new) (sym (made_reply c e made)) (subst (λ (x : Inserted). StoredTold (Some (replies.Inserted x)) old new) is h)

pub leaves_made : (old new : Counted) (e : Entry) (i : Inserted) (f : ℕ) → entry_refusal MOST_VALUE_LEN e ≡ None → i ≡ outcome old.cache e → new.cache ≡ after_insert old.cache e → f ≡ e.key.function
    → TotalsAfter (Some f) (replies.Inserted i) old.totals new.totals → LeavesCounted old (Insert e) new
leaves_made old new e i f made is cache named totals = record {
  cache = cache ∙ sym (made_cache old.cache e made);
  totals = subst (λ (r : Reply HitValue). TotalsAfter (Some e.key.function) r old.totals new.totals) (sym (made_reply old.cache e made))
      (subst (λ (x : Inserted). TotalsAfter (Some e.key.function) (replies.Inserted x) old.totals new.totals) is
      (subst (λ (n : ℕ). TotalsAfter (Some n) (replies.Inserted i) old.totals new.totals) named totals));
}
