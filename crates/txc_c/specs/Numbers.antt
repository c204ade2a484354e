-- The numbers that calls return.
use Rattle.std.specs.Prelude.{ℕ, Option, Some, None}
use Rattle.txc_node.specs.declared.value.TheConstants.{MOST_VALUE_LEN}
use Rattle.txc_node.specs.declared.hit.HitValue.{HitValue}
use Rattle.txc_node.specs.declared.node.Inserted.{Inserted}
use Rattle.txc_node.specs.declared.node.Inserted.TheVariants.{Stored, Kept}
use Rattle.txc_node.specs.declared.op.Op.{Op}
use Rattle.txc_c_types.specs.Numbers.{bytes_number, refusal_number}
use Rattle.txc_node.specs.declared.reply.Reply.{Reply}
use Rattle.txc_node.specs.declared.reply.Reply.TheVariants as replies
use Rattle.txc_node.specs.Steps.{reply_to}
use Rattle.txc_c.specs.CountedNode.{Counted}
use Rattle.txc_c_types.specs.declared.numbers.TheConstants.{DONE, MISS, KEPT, CLOSED, BAD_ARGUMENT}

-- the number of a hit, by the room of the buffer
abbrev pub hit_number : ℕ → HitValue → ℕ
hit_number room shown = bytes_number DONE room shown.value

-- the number of what an insertion did
abbrev pub inserted_number : Inserted → ℕ
inserted_number (Stored reach evicted) = DONE
inserted_number (Kept entry) = KEPT

-- the number of a reply, by the room of the buffer
abbrev pub reply_number : ℕ → Reply HitValue → ℕ
reply_number room (replies.Inserted inserted) = inserted_number inserted
reply_number room (replies.Hit shown) = hit_number room shown
reply_number room replies.Miss = MISS
reply_number room (replies.Closed count) = DONE
reply_number room (replies.Swept count) = DONE
reply_number room (replies.Trimmed count) = DONE
reply_number room (replies.Refused refusal) = refusal_number refusal

-- the number of a call: the handle has no node; an argument is none of its kind; or that of the reply
abbrev pub call_number : ℕ → Option Counted → Option Op → ℕ
call_number room None asked = CLOSED
call_number room (Some n) None = BAD_ARGUMENT
call_number room (Some n) (Some op) = reply_number room (reply_to MOST_VALUE_LEN n.cache op)
