-- The texts of replies, as scripts print them.
use Rattle.std.specs.Prelude.{ℕ, ◌+◌, ◌/◌, ◌%◌, List, [], ◌∷◌, ◌++◌, Option, Some, None, nat_lt, if◌then◌else◌, codes}
use Rattle.std.specs.Fmt.{decimal}
use Rattle.std.specs.List.{flat_map}
use Rattle.txc_stamp.specs.Texts.{reach_text}
use Rattle.txc_tags.specs.TextKey.{key_text}
use Rattle.txc_node.specs.declared.entry.Entry.{Entry}
use Rattle.txc_node.specs.declared.hit.HitValue.{HitValue}
use Rattle.txc_node.specs.declared.node.Inserted.{Inserted}
use Rattle.txc_node.specs.declared.node.Inserted.TheVariants.{Stored, Kept}
use Rattle.txc_node.specs.declared.refusal.Refusal.{Refusal}
use Rattle.txc_node.specs.declared.refusal.Refusal.TheVariants.{EmptyRange, BadReach, OutOfOrder, ValueTooLong, Memory}
use Rattle.txc_node.specs.declared.reply.Reply.{Reply}
use Rattle.txc_node.specs.declared.reply.Reply.TheVariants as replies

-- ---- values

-- 0 to 9, and a to f
abbrev pub digit_of : ℕ → ℕ
digit_of n = if nat_lt n 10 then 48 + n else 87 + n

-- a byte is two digits
abbrev pub digits_of : ℕ → List ℕ
digits_of byte = digit_of (byte / 16) ∷ digit_of (byte % 16) ∷ []

-- no bytes are a dash
abbrev pub hex_text : List ℕ → List ℕ
hex_text [] = codes "-"
hex_text (b ∷ bytes) = flat_map digits_of (b ∷ bytes)

-- ---- replies

-- the entry that was dropped, if one was
abbrev pub evicted_text : Option Entry → List ℕ
evicted_text None = []
evicted_text (Some e) = codes " evicted " ++ (key_text e.key ++ (codes "@" ++ decimal e.reach.lo))

-- the text of an insertion's result
abbrev pub inserted_text : Inserted → List ℕ
inserted_text (Stored reach evicted) = codes "stored " ++ (reach_text reach ++ evicted_text evicted)
inserted_text (Kept entry) = codes "kept"

-- the code, and the number that goes with it
abbrev pub refusal_text : Refusal → List ℕ
refusal_text EmptyRange = codes "N1"
refusal_text BadReach = codes "N2"
refusal_text (OutOfOrder processed) = codes "N3 " ++ decimal processed
refusal_text ValueTooLong = codes "N4"
refusal_text Memory = codes "memory"

-- a reply, without the end of its line
abbrev pub reply_text : Reply HitValue → List ℕ
reply_text (replies.Inserted inserted) = inserted_text inserted
reply_text (replies.Hit shown) =
    codes "hit " ++ (reach_text shown.reach ++ (codes " " ++ hex_text shown.value))
reply_text replies.Miss = codes "miss"
reply_text (replies.Closed count) = codes "closed " ++ decimal count
reply_text (replies.Swept count) = codes "swept " ++ decimal count
reply_text (replies.Trimmed count) = codes "trimmed " ++ decimal count
reply_text (replies.Refused refusal) = codes "refused " ++ refusal_text refusal
