-- Worked examples of a node over the worked history: its legal histories, and some that are not.
use Rattle.std.specs.Prelude.{ℕ, true, List, [], ◌∷◌, ◌++◌, None}
use Rattle.txc_tags.specs.Keys.{Call}
use Rattle.txc_tags.specs.Tags.{id_tag, group_tag}
use Rattle.txc_db.specs.WorkedHistory.{worked}
use Rattle.txc_node.specs.declared.entry.Entry.{Entry}
use Rattle.txc_node.specs.declared.hit.HitValue.{HitValue}
use Rattle.txc_node.specs.declared.node.Inserted.TheVariants.{Stored}
use Rattle.txc_node.specs.declared.op.Op.{Op}
use Rattle.txc_node.specs.declared.op.Op.TheVariants.{Insert, Lookup, Event}
use Rattle.txc_node.specs.declared.reply.Reply.{Reply}
use Rattle.txc_node.specs.declared.reply.Reply.TheVariants as replies
use Rattle.txc_node.specs.declared.record.Record.{Record}
use Rattle.txc_node.specs.Cache.{Cache, empty_cache}
use Rattle.txc_shared.specs.Histories.{IsLegal}

-- the call of function 0 for the id 9
abbrev pub call_of_absent : Call
call_of_absent = record { function = 0; args = 9 ∷ [] }

-- the row that it requests does not exist, from the first stamp to the newest, and still
abbrev pub absent_entry : Entry
absent_entry = record {
  key = call_of_absent;
  value = [];
  reach = record { lo = 0; known = 4; still = true };
  tags = id_tag 1 9 ∷ [];
}

-- a record of a pass
abbrev pub by : ℕ → ℕ → Op → Reply HitValue → Record
by pass turn op reply = record { pass = pass; turn = turn; op = op; reply = reply }

abbrev pub looks_up : Op
looks_up = Lookup call_of_absent 0 9

abbrev pub shown_absent : HitValue
shown_absent = record { reach = absent_entry.reach; value = []; tags = absent_entry.tags }

-- two passes: a miss, an insertion and the first event
abbrev pub three_steps : List Record
three_steps =
    by 0 0 looks_up replies.Miss
    ∷ by 1 0 (Insert absent_entry) (replies.Inserted (Stored absent_entry.reach None))
    ∷ by 1 1 (Event 1 (id_tag 1 7 ∷ group_tag 1 2 ∷ [])) (replies.Closed 0)
    ∷ []

abbrev pub start : Cache
start = empty_cache 4 4

-- the legal ones among the histories: the last record has its step's reply, its pass's next turn, and the next
-- event with its tags
pub record WorkedHistories : Type 0 where
  pub hit : IsLegal worked start (three_steps ++ by 0 1 looks_up (replies.Hit shown_absent) ∷ [])
  pub miss : ¬ (IsLegal worked start (three_steps ++ by 0 1 looks_up replies.Miss ∷ []))
  pub first_turn : ¬ (IsLegal worked start (three_steps ++ by 0 0 looks_up (replies.Hit shown_absent) ∷ []))
  pub event : IsLegal worked start (three_steps ++ by 0 1 (Event 2 []) (replies.Closed 0) ∷ [])
  pub skipped_event : ¬ (IsLegal worked start
      (three_steps ++ by 0 1 (Event 3 (id_tag 1 8 ∷ group_tag 1 2 ∷ [])) (replies.Closed 0) ∷ []))
  pub other_tags : ¬ (IsLegal worked start
      (three_steps ++ by 0 1 (Event 2 (id_tag 1 8 ∷ [])) (replies.Closed 0) ∷ []))
