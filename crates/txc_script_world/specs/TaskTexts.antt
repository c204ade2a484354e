-- The texts of the results of a world's lines.
use Rattle.std.specs.Prelude.{ℕ, Bool, true, false, ◌||◌, List, [], ◌∷◌, ◌++◌, Option, Some, None, Result, Ok, Err, is_err, codes, length, map, if◌then◌else◌}
use Rattle.std.specs.Fmt.{decimal}
use Rattle.std.specs.List.{flat_map, join_with_byte}
use Rattle.txc_stamp.specs.Texts.{reach_text}
use Rattle.txc_tags.specs.TextSet.{tags_text}
use Rattle.txc_node.specs.Texts.{hex_text}
use Rattle.txc_txn_ports.specs.declared.error.TxnError.{TxnError}
use Rattle.txc_shared.specs.declared.advanced.Advanced.{Advanced}
use Rattle.txc_shared.specs.declared.advanced.Advanced.TheVariants as advances
use Rattle.txc_script.specs.FunctionLines.{function_line}
use Rattle.txc_world.specs.declared.port_outcome.PortOutcome.{PortOutcome}
use Rattle.txc_world.specs.declared.port_outcome.PortOutcome.TheVariants as dids
use Rattle.txc_world.specs.declared.port_outcome.RowsFound.{RowsFound}
use Rattle.txc_world.specs.declared.reply.Reply.{Reply}
use Rattle.txc_world.specs.declared.reply.Reply.TheVariants as replies
use Rattle.txc_script_world.specs.declared.printed.Printed.{Printed}
use Rattle.txc_script_world.specs.declared.printed.Printed.TheVariants.{Replied, Ended, Members, Tidied, Counted}
use Rattle.txc_db.specs.Codes.{database_code}
use Rattle.txc_cushion.specs.Codes.{add_code}
use Rattle.txc_txn_ports.specs.Codes.{transaction_code}
use Rattle.txc_world.specs.Codes.{refusal_code}

-- ---- rows

-- joined by commas; none are a dash
abbrev pub ids_text : List ℕ → List ℕ
ids_text [] = codes "-"
ids_text (id ∷ ids) = join_with_byte 44 (map decimal (id ∷ ids))

abbrev pub found_text : RowsFound → List ℕ
found_text found =
    codes "rows " ++ (ids_text found.ids.items ++ (codes " " ++ (reach_text found.reach
    ++ (codes " " ++ tags_text found.tags))))

-- ---- replies

abbrev pub end_text : Result (List ℕ) TxnError → List ℕ
end_text (Ok value) = codes "value " ++ hex_text value
end_text (Err error) = codes "refused " ++ transaction_code error

abbrev pub did_text : PortOutcome → List ℕ
did_text (dids.Pinned stamp) = codes "pinned " ++ decimal stamp
did_text dids.Added = codes "added"
did_text (dids.NotAdded error) = codes "refused " ++ add_code error
did_text dids.Unpinned = codes "unpinned"
did_text (dids.Hit reach) = codes "hit " ++ reach_text reach
did_text dids.Miss = codes "miss"
did_text (dids.Rows found) = found_text found
did_text (dids.Stored reach) = codes "stored " ++ reach_text reach
did_text dids.Kept = codes "kept"
did_text dids.Dropped = codes "dropped"
did_text (dids.Refused error) = codes "refused " ++ database_code error

-- the report of a port, then the end of the call, if it ended; of a failed request that ended its call, only
-- the call's error
abbrev pub asked_text : PortOutcome → Option (Result (List ℕ) TxnError) → List ℕ
asked_text did None = did_text did
asked_text (dids.Refused error) (Some end) = end_text end
asked_text did (Some end) = did_text did ++ (codes " " ++ end_text end)

abbrev pub advanced_text : Advanced → List ℕ
advanced_text (advances.Taken stamp closed) =
    codes "advanced " ++ (decimal stamp ++ (codes " closed " ++ decimal closed))
advanced_text advances.Idle = codes "idle"

abbrev pub world_reply_text : Reply → List ℕ
world_reply_text replies.Begun = codes "open"
world_reply_text (replies.Based base) = codes "open " ++ decimal base
world_reply_text replies.Started = codes "started"
world_reply_text (replies.Asked did end) = asked_text did end
world_reply_text (replies.Ended end) = end_text end
world_reply_text (replies.Answered rows) = codes "rows " ++ ids_text (map (λ r. r.id) rows.items)
world_reply_text replies.Kept = codes "kept"
world_reply_text (replies.Receipt None) = codes "receipt none"
world_reply_text (replies.Receipt (Some pin)) =
    codes "receipt " ++ (decimal pin.stamp ++ (codes " " ++ decimal pin.moment))
world_reply_text (replies.Aborted left) = codes "aborted"
world_reply_text (replies.At stamp) = codes "at " ++ decimal stamp
world_reply_text replies.Added = codes "added"
world_reply_text replies.GivenBack = codes "given back"
world_reply_text (replies.Retired stamps) = codes "retired " ++ decimal (length stamps.items)
world_reply_text replies.Unpinned = codes "unpinned"
world_reply_text (replies.Vacuumed horizon) = codes "horizon " ++ decimal horizon
world_reply_text (replies.Rows found) = found_text found
world_reply_text (replies.Advanced advanced) = advanced_text advanced
world_reply_text (replies.Swept count) = codes "swept " ++ decimal count
world_reply_text (replies.Refused refusal) = codes "refused " ++ refusal_code refusal

-- each after a blank
abbrev pub stamps_text : List ℕ → List ℕ
stamps_text stamps = flat_map (λ s. codes " " ++ decimal s) stamps

-- the text of a line, without its line feed
abbrev pub printed_text : Printed → List ℕ
printed_text (Replied reply) = world_reply_text reply
printed_text (Ended end) = end_text end
printed_text (Members has_present stamps) =
    codes "pins" ++ ((if has_present then codes " *" else []) ++ stamps_text stamps.items)
printed_text (Tidied count horizon) =
    codes "retired " ++ (decimal count ++ (codes " horizon " ++ decimal horizon))
printed_text (Counted line) = function_line line.function line.counts

-- ---- texts that are refusals

abbrev pub is_refused_end : Result (List ℕ) TxnError → Bool
is_refused_end result = is_err result

abbrev pub is_refused_did : PortOutcome → Bool
is_refused_did (dids.NotAdded error) = true
is_refused_did (dids.Refused error) = true
is_refused_did did = false

abbrev pub is_refused_reply : Reply → Bool
is_refused_reply (replies.Asked did None) = is_refused_did did
is_refused_reply (replies.Asked did (Some end)) = is_refused_did did || is_refused_end end
is_refused_reply (replies.Ended end) = is_refused_end end
is_refused_reply (replies.Refused refusal) = true
is_refused_reply reply = false

abbrev pub is_refused_line : Printed → Bool
is_refused_line (Replied reply) = is_refused_reply reply
is_refused_line (Ended end) = is_refused_end end
is_refused_line (Members has_present stamps) = false
is_refused_line (Tidied count horizon) = false
is_refused_line (Counted line) = false
