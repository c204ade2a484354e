-- Rows, queries and receipts, as they cross.
use Rattle.std.specs.Prelude.{ℕ, Bool, true, false, ◌&&◌, ◌==◌, nat_le, if◌then◌else◌, Option, Some, None}
use Rattle.txc_tags.specs.declared.tag.TheConstants.{LAST_TABLE}
use Rattle.txc_rows.specs.Values.{RowValue}
use Rattle.txc_rows.specs.declared.query.Query.{Query}
use Rattle.txc_rows.specs.declared.query.Query.TheVariants.{All, ById, ByGroup, Range}
use Rattle.txc_cushion.specs.declared.pin.Pin.{Pin}
use Rattle.txc_c.specs.declared.receipts.TxcQuery.{TxcQuery}
use Rattle.txc_c.specs.declared.receipts.TxcReceipt.{TxcReceipt}
use Rattle.txc_c.specs.declared.receipts.TxcRow.{TxcRow}

-- the query of a kind: 0 asks for all rows, 1 for the one with the id, 2 for the group, 3 for the ids from the
-- first to the last
abbrev pub query_of : TxcQuery → Query
query_of q =
    if q.kind == 0 then All q.table
    else (if q.kind == 1 then ById q.table q.first
    else (if q.kind == 2 then ByGroup q.table q.first else Range q.table q.first q.last))

-- there is such a table, and such a kind
abbrev pub is_query : TxcQuery → Bool
is_query q = nat_le q.table LAST_TABLE && nat_le q.kind 3

-- a row, but for its body
abbrev pub crossing_row : RowValue → TxcRow
crossing_row row = record { table = row.table; id = row.id; group = row.group }

-- the number of answers, and the pin at which they are right, if there is one
abbrev pub crossing_receipt : Option Pin → ℕ → TxcReceipt
crossing_receipt None answers = record { answers = answers; has_pin = false; stamp = 0; moment = 0 }
crossing_receipt (Some pin) answers =
    record { answers = answers; has_pin = true; stamp = pin.stamp; moment = pin.moment }
