-- A client's calls in the histories of the nodes.
use Rattle.txc_stream.specs.Names.{Name}
use Rattle.std.specs.Prelude.{◌≡◌, ◌⊎◌, ◌==◌, ℕ, Bool, false, List, [], ◌∷◌, ◌++◌, slice_get, Some, Result}
use Rattle.std.specs.List.{filter}
use Rattle.txc_tags.specs.Keys.{Call}
use Rattle.txc_node.specs.declared.node.Inserted.{Inserted}
use Rattle.txc_node.specs.declared.op.Op.TheVariants as ops
use Rattle.txc_node.specs.declared.record.Record.{Record}
use Rattle.txc_node.specs.declared.reply.Reply.TheVariants as replies
use Rattle.txc_app.specs.Eval.{Next}
use Rattle.txc_shared.specs.Passes.{PassValue}
use Rattle.txc_txn_ports.specs.Exchanges.{Exchange}
use Rattle.txc_txn_ports.specs.Exchanges as exchanges
use Rattle.txc_txn_ports.specs.declared.error.TxnError.{TxnError}
use Rattle.txc_txn_client.specs.Ports.{reply_to_lookup}
use Rattle.txc_txn_client.specs.Run.{HasRun}
use Rattle.txc_txn_client.specs.RoTxn.{RoTxnValue}

-- the records that a pass made among those that it has seen, in the order of the node's history
abbrev pub own_records : PassValue → List Record
own_records p = filter (λ (r : Record). r.pass == p.pass) p.records

-- the exchange is with this node
abbrev pub asks : ℕ → Exchange → Bool
asks node (exchanges.Lookup at key lo hi found) = at == node
asks node (exchanges.Insert at entry keeps) = at == node
asks node exchange = false

-- the record is of the step that was asked, and shows the reply
abbrev pub IsOne : Exchange → Record → Type 0
IsOne (exchanges.Lookup at key lo hi found) r = (r.op ≡ ops.Lookup key lo hi) × (r.reply ≡ reply_to_lookup found)
IsOne (exchanges.Insert at entry keeps) r = (r.op ≡ ops.Insert entry)
    × ((inserted : Inserted) × (r.reply ≡ replies.Inserted inserted))
IsOne exchange r = ⊥

-- these are one record, of the exchange
abbrev pub AreOne : Exchange → List Record → Type 0
AreOne exchange made = (r : Record) × (made ≡ r ∷ []) × IsOne exchange r

-- The records of an exchange at its node: a hit, or an entry that is stored, one; a miss, or an entry that is
-- not stored, at most one, since the node may have failed; and anything else, none.
abbrev pub Leaves : Exchange → List Record → Type 0
Leaves (exchanges.Lookup at key lo hi (Some hit)) made = AreOne (exchanges.Lookup at key lo hi (Some hit)) made
Leaves (exchanges.Insert at entry (Some keeps)) made = AreOne (exchanges.Insert at entry (Some keeps)) made
Leaves exchange made = (made ≡ []) ⊎ AreOne exchange made

-- these are what the exchanges left, one after the other
abbrev pub AreLeftBy : List Exchange → List Record → Type 0
AreLeftBy [] made = made ≡ []
AreLeftBy (x ∷ xs) made = (first rest : List Record)
    × (made ≡ first ++ rest) × Leaves x first × AreLeftBy xs rest

-- It is the same pass, and of its own records it has those that it had, and then those that the exchanges left.
pub record HasAdded (xs : List Exchange) (before after : PassValue) : Type 0 where
  pub same : after.pass ≡ before.pass
  pub made : List Record
  pub left : AreLeftBy xs made
  pub own : own_records after ≡ own_records before ++ made

-- The client's own records in the history of a node, after a call of a transaction, are those before it, and
-- then those of the call's exchanges with the node, in their order. They are one for each hit and for each
-- entry that the node stores, at most one for each miss and for each other insertion, and no others.
abbrev pub EachCallIsRecordedOnce : Type 0
EachCallIsRecordedOnce = (next : Next) (row : Name) (node_histories : ℕ → Name) (old new : RoTxnValue) (k : Call)
    (result : Result (List ℕ) TxnError) (run : HasRun next row node_histories old k new result) (node : ℕ) (before after : PassValue)
    → slice_get old.passes node ≡ Some before → slice_get new.passes node ≡ Some after
    → HasAdded (filter (asks node) run.exchanges) before after
