-- The next step of a transaction.
use Rattle.std.specs.Prelude.{ℕ, List}
use Rattle.txc_txn_ports.specs.declared.request.PortRequest.{PortRequest}
use Rattle.txc_txn_ports.specs.declared.turn.Turn.{Turn}
use Rattle.txc_txn_ports.specs.declared.turn.Turn.TheVariants.{Ask}

-- of a call that makes port requests
abbrev pub PortTurn : Type 0
PortTurn = Turn PortRequest (List ℕ)

-- the turn asks
abbrev pub IsAsk : {R T : Type 0} → Turn R T → Type 0
IsAsk (Ask request) = Unit {0}
IsAsk turn = ⊥
