-- Records of steps that are still to be made.
use Rattle.std.specs.Prelude.{ℕ}
use Rattle.txc_node.specs.declared.op.Op.{Op}
use Rattle.txc_node.specs.declared.record.Record.{Record}
use Rattle.txc_node.specs.Cache.{Cache}
use Rattle.txc_node.specs.Steps.{step_reply}

-- the record of a step that a cache is to make
abbrev pub planned_record : ℕ → ℕ → Op → Cache → Record
planned_record pass turn op c = record { pass = pass; turn = turn; op = op; reply = step_reply c op }
