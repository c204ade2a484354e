use Rattle.std.proofs.Common.{◌≡◌}
use Rattle.toml.specs.View.{members_view, table_view}
use Rattle.txc_script_settings.specs.Keys.{first_fault}
use Rattle.txc_script_settings.proofs.keys.first_in_order.Given as goal

abbrev pub invariant-loop-key : goal.invariant-loop-key
invariant-loop-key l = first_fault (members_view l.key-iterator) ≡ first_fault (table_view l.table)
