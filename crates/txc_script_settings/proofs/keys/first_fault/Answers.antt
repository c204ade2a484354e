use Rattle.txc_script_settings.proofs.Least.{least_found}
use Rattle.txc_script_settings.proofs.keys.first_fault.Goals as goal

pub returns-clause-least : goal.returns-clause-least
returns-clause-least c = least_found c.first_in_order.result c.args.table.now.entries c.iter-entries.ensures.ordered c.first_in_order.ensures
