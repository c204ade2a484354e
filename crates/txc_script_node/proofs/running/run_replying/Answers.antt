use Rattle.txc_script_settings.specs.declared.mode.Mode.TheVariants.{Node}
use Rattle.txc_node.specs.Cache.{empty_cache}
use Rattle.txc_script_node.specs.NodeScripts.{node_script}
use Rattle.txc_script.proofs.Offered.{run_out_of_memory}
use Rattle.txc_script_node.proofs.Counted.{run_from}
use Rattle.txc_script_node.proofs.running.run_replying.Goals as goal

pub returns-in-Ok : goal.returns-in-Ok
returns-in-Ok g c = (c.run_script.new.state, run_from c.in-Ok.node _ _ _ _ _ c.run_script.result c.run_script.new.state c.in-Ok.ensures c.run_script.ensures)

pub returns-in-Err : goal.returns-in-Err
returns-in-Err g c = (empty_cache c.args.settings.capacity c.args.settings.recent, run_out_of_memory (node_script Node) _ _ _)
