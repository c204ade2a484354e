use Rattle.txc_script_settings.specs.declared.mode.Mode.TheVariants.{Report}
use Rattle.txc_node.specs.Cache.{empty_cache}
use Rattle.txc_script_node.specs.NodeScripts.{node_script}
use Rattle.txc_script.proofs.Offered.{run_out_of_memory}
use Rattle.txc_script_node.proofs.Counted.{same_run}
use Rattle.txc_script_node.proofs.running.run_counting.Goals as goal

pub returns-in-Ok : goal.returns-in-Ok
returns-in-Ok g c = (
  c.run_script.new.state.node,
  same_run c.in-Ok.counted _ _ _ _ c.run_script.result c.run_script.new.state _ c.in-Ok.ensures.node c.in-Ok.ensures.report c.run_script.ensures,
)

pub returns-in-Err : goal.returns-in-Err
returns-in-Err g c = (empty_cache c.args.settings.capacity c.args.settings.recent, run_out_of_memory (node_script Report) _ _ _)
