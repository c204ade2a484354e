use Rattle.std.proofs.Common.{arith}
use Rattle.std.proofs.lemmas.Grind.{common_steps}
use Rattle.std.proofs.lemmas.List.Edits.{map_over_more}
use Rattle.txc_node.specs.IndexedEntries.{in_stead}
use Rattle.txc_node.proofs.versions.change_each.Goals as goal

pub loop-other-preserved : goal.loop-other-preserved
loop-other-preserved c = grind (arith, common_steps, map_over_more (in_stead c.args.reach))
