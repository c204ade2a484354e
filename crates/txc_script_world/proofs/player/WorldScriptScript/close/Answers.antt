use Rattle.std.proofs.Common.{[], refl, sym, append-nil}
use Rattle.txc_script_world.proofs.player.WorldScriptScript.close.Goals as goal

pub returns-clause-closed : goal.returns-clause-closed
returns-clause-closed g c = record { more = []; text = sym (append-nil c.args.text.now.items); closes = λ given none. (refl, refl) }
