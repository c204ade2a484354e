use Rattle.txc_script_world.proofs.script.run_world.Goals as goal

pub returns-clause-after : goal.returns-clause-after
returns-clause-after g c = (c.run_script-ended.new.state, c.run_script-ended.ensures, c.give_all_up.ensures.given_up)
