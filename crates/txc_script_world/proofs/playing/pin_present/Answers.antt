use Rattle.std.proofs.Common.{true, false, sym, ◌∙◌}
use Rattle.txc_script_world.proofs.TasksDone.{pin_alone, pin_done}
use Rattle.txc_script_world.proofs.playing.pin_present.Goals as goal

pub returns-then-is_added : goal.returns-then-is_added
returns-then-is_added g c =
    pin_done g.A.App.next c.args.world.now c.take-pinned.new.world c.take-added.new.world c.take.new.world c.args.now c.in-Some.stamp c.take-pinned.result c.take-added.result c.take.result true
    c.take-pinned.ensures (sym c.stamp_in.ensures ∙ c.in-Some.is) c.take-added.ensures (sym c.is_added.ensures ∙ c.if-is_added.true) c.take.ensures

pub returns : goal.returns
returns g c =
    pin_done g.A.App.next c.args.world.now c.take-pinned.new.world c.take-added.new.world c.take-2.new.world c.args.now c.in-Some.stamp c.take-pinned.result c.take-added.result c.take-2.result false
    c.take-pinned.ensures (sym c.stamp_in.ensures ∙ c.in-Some.is) c.take-added.ensures (sym c.is_added.ensures ∙ c.if-is_added.false) c.take-2.ensures

pub returns-in_default : goal.returns-in_default
returns-in_default g c =
    pin_alone g.A.App.next c.args.world.now c.take-pinned.new.world c.args.now c.take-pinned.result c.take-pinned.ensures (sym c.stamp_in.ensures ∙ c.in_default.is)
