use Rattle.std.proofs.Common.{◌∙◌, ap, sym, refl}
use Rattle.txc_db.specs.DatabaseValue.{DatabaseValue}
use Rattle.txc_db.specs.FrontsAndFeeds.{FrontValue}
use Rattle.txc_caller.specs.Ports.{CallerPorts}
use Rattle.txc_caller.proofs.Pins.{has_pinned}
use Rattle.txc_caller.proofs.plain_ports.PlainPorts.pin.Goals as goal

pub add-requires : goal.add-requires
add-requires g c =
    ap (λ (f : FrontValue). f.events) c.in-Ok.ensures.front ∙ (ap (λ (d : DatabaseValue). d.events) c.in-Ok.ensures.after ∙ sym c.self.invariant.cushion)

pub returns-in-Ok-add-clause-pinned : goal.returns-in-Ok-add-clause-pinned
returns-in-Ok-add-clause-pinned g c =
    let old : CallerPorts = record { database = c.self.inside.database; cushion = c.self.inside.cushion; node = c.self.inside.node; budget = c.self.inside.budget } in
    has_pinned c.args.moment c.args.self.now old c.self.view_is c.pin.new.self c.in-Ok.pinned (c.in-Ok.ensures.only_if refl) c.in-Ok.ensures.after c.in-Ok.ensures.answer
    c.add.new.self c.give_back.new.cushion c.in-Ok.ensures.moment (c.in-Ok-add.ensures.only_if refl) c.in-Ok-add.ensures.after c.give_back.ensures.after
