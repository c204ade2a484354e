use Rattle.std.proofs.Common.{◌≡◌, ◌∙◌, ◌<◌, length, get_or, ap, arith}
use Rattle.txc_caller.proofs.GivingBack.{back_all, back_more}
use Rattle.txc_caller.proofs.caller.give_back_each.Goals as goal

pub loop-pin-preserved : goal.loop-pin-preserved
loop-pin-preserved c =
    let pins = c.args.pins.now.pins.items in
    let at = c.loop-pin.pin-index in
    let within : at < length pins = omega (arith, ap length c.deref-pin-items.ensures.value) in
    let is : c.pin-item.result ≡ get_or pins at c.pin-item.result = cc (c.pin-item.is, c.deref-pin-items.ensures.value) in
    record {
      back = λ last rest.
          c.loop-pin.invariant.back last (back_more pins at c.pin-item.result c.loop-pin.cushion c.give_back.new.cushion last within is c.give_back.ensures.after rest);
      events = c.give_back.ensures.events ∙ c.loop-pin.invariant.events;
    }

pub returns-clause-given_back : goal.returns-clause-given_back
returns-clause-given_back c =
    let pins = c.args.pins.now.pins.items in
    back_all pins c.loop-pin.pin-index c.args.cushion.now c.loop-pin.cushion (omega (arith, ap length c.deref-pin-items.ensures.value)) c.loop-pin.invariant.back
