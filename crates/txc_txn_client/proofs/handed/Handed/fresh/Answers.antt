use Rattle.std.proofs.Common.{◌≡◌, ◌∙◌, ap}
use Rattle.txc_txn_client.specs.PinLease.{HandedValue, fresh_of}
use Rattle.txc_txn_client.proofs.StillFresh.{cushion_of, cushion_is, fresh_allowed, fresh_falls, fresh_few, fresh_shown, handed_are_fresh}
use Rattle.txc_txn_client.proofs.handed.Handed.fresh.Goals as goal

pub invariant_of-result : goal.invariant_of-result
invariant_of-result c =
    let g = c.self.inside.pins in
    let h : HandedValue = record { pins = g.pins.items; front = g.front; since = c.self.inside.since } in
    let pins : c.in_ok-pins.pins.items ≡ fresh_of c.args.bounds.now h = rw (← c.deref.ensures.value) c.in_ok-pins.ensures in
    record {
      shows = rw (c.in_ok-front.ensures, pins) (fresh_shown h c.args.bounds.now g.shows g.falls g.few);
      falls = rw pins (fresh_falls h c.args.bounds.now g.shows g.falls g.few);
      few = rw pins (fresh_few h c.args.bounds.now g.shows g.falls g.few);
    }

pub returns-clause-allowed : goal.returns-clause-allowed
returns-clause-allowed c =
    let g = c.self.inside.pins in
    let h : HandedValue = record { pins = g.pins.items; front = g.front; since = c.self.inside.since } in
    let pins : c.in_ok-pins.pins.items ≡ fresh_of c.args.bounds.now h = rw (← c.deref.ensures.value) c.in_ok-pins.ensures in
    rw (c.in_ok-front.ensures, pins) (fresh_allowed h c.args.bounds.now g.shows g.falls g.few)

pub returns-clause-answer : goal.returns-clause-answer
returns-clause-answer c =
    let g = c.self.inside.pins in
    let h : HandedValue = record { pins = g.pins.items; front = g.front; since = c.self.inside.since } in
    let pins : c.in_ok-pins.pins.items ≡ fresh_of c.args.bounds.now h = rw (← c.deref.ensures.value) c.in_ok-pins.ensures in (
      cushion_of h,
      ap (λ (v : HandedValue). v.front.events) c.self.view_is,
      cushion_is h c.args.bounds.now g.shows g.falls g.few,
      (pins ∙ handed_are_fresh h c.args.bounds.now g.shows g.falls g.few, c.in_ok-front.ensures),
    )
