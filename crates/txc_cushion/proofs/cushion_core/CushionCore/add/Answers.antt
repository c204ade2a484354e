use Rattle.std.proofs.Common.{◌≡◌, ◌∙◌, ◌<◌, ap, sym, refl, false, length, Some, arith}
use Rattle.txc_db.specs.History.{moment_at}
use Rattle.txc_db.proofs.Histories.{moment_stays}
use Rattle.txc_cushion.specs.declared.pin.Pin.{Pin}
use Rattle.txc_cushion.specs.declared.entry.PinEntry.{PinEntry}
use Rattle.txc_cushion.specs.declared.limits.TheConstants.{MAX_PINS}
use Rattle.txc_cushion.specs.Pin.{pin_of}
use Rattle.txc_cushion.specs.Entries.{is_pinned, with_entry}
use Rattle.txc_cushion.specs.Cushion.{CushionValue, longer_of}
use Rattle.txc_cushion.proofs.Adding.{added_is, longer_is}
use Rattle.txc_cushion.proofs.cushion_core.CushionCore.add.Goals as goal

pub put-requires-clause-absent : goal.put-requires-clause-absent
put-requires-clause-absent c = rw (c.pin_of.ensures, ← c.deref.ensures.value) (sym c.is_pinned.ensures ∙ c.if-is_pinned.false)

pub invariant_of-self-2 : goal.invariant_of-self-2
invariant_of-self-2 c =
    let was : CushionValue = record { events = c.self.inside.front.events; history = c.self.inside.front.history; entries = c.self.inside.entries.items } in
    let new : PinEntry = record { pin = pin_of c.args.pinned.now; users = 1 } in
    let absent : is_pinned new.pin.stamp was.entries ≡ false = rw (← c.deref.ensures.value) (sym c.is_pinned.ensures ∙ c.if-is_pinned.false) in
    let entries : c.put.new.entries.items ≡ with_entry new was.entries =
    c.in_ok-put.ensures.after ∙ ap (λ (p : Pin). with_entry (record { pin = p; users = 1 }) was.entries) c.pin_of.ensures
    in
    let few = c.self.invariant.few in
    let room : length was.entries < MAX_PINS = omega (arith, few, c.if-len-eq-MAX_PINS.false, c.len.ensures, c.deref.ensures.len, ap length c.deref.ensures.value) in
    let shows : moment_at c.longer.new.self.history c.args.pinned.now.stamp ≡ Some c.args.pinned.now.moment =
    moment_stays c.args.pinned.now.front.history c.longer.new.self.history c.args.pinned.now.stamp c.args.pinned.now.moment c.longer.ensures.that c.args.pinned.now.shows
    in
    rw (c.longer.ensures.events, entries)
    (added_is was c.longer.new.self.history new c.self.invariant (record { room = room; absent = absent }) c.longer.ensures.this shows)

pub returns-clause-after : goal.returns-clause-after
returns-clause-after c =
    let was : CushionValue = record { events = c.self.inside.front.events; history = c.self.inside.front.history; entries = c.self.inside.entries.items } in
    let history : c.longer.new.self.history ≡ longer_of was.history c.args.pinned.now.front.history =
    longer_is was.history c.args.pinned.now.front.history c.longer.new.self.history c.longer.ensures.one c.longer.ensures.this c.longer.ensures.that
    in
    rw (← c.self.view_is, c.longer.ensures.events, history, c.in_ok-put.ensures.after, c.pin_of.ensures) refl
