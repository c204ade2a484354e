use Rattle.std.proofs.Common.{◌≡◌, ◌∙◌, ◌+◌, Bool, ap, sym, cond, filter, get_or, slice_set, take}
use Rattle.std.proofs.lemmas.List.Edits.{map_over_more}
use Rattle.txc_cushion.specs.declared.entry.PinEntry.{PinEntry}
use Rattle.txc_cushion.specs.declared.limits.TheConstants.{MAX_HANDED_OUT}
use Rattle.txc_cushion.specs.Entries.{may_be_handed_out, pins_of, with_user}
use Rattle.txc_cushion.proofs.HandingOut.{handed_next, handed_then}
use Rattle.txc_cushion.proofs.handing.hand_out_each.Goals as goal

pub loop-entry-preserved : goal.loop-entry-preserved
loop-entry-preserved c =
    let l = c.loop-entry in
    let es = c.args.entries.now in
    let e : PinEntry = get_or l.entries l.entry-index c.entry-item.result in
    let is : e ≡ get_or l.entries l.entry-index e = ap (λ (d : PinEntry). get_or l.entries l.entry-index d) c.entry-item.is in
    let among = handed_next (may_be_handed_out c.args.now c.args.staleness c.args.at_least) MAX_HANDED_OUT es l.entries l.entry-index e l.pins.items
    c.requires.falls c.loop-entry-test.true l.invariant.0 is l.invariant.1
    in
    let entry : c.hand_out_one.new.entry ≡ with_user (pins_of (take MAX_HANDED_OUT (filter (may_be_handed_out c.args.now c.args.staleness c.args.at_least) es))) e =
    c.hand_out_one.ensures.users ∙ ap (λ (b : Bool). cond b (record e { users = e.users + 1 }) e) (sym among)
    in (
      ap (λ (x : PinEntry). slice_set l.entries l.entry-index x) entry
          ∙ map_over_more (with_user (pins_of (take MAX_HANDED_OUT (filter (may_be_handed_out c.args.now c.args.staleness c.args.at_least) es)))) es l.entries l.entry-index e c.loop-entry-test.true l.invariant.0 is,
      c.hand_out_one.ensures.pins
          ∙ handed_then (may_be_handed_out c.args.now c.args.staleness c.args.at_least) MAX_HANDED_OUT es l.entries l.entry-index e l.pins.items c.loop-entry-test.true l.invariant.0 is l.invariant.1,
      c.hand_out_one.ensures.room,
    )
