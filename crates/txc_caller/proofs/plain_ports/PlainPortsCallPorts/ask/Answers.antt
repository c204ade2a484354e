use Rattle.std.proofs.Common.{◌∙◌, Option, None, Some, refl, ap, sym, subst}
use Rattle.std.specs.Result.{result_unwrap_or}
use Rattle.txc_app.specs.Claims.{IsTrueIn, entry_shown}
use Rattle.txc_db.specs.DatabaseValue.{DatabaseValue}
use Rattle.txc_db.specs.declared.answered.Answered.{Answered}
use Rattle.txc_node.specs.declared.hit.HitValue.{HitValue}
use Rattle.txc_shared.proofs.Hits.{found_so}
use Rattle.txc_txn_ports.specs.PortRequests.{MayAsk}
use Rattle.txc_txn_ports.specs.declared.request.PortRequest.TheVariants as requests
use Rattle.txc_txn_ports.specs.declared.reply.PortReply.TheVariants as replies
use Rattle.txc_caller.specs.Ports.{CallerPorts, HasAskedPorts}
use Rattle.txc_caller.proofs.Asked.{added_so, asked_add, asked_insert, asked_lookup, asked_pin, asked_query, asked_so, asked_unpin, hit_row, looked_up, pinned_grown, pinned_so, unpinned_so}
use Rattle.txc_caller.proofs.Budgets.{inserted_ports, looked_ports}
use Rattle.txc_caller.proofs.Letting.{let_go_grown, let_go_so}
use Rattle.txc_caller.proofs.plain_ports.PlainPortsCallPorts.ask.Goals as goal

pub returns-in-Pin : goal.returns-in-Pin
returns-in-Pin g c =
    let now = c.in-Pin.now in
    let at_least = c.in-Pin.at_least in
    let old : CallerPorts = record { database = c.self.inside.database; cushion = c.self.inside.cushion; node = c.self.inside.node; budget = c.self.inside.budget } in
    let new : CallerPorts = record old { database = c.pin.new.self } in
    let done = c.pin.ensures in
    asked_so g.A.App.next c.args.seen.now c.args.request (requests.Pin now at_least) c.args.self.now old new (replies.Pin c.pin.result) c.in-Pin.is c.self.view_is
    (asked_pin g.A.App.next c.args.seen.now old new now at_least c.pin.result (pinned_grown now old.database new.database c.pin.result done.after done.unchanged)
    (pinned_so now at_least old new.database c.pin.result done.after done.answer done.moment done.front done.only_if done.unchanged done.refused))

pub add-added-requires : goal.add-added-requires
add-added-requires g c =
    subst (MayAsk g.A.App.next c.args.self.now.database.events 1 c.args.seen.now.history) c.in-AddPin.is c.requires.may
    ∙ sym (c.self.invariant.cushion ∙ ap (λ (p : CallerPorts). p.database.events) c.self.view_is)

pub returns-in-AddPin : goal.returns-in-AddPin
returns-in-AddPin g c =
    let pinned = c.in-AddPin.pinned in
    let old : CallerPorts = record { database = c.self.inside.database; cushion = c.self.inside.cushion; node = c.self.inside.node; budget = c.self.inside.budget } in
    let new : CallerPorts = record old { cushion = c.add-added.new.self } in
    let done = c.add-added.ensures in
    asked_so g.A.App.next c.args.seen.now c.args.request (requests.AddPin pinned) c.args.self.now old new (replies.AddPin pinned c.add-added.result) c.in-AddPin.is c.self.view_is
    (asked_add g.A.App.next c.args.seen.now old new pinned c.add-added.result
    (subst (MayAsk g.A.App.next c.args.self.now.database.events 1 c.args.seen.now.history) c.in-AddPin.is c.requires.may ∙ sym (ap (λ (p : CallerPorts). p.database.events) c.self.view_is))
    refl (added_so pinned old new.cushion c.add-added.result done.after done.unchanged done.refused))

pub returns-in-Unpin : goal.returns-in-Unpin
returns-in-Unpin g c =
    let stamp = c.in-Unpin.stamp in
    let old : CallerPorts = record { database = c.self.inside.database; cushion = c.self.inside.cushion; node = c.self.inside.node; budget = c.self.inside.budget } in
    let new : CallerPorts = record old { database = c.unpin.new.self } in
    let done = c.unpin.ensures in
    asked_so g.A.App.next c.args.seen.now c.args.request (requests.Unpin stamp) c.args.self.now old new (replies.Unpin c.unpin.result) c.in-Unpin.is c.self.view_is
    (asked_unpin g.A.App.next c.args.seen.now old new stamp c.unpin.result
    (let_go_grown (Some stamp) old.database new.database (let_go_so stamp old.database new.database c.unpin.result done.after done.unchanged done.refused))
    (unpinned_so stamp old new.database c.unpin.result done.after done.only_if done.unchanged done.refused))

pub returns-in-Lookup : goal.returns-in-Lookup
returns-in-Lookup g c =
    let key = c.in-Lookup.key in
    let asked = requests.Lookup c.in-Lookup.node key c.in-Lookup.lo c.in-Lookup.hi in
    let old : CallerPorts = record { database = c.self.inside.database; cushion = c.self.inside.cushion; node = c.self.inside.node; budget = c.self.inside.budget } in
    let new : CallerPorts = record old { node = c.lookup.new.self } in
    let done = c.lookup.ensures in
    let found = result_unwrap_or c.lookup.result None in
    let transition = looked_up key c.in-Lookup.lo c.in-Lookup.hi old.node new.node c.lookup.result done.after done.answer done.front done.left done.refused in
    subst (λ (hit : Option (Answered HitValue)). HasAskedPorts g.A.App.next c.args.seen.now c.args.request c.args.self.now new (replies.Lookup hit)) (sym c.unwrap_or.ensures)
    (asked_so g.A.App.next c.args.seen.now c.args.request asked c.args.self.now old new (replies.Lookup found) c.in-Lookup.is c.self.view_is
    (asked_lookup g.A.App.next c.args.seen.now old new c.in-Lookup.node key c.in-Lookup.lo c.in-Lookup.hi found refl transition
    (found_so (λ hit. IsTrueIn g.A.App.next hit.front.history (entry_shown key hit.answer)) c.lookup.result done.right)
    (hit_row old.node new.node key c.in-Lookup.lo c.in-Lookup.hi found old.database.events c.self.invariant.node transition)))

pub returns-in-Query : goal.returns-in-Query
returns-in-Query g c =
    let asked = requests.Query c.in-Query.query c.in-Query.stamp in
    let old : CallerPorts = record { database = c.self.inside.database; cushion = c.self.inside.cushion; node = c.self.inside.node; budget = c.self.inside.budget } in
    let new : CallerPorts = record old { database = c.find.new.database } in
    asked_so g.A.App.next c.args.seen.now c.args.request asked c.args.self.now old new (replies.Query c.find.result) c.in-Query.is c.self.view_is
    (asked_query g.A.App.next c.args.seen.now old new c.in-Query.query c.in-Query.stamp c.find.result (ap (λ (d : DatabaseValue). record old { database = d }) c.find.ensures.same) c.find.ensures.transition)

pub returns-in-Insert : goal.returns-in-Insert
returns-in-Insert g c =
    let asked = requests.Insert c.in-Insert.node c.in-Insert.entry in
    let old : CallerPorts = record { database = c.self.inside.database; cushion = c.self.inside.cushion; node = c.self.inside.node; budget = c.self.inside.budget } in
    let new : CallerPorts = record old { node = c.insert.new.node } in
    asked_so g.A.App.next c.args.seen.now c.args.request asked c.args.self.now old new (replies.Insert c.insert.result) c.in-Insert.is c.self.view_is
    (asked_insert g.A.App.next c.args.seen.now old new c.in-Insert.node c.in-Insert.entry c.insert.result refl c.insert.ensures)

pub invariant_of-self-in-Lookup : goal.invariant_of-self-in-Lookup
invariant_of-self-in-Lookup g c =
    let key = c.in-Lookup.key in
    let old : CallerPorts = record { database = c.self.inside.database; cushion = c.self.inside.cushion; node = c.self.inside.node; budget = c.self.inside.budget } in
    let done = c.lookup.ensures in
    looked_ports old c.lookup.new.self key c.in-Lookup.lo c.in-Lookup.hi (result_unwrap_or c.lookup.result None) c.self.invariant
    (looked_up key c.in-Lookup.lo c.in-Lookup.hi old.node c.lookup.new.self c.lookup.result done.after done.answer done.front done.left done.refused)

pub invariant_of-self-in-Insert : goal.invariant_of-self-in-Insert
invariant_of-self-in-Insert g c =
    let old : CallerPorts = record { database = c.self.inside.database; cushion = c.self.inside.cushion; node = c.self.inside.node; budget = c.self.inside.budget } in
    inserted_ports old c.insert.new.node c.args.seen.now c.in-Insert.entry c.insert.result c.self.invariant c.insert.ensures
