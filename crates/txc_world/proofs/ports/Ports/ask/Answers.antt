use Rattle.std.proofs.Common.{◌<◌, Option, None, length, set, sym, subst}
use Rattle.std.specs.Result.{result_unwrap_or}
use Rattle.txc_app.specs.Claims.{IsTrueIn, entry_shown}
use Rattle.txc_db.specs.declared.answered.Answered.{Answered}
use Rattle.txc_node.specs.declared.hit.HitValue.{HitValue}
use Rattle.txc_shared.proofs.Hits.{found_so}
use Rattle.txc_txn_ports.specs.declared.request.PortRequest.{PortRequest}
use Rattle.txc_txn_ports.specs.declared.request.PortRequest.TheVariants as requests
use Rattle.txc_txn_ports.specs.declared.reply.PortReply.TheVariants as replies
use Rattle.txc_txn_ports.specs.PortRequests.{AddsSuch, MayAsk}
use Rattle.txc_world.specs.PortRequests.{IsAsked}
use Rattle.txc_world.specs.Parts.{IsPartOf}
use Rattle.txc_world.specs.Ports.{KeepsRow, PortsValue, whole_of}
use Rattle.txc_world.proofs.AskLemmas.{asked_add, asked_insert, asked_lookup, asked_pin, asked_query, asked_unpin}
use Rattle.txc_world.proofs.NodeLemmas.{found_part, looked_up, stays_inserted, stays_looked_up}
use Rattle.txc_world.proofs.PortsLemmas.{keeps_node_from, keeps_same, led_from, node_from, ports_node_from}
use Rattle.txc_world.proofs.ports.Ports.ask.Goals as goal

pub returns-in-Pin : goal.returns-in-Pin
returns-in-Pin g c =
    subst (λ (r : PortRequest). IsAsked g.A.App.next c.args.pass c.args.seen.now r c.args.self.now c.pin.new.self (replies.Pin c.pin.result)) (sym c.in-Pin.is)
    (asked_pin g.A.App.next c.args.pass c.args.seen.now c.args.self.now c.pin.new.self c.pin.ensures.keeps c.count_right.ensures c.in-Pin.now c.in-Pin.at_least c.pin.result c.pin.ensures.transition)

pub returns-in-AddPin : goal.returns-in-AddPin
returns-in-AddPin g c =
    subst (λ (r : PortRequest). IsAsked g.A.App.next c.args.pass c.args.seen.now r c.args.self.now c.add-added.new.self (replies.AddPin c.in-AddPin.pinned c.add-added.result)) (sym c.in-AddPin.is)
    (asked_add g.A.App.next c.args.pass c.args.seen.now c.args.self.now c.add-added.new.self c.add-added.ensures.keeps c.count_right.ensures c.in-AddPin.pinned c.add-added.result (subst (AddsSuch (IsPartOf (whole_of c.args.self.now))) c.in-AddPin.is c.requires.shown) c.add-added.ensures.transition)

pub returns-in-Unpin : goal.returns-in-Unpin
returns-in-Unpin g c =
    subst (λ (r : PortRequest). IsAsked g.A.App.next c.args.pass c.args.seen.now r c.args.self.now c.unpin.new.self (replies.Unpin c.unpin.result)) (sym c.in-Unpin.is)
    (asked_unpin g.A.App.next c.args.pass c.args.seen.now c.args.self.now c.unpin.new.self c.unpin.ensures.keeps c.count_right.ensures c.in-Unpin.stamp c.unpin.result c.unpin.ensures.transition)

pub returns-in-Query : goal.returns-in-Query
returns-in-Query g c =
    subst (λ (r : PortRequest). IsAsked g.A.App.next c.args.pass c.args.seen.now r c.args.self.now c.find.new.self (replies.Query c.find.result)) (sym c.in-Query.is)
    (asked_query g.A.App.next c.args.pass c.args.seen.now c.args.self.now c.find.new.self (keeps_same c.args.self.now c.find.new.self c.find.ensures.same) c.count_right.ensures c.in-Query.query c.in-Query.stamp c.find.result c.find.ensures.same c.find.ensures.transition)

-- ---- at a node

pub invariant_of-self : goal.invariant_of-self
invariant_of-self g c =
    let p : PortsValue = record { database = c.self.inside.database; cushion = c.self.inside.cushion; nodes = c.self.inside.nodes.items; spare = c.self.inside.spare.items; actors = c.self.inside.actors } in
    let q : PortsValue = c.args.self.now in
    let within : c.in-Lookup.node < length q.nodes = subst (MayAsk g.A.App.next q.database.events (length q.nodes) c.args.seen.now.history) c.in-Lookup.is c.requires.may in
    let done = c.lookup-found.ensures in
    let transition = looked_up c.args.pass c.in-Lookup.key c.in-Lookup.lo c.in-Lookup.hi c.index_mut-at.result.now c.lookup-found.new.self c.lookup-found.result done.after done.answer done.left done.refused in (
      c.self.invariant.0,
      ports_node_from p q c.self.view_is c.in-Lookup.node c.index_mut-at.result.now c.lookup-found.new.self c.self.invariant.1
          within c.index_mut-at.ensures.value (stays_looked_up _ _ _ _ _ _ _ _ transition) c.is_sound.ensures,
    )

pub returns-in-Lookup : goal.returns-in-Lookup
returns-in-Lookup g c =
    let p : PortsValue = record { database = c.self.inside.database; cushion = c.self.inside.cushion; nodes = c.self.inside.nodes.items; spare = c.self.inside.spare.items; actors = c.self.inside.actors } in
    let q : PortsValue = c.args.self.now in
    let within : c.in-Lookup.node < length q.nodes = subst (MayAsk g.A.App.next q.database.events (length q.nodes) c.args.seen.now.history) c.in-Lookup.is c.requires.may in
    let done = c.lookup-found.ensures in
    let old = c.index_mut-at.result.now in
    let transition = looked_up c.args.pass c.in-Lookup.key c.in-Lookup.lo c.in-Lookup.hi old c.lookup-found.new.self c.lookup-found.result done.after done.answer done.left done.refused in
    let new : PortsValue = record p { nodes = set p.nodes c.in-Lookup.node c.lookup-found.new.self } in
    let keeps : KeepsRow q new = keeps_node_from p q c.self.view_is c.in-Lookup.node old c.lookup-found.new.self c.index_mut-at.ensures.value
    (stays_looked_up _ _ _ _ _ _ _ _ transition) in
    let node = node_from p q c.self.view_is c.in-Lookup.node old c.self.invariant.1 within c.index_mut-at.ensures.value in
    let found = result_unwrap_or c.lookup-found.result None in
    subst (λ (r : PortRequest). IsAsked g.A.App.next c.args.pass c.args.seen.now r q new (replies.Lookup c.unwrap_or.result)) (sym c.in-Lookup.is)
    (subst (λ (hit : Option (Answered HitValue)). IsAsked g.A.App.next c.args.pass c.args.seen.now (requests.Lookup c.in-Lookup.node c.in-Lookup.key c.in-Lookup.lo c.in-Lookup.hi) q new (replies.Lookup hit)) (sym c.unwrap_or.ensures)
    (asked_lookup g.A.App.next c.args.pass c.args.seen.now q new keeps c.count_right.ensures c.in-Lookup.node c.in-Lookup.key c.in-Lookup.lo c.in-Lookup.hi found
    (led_from p q c.self.view_is c.in-Lookup.node _ old c.lookup-found.new.self within c.index_mut-at.ensures.value transition)
    (found_so (λ hit. IsTrueIn g.A.App.next hit.front.history (entry_shown c.in-Lookup.key hit.answer)) c.lookup-found.result done.right)
    (found_part (whole_of q) old c.in-Lookup.lo c.in-Lookup.hi c.lookup-found.result node.seen done.front done.only_if)))

pub invariant_of-self-in-Insert : goal.invariant_of-self-in-Insert
invariant_of-self-in-Insert g c =
    let p : PortsValue = record { database = c.self.inside.database; cushion = c.self.inside.cushion; nodes = c.self.inside.nodes.items; spare = c.self.inside.spare.items; actors = c.self.inside.actors } in
    let q : PortsValue = c.args.self.now in
    let may : MayAsk g.A.App.next q.database.events (length q.nodes) c.args.seen.now.history (requests.Insert c.in-Insert.node c.in-Insert.entry) =
    subst (MayAsk g.A.App.next q.database.events (length q.nodes) c.args.seen.now.history) c.in-Insert.is c.requires.may in
    let part : IsPartOf (whole_of p) c.args.seen.now = subst (λ (v : PortsValue). IsPartOf (whole_of v) c.args.seen.now) (sym c.self.view_is) c.requires.seen in (
      c.self.invariant.0,
      ports_node_from p q c.self.view_is c.in-Insert.node c.index_mut-at-in-Insert.result.now c.insert-made.new.node c.self.invariant.1
          may.0 c.index_mut-at-in-Insert.ensures.value (stays_inserted _ _ _ _ _ _ _ part c.insert-made.ensures) c.is_sound-in-Insert.ensures,
    )

pub returns-in-Insert : goal.returns-in-Insert
returns-in-Insert g c =
    let p : PortsValue = record { database = c.self.inside.database; cushion = c.self.inside.cushion; nodes = c.self.inside.nodes.items; spare = c.self.inside.spare.items; actors = c.self.inside.actors } in
    let q : PortsValue = c.args.self.now in
    let may : MayAsk g.A.App.next q.database.events (length q.nodes) c.args.seen.now.history (requests.Insert c.in-Insert.node c.in-Insert.entry) =
    subst (MayAsk g.A.App.next q.database.events (length q.nodes) c.args.seen.now.history) c.in-Insert.is c.requires.may in
    let part : IsPartOf (whole_of p) c.args.seen.now = subst (λ (v : PortsValue). IsPartOf (whole_of v) c.args.seen.now) (sym c.self.view_is) c.requires.seen in
    let new : PortsValue = record p { nodes = set p.nodes c.in-Insert.node c.insert-made.new.node } in
    let keeps : KeepsRow q new = keeps_node_from p q c.self.view_is c.in-Insert.node c.index_mut-at-in-Insert.result.now c.insert-made.new.node c.index_mut-at-in-Insert.ensures.value
    (stays_inserted _ _ _ _ _ _ _ part c.insert-made.ensures) in
    subst (λ (r : PortRequest). IsAsked g.A.App.next c.args.pass c.args.seen.now r q new (replies.Insert c.kept_after.result)) (sym c.in-Insert.is)
    (asked_insert g.A.App.next c.args.pass c.args.seen.now q new keeps c.count_right.ensures c.in-Insert.node c.in-Insert.entry c.insert-made.result c.kept_after.result c.kept_after.ensures
    (led_from p q c.self.view_is c.in-Insert.node _ c.index_mut-at-in-Insert.result.now c.insert-made.new.node may.0 c.index_mut-at-in-Insert.ensures.value c.insert-made.ensures))
