use Rattle.std.proofs.Common.{◌≡◌, ◌∙◌, List, ◌++◌, ◌∷◌, [], ap, refl}
use Rattle.txc_db.specs.declared.pinned.Pinned.{Pinned}
use Rattle.txc_world.specs.Ports.{PortsValue}
use Rattle.txc_world.proofs.PortsLemmas.{keeps_grown_from, pin_part, pinned_spare, ports_with_spare}
use Rattle.txc_world.proofs.ports.Ports.pin_spare.Goals as goal

pub invariant_of-self-2 : goal.invariant_of-self-2
invariant_of-self-2 g c =
    let p : PortsValue = record { database = c.self.inside.database; cushion = c.self.inside.cushion; nodes = c.self.inside.nodes.items; spare = c.self.inside.spare.items; actors = c.self.inside.actors } in
    let pinned = c.in_ok-pinned.pinned in
    let more : c.push_reserved.new.self.items ≡ p.spare ++ pinned ∷ [] = c.push_reserved.ensures.items ∙ ap (λ (l : List Pinned). l ++ pinned ∷ []) c.reserve.ensures.items in (
      c.in_ok-pinned.ensures.answer,
      ports_with_spare p c.pin.new.self pinned c.push_reserved.new.self.items c.self.invariant.1
          (pin_part c.self.inside.database c.pin.new.self c.args.now c.in_ok-pinned.ensures.after) c.in_ok-pinned.ensures.front more,
    )

pub returns-clause-transition : goal.returns-clause-transition
returns-clause-transition g c =
    let p : PortsValue = record { database = c.self.inside.database; cushion = c.self.inside.cushion; nodes = c.self.inside.nodes.items; spare = c.self.inside.spare.items; actors = c.self.inside.actors } in
    let pinned = c.in_ok-pinned.pinned in
    let more : c.push_reserved.new.self.items ≡ p.spare ++ pinned ∷ [] = c.push_reserved.ensures.items ∙ ap (λ (l : List Pinned). l ++ pinned ∷ []) c.reserve.ensures.items in
    pinned_spare p c.args.self.now c.self.view_is c.pin.new.self c.push_reserved.new.self.items c.args.now pinned c.in_ok-pinned.ensures.after (c.in_ok-pinned.ensures.only_if refl)
    c.in_ok-pinned.ensures.answer c.in_ok-pinned.ensures.moment c.in_ok-pinned.ensures.front pinned.shows more

pub returns-clause-keeps : goal.returns-clause-keeps
returns-clause-keeps g c =
    let p : PortsValue = record { database = c.self.inside.database; cushion = c.self.inside.cushion; nodes = c.self.inside.nodes.items; spare = c.self.inside.spare.items; actors = c.self.inside.actors } in
    keeps_grown_from p c.args.self.now c.self.view_is c.pin.new.self c.push_reserved.new.self.items (pin_part c.self.inside.database c.pin.new.self c.args.now c.in_ok-pinned.ensures.after)
