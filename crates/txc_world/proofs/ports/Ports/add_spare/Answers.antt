use Rattle.std.proofs.Common.{◌≡◌, ◌∙◌, ◌<◌, List, Ok, Err, length, get_or, remove, true, false, ap, refl, subst}
use Rattle.txc_db.specs.declared.pinned.Pinned.{Pinned}
use Rattle.txc_db.specs.DatabaseValue.{is_held, without}
use Rattle.txc_world.specs.Ports.{PortsValue}
use Rattle.txc_world.specs.KeeperAtPorts.{stamps_of_pins}
use Rattle.txc_world.proofs.PortsLemmas.{added_spare, keeps_itself, keeps_without_spare, ports_without_spare, spare_is_part}
use Rattle.txc_world.proofs.ports.Ports.add_spare.Goals as goal

pub invariant_of-self : goal.invariant_of-self
invariant_of-self g c =
    let p : PortsValue = record { database = c.self.inside.database; cushion = c.self.inside.cushion; nodes = c.self.inside.nodes.items; spare = c.self.inside.spare.items; actors = c.self.inside.actors } in
    (c.self.invariant.0, ports_without_spare p c.in-Some.at c.remove-pinned.new.self.items c.self.invariant.1 c.remove-pinned.ensures.items)

pub add-requires : goal.add-requires
add-requires g c =
    let p : PortsValue = record { database = c.self.inside.database; cushion = c.self.inside.cushion; nodes = c.self.inside.nodes.items; spare = c.self.inside.spare.items; actors = c.self.inside.actors } in
    let within : c.in-Some.at < length p.spare = subst (λ (l : List Pinned). c.in-Some.at < length l) c.deref.ensures.value c.in-Some.ensures.within in
    spare_is_part p c.in-Some.at c.remove-pinned.result c.self.invariant.1 within c.remove-pinned.ensures.value

pub returns-in_default : goal.returns-in_default
returns-in_default g c = record {
  transition = (refl, subst (λ (l : List Pinned). is_held c.args.stamp (stamps_of_pins l) ≡ false) (c.deref.ensures.value ∙ ap (λ (v : PortsValue). v.spare) c.self.view_is) c.in_default.ensures.none);
  keeps = keeps_itself c.args.self.now;
}

pub returns-in-Ok : goal.returns-in-Ok
returns-in-Ok g c =
    let p : PortsValue = record { database = c.self.inside.database; cushion = c.self.inside.cushion; nodes = c.self.inside.nodes.items; spare = c.self.inside.spare.items; actors = c.self.inside.actors } in
    let stamp = c.args.stamp in
    let at = c.in-Some.at in
    let within : at < length p.spare = subst (λ (l : List Pinned). at < length l) c.deref.ensures.value c.in-Some.ensures.within in
    let is : c.remove-pinned.result ≡ get_or p.spare at c.remove-pinned.result = c.remove-pinned.ensures.value in
    record {
      transition = added_spare p c.args.self.now c.self.view_is stamp at c.remove-pinned.result c.remove-pinned.new.self.items c.add.new.self (Ok tt) within is
          (subst (λ (l : List Pinned). get_or (stamps_of_pins l) at 0 ≡ stamp) c.deref.ensures.value c.in-Some.ensures.there)
          (subst (λ (l : List Pinned). is_held stamp (stamps_of_pins l) ≡ true) c.deref.ensures.value c.in-Some.ensures.held)
          (subst (λ (l : List Pinned). stamps_of_pins (remove l at) ≡ without stamp (stamps_of_pins l)) c.deref.ensures.value c.in-Some.ensures.place)
          c.remove-pinned.ensures.items c.in-Ok.ensures.transition;
      keeps = keeps_without_spare p c.args.self.now c.add.new.self c.remove-pinned.new.self.items c.self.view_is c.add.ensures.keeps;
    }

pub returns : goal.returns
returns g c =
    let p : PortsValue = record { database = c.self.inside.database; cushion = c.self.inside.cushion; nodes = c.self.inside.nodes.items; spare = c.self.inside.spare.items; actors = c.self.inside.actors } in
    let stamp = c.args.stamp in
    let at = c.in-Some.at in
    let within : at < length p.spare = subst (λ (l : List Pinned). at < length l) c.deref.ensures.value c.in-Some.ensures.within in
    let is : c.remove-pinned.result ≡ get_or p.spare at c.remove-pinned.result = c.remove-pinned.ensures.value in
    record {
      transition = added_spare p c.args.self.now c.self.view_is stamp at c.remove-pinned.result c.remove-pinned.new.self.items c.add.new.self (Err c.in-Err.refusal) within is
          (subst (λ (l : List Pinned). get_or (stamps_of_pins l) at 0 ≡ stamp) c.deref.ensures.value c.in-Some.ensures.there)
          (subst (λ (l : List Pinned). is_held stamp (stamps_of_pins l) ≡ true) c.deref.ensures.value c.in-Some.ensures.held)
          (subst (λ (l : List Pinned). stamps_of_pins (remove l at) ≡ without stamp (stamps_of_pins l)) c.deref.ensures.value c.in-Some.ensures.place)
          c.remove-pinned.ensures.items c.in-Err.ensures.transition;
      keeps = keeps_without_spare p c.args.self.now c.add.new.self c.remove-pinned.new.self.items c.self.view_is c.add.ensures.keeps;
    }
