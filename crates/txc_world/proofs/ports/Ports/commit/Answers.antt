use Rattle.std.proofs.Common.{◌≡◌, ap, refl, subst}
use Rattle.txc_db.specs.Calls.{IsCommittable}
use Rattle.txc_db.specs.DatabaseValue.{after_commit, newest, DatabaseValue}
use Rattle.txc_world.specs.Ports.{PortsValue}
use Rattle.txc_world.proofs.PortsLemmas.{commit_part_of, keeps_grown_from, ports_grow}
use Rattle.txc_world.proofs.ports.Ports.commit.Goals as goal

pub invariant_of-self-2 : goal.invariant_of-self-2
invariant_of-self-2 g c =
    let p : PortsValue = record { database = c.self.inside.database; cushion = c.self.inside.cushion; nodes = c.self.inside.nodes.items; spare = c.self.inside.spare.items; actors = c.self.inside.actors } in
    (c.in_ok-stamp.ensures.answer, ports_grow p c.commit.new.self (commit_part_of c.self.inside.database c.commit.new.self c.args.changes.now c.in_ok-stamp.ensures.after) c.self.invariant.1)

pub returns-clause-transition : goal.returns-clause-transition
returns-clause-transition g c =
    let p : PortsValue = record { database = c.self.inside.database; cushion = c.self.inside.cushion; nodes = c.self.inside.nodes.items; spare = c.self.inside.spare.items; actors = c.self.inside.actors } in
    let commit = c.in_ok-stamp.ensures in
    subst (λ (v : PortsValue). (record p { database = c.commit.new.self } ≡ record v { database = after_commit v.database c.args.changes.now }) × (c.in_ok-stamp.stamp ≡ newest c.commit.new.self)
    × IsCommittable v.database c.args.base c.args.read.now c.args.changes.now) c.self.view_is (ap (λ (d : DatabaseValue). record p { database = d }) commit.after, commit.answer, commit.only_if refl)

pub returns-clause-keeps : goal.returns-clause-keeps
returns-clause-keeps g c =
    let p : PortsValue = record { database = c.self.inside.database; cushion = c.self.inside.cushion; nodes = c.self.inside.nodes.items; spare = c.self.inside.spare.items; actors = c.self.inside.actors } in
    keeps_grown_from p c.args.self.now c.self.view_is c.commit.new.self p.spare
    (commit_part_of c.self.inside.database c.commit.new.self c.args.changes.now c.in_ok-stamp.ensures.after)
