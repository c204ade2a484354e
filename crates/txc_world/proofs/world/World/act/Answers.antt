use Rattle.std.proofs.Common.{refl, ap, ◌∙◌, arith}
use Rattle.txc_world.specs.Worlds.{WorldValue}
use Rattle.txc_world.proofs.Balancing.{world_balanced}
use Rattle.txc_world.proofs.Transitions.{world_led}
use Rattle.txc_world.proofs.Stepping.{due_act, explained_act, told_act, world_acts}
use Rattle.txc_txn_rw.proofs.Holding.{holds_in_longer}
use Rattle.txc_db.proofs.Histories.{states_stay}
use Rattle.txc_world.proofs.world.World.act.Goals as goal

pub invariant_of-self : goal.invariant_of-self
invariant_of-self g c =
    rw (c.note.ensures, c.act_at-reply.ensures.others)
    (world_acts (holds_in_longer states_stay) g.A.App.next c.self.inside.settings c.self.inside.ports c.act_at-reply.new.ports
    c.self.inside.sessions.items c.self.inside.actors.items c.args.number _ c.act_at-reply.ensures.is c.self.invariant c.act_at-reply.ensures.acted.keeps c.act_at-reply.ensures.acted.fits)

pub returns : goal.returns
returns g c = record {
  told =
      told_act c.self.inside.settings c.self.inside.ports c.self.inside.sessions.items c.self.inside.actors.items c.args.number c.act_at-reply.ensures.was
      c.act_at-reply.ensures.there
      c.act_at-reply.new.ports c.note.new.sessions.items c.act_at-reply.new.actors.items c.act_at-reply.ensures.is c.args.doing.now c.act_at-reply.result c.args.self.now.told
      c.note.ensures
      c.act_at-reply.ensures.others
      c.act_at-reply.ensures.acted.told c.act_at-reply.ensures.acted.history c.act_at-reply.ensures.acted.spare (ap (λ (w : WorldValue). w.told) c.self.view_is);
  transition =
      world_led g.A.App.next c.self.inside.settings c.self.inside.ports c.act_at-reply.new.ports c.self.inside.sessions.items c.note.new.sessions.items c.self.inside.actors.items c.args.number c.act_at-reply.ensures.was c.act_at-reply.ensures.is
      c.act_at-reply.ensures.there c.act_at-reply.new.actors.items c.args.self.now _ c.args.doing.now c.act_at-reply.result
      c.act_at-reply.ensures.others
      c.act_at-reply.ensures.transition c.self.view_is refl;
  world = record {
    history = refl;
    spare = refl;
    count = c.act_at-reply.ensures.acted.keeps.count ∙ c.self.invariant.nodes;
    nodes = c.are_true-2.ensures;
  };
  due =
      due_act c.self.inside.settings c.self.inside.ports c.self.inside.sessions.items c.self.inside.actors.items c.args.number c.act_at-reply.ensures.was
      c.act_at-reply.ensures.there c.args.doing.now c.act_at-reply.result c.args.self.now.told c.act_at-reply.ensures.acted.due
      (ap (λ (w : WorldValue). w.told) c.self.view_is);
  explained =
      explained_act c.self.inside.settings c.self.inside.ports c.self.inside.sessions.items c.self.inside.actors.items c.args.number c.act_at-reply.ensures.was
      c.act_at-reply.ensures.there g.A.App.next c.act_at-reply.new.ports c.args.doing.now c.act_at-reply.result c.args.self.now.told
      c.act_at-reply.ensures.acted.explained (ap (λ (w : WorldValue). w.told) c.self.view_is);
  balanced = λ in_hand h tidy.
      world_balanced c.self.inside.settings c.self.inside.ports c.act_at-reply.new.ports c.self.inside.sessions.items c.note.new.sessions.items c.self.inside.actors.items c.args.number c.act_at-reply.ensures.was c.act_at-reply.ensures.is
      c.act_at-reply.ensures.there c.act_at-reply.new.actors.items c.args.self.now _ c.act_at-reply.result in_hand
      c.act_at-reply.ensures.others
      c.act_at-reply.ensures.acted.spare c.count_right.ensures c.act_at-reply.ensures.acted.counts c.self.view_is refl h;
}

pub note-requires : goal.note-requires
note-requires g c = omega (arith, c.self.invariant.sessions, c.self.inside.sessions.ok.0)
