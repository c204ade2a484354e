use Rattle.std.proofs.Common.{[], Ok, Err, length, ap, refl, subst, ◌∷◌}
use Rattle.txc_world.specs.declared.port_outcome.PortOutcome.TheVariants as dids
use Rattle.txc_world.specs.Actors.{IsActor}
use Rattle.txc_world.specs.Ports.{whole_of, PortsValue}
use Rattle.txc_world.proofs.Fairness.{fair_unpin, loss_unpin}
use Rattle.txc_world.proofs.acting.act_whole.Goals as goal

pub returns-in-BeginRo-clause-acted : goal.returns-in-BeginRo-clause-acted
returns-in-BeginRo-clause-acted g c = rw (c.in-Idle.is, c.in-BeginRo.is) c.begin_ro.ensures.acted

pub returns-in-BeginRo-clause-transition : goal.returns-in-BeginRo-clause-transition
returns-in-BeginRo-clause-transition g c = rw (c.in-Idle.is, c.in-BeginRo.is) c.begin_ro.ensures.transition

pub returns-in-BeginRw-clause-acted : goal.returns-in-BeginRw-clause-acted
returns-in-BeginRw-clause-acted g c = rw (c.in-Idle.is, c.in-BeginRw.is) c.begin_rw.ensures.acted

pub returns-in-BeginRw-clause-transition : goal.returns-in-BeginRw-clause-transition
returns-in-BeginRw-clause-transition g c = rw (c.in-Idle.is, c.in-BeginRw.is) (c.begin_rw.ensures.transition c.args.renew_after)

pub returns-in-Reading-clause-acted : goal.returns-in-Reading-clause-acted
returns-in-Reading-clause-acted g c = rw c.in-Reading.is c.act_open.ensures.acted

pub returns-in-Reading-clause-transition : goal.returns-in-Reading-clause-transition
returns-in-Reading-clause-transition g c = rw c.in-Reading.is c.act_open.ensures.transition

pub returns-in-Writing-clause-acted : goal.returns-in-Writing-clause-acted
returns-in-Writing-clause-acted g c = rw c.in-Writing.is c.act_writing.ensures.acted

pub returns-in-Writing-clause-transition : goal.returns-in-Writing-clause-transition
returns-in-Writing-clause-transition g c = rw c.in-Writing.is c.act_writing.ensures.transition

-- the hold that is left is taken away, or the database refuses
pub returns-in-Ok-clause-transition : goal.returns-in-Ok-clause-transition
returns-in-Ok-clause-transition g c =
    rw (c.in-Leaving.is, c.in-Request.is) (record { did = dids.Unpinned; reply_is = refl; unpinned = c.in-Ok.ensures.transition; actor_is = refl })

pub returns-in-Err-clause-transition : goal.returns-in-Err-clause-transition
returns-in-Err-clause-transition g c =
    rw (c.in-Leaving.is, c.in-Request.is) (record { did = dids.Refused c.in-Err.error; reply_is = refl; unpinned = c.in-Err.ensures.transition; actor_is = refl })

pub returns-in-Ok-clause-acted : goal.returns-in-Ok-clause-acted
returns-in-Ok-clause-acted g c =
    let p = c.args.ports.now in
    rw (c.in-Leaving.is, c.in-Request.is) (record {
      fits = subst (IsActor g.A.App.next (whole_of p) (length p.nodes)) c.in-Leaving.is c.requires.fits;
      told = refl;
      history = c.unpin.ensures.history;
      due = tt;
      explained = tt;
      keeps = c.unpin.ensures.keeps;
      spare = ap (λ (v : PortsValue). v.spare) c.unpin.ensures.same;
      counts = record {
        own_only = fair_unpin {A = Unit {0}} p c.unpin.new.self [] c.in-Leaving.stamp (Ok tt) c.count_right.ensures c.in-Ok.ensures.transition;
        loss = (tt, tt);
      };
    })

pub returns-in-Err-clause-acted : goal.returns-in-Err-clause-acted
returns-in-Err-clause-acted g c =
    let p = c.args.ports.now in
    rw (c.in-Leaving.is, c.in-Request.is) (record {
      fits = subst (IsActor g.A.App.next (whole_of p) (length p.nodes)) c.in-Leaving.is c.requires.fits;
      told = refl;
      history = c.unpin.ensures.history;
      due = tt;
      explained = tt;
      keeps = c.unpin.ensures.keeps;
      spare = ap (λ (v : PortsValue). v.spare) c.unpin.ensures.same;
      counts = record {
        own_only = fair_unpin {A = Unit {0}} p c.unpin.new.self [] c.in-Leaving.stamp (Err c.in-Err.error) c.count_right.ensures c.in-Err.ensures.transition;
        loss = (loss_unpin p (record { taken = []; own = c.in-Leaving.stamp ∷ [] }) c.in-Leaving.stamp c.in-Err.error c.in-Err.ensures.transition.1, tt);
      };
    })
