use Rattle.txc_world.proofs.WritingLemmas.{fits_with, holds_with, still_open}
use Rattle.std.proofs.Common.{None, refl, ap, sym, subst}
use Rattle.std.specs.Prelude.{option_map}
use Rattle.txc_rows.specs.declared.query.Query.{Query}
use Rattle.txc_txn_rw.specs.RwCore.{IsRw, RwHolds, RwValue}
use Rattle.txc_world.specs.declared.actor.OpenCall.{OpenCall}
use Rattle.txc_world.specs.Actors.{told_answers, HasRwCall}
use Rattle.txc_world.specs.Observation.{writing}
use Rattle.txc_world.specs.Holdings.{HasLost}
use Rattle.txc_world.proofs.WritingCounts.{based, counts_based, loss_write}
use Rattle.txc_world.specs.ActorValues.{writes}
use Rattle.txc_world.proofs.PortsLemmas.{keeps_itself}
use Rattle.txc_world.specs.declared.reply.Refusal.TheVariants.{Transaction}
use Rattle.txc_world.specs.declared.reply.Reply.TheVariants.{Kept, Refused}
use Rattle.txc_world.proofs.writing.write.Goals as goal

pub returns-in-Ok-clause-transition : goal.returns-in-Ok-clause-transition
returns-in-Ok-clause-transition g c = rw c.requires.no_call
    (refl, ap (λ (core : RwValue). writes (record { core = core; objects = c.args.current.registry; call = None })) c.in-Ok.ensures.after)

pub returns-in-Err-clause-transition : goal.returns-in-Err-clause-transition
returns-in-Err-clause-transition g c = rw c.requires.no_call
    (refl, ap (λ (core : RwValue). writes (record { core = core; objects = c.args.current.registry; call = None })) c.in-Err.ensures.unchanged)

pub returns-in-Ok-clause-acted : goal.returns-in-Ok-clause-acted
returns-in-Ok-clause-acted g c =
    let old = c.args.current.core in
    let new = c.keep_change.new.core in
    let fits = fits_with g.A.App.next c.args.current.registry old new _ c.in-Ok.ensures.after c.requires.fits.fits in
    let holds = holds_with g.A.App.next c.args.whole.now.database.history c.args.current.registry old new _ c.in-Ok.ensures.after c.requires.fits.holds in
    let idle = still_open old new _ c.args.current.call c.requires.no_call c.in-Ok.ensures.after c.requires.fits.call in
    let counts = counts_based c.args.whole.now c.args.whole.now old.base new.base Kept refl (ap (λ (v : RwValue). v.base) c.in-Ok.ensures.after) tt in
    record {
      fits = record { fits = fits; holds = holds; call = idle };
      told =
          ap (λ (v : RwValue). writing (record {
            base = v.base;
            call = option_map (λ (o : OpenCall Query). o.key) c.args.current.call;
            answers = told_answers c.args.current.call v.answers;
            changes = v.changes;
          })) c.in-Ok.ensures.after;
      history = refl;
      due = rw c.requires.no_call c.in-Ok.ensures.only_if;
      explained = tt;
      keeps = keeps_itself c.args.whole.now;
      spare = refl;
      counts = counts;
    }

pub returns-in-Err-clause-acted : goal.returns-in-Err-clause-acted
returns-in-Err-clause-acted g c =
    let counts = counts_based c.args.whole.now c.args.whole.now c.args.current.core.base c.keep_change.new.core.base (Refused (Transaction c.in-Err.error)) refl
    (ap (λ (v : RwValue). v.base) c.in-Err.ensures.unchanged)
    (loss_write (HasLost c.args.whole.now (based c.args.current.core.base)) _ c.in-Err.error c.in-Err.ensures.refused) in
    let same = sym c.in-Err.ensures.unchanged in
    record {
      fits = record {
        fits = subst (λ (v : RwValue). IsRw g.A.App.next c.args.current.registry v) same c.requires.fits.fits;
        holds = subst (λ (v : RwValue). RwHolds g.A.App.next c.args.whole.now.database.history c.args.current.registry v) same c.requires.fits.holds;
        call = subst (λ (v : RwValue). HasRwCall v c.args.current.call) same c.requires.fits.call;
      };
      told =
          ap (λ (v : RwValue). writing (record {
            base = v.base;
            call = option_map (λ (o : OpenCall Query). o.key) c.args.current.call;
            answers = told_answers c.args.current.call v.answers;
            changes = v.changes;
          })) c.in-Err.ensures.unchanged;
      history = refl;
      due = rw c.requires.no_call c.in-Err.ensures.refused;
      explained = tt;
      keeps = keeps_itself c.args.whole.now;
      spare = refl;
      counts = counts;
    }
