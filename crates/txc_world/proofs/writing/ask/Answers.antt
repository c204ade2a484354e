use Rattle.std.proofs.Common.{◌≡◌, ◌++◌, ◌∷◌, [], Option, Ok, Err, ap, sym, subst, ◌∙◌, refl}
use Rattle.std.specs.Prelude.{Result, Vec}
use Rattle.std.specs.declared.alloc.Global.{Global}
use Rattle.txc_rows.specs.States.{RowValue}
use Rattle.txc_rows.specs.declared.query.Query.{Query}
use Rattle.txc_txn_ports.specs.declared.error.TxnError.{TxnError}
use Rattle.txc_txn_rw.specs.declared.given.Given.TheVariants as given
use Rattle.txc_txn_rw.specs.RwCore.{RwHolds, RwValue}
use Rattle.txc_world.specs.declared.actor.OpenCall.{OpenCall}
use Rattle.txc_world.specs.Actors.{told_answers, HasRwCall}
use Rattle.txc_world.specs.Ports.{PortsValue}
use Rattle.txc_world.specs.declared.reply.Reply.TheVariants.{Answered, Refused}
use Rattle.txc_world.specs.declared.reply.Refusal.TheVariants.{Transaction}
use Rattle.txc_world.specs.Holdings.{HasLost}
use Rattle.txc_world.specs.LostSnapshot.{IfResultLost}
use Rattle.txc_world.specs.WriterStep.{with_rows, FindTransitionRw, IsRead}
use Rattle.txc_world.proofs.WritingCounts.{based, counts_based}
use Rattle.txc_world.proofs.WritingLemmas.{fits_queried, still_idle, writing_same}
use Rattle.txc_world.proofs.PortsLemmas.{keeps_same}
use Rattle.txc_world.proofs.writing.ask.Goals as goal

pub returns-in-Ok-clause-transition : goal.returns-in-Ok-clause-transition
returns-in-Ok-clause-transition g c = rw c.requires.no_call (
  c.find.ensures.same_ports,
  record {
    core = c.find.new.core;
    result = Ok c.in-Ok.rows;
    told = refl;
    found = subst (FindTransitionRw c.args.query.now c.args.current.core.base c.args.ports.now) c.in-Ok.is c.find.ensures.transition;
    actor_is = refl;
    read = subst (IsRead c.args.query.now c.args.current.core.queried c.find.new.core.queried) c.in-Ok.is c.find.ensures.read;
    same = c.find.ensures.same;
  },
)

pub returns-in-Err-clause-transition : goal.returns-in-Err-clause-transition
returns-in-Err-clause-transition g c = rw c.requires.no_call (
  c.find.ensures.same_ports,
  record {
    core = c.find.new.core;
    result = Err c.in-Err.error;
    told = refl;
    found = subst (FindTransitionRw c.args.query.now c.args.current.core.base c.args.ports.now) c.in-Err.is c.find.ensures.transition;
    actor_is = refl;
    read = subst (IsRead c.args.query.now c.args.current.core.queried c.find.new.core.queried) c.in-Err.is c.find.ensures.read;
    same = c.find.ensures.same;
  },
)

pub returns-in-Ok-clause-acted : goal.returns-in-Ok-clause-acted
returns-in-Ok-clause-acted g c =
    let same = c.find.ensures.same in
    let answers = c.find.ensures.answers ∙ ap (with_rows c.args.query.now c.args.current.core.answers) c.in-Ok.is in
    let counts = counts_based c.args.ports.now c.find.new.ports c.args.current.core.base c.find.new.core.base (Answered c.in-Ok.rows) c.find.ensures.same_ports (ap (λ (v : RwValue). v.base) same) tt in
    let idle = subst (λ (o : Option (OpenCall Query)). HasRwCall c.args.current.core o) c.requires.no_call c.requires.fits.call in
    let told : told_answers c.args.current.call c.find.new.core.answers ≡ told_answers c.args.current.call c.args.current.core.answers ++ given.Rows c.args.query.now c.in-Ok.rows.items ∷ [] = rw c.requires.no_call answers in
    record {
      fits = record {
        fits = fits_queried g.A.App.next c.args.current.registry c.args.current.core c.find.new.core same c.requires.fits.fits;
        holds = subst (λ (p : PortsValue). RwHolds g.A.App.next p.database.history c.args.current.registry c.find.new.core) (sym c.find.ensures.same_ports)
            (c.find.ensures.holds g.A.App.next c.args.current.registry c.requires.fits.holds);
        call = subst (λ (o : Option (OpenCall Query)). HasRwCall c.find.new.core o) (sym c.requires.no_call) (still_idle c.args.current.core c.find.new.core same idle);
      };
      told = writing_same _ _ _ _ _ _ _ _ (ap (λ (v : RwValue). v.base) same) refl told (ap (λ (v : RwValue). v.changes) same);
      history = ap (λ (p : PortsValue). p.database.history) c.find.ensures.same_ports;
      due = rw c.requires.no_call tt;
      explained = tt;
      keeps = keeps_same c.args.ports.now c.find.new.ports c.find.ensures.same_ports;
      spare = ap (λ (p : PortsValue). p.spare) c.find.ensures.same_ports;
      counts = counts;
    }

pub returns-in-Err-clause-acted : goal.returns-in-Err-clause-acted
returns-in-Err-clause-acted g c =
    let same = c.find.ensures.same in
    let answers = c.find.ensures.answers ∙ ap (with_rows c.args.query.now c.args.current.core.answers) c.in-Err.is in
    let lost = HasLost c.args.ports.now (based c.args.current.core.base) in
    let counts = counts_based c.args.ports.now c.find.new.ports c.args.current.core.base c.find.new.core.base (Refused (Transaction c.in-Err.error)) c.find.ensures.same_ports (ap (λ (v : RwValue). v.base) same)
    (subst (λ (r : Result (Vec RowValue Global) TxnError). IfResultLost r lost) c.in-Err.is c.find.ensures.loss) in
    let idle = subst (λ (o : Option (OpenCall Query)). HasRwCall c.args.current.core o) c.requires.no_call c.requires.fits.call in
    let told : told_answers c.args.current.call c.find.new.core.answers ≡ told_answers c.args.current.call c.args.current.core.answers = rw c.requires.no_call answers in
    record {
      fits = record {
        fits = fits_queried g.A.App.next c.args.current.registry c.args.current.core c.find.new.core same c.requires.fits.fits;
        holds = subst (λ (p : PortsValue). RwHolds g.A.App.next p.database.history c.args.current.registry c.find.new.core) (sym c.find.ensures.same_ports)
            (c.find.ensures.holds g.A.App.next c.args.current.registry c.requires.fits.holds);
        call = subst (λ (o : Option (OpenCall Query)). HasRwCall c.find.new.core o) (sym c.requires.no_call) (still_idle c.args.current.core c.find.new.core same idle);
      };
      told = writing_same _ _ _ _ _ _ _ _ (ap (λ (v : RwValue). v.base) same) refl told (ap (λ (v : RwValue). v.changes) same);
      history = ap (λ (p : PortsValue). p.database.history) c.find.ensures.same_ports;
      due = rw c.requires.no_call tt;
      explained = tt;
      keeps = keeps_same c.args.ports.now c.find.new.ports c.find.ensures.same_ports;
      spare = ap (λ (p : PortsValue). p.spare) c.find.ensures.same_ports;
      counts = counts;
    }
