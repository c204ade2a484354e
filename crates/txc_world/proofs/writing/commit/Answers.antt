use Rattle.std.proofs.Common.{ℕ, List, ap, refl, sym, subst, ◌∙◌}
use Rattle.txc_rows.specs.declared.query.Change.{Change}
use Rattle.txc_db.specs.History.{History}
use Rattle.txc_txn_rw.specs.RwCore.{RwHolds}
use Rattle.txc_world.specs.Observation.{commit_in, leaving}
use Rattle.txc_world.specs.Holdings.{HasLost}
use Rattle.txc_world.specs.LostSnapshot.{IfGone}
use Rattle.txc_world.specs.Ports.{PortsValue}
use Rattle.txc_world.proofs.KeptLemmas.{commit_told, refused_history}
use Rattle.txc_world.proofs.CommitLemmas.{explained_lent, explained_open}
use Rattle.txc_world.proofs.WritingCounts.{based, fair_commit, fair_not_committed, loss_commit}
use Rattle.txc_txn_rw.proofs.Commits.{event_commits_are_right, event_tags_are_sound, quiet_commits_are_right}
use Rattle.txc_txn_rw.proofs.Holding.{holds_in_longer, right_at_base}
use Rattle.txc_db.proofs.Histories.{states_stay, tags_stay}
use Rattle.txc_world.proofs.writing.commit.Goals as goal

pub returns-in-Ok-clause-transition : goal.returns-in-Ok-clause-transition
returns-in-Ok-clause-transition g c = rw c.requires.no_call (
  rw (sym c.base-base.ensures, sym c.tags-read.ensures, sym c.changes-changes.ensures.answer) c.in-Ok.ensures.transition,
  (c.cancel-unpin.ensures.idle, c.cancel-unpin.ensures.functions, c.base-base.ensures),
)

pub returns-in-Err-clause-transition : goal.returns-in-Err-clause-transition
returns-in-Err-clause-transition g c = rw c.requires.no_call (
  rw (sym c.base-base.ensures, sym c.tags-read.ensures, sym c.changes-changes.ensures.answer) c.in-Err.ensures.transition,
  refl,
)

pub returns-in-Ok-clause-acted : goal.returns-in-Ok-clause-acted
returns-in-Ok-clause-acted g c =
    let explained =
    explained_open g.A.App.next c.commit.new.self.database.history _ c.args.current.core c.in-Ok.stamp c.args.current.call c.requires.no_call
    (explained_lent g.A.App.next c.args.current.registry c.args.current.core c.args.ports.now.database c.requires.fits.holds
    right_at_base (quiet_commits_are_right event_tags_are_sound) (event_commits_are_right event_tags_are_sound) (holds_in_longer states_stay)
    states_stay tags_stay
    c.args.ports.now c.commit.new.self c.base-base.result c.tags-read.result.now c.changes-changes.result.now c.in-Ok.stamp refl c.in-Ok.ensures.transition
    c.base-base.ensures c.tags-read.ensures c.changes-changes.ensures.answer) in
    let own_only = fair_commit c.args.ports.now c.commit.new.self c.base-base.result c.args.current.core.base c.base-base.result c.in-Ok.stamp _ _ c.in-Ok.ensures.transition c.base-base.ensures in
    record {
      fits = c.cancel-unpin.ensures.idle;
      told = ap leaving c.base-base.ensures;
      history =
          commit_told c.args.ports.now c.commit.new.self c.base-base.result c.tags-read.result.now c.changes-changes.result.now c.in-Ok.stamp c.in-Ok.ensures.transition
          ∙ ap (λ (changes : List Change). commit_in changes c.in-Ok.stamp c.args.ports.now.database.history) c.changes-changes.ensures.answer;
      due = rw c.requires.no_call tt;
      explained = explained;
      keeps = c.in-Ok.ensures.keeps;
      spare = ap (λ (p : PortsValue). p.spare) c.in-Ok.ensures.transition.0;
      counts = record { own_only = own_only; loss = tt };
    }

pub returns-in-Err-clause-acted : goal.returns-in-Err-clause-acted
returns-in-Err-clause-acted g c =
    let own_only = fair_not_committed c.args.ports.now c.commit.new.self c.base-base.result c.args.current.core.base _ _ c.in-Err.refusal c.in-Err.ensures.transition in
    let lost = subst (λ (b : ℕ). IfGone c.in-Err.refusal (HasLost c.args.ports.now (based b))) c.base-base.ensures
    (loss_commit c.args.ports.now c.base-base.result _ _ c.in-Err.refusal c.count_right.ensures c.in-Err.ensures.transition.1) in
    let same = refused_history c.args.ports.now c.commit.new.self c.in-Err.refusal c.in-Err.ensures.transition.0 in
    record {
      fits = record {
        fits = c.requires.fits.fits;
        holds = subst (λ (L : History). RwHolds g.A.App.next L c.args.current.registry c.args.current.core) (sym same) c.requires.fits.holds;
        call = c.requires.fits.call;
      };
      told = refl;
      history = same;
      due = rw c.requires.no_call tt;
      explained = tt;
      keeps = c.in-Err.ensures.keeps;
      spare = ap (λ (p : PortsValue). p.spare) c.in-Err.ensures.transition.0.is;
      counts = record { own_only = own_only; loss = lost };
    }
