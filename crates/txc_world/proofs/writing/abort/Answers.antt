use Rattle.std.proofs.Common.{ℕ, ap, refl, Some}
use Rattle.txc_world.proofs.WritingCounts.{counts_based}
use Rattle.txc_world.proofs.PortsLemmas.{keeps_itself}
use Rattle.txc_world.specs.declared.reply.Reply.TheVariants.{Aborted}
use Rattle.txc_world.proofs.writing.abort.Goals as goal

pub returns-clause-transition : goal.returns-clause-transition
returns-clause-transition g c = (
  refl,
  (c.cancel-unpin.ensures.idle, c.cancel-unpin.ensures.functions, c.base-base.ensures),
  ap (λ (stamp : ℕ). Aborted (Some stamp)) c.base-base.ensures,
)

pub returns-clause-acted : goal.returns-clause-acted
returns-clause-acted g c = record {
  fits = c.cancel-unpin.ensures.idle;
  told = refl;
  history = refl;
  due = tt;
  explained = tt;
  keeps = keeps_itself c.args.whole.now;
  spare = refl;
  counts = counts_based c.args.whole.now c.args.whole.now c.args.current.core.base c.base-base.result (Aborted (Some c.base-base.result)) refl c.base-base.ensures tt;
}
