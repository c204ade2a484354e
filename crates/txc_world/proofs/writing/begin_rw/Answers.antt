use Rattle.std.proofs.Common.{ℕ, None, [], ap, refl, sym, subst, rules}
use Rattle.txc_world.specs.declared.reply.Reply.TheVariants.{Based, Refused}
use Rattle.txc_world.specs.Holdings.{nothing, ActCounts, HasLost}
use Rattle.txc_world.proofs.WritingCounts.{based, counts_begun, counts_unchanged, loss_hold}
use Rattle.txc_world.specs.declared.reply.Refusal.TheVariants.{Database}
use Rattle.txc_world.specs.Ports.{PortsValue}
use Rattle.txc_world.proofs.WritingLemmas.{writing_same}
use Rattle.txc_txn_rw.proofs.Holding.{holds_at_first}
use Rattle.txc_world.proofs.writing.begin_rw.Goals as goal

pub returns-in-Ok-clause-transition : goal.returns-in-Ok-clause-transition
returns-in-Ok-clause-transition g c = λ renew_after. (c.in-Ok.base, c.in-Ok.ensures.transition, c.begin-core.ensures, refl, refl, refl)

pub returns-in-Err-clause-transition : goal.returns-in-Err-clause-transition
returns-in-Err-clause-transition g c = λ renew_after. (c.in-Err.refusal, c.in-Err.ensures.transition, refl, refl)

pub returns-in-Ok-clause-acted : goal.returns-in-Ok-clause-acted
returns-in-Ok-clause-acted g c =
    let counts = subst (λ (b : ℕ). ActCounts c.args.ports.now c.hold.new.self nothing (based b) (Based c.in-Ok.base)) (sym c.begin-core.ensures.at_base)
    (counts_begun c.args.ports.now c.hold.new.self c.in-Ok.base c.in-Ok.ensures.transition) in
    let begun = c.begin-core.ensures in
    record {
      fits = search (rules, holds_at_first);
      told = writing_same _ _ None None _ [] _ [] begun.at_base refl begun.answers begun.changes;
      history = c.hold.ensures.history;
      due = tt;
      explained = tt;
      keeps = c.hold.ensures.keeps;
      spare = ap (λ (p : PortsValue). p.spare) c.hold.ensures.same;
      counts = counts;
    }

pub returns-in-Err-clause-acted : goal.returns-in-Err-clause-acted
returns-in-Err-clause-acted g c = record {
  fits = c.requires;
  told = refl;
  history = c.hold.ensures.history;
  due = tt;
  explained = tt;
  keeps = c.hold.ensures.keeps;
  spare = ap (λ (p : PortsValue). p.spare) c.hold.ensures.same;
  counts = counts_unchanged c.args.ports.now c.hold.new.self nothing (Refused (Database c.in-Err.refusal)) c.in-Err.ensures.transition.0
      (loss_hold c.args.ports.now (HasLost c.args.ports.now nothing) c.in-Err.refusal c.in-Err.ensures.transition.1);
}
