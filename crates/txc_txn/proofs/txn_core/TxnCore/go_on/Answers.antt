use Rattle.std.proofs.Common.{Ok, Err, ap}
use Rattle.txc_call.specs.Needs.{reply_reach}
use Rattle.txc_txn_ports.specs.declared.turn.Turn.TheVariants.{Ended}
use Rattle.txc_txn.specs.TxnCore.{value_of}
use Rattle.txc_txn.proofs.Cores.{common, core_went_on, holds_went_on, need_stands}
use Rattle.txc_txn.proofs.txn_core.TxnCore.go_on.Goals as goal

pub reply-requires-clause-common : goal.reply-requires-clause-common
reply-requires-clause-common g c =
    common g.A.App.next c.args.registry.now (value_of c.args.self.now) (reply_reach c.args.reply) c.requires.within c.requires.reply.0 c.requires.reply.1 c.requires.fits

pub request-requires-clause-fits : goal.request-requires-clause-fits
request-requires-clause-fits g c =
    core_went_on g.A.App.next c.args.registry.now (value_of c.args.self.now) (reply_reach c.args.reply) c.requires.within c.reply.new.registry c.reply.new.self
    c.in-Ok.ensures.within c.requires.present c.in-Ok.ensures.unreached c.requires.none c.requires.reply.0 c.requires.reply.1 c.reply.ensures.fits c.requires.fits

pub returns-in-Ok-clause-holds : goal.returns-in-Ok-clause-holds
returns-in-Ok-clause-holds g c = λ L right h.
    let n = c.requires.reply.0 in
    let is = c.requires.reply.1 in
    c.request.ensures.holds L
    (holds_went_on g.A.App.next c.args.registry.now (value_of c.args.self.now) (reply_reach c.args.reply) c.requires.within c.reply.new.registry c.reply.new.self
    c.in-Ok.ensures.within c.requires.present c.in-Ok.ensures.unreached L (c.in-Ok.ensures.holds L n is (right n is) h.valid.right) h)

pub returns-in-Ok-clause-transition : goal.returns-in-Ok-clause-transition
returns-in-Ok-clause-transition g c = λ n is. (
  Ok (record { frames = c.reply.new.self.frames; asked = c.reply.new.self.asked; need = c.reply.new.self.need; objects = c.reply.new.registry }),
  c.in-Ok.ensures.answer n is,
  need_stands (record (value_of c.args.self.now) { call = c.reply.new.self }) (value_of c.request.new.self) c.reply.new.registry c.request.new.registry c.request.result c.request.ensures.transition,
)

pub returns-in-Err-clause-transition : goal.returns-in-Err-clause-transition
returns-in-Err-clause-transition g c = λ n is. (Err c.in-Err.error, c.in-Err.ensures.answer n is, ap (λ e. Ended (Err e)) c.into.ensures)
