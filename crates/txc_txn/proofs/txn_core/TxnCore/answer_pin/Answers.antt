use Rattle.std.proofs.Common.{rules, ◌≡◌, ◌≤◌, Some, Result, subst}
use Rattle.txc_db.specs.declared.error.DbError.{DbError}
use Rattle.txc_db.specs.declared.pinned.Pinned.{Pinned}
use Rattle.txc_txn_ports.specs.declared.reply.PortReply.TheVariants as ports
use Rattle.txc_txn.specs.TxnCore.{IsAnswered, least_present, value_of}
use Rattle.txc_txn.proofs.Cores.{core_adding}
use Rattle.txc_txn.proofs.txn_core.TxnCore.answer_pin.Goals as goal

pub returns : goal.returns
returns g c =
    let is : c.args.self.now.pinning ≡ Some c.in-Some.field-0 = cc in
    let reply = subst (λ (r : Result Pinned DbError). IsAnswered (value_of c.args.self.now) (ports.Pin r)) c.in-Ok.is c.requires.reply in
    let late : least_present c.args.self.now.bounds c.args.self.now.pins.members ≤ c.pin_of.result.stamp = rw c.pin_of.ensures reply.2 in
    search (rules, core_adding g.A.App.next c.args.registry.now (value_of c.args.self.now) c.in-Some.field-0 c.pin_of.result is late c.requires.fits)
