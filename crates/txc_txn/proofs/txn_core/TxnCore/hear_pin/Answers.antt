use Rattle.std.proofs.Common.{rules, ◌≡◌, ◌≤◌, Some, Result, subst}
use Rattle.txc_db.specs.declared.error.DbError.{DbError}
use Rattle.txc_db.specs.declared.pinned.Pinned.{Pinned}
use Rattle.txc_app.specs.Eval.{Next}
use Rattle.txc_call_registry.specs.Objects.{AllIdle, Objects}
use Rattle.txc_txn_ports.specs.declared.reply.PortReply.TheVariants as ports
use Rattle.txc_txn.specs.TxnCore.{IsAnswered, IsCore, least_present, value_of}
use Rattle.txc_txn.proofs.Cores.{core_adding}
use Rattle.txc_txn.proofs.txn_core.TxnCore.hear_pin.Goals as goal

pub returns-in-Err : goal.returns-in-Err
returns-in-Err c = record {
  fits = λ next objects after there left h.
      let idle : AllIdle after = rw c.drop_call.ensures.answer at left in c.drop_call.ensures.fits next objects after idle h;
  holds = λ next objects after L left right h holds. c.drop_call.ensures.holds next objects after L holds;
  turn_fits = search rules;
  transition = search rules;
  rests = tt;
  adds = search rules;
  pins = search rules;
  taken = search rules;
  left = search rules;
  recorded = search rules;
  goes_on = search rules;
  same = search rules;
}

pub returns : goal.returns
returns c =
    let is : c.args.self.now.pinning ≡ Some c.in-Some.field-0 = cc in
    let reply = subst (λ (r : Result Pinned DbError). IsAnswered (value_of c.args.self.now) (ports.Pin r)) c.in-Ok.is c.requires.reply in
    let late : least_present c.args.self.now.bounds c.args.self.now.pins.members ≤ c.pin_of.result.stamp = rw c.pin_of.ensures reply.2 in
    let adding = λ (next : Next) (objects : Objects) (h : IsCore next objects (value_of c.args.self.now)). core_adding next objects (value_of c.args.self.now) c.in-Some.field-0 c.pin_of.result is late h in
    record {
      fits = search (rules, adding);
      holds = search rules;
      turn_fits = search rules;
      transition = search rules;
      rests = tt;
      adds = search rules;
      pins = search rules;
      taken = search rules;
      left = search rules;
      recorded = search rules;
      goes_on = search rules;
      same = search rules;
    }
