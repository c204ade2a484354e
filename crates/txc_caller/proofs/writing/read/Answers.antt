use Rattle.std.proofs.Common.{◌∙◌, ℕ, Some, sym, ap, subst}
use Rattle.std.specs.Prelude.{IfErr, IfOk}
use Rattle.txc_db.specs.Calls.{IsQueryRefused}
use Rattle.txc_txn_rw.specs.RwCore.{RwHolds, RwValue, IsFoundAt}
use Rattle.txc_txn_rw.proofs.Holding.{holds_moved}
use Rattle.txc_caller.proofs.WriteActs.{read_after, read_answer, read_call, read_left, read_refused, read_rests, reply_at, right_reply_to}
use Rattle.txc_caller.proofs.writing.read.Goals as goal

pub returns : goal.returns
returns g c =
    let core : RwValue = c.args.core.now in
    let mid : RwValue = c.ask.new.self in
    let new : RwValue = c.answer.new.self in
    let d = c.args.ports.now.database in
    let q = c.args.query in
    let reply = c.find-found.result in
    let asking = c.in_ok-ask.ensures.after in
    let reading = ap (λ (v : RwValue). v.reading) asking in
    let at_base = c.base.ensures ∙ ap (λ (v : RwValue). v.base) asking in
    let transition = c.answer.ensures.transition q reading in
    let at = reply_at d core.base q reply (subst (λ (b : ℕ). IfOk reply (IsFoundAt d.history b q)) at_base c.find-found.ensures.answer)
    (subst (λ (b : ℕ). IfErr reply (IsQueryRefused d q b)) at_base c.find-found.ensures.refused) in
    record {
      answer = read_answer d core mid new q asking c.requires.none core.base reply c.answer.result transition at;
      after = read_after d core mid new q asking c.requires.none reply c.answer.result transition;
      refused = read_refused d core mid new q asking c.requires.none core.base reply c.answer.result transition at;
      left = read_left d core mid new q asking c.requires.none reply c.answer.result transition;
      holds = λ next objects h.
          c.answer.ensures.holds next objects d.history (right_reply_to d.history mid c.base.result reply q c.base.ensures reading c.find-found.ensures.answer)
          (subst (RwHolds next d.history objects) (sym asking) (holds_moved next d.history objects core h objects core.call (Some q) (λ M hold. hold)));
      call = read_call d core mid new q asking c.requires.none reply c.answer.result transition;
      rests = read_rests d core mid new q asking c.requires.none reply c.answer.result transition;
      ports = c.find-found.ensures.same;
    }
