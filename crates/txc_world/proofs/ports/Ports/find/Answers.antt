use Rattle.std.proofs.Common.{◌≡◌, ◌∙◌, ap, refl, sym, subst}
use Rattle.txc_app.proofs.Claims.{found_rows_hold}
use Rattle.txc_db.specs.Calls.{IsAnswerable}
use Rattle.txc_txn_ports.specs.PortRequests.{IsFoundOver}
use Rattle.txc_db.specs.DatabaseValue.{front_of}
use Rattle.txc_db.specs.FrontsAndFeeds.{FrontValue}
use Rattle.txc_world.specs.PortRequests.{IsAnswerWithFront}
use Rattle.txc_world.specs.Ports.{PortsValue}
use Rattle.txc_world.proofs.ports.Ports.find.Goals as goal

pub returns-clause-transition : goal.returns-clause-transition
returns-clause-transition g c =
    let database = c.self.inside.database in
    let query = c.args.query.now in
    let stamp = c.args.stamp in
    let found = c.in_ok-answer.ensures in
    let front : c.in_ok-front.front ≡ front_of database = c.in_ok-front.ensures ∙ ap front_of c.query.ensures.same in
    subst (λ (p : PortsValue). IsAnswerWithFront query stamp p (record { answer = c.in_ok-answer.answer; front = c.in_ok-front.front }) × IsAnswerable p.database stamp) c.self.view_is (
      record {
        answer = found.answer;
        tag = found.tag;
        front = front;
        over = subst (λ (f : FrontValue). IsFoundOver f.history query stamp c.in_ok-answer.answer) (sym front) (record {
          around = found.answer.validity.around;
          rows = found_rows_hold database.history query stamp database.horizon c.in_ok-answer.answer found.answer found.tag;
        });
      },
      found.only_if refl,
    )
