use Rattle.std.proofs.Common.{◌≡◌, ℕ, sym, ap, subst, ◌∙◌}
use Rattle.std.specs.Prelude.{Result, IfErr, IfOk}
use Rattle.txc_rows.specs.States.{answer}
use Rattle.txc_validity.specs.declared.answer.Found.{Found}
use Rattle.txc_db.specs.declared.error.DbError.{DbError}
use Rattle.txc_db.specs.Calls.{IsQueryRefused}
use Rattle.txc_db.specs.History.{state_at}
use Rattle.txc_db.specs.DatabaseReply.{MayRefuse}
use Rattle.txc_call.specs.CallMachine.{started}
use Rattle.txc_txn_ports.specs.declared.turn.Turn.TheVariants.{Ask}
use Rattle.txc_txn_ports.specs.Turns.{IsAsk}
use Rattle.txc_txn_rw.specs.RwCore.{QueryTurn, RwValue, answers_after, IsFoundAt, IsRwTurn}
use Rattle.txc_txn_rw.specs.Transitions.{standing_of}
use Rattle.txc_txn_rw.proofs.Running.{IsRunSo, run_begins, run_goes_on, run_over}
use Rattle.txc_txn_rw.proofs.Turns.{answers_on, fewer_turns, right_reply}
use Rattle.txc_txn_rw.proofs.calling.call_at.Goals as goal

pub loop-turn-preserved : goal.loop-turn-preserved
loop-turn-preserved g c =
    let inv = c.loop-turn.invariant in
    let core = c.loop-turn.core in
    let q = c.in-Ask.query in
    let L = c.args.seen.now.history in
    let asking : IsRwTurn core (Ask q) = subst (IsRwTurn core) c.in-Ask.is inv.turn in
    let begins = inv.begins (subst IsAsk (sym c.in-Ask.is) tt) in
    let found = subst (λ (n : ℕ). IfOk c.find-found.result (IsFoundAt L n q)) c.base.ensures c.find-found.ensures.answer in
    let at_base : c.base.result ≡ c.args.core.now.base = c.base.ensures ∙ inv.base in
    let refused = subst (λ (n : ℕ). IfErr c.find-found.result (MayRefuse g.J.Naming.database_history (λ d. IsQueryRefused d q n))) at_base c.find-found.ensures.refused in
    record {
      fits = c.reply-turn.ensures.fits;
      turn = c.reply-turn.ensures.turn;
      holds = λ h. c.reply-turn.ensures.holds L (right_reply L core c.find-found.result q asking.0 found) (inv.holds h);
      answers =
          c.reply-turn.ensures.answers
          ∙ answers_on c.args.core.now.answers core.answers c.args.key core.call.top q c.reply-turn.result
          (inv.answers ∙ ap (answers_after c.args.core.now.answers c.args.key) c.in-Ask.is) begins;
      begins = λ asks. c.reply-turn.ensures.goes_on asks ∙ begins;
      run = λ there.
          run_goes_on g.A.App.next g.J.Naming.database_history (state_at L c.args.core.now.base) (standing_of (started c.args.key) c.args.registry.now)
          c.args.core.now core c.reply-turn.new.self c.loop-turn.registry c.reply-turn.new.registry c.reply-turn.result c.find-found.result q
          (subst (λ (t : QueryTurn). IsRunSo g.A.App.next g.J.Naming.database_history (state_at L c.args.core.now.base) (standing_of (started c.args.key) c.args.registry.now) c.args.core.now core c.loop-turn.registry t) c.in-Ask.is (inv.run there))
          asking.0 asking.1 c.reply-turn.ensures.queried refused c.reply-turn.ensures.refused
          (λ f is.
          c.reply-turn.ensures.transition (state_at L c.args.core.now.base) q f asking.1 is
          (subst (λ (n : ℕ). f.rows.items ≡ answer q (state_at L n)) inv.base
          (subst (λ (r : Result Found DbError). IfOk r (IsFoundAt L core.base q)) is found).rows));
      base = ap (λ (w : RwValue). w.base) c.reply-turn.ensures.same ∙ inv.base;
      changes = ap (λ (w : RwValue). w.changes) c.reply-turn.ensures.same ∙ inv.changes;
      missing = λ none. cc (inv.missing none, c.in-Ask.is);
      missing_left = λ none. cc (inv.missing none, c.in-Ask.is);
      functions = c.reply-turn.ensures.functions ∙ inv.functions;
      missing_same = λ none. cc (inv.missing none, c.in-Ask.is);
    }

pub loop-turn-init : goal.loop-turn-init
loop-turn-init g c = record {
  fits = c.start-turn.ensures.fits;
  turn = c.start-turn.ensures.turn;
  holds = λ h. c.start-turn.ensures.holds c.args.seen.now.history h;
  answers = c.start-turn.ensures.answers;
  begins = c.start-turn.ensures.begins;
  run = λ there.
      run_begins g.A.App.next g.J.Naming.database_history (state_at c.args.seen.now.history c.args.core.now.base) (standing_of (started c.args.key) c.args.registry.now)
      c.args.core.now c.start-turn.new.self c.start-turn.new.registry c.start-turn.result (ap (λ (w : RwValue). w.queried) c.start-turn.ensures.same)
      (c.start-turn.ensures.transition there (state_at c.args.seen.now.history c.args.core.now.base));
  base = ap (λ (w : RwValue). w.base) c.start-turn.ensures.same;
  changes = ap (λ (w : RwValue). w.changes) c.start-turn.ensures.same;
  missing = c.start-turn.ensures.missing;
  missing_left = c.start-turn.ensures.missing_left;
  functions = c.start-turn.ensures.functions;
  missing_same = c.start-turn.ensures.missing_same;
}

pub loop-turn-smaller : goal.loop-turn-smaller
loop-turn-smaller g c =
    rw c.in-Ask.is
    (fewer_turns c.in-Ask.query c.reply-turn.result c.loop-turn.core.call.asked c.reply-turn.new.self.call.asked c.reply-turn.ensures.counted c.is_within_budget.ensures)

pub returns-in-Ended-clause-run : goal.returns-in-Ended-clause-run
returns-in-Ended-clause-run g c = λ there.
    let from = standing_of (started c.args.key) c.args.registry.now in
    let s = state_at c.args.seen.now.history c.args.core.now.base in
    run_over g.A.App.next g.J.Naming.database_history s from c.args.core.now c.loop-turn.core c.loop-turn.registry c.in-Ended.result
    (subst (λ (t : QueryTurn). IsRunSo g.A.App.next g.J.Naming.database_history s from c.args.core.now c.loop-turn.core c.loop-turn.registry t) c.in-Ended.is (c.loop-turn.invariant.run there))
