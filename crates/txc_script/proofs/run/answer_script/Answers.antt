use Rattle.std.proofs.Common.{◌++◌, [], take, arith, rules, Ok, Err, Result, refl, sym, ap, subst}
use Rattle.std.proofs.KnownBytes.{Appends-nil, Appends-trans, Consumes-kept, Consumes-nil, Consumes-trans}
use Rattle.txc_script.specs.Progress.{progress_of}
use Rattle.txc_script.specs.Runs.{ScriptHasRun}
use Rattle.txc_script.specs.declared.fault.Status.TheVariants.{Malformed}
use Rattle.txc_script.specs.declared.fault.Status.{Status}
use Rattle.txc_script.specs.declared.fault.RunFault.{RunFault}
use Rattle.txc_script.specs.declared.reads.Reads.{Reads}
use Rattle.txc_script.proofs.Answering.{nothing_answered}
use Rattle.txc_script.proofs.Turning.{err_is, read_fault, reader_failed, run_ends, run_out_of_memory, nothing_more, stopped_ends, goes_on_at}
use Rattle.txc_script.proofs.run.answer_script.Goals as goal

pub returns-in-Err-clause-after : goal.returns-in-Err-clause-after
returns-in-Err-clause-after g c = run_out_of_memory (g.K.Script.kind c.args.kind.now) _ _ _

pub reads-init : goal.reads-init
reads-init g c = record {
  counted = omega (arith, c.in-Ok.ensures.no_line, ap (λ (r : Reads). r.left) c.requires);
  read = [];
  written = [];
  consumed = Consumes-nil _;
  appended = Appends-nil _;
  answered = nothing_answered (g.K.Script.kind c.args.kind.now) c.args.state.now c.in-Ok.running c.in-Ok.ensures.no_line c.in-Ok.ensures.nothing_kept c.in-Ok.ensures.no_output c.in-Ok.ensures.none_refused;
  none = c.in-Ok.ensures.no_output;
}

pub returns-then-n-eq0-clause-after : goal.returns-then-n-eq0-clause-after
returns-then-n-eq0-clause-after g c =
    let i = c.reads.invariant in
    let kind = g.K.Script.kind c.args.kind.now in
    let start = c.args.state.now in
    run_ends kind (Unit {0}) start _ _ _ _ _ i.read i.written c.finish.result c.finish.new.state (nothing_more _ _ _ i.read c.read.new.piece c.in_ok-n.n c.if-n-eq0.true i.consumed c.in_ok-n.ensures.bytes.0) i.appended
    (λ _. c.in_ok-n.ensures.bytes.1 c.if-n-eq0.true (omega arith)) (c.finish.ensures.ended start i.read i.written i.answered)

pub returns-in-Stopped-clause-after : goal.returns-in-Stopped-clause-after
returns-in-Stopped-clause-after g c =
    let i = c.reads.invariant in
    let kind = g.K.Script.kind c.args.kind.now in
    let start = c.args.state.now in
    let read = i.read ++ take c.in_ok-n.n c.read.new.piece in
    (run_ends kind ⊥ start _ _ _ _ _ read i.written (Ok (Malformed c.in-Stopped.line)) c.turn.new.state (Consumes-trans _ _ _ i.read (take c.in_ok-n.n c.read.new.piece) i.consumed c.in_ok-n.ensures.bytes.0) i.appended (λ h. absurd h)
    (stopped_ends kind start read i.written (progress_of c.turn.new.state c.turn.new.running) _ c.in-Stopped.line _ _ c.in-Stopped.is (c.in_ok-turn.ensures.turned start i.read i.written i.answered)))

pub returns-in_err-turn-clause-after : goal.returns-in_err-turn-clause-after
returns-in_err-turn-clause-after g c =
    let i = c.reads.invariant in
    let kind = g.K.Script.kind c.args.kind.now in
    let start = c.args.state.now in
    let read = i.read ++ take c.in_ok-n.n c.read.new.piece in
    let fault = c.in_err-turn.field-0.0 in
    subst (λ (r : Result (Status g.row.K-Fault.Denot) RunFault). ScriptHasRun kind start (g.R.Read.remaining c.args.reader.now) (g.R.Read.remaining c.read.new.reader) (g.W.Write.contents c.args.writer.now) (g.W.Write.contents c.turn.new.writer) r c.turn.new.state)
    (sym (err_is c.from_residual-in_err-turn.result fault c.from_residual-in_err-turn.ensures))
    (run_ends kind ⊥ start _ _ _ _ _ read i.written (Err fault) c.turn.new.state (Consumes-trans _ _ _ i.read (take c.in_ok-n.n c.read.new.piece) i.consumed c.in_ok-n.ensures.bytes.0) i.appended (λ h. absurd h)
    (c.in_err-turn.ensures.turned start i.read i.written i.answered))

pub reads-preserved : goal.reads-preserved
reads-preserved g c =
    let i = c.reads.invariant in
    let kind = g.K.Script.kind c.args.kind.now in
    let start = c.args.state.now in
    let read = i.read ++ take c.in_ok-n.n c.read.new.piece in
    let turned = goes_on_at kind start read i.written (progress_of c.turn.new.state c.turn.new.running) _ _ _ c.in-GoesOn.is (c.in_ok-turn.ensures.turned start i.read i.written i.answered) in
    record {
      counted = search rules;
      read = read;
      written = i.written ++ turned.0;
      consumed = Consumes-trans _ _ _ i.read (take c.in_ok-n.n c.read.new.piece) i.consumed c.in_ok-n.ensures.bytes.0;
      appended = Appends-trans _ _ _ i.written turned.0 i.appended turned.1;
      answered = turned.2;
      none = turned.3;
    }

pub returns-in_err-n-clause-after : goal.returns-in_err-n-clause-after
returns-in_err-n-clause-after g c =
    let i = c.reads.invariant in
    reader_failed (g.K.Script.kind c.args.kind.now) c.args.state.now _ _ _ _ i.read i.written (progress_of c.reads.state c.reads.running) c.from_residual.result
    (Consumes-kept _ _ _ i.read i.consumed c.in_err-n.ensures.bytes) i.appended i.answered i.none
    (read_fault c.from_residual.result (Err c.in_err-n.field-0.0) c.in_err-n.field-0.0 refl c.in_err-n.ensures.fault (err_is c.from_residual.result c.in_err-n.field-0.0 c.from_residual.ensures))
