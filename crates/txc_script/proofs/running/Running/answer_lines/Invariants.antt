use Rattle.std.proofs.Common.{◌≡◌, ◌+◌, ◌≤◌, List, ℕ, ◌++◌, length}
use Rattle.txc_script.specs.Progress.{progress_of, HasAnsweredLines}
use Rattle.txc_script.proofs.running.Running.answer_lines.Given as goal

abbrev pub invariant-lines : goal.invariant-lines
invariant-lines g l = record {
  counted : l.self.lines + length l.rest ≤ l.fn.self.lines + length l.fn.bytes;
  done : List ℕ;
  split : l.fn.bytes ≡ done ++ l.rest;
  answered : (start : g.row.K-State.Denot) (read written : List ℕ) → HasAnsweredLines (g.K.Script.kind l.fn.kind) start read written (progress_of l.fn.state l.fn.self)
      → HasAnsweredLines (g.K.Script.kind l.fn.kind) start (read ++ done) written (progress_of l.state l.self);
}

abbrev pub decreases-lines : goal.decreases-lines
decreases-lines g l = length l.rest
