use Rattle.std.proofs.Common.{◌≡◌, ◌+◌, ◌*◌, ◌≤◌, List, ℕ, []}
use Rattle.std.specs.Io.KnownBytes.{Appends, Consumes}
use Rattle.txc_script.specs.Progress.{progress_of, HasAnsweredLines}
use Rattle.txc_script.proofs.run.answer_script.Given as goal

abbrev pub invariant-reads : goal.invariant-reads
invariant-reads g l = record {
  counted : l.running.lines + l.reads.left * 16384 ≤ 1048576 * 16384;
  read : List ℕ;
  written : List ℕ;
  consumed : Consumes (g.R.Read.remaining l.fn.reader) (g.R.Read.remaining l.reader) read;
  appended : Appends (g.W.Write.contents l.fn.writer) (g.W.Write.contents l.writer) written;
  answered : HasAnsweredLines (g.K.Script.kind l.fn.kind) l.fn.state read written (progress_of l.state l.running);
  none : l.running.replies.text.items ≡ [];
}

abbrev pub decreases-reads : goal.decreases-reads
decreases-reads g l = l.reads.left
