use Rattle.txc_script.proofs.Streams.{written_more, written_within}
use Rattle.txc_script.proofs.writer.write_text.Goals as goal

pub loop-at-preserved : goal.loop-at-preserved
loop-at-preserved g c = record {
  within = written_within c.args.text.now _ _ c.loop-at.invariant.within c.in-Ok.ensures.bound;
  written = written_more _ _ _ c.args.text.now _ _ c.loop-at.invariant.written c.in-Ok.ensures.bytes;
}
