use Rattle.std.proofs.Common.{take}
use Rattle.std.specs.List.{flat_map}
use Rattle.std.specs.Fmt.{HasWritten, IsPlainFormatter}
use Rattle.txc_script_batch.specs.OutcomeTexts.{result_text}
use Rattle.txc_script_batch.proofs.batch_result.texts.BatchResultDisplay.fmt.Given as goal

abbrev pub invariant-loop-told : goal.invariant-loop-told
invariant-loop-told g l =
    IsPlainFormatter l.initial.f → HasWritten g.W.Write.write_str_gives l.initial.f (flat_map result_text (take l.told-index l.told-items)) l.f
