use Rattle.std.proofs.Common.{◌∷◌, take}
use Rattle.std.specs.List.{flat_map}
use Rattle.std.specs.Fmt.{HasWritten, IsPlainFormatter}
use Rattle.txc_tags.specs.TextTag.{tag_text}
use Rattle.txc_tags.proofs.text.set.TagSetDisplay.fmt.Given as goal

abbrev pub invariant-loop-tag : goal.invariant-loop-tag
invariant-loop-tag g l =
    IsPlainFormatter l.initial.f → HasWritten g.W.Write.write_str_gives l.initial.f (flat_map (λ tag. 44 ∷ tag_text tag) (take l.tag-index l.others)) l.f
