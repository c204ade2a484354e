use Rattle.std.proofs.Common.{◌∷◌, take}
use Rattle.std.specs.List.{flat_map}
use Rattle.std.specs.Fmt.{decimal, HasWritten, IsPlainFormatter}
use Rattle.txc_tags.proofs.text.key.KeyDisplay.fmt.Given as goal

abbrev pub invariant-loop-arg : goal.invariant-loop-arg
invariant-loop-arg g l =
    IsPlainFormatter l.initial.f → HasWritten g.W.Write.write_str_gives l.initial.f (flat_map (λ arg. 44 ∷ decimal arg) (take l.arg-index l.others)) l.f
