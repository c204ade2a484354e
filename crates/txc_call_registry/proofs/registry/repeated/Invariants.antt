use Rattle.txc_call_registry.proofs.Repeats.{AllFirst}
use Rattle.txc_call_registry.proofs.registry.repeated.Given as goal

abbrev pub invariant-loop-i : goal.invariant-loop-i
invariant-loop-i g l = AllFirst g.C.Cacheable.number l.objects.items l.i
