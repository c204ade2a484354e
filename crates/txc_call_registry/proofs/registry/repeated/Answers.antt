use Rattle.std.proofs.Common.{eqb, ◌∙◌, subst, refl, arith, eq-eqb}
use Rattle.txc_call_registry.proofs.Repeats.{AllFirst, twice_here, distinct_at, told_apart}
use Rattle.txc_call_registry.proofs.registry.repeated.Goals as goal

pub returns-then-ne-clause-some : goal.returns-then-ne-clause-some
returns-then-ne-clause-some g c =
    twice_here g.C.Cacheable.number c.args.objects.now.items c.loop-i.i c.number-number.result c.index.result.now (omega arith) c.index.ensures c.number-number.ensures
    (λ e. told_apart eqb c.place.result c.loop-i.i c.ne.result (eq-eqb _ _ refl) c.ne.ensures c.if-ne.true (c.place.ensures ∙ e))

pub returns-clause-none : goal.returns-clause-none
returns-clause-none g c same =
    distinct_at g.C.Cacheable.number c.args.objects.now.items (subst (λ n. AllFirst g.C.Cacheable.number c.args.objects.now.items n) (omega arith) c.loop-i.invariant)
