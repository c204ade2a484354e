use Rattle.std.proofs.Common.{sym, ◌∙◌}
use Rattle.txc_call_registry.specs.Activity.{idle}
use Rattle.txc_call_registry.proofs.Places.{changed, stays, no_change}
use Rattle.txc_call_registry.proofs.registry.Registry.release.Goals as goal

pub invariant_of-self : goal.invariant_of-self
invariant_of-self g c = stays g.C.Cacheable.number g.C.Cacheable.activity c.self.inside.objects.items c.args.f c.in-Some.at c.index_mut-object.result.now (sym c.place.ensures ∙ c.in-Some.is) c.index_mut-object.ensures.value g.C.Cacheable.says g.A.App.next.says c.release.new.self c.release.ensures.same_number c.release.ensures.same_meaning c.self.invariant

pub returns-in-Some : goal.returns-in-Some
returns-in-Some g c = rw (← c.self.view_is) (changed g.C.Cacheable.number g.C.Cacheable.activity c.self.inside.objects.items c.args.f c.in-Some.at c.index_mut-object.result.now (sym c.place.ensures ∙ c.in-Some.is) c.index_mut-object.ensures.value c.release.new.self idle c.release.ensures.same_number c.release.ensures.after)

pub returns-in_default : goal.returns-in_default
returns-in_default g c = rw (← c.self.view_is) (no_change g.C.Cacheable.number g.C.Cacheable.activity c.args.f c.self.inside.objects.items idle (sym c.place.ensures ∙ c.in_default.is))
