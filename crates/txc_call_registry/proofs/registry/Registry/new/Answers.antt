use Rattle.std.proofs.Common.{◌≡◌, ℕ}
use Rattle.std.proofs.lemmas.List.Elements.{All-map}
use Rattle.std.proofs.lemmas.Simd.{map-map}
use Rattle.txc_call_registry.specs.Activity.{Activity, idle}
use Rattle.txc_call_registry.proofs.Places.{entry}
use Rattle.txc_call_registry.proofs.registry.Registry.new.Goals as goal

pub returns-clause-answer : goal.returns-clause-answer
returns-clause-answer g c = map-map (λ (o : ℕ × Activity). o.0) (entry g.C.Cacheable.number g.C.Cacheable.activity) c.args.objects.items

pub returns-clause-idle : goal.returns-clause-idle
returns-clause-idle g c = All-map (λ (o : ℕ × Activity). o.1 ≡ idle) (entry g.C.Cacheable.number g.C.Cacheable.activity) c.args.objects.items c.requires.idle
