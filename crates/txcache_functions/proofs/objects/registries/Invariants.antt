use Rattle.std.proofs.Common.{◌≡◌, All, vec_len}
use Rattle.txc_call_registry.specs.Objects.{numbers_of, AllIdle}
use Rattle.txcache_functions.specs.AnyFunction.{ALL_NUMBERS}
use Rattle.txcache_functions.proofs.objects.registries.Given as goal

abbrev pub invariant-loop : goal.invariant-loop
invariant-loop l = record {
  all : All (λ r. numbers_of r ≡ ALL_NUMBERS) l.registries.items;
  idle : All AllIdle l.registries.items;
  few : vec_len l.registries ≡ l.counter;
}
