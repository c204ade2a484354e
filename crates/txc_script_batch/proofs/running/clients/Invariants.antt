use Rattle.std.proofs.Common.{◌≡◌, ◌+◌, All, length, map, vec_len}
use Rattle.txc_call_registry.specs.Objects.{numbers_of, AllIdle}
use Rattle.txc_script_batch.specs.WorkerFunctions.{numbers_in}
use Rattle.txc_script_batch.proofs.running.clients.Given as goal

abbrev pub invariant-loop-registry : goal.invariant-loop-registry
invariant-loop-registry g l = record {
  idle : All AllIdle l.registry-iterator.rest.items;
  left : All (λ objects. numbers_of objects ≡ numbers_in l.fn.crew.items) l.registry-iterator.rest.items;
  functions : All (λ client. numbers_of client.objects ≡ numbers_in l.fn.crew.items) l.clients.items;
  each : vec_len l.clients + length l.registry-iterator.rest.items ≡ vec_len l.fn.crew;
  nodes : All (λ client. map (λ pass. pass.settings) client.passes ≡ l.nodes) l.clients.items;
  renewal : All (λ client. client.renew_after ≡ l.renew_after) l.clients.items;
}
