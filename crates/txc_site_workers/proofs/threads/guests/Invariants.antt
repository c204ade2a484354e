use Rattle.std.proofs.Common.{◌≡◌, All, map, vec_len}
use Rattle.txc_site_workers.specs.Sites.{numbers_below, IsNewClient}
use Rattle.txc_site_workers.proofs.threads.guests.Given as goal

abbrev pub invariant-loop-number : goal.invariant-loop-number
invariant-loop-number g l = record {
  each : vec_len l.guests ≡ l.number;
  numbers : map (λ guest. guest.number) l.guests.items ≡ numbers_below l.number;
  plan : All (λ guest. guest.client.plan ≡ l.foundation.plan) l.guests.items;
  new : All (λ guest. IsNewClient g.J.Naming.node_histories guest.client) l.guests.items;
}
