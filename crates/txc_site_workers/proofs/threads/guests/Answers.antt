use Rattle.std.proofs.Common.{◌≡◌, refl, arith}
use Rattle.std.proofs.lemmas.Grind.{common_steps}
use Rattle.std.proofs.lemmas.List.Elements.{All-push, All-same}
use Rattle.txc_site_workers.specs.Sites.{IsNewClient}
use Rattle.txc_site_workers.proofs.Guests.{one_number_more}
use Rattle.txc_site_workers.proofs.threads.guests.Goals as goal

pub loop-number-preserved : goal.loop-number-preserved
loop-number-preserved g c =
    let before = c.loop-number.invariant in
    let client = c.in_ok-client.ensures in
    record {
      each = grind (arith, common_steps, before.each);
      numbers = one_number_more (λ guest. guest.number) _ _ _ c.loop-number.number before.numbers refl c.in_ok-push.ensures.items;
      plan =
          All-same (λ guest. guest.client.plan ≡ c.args.foundation.now.plan) _ _ c.in_ok-push.ensures.items
          (All-push (λ guest. guest.client.plan ≡ c.args.foundation.now.plan) _ _ before.plan client.plan);
      new =
          All-same (λ guest. IsNewClient g.J.Naming.node_histories guest.client) _ _ c.in_ok-push.ensures.items
          (All-push (λ guest. IsNewClient g.J.Naming.node_histories guest.client) _ _ before.new client.new);
    }
