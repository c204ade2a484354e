use Rattle.std.proofs.Common.{◌≡◌, length, map, sym, ap, ◌∙◌, arith}
use Rattle.std.proofs.lemmas.Grind.{common_steps}
use Rattle.std.proofs.lemmas.List.Elements.{All-head, All-push, All-rest, All-same}
use Rattle.txc_call_registry.specs.Objects.{Objects, numbers_of, AllIdle}
use Rattle.txc_shared.specs.Passes.{PassValue}
use Rattle.txc_txn_client.specs.RoTxn.{ClientValue}
use Rattle.txc_script_batch.specs.WorkerFunctions.{numbers_in}
use Rattle.txc_script_batch.proofs.running.clients.Goals as goal

pub loop-registry-preserved : goal.loop-registry-preserved
loop-registry-preserved g c =
    let has = λ (client : ClientValue). numbers_of client.objects ≡ numbers_in c.args.crew.items in
    let through = λ (client : ClientValue). map (λ (pass : PassValue). pass.settings) client.passes ≡ c.args.nodes.now in
    let renews = λ (client : ClientValue). client.renew_after ≡ c.args.renew_after in
    let of = λ (objects : Objects). numbers_of objects ≡ numbers_in c.args.crew.items in
    let before = c.loop-registry.invariant in
    let its = All-head of _ _ (All-same of _ _ (sym c.in-Some.ensures.steps.0) before.left) in
    record {
      idle = All-rest AllIdle _ _ _ c.in-Some.ensures.steps.0 before.idle;
      left = All-rest of _ _ _ c.in-Some.ensures.steps.0 before.left;
      functions = All-same has _ _ c.in_ok-push-in-Ok.ensures.items (All-push has _ _ before.functions (ap numbers_of c.in-Ok.ensures.functions ∙ its));
      nodes = All-same through _ _ c.in_ok-push-in-Ok.ensures.items (All-push through _ _ before.nodes c.in-Ok.ensures.nodes);
      renewal = All-same renews _ _ c.in_ok-push-in-Ok.ensures.items (All-push renews _ _ before.renewal c.in-Ok.ensures.renew_after);
      each = grind (arith, common_steps, before.each, ap length c.in-Some.ensures.steps.0);
    }
