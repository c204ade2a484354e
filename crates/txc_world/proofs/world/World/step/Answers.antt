use Rattle.std.proofs.Common.{◌≡◌, ℕ, List, ap, map, refl, subst, sym, ◌∙◌}
use Rattle.txc_world.specs.declared.step.Step.TheVariants.{Actor}
use Rattle.txc_world.specs.StepEffects.{IsWholeStep}
use Rattle.txc_world.specs.KeeperStep.{KeepTransition}
use Rattle.txc_world.specs.Holdings.{account_at}
use Rattle.txc_world.specs.Observation.{begin_at, floor_at}
use Rattle.txc_world.specs.Worlds.{IsBalanced, WorldValue}
use Rattle.txc_world.proofs.Balance.{kept_balance}
use Rattle.txc_world.proofs.KeptLemmas.{kept_due, kept_no_receipt, kept_told}
use Rattle.txc_world.proofs.Stepping.{due_keep, told_keep, world_keeps}
use Rattle.txc_txn_rw.proofs.Holding.{holds_in_longer}
use Rattle.txc_db.proofs.Histories.{states_stay}
use Rattle.txc_world.proofs.world.World.step.Goals as goal

pub invariant_of-self : goal.invariant_of-self
invariant_of-self g c =
    world_keeps (holds_in_longer states_stay) g.A.App.next c.self-in-Keeper.inside.settings c.self-in-Keeper.inside.ports c.keep-reply.new.ports c.self-in-Keeper.inside.sessions.items c.self-in-Keeper.inside.actors.items
    c.self-in-Keeper.invariant c.keep-reply.ensures.keeps

-- it begins at the floor of its session
pub returns-in-BeginIn : goal.returns-in-BeginIn
returns-in-BeginIn g c =
    let at : c.floor_at-at_least.result ≡ floor_at c.args.self.now.told.floors c.in-BeginIn.actor =
    c.floor_at-at_least.ensures ∙ ap (λ (floors : List ℕ). floor_at floors c.in-BeginIn.actor) (c.deref.ensures.value ∙ ap (λ (w : WorldValue). w.told.floors) c.self.view_is) in
    let acted = subst (λ (n : ℕ). IsWholeStep g.A.App.next c.args.self.now (Actor c.in-BeginIn.actor (begin_at n c.in-BeginIn.now c.in-BeginIn.staleness)) c.act-in-BeginIn.result c.act-in-BeginIn.new.self)
    at c.act-in-BeginIn.ensures in
    rw c.in-BeginIn.is (record {
      told = acted.told;
      transition = acted.transition;
      world = acted.world;
      due = acted.due;
      explained = acted.explained;
      balanced = acted.balanced;
    })

pub returns-in-Keeper : goal.returns-in-Keeper
returns-in-Keeper g c =
    let told = ap (λ (w : WorldValue). w.told) c.self-in-Keeper.view_is in
    let keep = c.in-Keeper.doing in
    let led = c.keep-reply.ensures.transition in
    let shown = kept_told c.self-in-Keeper.inside.ports c.keep-reply.new.ports keep c.keep-reply.result led in
    rw c.in-Keeper.is (record {
      told = told_keep c.self-in-Keeper.inside.settings c.self-in-Keeper.inside.ports c.self-in-Keeper.inside.sessions.items c.self-in-Keeper.inside.actors.items c.keep-reply.new.ports keep c.keep-reply.result c.args.self.now.told
          shown.0 shown.1 told;
      transition = (
        subst (λ (w : WorldValue). KeepTransition keep w.ports c.keep-reply.new.ports c.keep-reply.result) c.self-in-Keeper.view_is led,
        ap (λ (w : WorldValue). w.actors) c.self-in-Keeper.view_is,
      );
      world = record {
        history = refl;
        spare = refl;
        count = c.keep-reply.ensures.keeps.count ∙ c.self-in-Keeper.invariant.nodes;
        nodes = c.are_true.ensures;
      };
      due = due_keep c.self-in-Keeper.inside.settings c.self-in-Keeper.inside.ports c.self-in-Keeper.inside.sessions.items c.self-in-Keeper.inside.actors.items keep c.keep-reply.result c.args.self.now.told
          c.self-in-Keeper.invariant.nodes (kept_due c.self-in-Keeper.inside.ports c.keep-reply.new.ports keep c.keep-reply.result led) told;
      explained = kept_no_receipt c.self-in-Keeper.inside.ports c.keep-reply.new.ports keep c.keep-reply.result led;
      balanced = λ in_hand h tidy. (
        kept_balance c.self-in-Keeper.inside.ports c.keep-reply.new.ports c.count_right.ensures keep c.keep-reply.result led in_hand (map account_at c.self-in-Keeper.inside.actors.items) tidy (subst (λ (w : WorldValue). IsBalanced w in_hand) (sym c.self-in-Keeper.view_is) h),
        tt,
      );
    })
