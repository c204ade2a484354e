use Rattle.std.proofs.Common.{◌≡◌, ◌∙◌, ◌+◌, ℕ, ◌++◌, ◌∷◌, [], length, length-append, ap, sym, subst}
use Rattle.txc_db.specs.DatabaseValue.{front_of}
use Rattle.txc_world.specs.NewWorld.{AreNewNodes}
use Rattle.txc_world.proofs.MakingLemmas.{new_nodes_push}
use Rattle.txc_world.proofs.ports.making.new_nodes.Goals as goal

pub loop-number-preserved : goal.loop-number-preserved
loop-number-preserved g c =
    let nodes = c.loop-number.nodes.items in
    let node = c.in_ok-new_node.field-0 in
    let more : c.push.new.self.items ≡ nodes ++ node ∷ [] = c.in_ok-push.ensures.items in (
      ap length more ∙ (length-append nodes (node ∷ []) ∙ ap (λ (n : ℕ). n + 1) c.loop-number.invariant.0),
      subst (AreNewNodes c.args.settings.now c.args.passes (front_of c.args.database.now)) (sym more)
          (new_nodes_push c.args.settings.now c.args.passes (front_of c.args.database.now) nodes node c.loop-number.number c.loop-number.invariant.0 c.loop-number.invariant.1 c.in_ok-new_node.ensures),
    )
