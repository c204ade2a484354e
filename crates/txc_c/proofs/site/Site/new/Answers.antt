use Rattle.std.proofs.Common.{◌≡◌, ◌∙◌, ℕ, List, Option, None, get_or, ap, arith, refl, sym, subst}
use Rattle.txc_caller.specs.Ports.{HasEventRoom}
use Rattle.txc_shared.specs.Nodes.{start_of}
use Rattle.txc_shared.specs.declared.settings.NodeSettings.{NodeSettings}
use Rattle.txc_c.specs.declared.opened.Opened.{Opened}
use Rattle.txc_c.proofs.Places.{none_some}
use Rattle.txc_c.proofs.Sized.{may_have_room, may_hold, may_keep}
use Rattle.txc_c.proofs.site.Site.new.Goals as goal

pub new-requires : goal.new-requires
new-requires c = record {
  room = may_have_room c.args.settings.now c.requires c.room.result c.room.ensures;
  node = may_hold c.args.settings.now c.requires c.node.result c.node.ensures;
  recent = may_keep c.args.settings.now c.requires c.node.result c.node.ensures;
}

pub invariant_of-result : goal.invariant_of-result
invariant_of-result c = record {
  placed = λ place o there. absurd (none_some o (sym (ap (λ (slots : List (Option Opened)). get_or slots place None) c.new-2.ensures.empty) ∙ there));
  few = omega arith;
}

pub returns-clause-made : goal.returns-clause-made
returns-clause-made c = record {
  room = subst (λ (room : Option ℕ). HasEventRoom room c.in_ok-caller.caller.ports.database.events) c.room.ensures c.in_ok-caller.ensures.room;
  database = c.in_ok-caller.ensures.new;
  cushion = c.in_ok-caller.ensures.cushion;
  node = subst (λ (node : NodeSettings). c.in_ok-caller.caller.ports.node.cache ≡ start_of node 0) c.node.ensures c.in_ok-caller.ensures.node;
  budget = c.in_ok-caller.ensures.budget ∙ c.budget.ensures;
  renew_after = c.in_ok-caller.ensures.renew_after ∙ c.renew_after.ensures;
  none = c.new-2.ensures.empty;
  first_place = c.new-2.ensures.first_key;
  begun = refl;
}
