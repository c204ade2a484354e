use Rattle.std.proofs.Common.{◌≡◌, ◌⊎◌, List, ap, subst, ◌∙◌}
use mathlib.Core.List.{IsPrefix}
use Rattle.txc_stream.proofs.Offered.{shorter_begins}
use Rattle.txc_node.specs.declared.record.Record.{Record}
use Rattle.txc_shared.specs.Nodes.{NodeFrontValue, NodeValue}
use Rattle.txc_shared.specs.Passes.{PassValue}
use Rattle.txc_shared.proofs.Locking.{turn_between}
use Rattle.txc_shared.proofs.held.Held.admits.Goals as goal

pub returns : goal.returns
returns g c =
    let n = c.args.self.now in
    let p = c.args.pass.now in
    let mine = c.pass.inside.records.records in
    let shown : c.front.result.now.records ≡ n.records = ap (λ (f : NodeFrontValue). f.records) c.front.ensures ∙ ap (λ (m : NodeValue). m.records) c.self.view_is in
    let seen : mine ≡ p.records = ap (λ (q : PassValue). q.records) c.pass.view_is in
    let either : IsPrefix p.records n.records ⊎ IsPrefix n.records p.records =
    subst (λ (xs : List Record). IsPrefix xs n.records ⊎ IsPrefix n.records xs) seen
    (subst (λ (ys : List Record). IsPrefix mine ys ⊎ IsPrefix ys mine) shown c.agree.ensures) in
    let begins = shorter_begins p.records n.records either c.requires.agrees.seen in
    record {
      ahead = record { whole = c.requires.whole; settings = c.requires.agrees.settings; own = c.requires.agrees.own; records = begins };
      turn = turn_between p.pass p.own p.records n.records c.is_legal.ensures.own begins c.requires.agrees.turn;
    }
