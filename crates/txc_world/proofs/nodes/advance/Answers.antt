use Rattle.std.proofs.Common.{◌≡◌, ◌∙◌, false, sym, subst}
use Rattle.std.specs.Prelude.{OnOk}
use Rattle.txc_db.specs.DatabaseValue.{front_of}
use Rattle.txc_db.specs.FrontsAndFeeds.{FrontValue}
use Rattle.txc_shared.specs.Nodes.{IsLonger}
use Rattle.txc_world.proofs.NodeLemmas.{advanced_so}
use Rattle.txc_world.proofs.nodes.advance.Goals as goal

pub returns : goal.returns
returns g c =
    let node = c.args.node.now in
    let is : node.broken ≡ false = sym c.is_broken.ensures ∙ c.if-is_broken.false in
    let longer = subst (λ (front : FrontValue). OnOk c.advance.result (IsLonger node.seen front c.advance.new.self.seen)) c.in_ok-whole.ensures c.advance.ensures.seen in
    advanced_so c.args.pass (front_of c.args.database.now) node c.advance.new.self c.advance.result is (c.requires.part is) longer c.advance.ensures.after c.advance.ensures.left c.advance.ensures.refused
