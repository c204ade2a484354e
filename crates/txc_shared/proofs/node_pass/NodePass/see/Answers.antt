use Rattle.std.proofs.Common.{◌≡◌, ◌⊎◌, List, refl, ap, sym, subst, ◌∙◌}
use mathlib.Core.List.{IsPrefix}
use Rattle.txc_stream.specs.FrontValue.{Shown}
use Rattle.txc_stream.proofs.Offered.{prefix_self}
use Rattle.txc_node.specs.declared.record.Record.{Record}
use Rattle.txc_shared.specs.Histories.{records_of}
use Rattle.txc_shared.specs.Passes.{PassValue}
use Rattle.txc_shared.proofs.Passes.{taken_over, over_longer, over_as}
use Rattle.txc_shared.proofs.node_pass.NodePass.see.Goals as goal

pub invariant_of-self : goal.invariant_of-self
invariant_of-self g c =
    let records = taken_over c.self.inside.records.records c.args.records.now.records c.longer.new.self.records c.args.self.now.records c.args.records.now.records
    (ap (λ (p : PassValue). p.records) c.self.view_is) refl c.requires.records c.longer.ensures.one c.longer.ensures.that in
    let own : c.again.result.list ≡ c.args.records.now.records = ap (λ (s : Shown Record). s.list) c.again.ensures ∙ c.front.ensures.records in
    let row = g.J.Naming.database_history in
    let now = c.longer-2.new.self.history in
    let legal = over_longer c.legal_histories.ensures.longer row c.args.events.now.history now c.args.self.now.settings c.args.records.now.records c.longer-2.ensures.that c.requires.legal in (
      c.longer.ensures.name ∙ c.self.invariant.0,
      c.longer-2.ensures.events ∙ c.self.invariant.1,
      c.requires.turn ∙ (λ i. records_of ((sym c.self.view_is) i).pass ((sym own) i)),
      subst (λ (l : List Record). IsPrefix l c.longer.new.self.records) (sym own) (subst (IsPrefix c.args.records.now.records) (sym records) (prefix_self c.args.records.now.records)),
      over_as row now now c.self.inside.settings c.args.self.now.settings c.longer.new.self.records c.args.records.now.records
          refl (ap (λ (p : PassValue). p.settings) c.self.view_is) records legal,
    )

pub returns : goal.returns
returns g c =
    let records = taken_over c.self.inside.records.records c.args.records.now.records c.longer.new.self.records c.args.self.now.records c.args.records.now.records
    (ap (λ (p : PassValue). p.records) c.self.view_is) refl c.requires.records c.longer.ensures.one c.longer.ensures.that in
    let own : c.again.result.list ≡ c.args.records.now.records = ap (λ (s : Shown Record). s.list) c.again.ensures ∙ c.front.ensures.records in
    let now = c.longer-2.new.self.history in
    record {
      grown = record {
        is = λ i. record { settings = (c.self.view_is i).settings; pass = (c.self.view_is i).pass; own = c.again.result.list; records = c.longer.new.self.records; history = now };
        records = subst (IsPrefix c.args.self.now.records) (sym records) c.requires.records;
        history = subst (λ (p : PassValue). IsPrefix p.history now) c.self.view_is c.longer-2.ensures.this;
      };
      own = own;
      records = records;
      either = subst (λ (p : PassValue). (now ≡ p.history) ⊎ (now ≡ c.args.events.now.history)) c.self.view_is c.longer-2.ensures.one;
      history = c.longer-2.ensures.that;
    }
