use Rattle.std.proofs.Common.{◌≡◌, ap, sym, subst, ◌∙◌}
use Rattle.txc_stream.proofs.Offered.{longer_is, prefix_trans}
use Rattle.txc_shared.specs.declared.settings.NodeSettings.{NodeSettings}
use Rattle.txc_shared.specs.Passes.{PassValue, IsLegalOver}
use Rattle.txc_shared.proofs.Passes.{over_as, met_legal}
use Rattle.txc_shared.proofs.node_pass.meet.Goals as goal

pub invariant_of-one : goal.invariant_of-one
invariant_of-one g c =
    let same : c.one.inside.settings ≡ c.other.inside.settings = ap (λ (p : PassValue). p.settings) c.one.view_is ∙ (c.requires ∙ sym (ap (λ (p : PassValue). p.settings) c.other.view_is)) in (
      c.longer.ensures.name ∙ c.one.invariant.0,
      c.longer-3.ensures.events ∙ c.one.invariant.1,
      c.one.invariant.2,
      prefix_trans c.one.inside.own.list c.one.inside.records.records c.longer.new.self.records c.one.invariant.3 c.longer.ensures.this,
      met_legal c.legal_histories.ensures.longer g.J.Naming.database_history c.one.inside.events.history c.other.inside.events.history c.longer-3.new.self.history c.one.inside.settings
          c.one.inside.records.records c.other.inside.records.records c.longer.new.self.records c.longer-3.ensures.this c.longer-3.ensures.that c.one.invariant.4
          (subst (λ (s : NodeSettings). IsLegalOver g.J.Naming.database_history c.other.inside.events.history s c.other.inside.records.records) (sym same) c.other.invariant.4) c.longer.ensures.one,
    )

pub invariant_of-other : goal.invariant_of-other
invariant_of-other g c =
    let same : c.one.inside.settings ≡ c.other.inside.settings = ap (λ (p : PassValue). p.settings) c.one.view_is ∙ (c.requires ∙ sym (ap (λ (p : PassValue). p.settings) c.other.view_is)) in
    let legal = met_legal c.legal_histories.ensures.longer g.J.Naming.database_history c.one.inside.events.history c.other.inside.events.history c.longer-3.new.self.history c.one.inside.settings
    c.one.inside.records.records c.other.inside.records.records c.longer.new.self.records c.longer-3.ensures.this c.longer-3.ensures.that c.one.invariant.4
    (subst (λ (s : NodeSettings). IsLegalOver g.J.Naming.database_history c.other.inside.events.history s c.other.inside.records.records) (sym same) c.other.invariant.4) c.longer.ensures.one in
    let records = longer_is c.other.inside.records.records c.longer.new.self.records c.longer-2.new.self.records c.longer.ensures.that c.longer-2.ensures.one c.longer-2.ensures.that in
    let history = longer_is c.other.inside.events.history c.longer-3.new.self.history c.longer-4.new.self.history c.longer-3.ensures.that c.longer-4.ensures.one c.longer-4.ensures.that in (
      c.longer-2.ensures.name ∙ c.other.invariant.0,
      c.longer-4.ensures.events ∙ c.other.invariant.1,
      c.other.invariant.2,
      prefix_trans c.other.inside.own.list c.other.inside.records.records c.longer-2.new.self.records c.other.invariant.3 c.longer-2.ensures.this,
      over_as g.J.Naming.database_history c.longer-4.new.self.history c.longer-3.new.self.history c.other.inside.settings c.one.inside.settings c.longer-2.new.self.records c.longer.new.self.records
          history (sym same) records legal,
    )

pub returns-clause-other : goal.returns-clause-other
returns-clause-other g c =
    let records = longer_is c.other.inside.records.records c.longer.new.self.records c.longer-2.new.self.records c.longer.ensures.that c.longer-2.ensures.one c.longer-2.ensures.that in
    let history = longer_is c.other.inside.events.history c.longer-3.new.self.history c.longer-4.new.self.history c.longer-3.ensures.that c.longer-4.ensures.one c.longer-4.ensures.that in
    λ i. record { settings = (c.other.view_is i).settings; pass = (c.other.view_is i).pass; own = (c.other.view_is i).own; records = records i; history = history i }

pub returns-clause-legal : goal.returns-clause-legal
returns-clause-legal g c =
    let same : c.one.inside.settings ≡ c.other.inside.settings = ap (λ (p : PassValue). p.settings) c.one.view_is ∙ (c.requires ∙ sym (ap (λ (p : PassValue). p.settings) c.other.view_is)) in
    met_legal c.legal_histories.ensures.longer g.J.Naming.database_history c.one.inside.events.history c.other.inside.events.history c.longer-3.new.self.history c.one.inside.settings
    c.one.inside.records.records c.other.inside.records.records c.longer.new.self.records c.longer-3.ensures.this c.longer-3.ensures.that c.one.invariant.4
    (subst (λ (s : NodeSettings). IsLegalOver g.J.Naming.database_history c.other.inside.events.history s c.other.inside.records.records) (sym same) c.other.invariant.4) c.longer.ensures.one
