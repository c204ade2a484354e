use Rattle.std.proofs.Common.{◌≡◌, List, ap, sym, subst, ◌∙◌}
use mathlib.Core.List.{IsPrefix}
use Rattle.txc_stream.specs.FrontValue.{Shown}
use Rattle.txc_stream.proofs.Offered.{prefix_self}
use Rattle.txc_node.specs.declared.record.Record.{Record}
use Rattle.txc_shared.specs.Histories.{records_of}
use Rattle.txc_shared.specs.Passes.{IsLegalOver}
use Rattle.txc_shared.proofs.Passes.{none_over}
use Rattle.txc_shared.proofs.node_pass.NodePass.new.Goals as goal

pub invariant_of-result : goal.invariant_of-result
invariant_of-result g c =
    let row = g.J.Naming.database_history in
    let own : c.again-own.result.list ≡ c.args.records.records = ap (λ (s : Shown Record). s.list) c.again-own.ensures ∙ c.front.ensures.records in
    let none = none_over c.legal_histories.ensures.none row c.args.events.history c.args.settings in (
      c.requires.name,
      c.requires.events,
      ap (records_of c.args.pass) (sym (own ∙ c.requires.none)),
      subst (λ (l : List Record). IsPrefix l c.args.records.records) (sym own) (prefix_self c.args.records.records),
      subst (IsLegalOver row c.args.events.history c.args.settings) (sym c.requires.none) none,
    )
