use Rattle.std.proofs.Common.{◌≡◌, ◌++◌, All, map}
use Rattle.txc_call_definition.specs.contracts.function.FunctionCacheable.TheImpl as function
use Rattle.txc_call_registry.specs.Activity.{idle}
use Rattle.txc_site_workers.proofs.function_table.registry.Given as goal

abbrev pub invariant-loop-definition : goal.invariant-loop-definition
invariant-loop-definition g l =
    let c = function.ghosts g.row.D g.D.Definition function.no_dict function.no_dict in
    let d = g.D.Definition in
    record {
      idle : All (λ o. c.activity o ≡ idle) l.objects.items;
      mean : All (λ o. c.says o ≡ g.A.App.next.says (c.number o)) l.objects.items;
      left : All (λ e. d.says e ≡ g.A.App.next.says (d.number e)) l.definition-iterator.rest.items;
      numbers : map c.number l.objects.items ++ map d.number l.definition-iterator.rest.items ≡ g.A.FunctionTable.numbers;
    }
