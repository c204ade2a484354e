use Rattle.std.proofs.Common.{◌≡◌, ℕ, List, map, subst, arith}
use Rattle.std.proofs.lemmas.Grind.{common_steps}
use Rattle.std.proofs.lemmas.List.Elements.{All-rest}
use Rattle.txc_call_definition.specs.contracts.function.FunctionCacheable.TheImpl as function
use Rattle.txc_call_registry.specs.Objects.{HasTwice}
use Rattle.txc_site_workers.proofs.Listing.{one_listed_more}
use Rattle.txc_site_workers.proofs.function_table.registry.Goals as goal

pub loop-definition-preserved : goal.loop-definition-preserved
loop-definition-preserved g c =
    let object = function.ghosts g.row.D g.D.Definition function.no_dict function.no_dict in
    let before = c.loop-definition.invariant in
    let step = c.in-Some.ensures.steps.0 in
    record {
      idle = c.enlist.ensures.all_idle;
      mean = c.enlist.ensures.all_mean;
      left = All-rest (λ e. g.D.Definition.says e ≡ g.A.App.next.says (g.D.Definition.number e)) _ _ _ step before.left;
      numbers =
          one_listed_more object.number g.D.Definition.number c.loop-definition.objects.items c.enlist.new.objects.items c.new-object.result c.in-Some.definition _ _
          g.A.FunctionTable.numbers before.numbers step c.new-object.ensures.number c.in_ok-enlist.ensures.after;
    }

pub returns-in-Err-clause-refused : goal.returns-in-Err-clause-refused
returns-in-Err-clause-refused g c =
    let object = function.ghosts g.row.D g.D.Definition function.no_dict function.no_dict in
    let all : map object.number c.loop-definition.objects.items ≡ g.A.FunctionTable.numbers = grind (arith, common_steps) in
    subst (λ (fs : List ℕ). HasTwice c.in-Err.twice.0 fs) all c.in-Err.ensures.refused
