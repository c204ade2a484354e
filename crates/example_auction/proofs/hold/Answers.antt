use Rattle.std.proofs.Common.{◌∙◌}
use Rattle.example_auction.proofs.Returns.{asked_in_generations, few_in_generations, torn_in_generations}
use Rattle.example_auction.proofs.hold.Goals as goal

-- each number of the arguments fits its type
pub grand_total-requires : goal.grand_total-requires
grand_total-requires g c =
    let served = c.in_ok-served.ensures.served.came in
    let numbers = c.well_formed.1.1.0.1.1 in
    few_in_generations _ _ c.args.arguments _ _ _ c.deref.result.now c.in_ok-served.served.end c.in_ok-served-2.field-0 c.in_ok-served-2.was c.deref.ensures.value served
    numbers.1.1.1.1.0.1 numbers.0.1 numbers.1.0.1

pub returns : goal.returns
returns g c =
    let served = c.in_ok-served.ensures.served.came in
    record {
      asked =
          c.grand_total.ensures.pages
          ∙ asked_in_generations _ _ c.args.arguments _ _ _ c.deref.result.now c.in_ok-served.served.end c.in_ok-served-2.field-0 c.in_ok-served-2.was c.deref.ensures.value served;
      whole = λ one.
          c.grand_total.ensures.torn
          ∙ torn_in_generations _ _ c.args.arguments _ _ _ c.deref.result.now c.in_ok-served.served.end c.in_ok-served-2.field-0 c.in_ok-served-2.was c.deref.ensures.value served one;
    }
