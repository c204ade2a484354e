use Rattle.std.proofs.Common.{Contains}
use Rattle.std.proofs.lemmas.List.Elements.{All-same}
use Rattle.std.proofs.lemmas.List.Sorted.{All-permutation}
use Rattle.txc_work.specs.declared.job.Receipted.{Receipted}
use Rattle.txc_work.proofs.numbering.in_order.Goals as goal

pub find_fault-requires : goal.find_fault-requires
find_fault-requires c =
    let known = λ (r : Receipted). Contains c.args.numbers.now r.number in
    All-same known _ _ c.as_slice.ensures.value (All-permutation known _ _ c.sort_unstable_by_key.ensures.permutation c.requires)
