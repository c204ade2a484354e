use Rattle.std.proofs.Common.{ap}
use Rattle.std.specs.Ordering.{is_eq}
use Rattle.txc_rows.proofs.IndexLemmas.{spot_cmp, removed, none_equal, spot_itself}
use Rattle.txc_rows.proofs.replaced.drop_spot.Goals as goal

pub returns : goal.returns
returns c = λ others off same.
    let s = c.args.spot in
    rw c.remove.ensures.keys (removed (λ t. is_eq (spot_cmp s t)) s others c.args.spots.now.keys (ap is_eq (spot_itself s)) (none_equal s others off) same)
