use Rattle.std.proofs.Common.{◌≡◌, filter, sym, subst, ◌∙◌}
use Rattle.txc_rows.specs.ReplacedIndex.{dies_within, spot_suits, spots_asked}
use Rattle.txc_rows.proofs.IndexLemmas.{between_all, within_fit}
use Rattle.txc_rows.proofs.replaced.spots_for.Goals as goal

pub returns-in-All-clause-spots : goal.returns-in-All-clause-spots
returns-in-All-clause-spots c =
    let ids = filter (dies_within c.args.deaths) c.args.ids.now.keys in
    let groups = filter (dies_within c.args.deaths) c.args.groups.now.keys in
    subst (λ q. filter (dies_within c.args.deaths) c.spots_between-in-All.result ≡ filter (spot_suits q) (spots_asked q ids groups)) (sym c.in-All.is)
    (c.spots_between-in-All.ensures.spots ∙ between_all c.in-All.table ids (within_fit c.args.deaths c.args.ids.now.keys c.requires.ids))
