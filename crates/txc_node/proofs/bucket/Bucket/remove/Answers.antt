use Rattle.std.proofs.Common.{◌≡◌, List, true, ◌∙◌, sym, subst}
use Rattle.txc_node.specs.declared.place.Place.{Place}
use Rattle.txc_node.specs.Places.{equal_places}
use Rattle.txc_node.specs.IndexedEntries.{has_place}
use Rattle.txc_node.proofs.Buckets.{is_later, not_first}
use Rattle.txc_node.proofs.bucket.Bucket.remove.Goals as goal

pub returns-then-eq-clause-kept : goal.returns-then-eq-clause-kept
returns-then-eq-clause-kept c = λ t q other h.
    let i = c.self.inside in
    let is : equal_places i.first c.args.place.now ≡ true = sym c.eq.ensures ∙ c.if-eq.true in
    let there = subst (λ (ps : List Place). has_place ps q ≡ true) (sym c.self.view_is) h in
    c.drop_first.ensures.kept t q i.first i.others (sym c.self.view_is) (is_later q i.first i.others (not_first c.args.place.now i.first q is other) there)
