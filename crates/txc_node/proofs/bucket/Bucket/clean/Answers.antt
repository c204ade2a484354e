use Rattle.std.proofs.Common.{◌≡◌, List, true, false, refl, ◌∙◌, sym, subst}
use Rattle.txc_node.specs.declared.place.Place.{Place}
use Rattle.txc_node.specs.IndexedEntries.{has_place, is_live}
use Rattle.txc_node.proofs.Buckets.{is_later, not_dead}
use Rattle.txc_node.proofs.bucket.Bucket.clean.Goals as goal

pub returns-clause-kept : goal.returns-clause-kept
returns-clause-kept c = λ t q live h.
    let i = c.self.inside in
    let ps = c.args.entries.now.entries in
    let dead : is_live ps i.first ≡ false = sym c.is_live.ensures ∙ c.if-is_live.false in
    let there = subst (λ (qs : List Place). has_place qs q ≡ true) (sym c.self.view_is) h in
    let kept = c.clean.ensures q live (is_later q i.first i.others (not_dead ps i.first q dead live) there) in
    c.drop_first.ensures.kept t q i.first c.clean.new.self refl kept
