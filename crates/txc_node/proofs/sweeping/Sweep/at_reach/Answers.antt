use Rattle.std.proofs.Common.{◌≡◌, true, List, ap, sym, subst, ◌∙◌}
use Rattle.txc_node.specs.declared.entry.Entry.{Entry}
use Rattle.txc_node.specs.declared.place.Place.{Place}
use Rattle.txc_node.specs.Places.{place_at}
use Rattle.txc_node.specs.IndexedEntries.{entries_of, entry_at}
use Rattle.txc_node.specs.Sweep.{Sheds, elsewhere, ends_by}
use Rattle.txc_node.proofs.Sweepings.{none_elsewhere, shed_at}
use Rattle.txc_node.proofs.sweeping.Sweep.at_reach.Goals as goal

pub returns-then-ends-clause-sheds : goal.returns-then-ends-clause-sheds
returns-then-ends-clause-sheds c =
    let a = c.args in
    let s = a.self.now in
    let es = entries_of a.cache.now.entries in
    let ended : ends_by s.processed s.horizon a.reach ≡ true = sym c.ends.ensures ∙ c.if-ends.true in
    let left = c.take_out.ensures.left ∙ ap (λ (q : Place). elsewhere q es) (c.new.ensures ∙ ap (place_at a.key.now) c.lo.ensures) in
    subst (λ (xs : List Entry). Sheds s.processed s.horizon es xs) (sym left) (shed_at s.processed s.horizon es a.key.now a.reach c.requires.stored.apart c.requires.reach ended)

pub returns-then-ends-clause-gone : goal.returns-then-ends-clause-gone
returns-then-ends-clause-gone c = λ ended.
    let a = c.args in
    let es = entries_of a.cache.now.entries in
    let q = place_at a.key.now a.reach.lo in
    let left = c.take_out.ensures.left ∙ ap (λ (r : Place). elsewhere r es) (c.new.ensures ∙ ap (place_at a.key.now) c.lo.ensures) in
    ap (λ (xs : List Entry). entry_at xs q) left ∙ none_elsewhere q es
