use Rattle.std.proofs.Common.{◌≡◌, None, subst}
use Rattle.std.specs.List.{AllByRecursion}
use Rattle.sqlite_trees.proofs.ListLemmas.{IsPermutation-same}
use Rattle.txc_rows.proofs.Slotting.{alive_placed}
use Rattle.txc_rows.proofs.current.Current.note_left.Goals as goal

pub returns : goal.returns
returns c = λ from.
    let alive : AllByRecursion (λ x. x.version.died ≡ None) c.args.self.now = subst (AllByRecursion (λ x. x.version.died ≡ None)) c.self.view_is c.self.invariant.alive in
    IsPermutation-same _ _ (alive_placed from c.args.self.now alive)
