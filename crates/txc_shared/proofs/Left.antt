-- What a node that ends has left.
use Rattle.std.proofs.Common.{◌≡◌, ℕ, List, [], ◌∷◌, ◌++◌, subst}
use Rattle.std.specs.List.{AllByRecursion}
use Rattle.txc_db.specs.History.{History}
use Rattle.txc_node.specs.declared.entry.Entry.{Entry}
use Rattle.txc_app.specs.Eval.{Next}
use Rattle.txc_shared.specs.Runs.{IsShownTrue}

module _ (next : Next) (L : History) (processed : ℕ) where
  split_last : (before : List Entry) (last : Entry) → AllByRecursion (IsShownTrue next L processed) (before ++ last ∷ [])
      → AllByRecursion (IsShownTrue next L processed) before × IsShownTrue next L processed last
  split_last [] last h = (tt, h.0)
  split_last (e ∷ es) last h = let rest = split_last es last h.1 in ((h.0, rest.0), rest.1)

  module _ (old new : List Entry) (last : Entry) (is : old ≡ new ++ last ∷ []) (h : AllByRecursion (IsShownTrue next L processed) old) where
    -- those before the last show what is true
    pub rest_true : AllByRecursion (IsShownTrue next L processed) new
    rest_true = (split_last new last (subst (AllByRecursion (IsShownTrue next L processed)) is h)).0

    -- and so does the last
    pub last_true : IsShownTrue next L processed last
    last_true = (split_last new last (subst (AllByRecursion (IsShownTrue next L processed)) is h)).1
