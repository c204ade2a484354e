-- What a lookup leaves.
use Rattle.std.proofs.Common.{◌≡◌, ℕ, List, ◌∷◌, Some, ap, sym, ◌∙◌}
use Rattle.txc_node.specs.declared.entry.Entry.{Entry}
use Rattle.txc_tags.specs.Keys.{Call}
use Rattle.txc_node.specs.Entries.{others}
use Rattle.txc_node.specs.Cache.{Cache, found, after_use, after_lookup}

-- the cache after a lookup that found e
pub after_found : (c : Cache) (key : Call) (lo hi : ℕ) (e : Entry) (es : List Entry) → found c key lo hi ≡ Some e
    → es ≡ e ∷ others e c.entries → (let d : Cache = record c { entries = es } in d ≡ after_lookup c key lo hi)
after_found c key lo hi e es h k = ap (λ (xs : List Entry). let d : Cache = record c { entries = xs } in d) k ∙ sym (ap (after_use c) h)
