-- Passes that have grown.
use Rattle.std.proofs.Common.{◌≡◌, ◌∙◌, ℕ, zero, suc, List, [], ◌∷◌, ◌++◌, map, length, get_or, set, refl, sym, ap, subst, append-nil, append_assoc}
use mathlib.Core.List.{IsPrefix}
use Rattle.txc_shared.specs.declared.settings.NodeSettings.{NodeSettings}
use Rattle.txc_shared.specs.Passes.{PassValue, HasGrown}
use Rattle.txc_shared.proofs.Together.{grown_self, grown_then}
use Rattle.txc_txn_client.specs.Ports.{HaveGrown}

module _ {X : Type 0} where
  pub prefix_self : (xs : List X) → IsPrefix xs xs
  prefix_self xs = ([], append-nil xs)

  pub prefix_then : (xs ys zs : List X) → IsPrefix xs ys → IsPrefix ys zs → IsPrefix xs zs
  prefix_then xs ys zs a b = (a.0 ++ b.0, sym (append_assoc xs a.0 b.0) ∙ ap (λ (l : List X). l ++ b.0) a.1 ∙ b.1)

pub have_grown_self : (ps : List PassValue) → HaveGrown ps ps
have_grown_self [] = tt
have_grown_self (p ∷ ps) = (grown_self p, have_grown_self ps)

pub have_grown_then : (ps qs rs : List PassValue) → HaveGrown ps qs → HaveGrown qs rs → HaveGrown ps rs
have_grown_then [] [] [] a b = tt
have_grown_then [] [] (r ∷ rs) a b = absurd b
have_grown_then [] (q ∷ qs) rs a b = absurd a
have_grown_then (p ∷ ps) [] rs a b = absurd a
have_grown_then (p ∷ ps) (q ∷ qs) [] a b = absurd b
have_grown_then (p ∷ ps) (q ∷ qs) (r ∷ rs) a b = (grown_then p q r a.0 b.0, have_grown_then ps qs rs a.1 b.1)

-- one of them has
pub one_has_grown : (ps : List PassValue) (i : ℕ) (old new : PassValue) → old ≡ get_or ps i old → HasGrown old new → HaveGrown ps (set ps i new)
one_has_grown [] i old new at h = tt
one_has_grown (p ∷ ps) zero old new at h = (subst (λ (w : PassValue). HasGrown w new) at h, have_grown_self ps)
one_has_grown (p ∷ ps) (suc i) old new at h = (grown_self p, one_has_grown ps i old new at h)

-- it is a pass of the same node
pub settings_stay : (ps : List PassValue) (i : ℕ) (old new : PassValue) → old ≡ get_or ps i old → new.settings ≡ old.settings
    → map (λ (p : PassValue). p.settings) (set ps i new) ≡ map (λ (p : PassValue). p.settings) ps
settings_stay [] i old new at same = refl
settings_stay (p ∷ ps) zero old new at same =
    ap (λ (s : NodeSettings). s ∷ map (λ (p : PassValue). p.settings) ps) (same ∙ ap (λ (w : PassValue). w.settings) at)
settings_stay (p ∷ ps) (suc i) old new at same = ap (λ (l : List NodeSettings). p.settings ∷ l) (settings_stay ps i old new at same)

-- as many passes as before
pub as_many : (ps qs : List PassValue) → HaveGrown ps qs → length qs ≡ length ps
as_many [] [] h = refl
as_many [] (q ∷ qs) h = absurd h
as_many (p ∷ ps) [] h = absurd h
as_many (p ∷ ps) (q ∷ qs) h = ap suc (as_many ps qs h.1)
