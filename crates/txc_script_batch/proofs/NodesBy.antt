-- Nodes that are made by their numbers.
use Rattle.std.proofs.Common.{◌≡◌, ℕ, zero, suc, List, [], ◌∷◌, ◌++◌, Some, length, slice_get, sym, ap, subst}
use Rattle.txc_script_settings.specs.declared.settings.Settings.{Settings}
use Rattle.txc_shared.specs.declared.settings.NodeSettings.{NodeSettings}
use Rattle.txc_script_batch.specs.BatchClients.{node_by}

-- each is made by its number
abbrev pub AreMadeBy : Settings → List NodeSettings → Type 0
AreMadeBy s nodes = (number : ℕ) (node : NodeSettings) → slice_get nodes number ≡ Some node → node ≡ node_by s number

pub numbered : (s : Settings) (m n : ℕ) → m ≡ n → node_by s m ≡ node_by s n
numbered s m n same = ap (node_by s) same

none_made : (s : Settings) (number : ℕ) (node : NodeSettings) → slice_get [] number ≡ Some node → node ≡ node_by s number
none_made s number node is = absurd (cc is)

pub no_node : (s : Settings) (nodes : List NodeSettings) → nodes ≡ [] → AreMadeBy s nodes
no_node s nodes none = subst (AreMadeBy s) (sym none) (none_made s)

-- what holds of each item by its place holds with one item more
each_push : {X : Type 0} (P : ℕ → X → Type 0) (xs : List X) (y : X) → ((i : ℕ) (x : X) → slice_get xs i ≡ Some x → P i x) → P (length xs) y
    → (i : ℕ) (x : X) → slice_get (xs ++ y ∷ []) i ≡ Some x → P i x
each_push P [] y h last zero x is = let same : y ≡ x = cc in subst (P 0) same last
each_push P [] y h last (suc i) x is = absurd (cc is)
each_push P (z ∷ zs) y h last zero x is = h zero x is
each_push P (z ∷ zs) y h last (suc i) x is = each_push (λ k. P (suc k)) zs y (λ k w at. h (suc k) w at) last i x is

pub one_node_more : (s : Settings) (nodes more : List NodeSettings) (node : NodeSettings) → AreMadeBy s nodes → node ≡ node_by s (length nodes) → more ≡ nodes ++ node ∷ [] → AreMadeBy s more
one_node_more s nodes more node made is more_is = subst (AreMadeBy s) (sym more_is) (each_push (λ number n. n ≡ node_by s number) nodes node made is)
