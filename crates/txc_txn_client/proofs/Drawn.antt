-- Passes that are drawn, one through each node.
use Rattle.std.proofs.Common.{◌≡◌, ℕ, ◌+◌, ◌<◌, List, [], ◌∷◌, ◌++◌, map, length, get_or, take, sym, ap, subst, ◌∙◌, rules}
use Rattle.std.specs.Prelude.{All}
use Rattle.std.proofs.lemmas.List.{map-append, take_more}
use Rattle.std.proofs.lemmas.List.Elements.{All-append}
use Rattle.txc_shared.specs.declared.settings.NodeSettings.{NodeSettings}
use Rattle.txc_shared.specs.Passes.{PassValue}

abbrev pub settings_of : PassValue → NodeSettings
settings_of p = p.settings

module _ (passes more : List PassValue) (p : PassValue) (drawn : more ≡ passes ++ p ∷ []) where
  -- with one more, there is a pass through one node more
  pub one_more : (nodes : List NodeSettings) (i : ℕ) (node : NodeSettings) → i < length nodes → map settings_of passes ≡ take i nodes
      → p.settings ≡ node → node ≡ get_or nodes i node → map settings_of more ≡ take (i + 1) nodes
  one_more nodes i node within so_far own at =
      ap (map settings_of) drawn
      ∙ map-append settings_of passes (p ∷ [])
      ∙ ap (λ (l : List NodeSettings). l ++ p.settings ∷ []) so_far
      ∙ ap (λ (s : NodeSettings). take i nodes ++ s ∷ []) (own ∙ at)
      ∙ sym (take_more nodes i node within)

  -- none has seen a record
  pub none_seen : All (λ q. q.records ≡ []) passes → p.records ≡ [] → All (λ q. q.records ≡ []) more
  none_seen before own = subst (All (λ q. q.records ≡ [])) (sym drawn) (All-append (λ q. q.records ≡ []) passes (p ∷ []) before (λ k d within. search rules))
