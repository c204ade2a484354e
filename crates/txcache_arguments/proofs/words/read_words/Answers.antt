use Rattle.std.proofs.Common.{◌∙◌, Global, List, ℕ, [], ◌∷◌, ◌++◌, ap, map, string_bytes}
use Rattle.std.proofs.lemmas.List.{map-append}
use Rattle.txcache_arguments.proofs.words.read_words.Goals as goal

pub loop-number-preserved : goal.loop-number-preserved
loop-number-preserved g c =
    let bytes = string_bytes {Z = Global} in
    let before = c.loop-number.invariant in (
      before.0 ++ bytes c.in-Ok.word ∷ [],
      ap (map bytes) c.in_ok-push-in-Ok.ensures.items
          ∙ map-append bytes c.loop-number.words.items (c.in-Ok.word ∷ [])
          ∙ ap (λ (words : List (List ℕ)). words ++ bytes c.in-Ok.word ∷ []) before.1,
    )
