-- Lines are answered in one way, where no step is refused for memory.
use Rattle.std.proofs.Common.{◌≡◌, ◌≢◌, ℕ, ◌+◌, List, [], ◌∷◌, refl, sym, ap, subst, ◌∙◌}
use Rattle.std.specs.List.{AllByRecursion}
use Rattle.std.proofs.lemmas.List.Elements.{recursion_from_All}
use Rattle.txc_node.specs.declared.value.TheConstants.{MAX_VALUE_LEN}
use Rattle.txc_node.specs.declared.op.Op.{Op}
use Rattle.txc_node.specs.declared.refusal.Refusal.TheVariants.{Memory}
use Rattle.txc_node.specs.declared.reply.Reply.TheVariants.{Refused}
use Rattle.txc_node.specs.Cache.{Cache}
use Rattle.txc_node.specs.Steps.{MayReply}
use Rattle.txc_node.proofs.Offered.{replied_one_way}
use Rattle.txc_script.specs.Kinds.{Given, Nothing, Replied, Malformed, AreGiven, Gives}
use Rattle.txc_node.specs.declared.hit.HitValue.{HitValue}
use Rattle.txc_node.specs.declared.reply.Reply.{Reply}
use Rattle.txc_script_settings.specs.declared.mode.Mode.{Mode}
use Rattle.txc_script_node.specs.NodeScripts.{node_script}
use Rattle.txc_script_node.specs.Laws.{HadMemory}
use Rattle.txc_script_node.proofs.OneThing.{no_quiet_step, one_step}

record SameGiven (a b : Given Op (Reply HitValue)) (next other : Cache) : Type 0 where
  given : a ≡ b
  state : next ≡ other

same_given : (F : Type 0) (how : Mode) (c : Cache) (n : ℕ) (line : List ℕ) (a b : Given Op (Reply HitValue)) (next other : Cache) → ((op : Op) → a ≢ Replied op (Refused Memory)) → ((op : Op) → b ≢ Replied op (Refused Memory))
    → Gives (node_script {F = F} how) c n line a next → Gives (node_script {F = F} how) c n line b other → SameGiven a b next other
same_given F how c n line Nothing Nothing next other u v h k = record { given = refl; state = h.1 ∙ sym k.1 }
same_given F how c n line (Malformed m) (Malformed l) next other u v h k = record { given = ap Malformed (h.1 ∙ sym k.1); state = h.2 ∙ sym k.2 }
same_given F how c n line (Replied o r) (Replied p s) next other u v h k =
    let same : p ≡ o = one_step line p o k.0 h.0 in
    let may : MayReply MAX_VALUE_LEN c o s other = subst (λ (op : Op). MayReply MAX_VALUE_LEN c op s other) same k.1 in
    let x = replied_one_way MAX_VALUE_LEN c o r next (λ e. u o (ap (Replied o) e)) h.1 in
    let y = replied_one_way MAX_VALUE_LEN c o s other (λ e. v p (ap (Replied p) e)) may in
    record { given = ap (λ (op : Op). Replied op r) (sym same) ∙ ap (Replied p) (x.0 ∙ sym y.0); state = x.1 ∙ sym y.1 }
same_given F how c n line Nothing (Replied p s) next other u v h k = absurd (no_quiet_step line p h.0 k.0)
same_given F how c n line Nothing (Malformed l) next other u v h k = absurd (k.0.not_quiet h.0)
same_given F how c n line (Replied o r) Nothing next other u v h k = absurd (no_quiet_step line o k.0 h.0)
same_given F how c n line (Replied o r) (Malformed l) next other u v h k = absurd (k.0.asks_nothing o h.0)
same_given F how c n line (Malformed m) Nothing next other u v h k = absurd (h.0.not_quiet k.0)
same_given F how c n line (Malformed m) (Replied p s) next other u v h k = absurd (h.0.asks_nothing p k.0)

one_way : (F : Type 0) (how : Mode) (c : Cache) (n : ℕ) (lines : List (List ℕ)) (a b : List (Given Op (Reply HitValue))) (end other : Cache) → AreGiven (node_script {F = F} how) c n lines a end → AreGiven (node_script {F = F} how) c n lines b other
    → AllByRecursion (λ g. (op : Op) → g ≢ Replied op (Refused Memory)) a → AllByRecursion (λ g. (op : Op) → g ≢ Replied op (Refused Memory)) b → (a ≡ b) × (end ≡ other)
one_way F how c n [] [] [] end other h k u v = (refl, h ∙ sym k)
one_way F how c n [] [] (g ∷ b) end other h k u v = absurd k
one_way F how c n [] (g ∷ a) b end other h k u v = absurd h
one_way F how c n (line ∷ lines) [] b end other h k u v = absurd h
one_way F how c n (line ∷ lines) (g ∷ a) [] end other h k u v = absurd k
one_way F how c n (line ∷ lines) (f ∷ a) (g ∷ b) end other h k u v =
    let p = same_given F how c n line f g h.0 k.0 u.0 v.0 h.1 k.1 in
    let rest : AreGiven (node_script {F = F} how) h.0 (n + 1) lines b other = subst (λ (s : Cache). AreGiven (node_script {F = F} how) s (n + 1) lines b other) (sym p.state) k.3 in
    let q = one_way F how h.0 (n + 1) lines a b end other h.3 rest u.1 v.1 in
    (ap (λ (x : Given Op (Reply HitValue)). x ∷ a) p.given ∙ ap (λ (xs : List (Given Op (Reply HitValue))). g ∷ xs) q.0, q.1)

pub answered_one_way : (F : Type 0) (how : Mode) (c : Cache) (number : ℕ) (lines : List (List ℕ)) (a b : List (Given Op (Reply HitValue))) (end other : Cache)
    → AreGiven (node_script {F = F} how) c number lines a end → AreGiven (node_script {F = F} how) c number lines b other → HadMemory a → HadMemory b → (a ≡ b) × (end ≡ other)
answered_one_way F how c number lines a b end other h k u v =
    one_way F how c number lines a b end other h k (recursion_from_All (λ g. (op : Op) → g ≢ Replied op (Refused Memory)) a u) (recursion_from_All (λ g. (op : Op) → g ≢ Replied op (Refused Memory)) b v)
