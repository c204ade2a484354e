-- What reads and writes leave, one after another.
use Rattle.std.proofs.Common.{ℕ, ◌+◌, ◌-◌, ◌≤◌, List, Option, length, take, drop, subst, arith}
use Rattle.std.specs.Io.KnownBytes.{Appends}
use Rattle.std.proofs.KnownBytes.{Appends-trans}
use Rattle.std.proofs.Math.Seq.{take-add}
use Rattle.std.proofs.lemmas.List.{take_rest, length-take, length-drop}

pub written_more : (a b c : Option (List ℕ)) (text : List ℕ) (at n : ℕ) → Appends a b (take at text) → Appends b c (take n (take (length text - at) (drop at text))) → Appends a c (take (at + n) text)
written_more a b c text at n h k =
    rw (take-add at n text) (Appends-trans a b c (take at text) (take n (drop at text)) h (subst (λ xs. Appends b c (take n xs)) (take_rest text at) k))

pub written_within : (text : List ℕ) (at n : ℕ) → at ≤ length text → n ≤ length (take (length text - at) (drop at text)) → at + n ≤ length text
written_within text at n h k = omega (arith, length-take (length text - at) (drop at text), length-drop at text)
