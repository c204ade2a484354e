-- The place of an entry: its key, and its first stamp.
use Rattle.std.proofs.Common.{◌≡◌, ◌==◌, ◌&&◌, ◌+◌, ◌*◌, ◌%◌, ◌^◌, Bool, ℕ, true, refl, ap, subst, ◌∙◌}
use Rattle.std.specs.Bool.{Decides}
use Rattle.std.specs.Hash.{HashWrites, same_Alike}
use borrow.Author.Tests.{eqb-true, eq-eqb}
use Rattle.txc_tags.proofs.Offered.{same_call_is, same_call_itself, both_true, and_true}
use Rattle.txc_tags.specs.Keys.{Call, same_call}
use Rattle.txc_node.specs.declared.entry.Entry.{Entry}
use Rattle.txc_node.specs.declared.place.Place.{Place}
use Rattle.txc_node.specs.declared.mixing.TheConstants.{MIX}
use Rattle.txc_node.specs.declared.place.TheConstants.{STAMPS}

-- the place of a key and a first stamp
abbrev pub place_at : Call → ℕ → Place
place_at key lo = record { key = key; lo = lo }

-- the place of an entry
abbrev pub place_of : Entry → Place
place_of e = place_at e.key e.reach.lo

-- the function and the first stamp in one number
abbrev pub head_of : Place → ℕ
head_of p = p.key.function * STAMPS + p.lo

-- a number more, in a word of 64 bits
abbrev pub mixed : ℕ → ℕ → ℕ
mixed word number = (word * MIX % 2 ^ 64 + number) % 2 ^ 64

-- the same key and the same first stamp
abbrev pub equal_places : Place → Place → Bool
equal_places a b = same_call a.key b.key && a.lo == b.lo

-- the test of two places decides if they are equal
pub equal_places_itself : (a : Place) → equal_places a a ≡ true
equal_places_itself a =
    and_true (same_call a.key a.key) (a.lo == a.lo) (same_call_itself a.key) (eq-eqb a.lo a.lo refl)

pub equal_places_is : (a b : Place) → equal_places a b ≡ true → a ≡ b
equal_places_is a b e =
    let two = both_true (same_call a.key b.key) (a.lo == b.lo) e in
    ap (λ k. place_at k a.lo) (same_call_is a.key b.key two.0) ∙ ap
    (λ n. place_at b.key n) (eqb-true a.lo b.lo two.1)

pub equal_places_decides : (a b : Place) → Decides (equal_places a b) (a ≡ b)
equal_places_decides a b =
    (equal_places_is a b, λ e. subst (λ (c : Place). equal_places a c ≡ true) e (equal_places_itself a))

pub equal_places_alike : (feed : Place → HashWrites) (x y : Place) → equal_places x y ≡ true → feed x ≡ feed y
equal_places_alike feed = (same_Alike feed equal_places_decides).fed

-- the test of two calls decides if they are equal
pub same_call_decides : (a b : Call) → Decides (same_call a b) (a ≡ b)
same_call_decides a b =
    (same_call_is a b, λ e. subst (λ (c : Call). same_call a c ≡ true) e (same_call_itself a))

pub same_call_alike : (feed : Call → HashWrites) (x y : Call) → same_call x y ≡ true → feed x ≡ feed y
same_call_alike feed = (same_Alike feed same_call_decides).fed
