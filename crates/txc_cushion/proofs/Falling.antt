-- Lists of pins whose stamps fall.
use Rattle.std.proofs.Common.{◌≡◌, ℕ, ◌<◌, Bool, List, ◌∷◌, length, map, take, get_or, suc, sym, ◌∙◌, ap, arith, All, Contains, filter, ◌⊎◌, inl, inr}
use Rattle.std.proofs.lemmas.Bool.{cases_order}
use Rattle.std.proofs.lemmas.List.{get_or-take, get_or-map, get_or_default, length-take, length-map}
use Rattle.std.proofs.lemmas.List.Kept.{AllPairs-filter}
use Rattle.txc_cushion.specs.declared.entry.PinEntry.{PinEntry}
use Rattle.txc_cushion.specs.Pin.{PinsDescend}
use Rattle.txc_cushion.specs.Entries.{EntriesDescend, pins_of}

-- ---- the first of the list, and the others

pub falls_head : (e : PinEntry) (es : List PinEntry) → EntriesDescend (e ∷ es) → All (λ o. o.pin.stamp < e.pin.stamp) es
falls_head e es falls = λ k d below. falls 0 (suc k) d (omega arith) (omega (arith, below))

pub falls_tail : (e : PinEntry) (es : List PinEntry) → EntriesDescend (e ∷ es) → EntriesDescend es
falls_tail e es falls = λ i j d less below. falls (suc i) (suc j) d (omega (arith, less)) (omega (arith, below))

-- ---- parts of it

pub falls_filter : (p : PinEntry → Bool) (es : List PinEntry) → EntriesDescend es → EntriesDescend (filter p es)
falls_filter p es falls = AllPairs-filter (λ (newer older : PinEntry). older.pin.stamp < newer.pin.stamp) p es falls

pub falls_take : (n : ℕ) (es : List PinEntry) → EntriesDescend es → EntriesDescend (take n es)
falls_take n es falls = λ i j d less below.
    let short = length-take n es in
    let i_within : i < n = omega (arith, short, below, less) in
    let j_within : j < n = omega (arith, short, below) in
    rw (get_or-take n es i d i_within, get_or-take n es j d j_within) (falls i j d less (omega (arith, short, below)))

-- the pins alone
pub falls_pins : (es : List PinEntry) → EntriesDescend es → PinsDescend (pins_of es)
falls_pins es falls = λ i j d less below.
    let long : length (pins_of es) ≡ length es = length-map es (λ (e : PinEntry). e.pin) in
    let d' : PinEntry = record { pin = d; users = 0 } in
    let at_i : get_or (pins_of es) i d ≡ (get_or es i d').pin = get_or-map (λ (e : PinEntry). e.pin) es i d' d (omega (arith, long, below, less)) in
    let at_j : get_or (pins_of es) j d ≡ (get_or es j d').pin = get_or-map (λ (e : PinEntry). e.pin) es j d' d (omega (arith, long, below)) in
    rw (at_i, at_j) (falls i j d' less (omega (arith, long, below)))

-- what is done to each entry alone, and leaves its pin
pub falls_map : (f : PinEntry → PinEntry) → ((e : PinEntry) → (f e).pin ≡ e.pin) → (es : List PinEntry) → EntriesDescend es → EntriesDescend (map f es)
falls_map f same es falls = λ i j d less below.
    let long : length (map f es) ≡ length es = length-map es f in
    let at_i : get_or (map f es) i d ≡ f (get_or es i d) = get_or-map f es i d d (omega (arith, long, below, less)) in
    let at_j : get_or (map f es) j d ≡ f (get_or es j d) = get_or-map f es j d d (omega (arith, long, below)) in
    rw (at_i, at_j, same (get_or es i d), same (get_or es j d)) (falls i j d less (omega (arith, long, below)))

-- ---- one pin of each stamp

abbrev stamp_of : PinEntry → ℕ
stamp_of e = e.pin.stamp

pub one_of_each : (es : List PinEntry) (a b : PinEntry) → EntriesDescend es → Contains es a → Contains es b → a.pin.stamp ≡ b.pin.stamp → a ≡ b
one_of_each es a b falls (i, i_below, i_at) (j, j_below, j_at) same = go (cases_order i j)
  where
    go : (i ≡ j) ⊎ ((i < j) ⊎ (j < i)) → a ≡ b
    go (inl eq) = sym i_at ∙ (get_or_default es i a b i_below ∙ (ap (λ (n : ℕ). get_or es n b) eq ∙ j_at))
    go (inr (inl less)) =
        let at_j : get_or es j a ≡ b = get_or_default es j a b j_below ∙ j_at in
        let below : b.pin.stamp < a.pin.stamp = omega (arith, falls i j a less j_below, ap stamp_of i_at, ap stamp_of at_j) in
        absurd (omega (arith, below, same))
    go (inr (inr less)) =
        let at_i : get_or es i b ≡ a = get_or_default es i b a i_below ∙ i_at in
        let below : a.pin.stamp < b.pin.stamp = omega (arith, falls j i b less i_below, ap stamp_of j_at, ap stamp_of at_i) in
        absurd (omega (arith, below, same))
