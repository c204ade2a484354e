-- A pin more.
use Rattle.std.proofs.Common.{◌≡◌, ℕ, ◌+◌, ◌<◌, ◌≤◌, ◌==◌, ◌||◌, nat_lt, Bool, true, false, List, [], ◌∷◌, ◌++◌, length, filter, cond, suc, Some, refl, sym, ◌∙◌, ap, subst, arith, All, ◌⊎◌, inl, inr, eq-eqb}
use mathlib.Core.List.{IsPrefix}
use Rattle.std.specs.List.{insert}
use Rattle.std.proofs.lemmas.Bool.{cases_order}
use Rattle.std.proofs.lemmas.Bool.Decides.{nat_tests}
use Rattle.std.proofs.lemmas.List.Edits.{length-insert}
use Rattle.std.proofs.lemmas.List.Elements.{All-nil, All-cons, All-head, All-tail, All-append, All-filter, All-weaker}
use Rattle.std.proofs.lemmas.List.Kept.{AllPairs-cons}
use Rattle.std.proofs.lemmas.List.Sums.{length-filter, count_by-le-length}
use Rattle.txc_stream.proofs.Offered.{prefix_length, prefix_whole}
use Rattle.txc_db.specs.History.{History, moment_at}
use Rattle.txc_db.proofs.Histories.{moment_stays}
use Rattle.txc_cushion.specs.declared.entry.PinEntry.{PinEntry}
use Rattle.txc_cushion.specs.Entries.{EntriesDescend, is_pinned, with_entry}
use Rattle.txc_cushion.specs.Cushion.{CushionValue, IsCushion, longer_of}
use Rattle.txc_cushion.specs.Refusals.{IsAddable}
use Rattle.txc_cushion.proofs.Falling.{falls_head, falls_tail}

-- ---- where the entry goes

-- where all stamps are below this one, none is above it
all_below : (s : ℕ) (es : List PinEntry) → All (λ o. o.pin.stamp < s) es
    → (filter (λ e. nat_lt s e.pin.stamp) es ≡ []) × (filter (λ e. nat_lt e.pin.stamp s) es ≡ es)
all_below s [] h = (refl, refl)
all_below s (e ∷ es) h =
    let here : e.pin.stamp < s = All-head (λ (o : PinEntry). o.pin.stamp < s) e es h in
    let rest = all_below s es (All-tail (λ (o : PinEntry). o.pin.stamp < s) e es h) in
    let not_newer : nat_lt s e.pin.stamp ≡ false = grind (arith, nat_tests) in
    let older : nat_lt e.pin.stamp s ≡ true = grind (arith, nat_tests) in
    (rw not_newer rest.0, rw older (ap (λ (l : List PinEntry). e ∷ l) rest.1))

-- below the first entry, all are
below_first : (s : ℕ) (e : PinEntry) (es : List PinEntry) → EntriesDescend (e ∷ es) → e.pin.stamp < s → All (λ o. o.pin.stamp < s) (e ∷ es)
below_first s e es falls less =
    All-cons (λ (o : PinEntry). o.pin.stamp < s) e es less
    (All-weaker (λ (o : PinEntry). o.pin.stamp < e.pin.stamp) (λ (o : PinEntry). o.pin.stamp < s) (λ o h. omega (arith, h, less)) es (falls_head e es falls))

-- the list with the entry goes on after its first entry as the rest does
pub goes_on : (new e : PinEntry) (es : List PinEntry) → new.pin.stamp < e.pin.stamp → with_entry new (e ∷ es) ≡ e ∷ with_entry new es
goes_on new e es less =
    let newer : nat_lt new.pin.stamp e.pin.stamp ≡ true = grind (arith, nat_tests) in
    let not_older : nat_lt e.pin.stamp new.pin.stamp ≡ false = grind (arith, nat_tests) in
    rw (newer, not_older) refl

-- it stands before all that are below it
pub stands_first : (new e : PinEntry) (es : List PinEntry) → EntriesDescend (e ∷ es) → e.pin.stamp < new.pin.stamp → with_entry new (e ∷ es) ≡ new ∷ e ∷ es
stands_first new e es falls less =
    let all = all_below new.pin.stamp (e ∷ es) (below_first new.pin.stamp e es falls less) in
    ap (λ (l : List PinEntry). l ++ new ∷ filter (λ (o : PinEntry). nat_lt o.pin.stamp new.pin.stamp) (e ∷ es)) all.0
    ∙ ap (λ (l : List PinEntry). new ∷ l) all.1

pub not_first : (s : ℕ) (e : PinEntry) (es : List PinEntry) → is_pinned s (e ∷ es) ≡ false → e.pin.stamp ≡ s → ⊥
not_first s e es absent same = let here : (e.pin.stamp == s) ≡ true = eq-eqb e.pin.stamp s same in let absent' : true ≡ false = rw here at absent in cc

pub not_after : (s : ℕ) (e : PinEntry) (es : List PinEntry) → is_pinned s (e ∷ es) ≡ false → is_pinned s es ≡ false
not_after s e es absent = go (e.pin.stamp == s) absent
  where
    go : (b : Bool) → b || is_pinned s es ≡ false → is_pinned s es ≡ false
    go true h = absurd (let f = h in cc)
    go false h = h

pub insert_is : (new : PinEntry) (es : List PinEntry) → EntriesDescend es → is_pinned new.pin.stamp es ≡ false
    → insert es (length (filter (λ e. nat_lt new.pin.stamp e.pin.stamp) es)) new ≡ with_entry new es
insert_is new [] falls absent = refl
insert_is new (e ∷ es) falls absent = go (cases_order new.pin.stamp e.pin.stamp) (insert_is new es (falls_tail e es falls) (not_after new.pin.stamp e es absent))
  where
    go : (new.pin.stamp ≡ e.pin.stamp) ⊎ ((new.pin.stamp < e.pin.stamp) ⊎ (e.pin.stamp < new.pin.stamp))
        → insert es (length (filter (λ o. nat_lt new.pin.stamp o.pin.stamp) es)) new ≡ with_entry new es
        → insert (e ∷ es) (length (filter (λ o. nat_lt new.pin.stamp o.pin.stamp) (e ∷ es))) new ≡ with_entry new (e ∷ es)
    go (inl same) rest = absurd (not_first new.pin.stamp e es absent (sym same))
    go (inr (inl less)) rest =
        let newer : nat_lt new.pin.stamp e.pin.stamp ≡ true = grind (arith, nat_tests) in
        let at : length (filter (λ (o : PinEntry). nat_lt new.pin.stamp o.pin.stamp) (e ∷ es)) ≡ suc (length (filter (λ (o : PinEntry). nat_lt new.pin.stamp o.pin.stamp) es)) = rw newer refl in
        ap (λ (n : ℕ). insert (e ∷ es) n new) at ∙ (ap (λ (l : List PinEntry). e ∷ l) rest ∙ sym (goes_on new e es less))
    go (inr (inr less)) rest =
        let all = all_below new.pin.stamp (e ∷ es) (below_first new.pin.stamp e es falls less) in
        ap (λ (l : List PinEntry). insert (e ∷ es) (length l) new) all.0 ∙ sym (stands_first new e es falls less)

-- ---- the list with it

pub with_entry_falls : (new : PinEntry) (es : List PinEntry) → EntriesDescend es → is_pinned new.pin.stamp es ≡ false → EntriesDescend (with_entry new es)
with_entry_falls new [] falls absent = AllPairs-cons (λ (newer older : PinEntry). older.pin.stamp < newer.pin.stamp) new [] (All-nil _) falls
with_entry_falls new (e ∷ es) falls absent = go (cases_order new.pin.stamp e.pin.stamp) (with_entry_falls new es (falls_tail e es falls) (not_after new.pin.stamp e es absent))
  where
    go : (new.pin.stamp ≡ e.pin.stamp) ⊎ ((new.pin.stamp < e.pin.stamp) ⊎ (e.pin.stamp < new.pin.stamp)) → EntriesDescend (with_entry new es) → EntriesDescend (with_entry new (e ∷ es))
    go (inl same) rest = absurd (not_first new.pin.stamp e es absent (sym same))
    go (inr (inl less)) rest =
        let head = falls_head e es falls in
        let below : All (λ (o : PinEntry). o.pin.stamp < e.pin.stamp) (with_entry new es) =
        All-append (λ (o : PinEntry). o.pin.stamp < e.pin.stamp) (filter (λ (o : PinEntry). nat_lt new.pin.stamp o.pin.stamp) es) (new ∷ filter (λ (o : PinEntry). nat_lt o.pin.stamp new.pin.stamp) es)
        (All-filter (λ (o : PinEntry). nat_lt new.pin.stamp o.pin.stamp) (λ (o : PinEntry). o.pin.stamp < e.pin.stamp) es head)
        (All-cons (λ (o : PinEntry). o.pin.stamp < e.pin.stamp) new (filter (λ (o : PinEntry). nat_lt o.pin.stamp new.pin.stamp) es) less (All-filter (λ (o : PinEntry). nat_lt o.pin.stamp new.pin.stamp) (λ (o : PinEntry). o.pin.stamp < e.pin.stamp) es head))
        in
        subst EntriesDescend (sym (goes_on new e es less)) (AllPairs-cons (λ (newer older : PinEntry). older.pin.stamp < newer.pin.stamp) e (with_entry new es) below rest)
    go (inr (inr less)) rest =
        subst EntriesDescend (sym (stands_first new e es falls less))
        (AllPairs-cons (λ (newer older : PinEntry). older.pin.stamp < newer.pin.stamp) new (e ∷ es) (below_first new.pin.stamp e es falls less) falls)

pub length_with_entry : (new : PinEntry) (es : List PinEntry) → EntriesDescend es → is_pinned new.pin.stamp es ≡ false → length (with_entry new es) ≡ length es + 1
length_with_entry new es falls absent =
    let count = length-filter (λ (e : PinEntry). nat_lt new.pin.stamp e.pin.stamp) es in
    let most = count_by-le-length (λ (e : PinEntry). nat_lt new.pin.stamp e.pin.stamp) es in
    sym (ap length (insert_is new es falls absent)) ∙ length-insert es (length (filter (λ (e : PinEntry). nat_lt new.pin.stamp e.pin.stamp) es)) new (omega (arith, count, most))

-- what holds of each entry and of the new one holds of each with it
pub all_with_entry : (P : PinEntry → Type 0) (new : PinEntry) (es : List PinEntry) → P new → All P es → All P (with_entry new es)
all_with_entry P new es here all =
    All-append P (filter (λ (e : PinEntry). nat_lt new.pin.stamp e.pin.stamp) es) (new ∷ filter (λ (e : PinEntry). nat_lt e.pin.stamp new.pin.stamp) es)
    (All-filter (λ (e : PinEntry). nat_lt new.pin.stamp e.pin.stamp) P es all)
    (All-cons P new (filter (λ (e : PinEntry). nat_lt e.pin.stamp new.pin.stamp) es) here (All-filter (λ (e : PinEntry). nat_lt e.pin.stamp new.pin.stamp) P es all))

-- ---- histories

-- what shows both of two histories, and is one of them, is the longer
pub longer_is : (a b now : History) → (now ≡ a) ⊎ (now ≡ b) → IsPrefix a now → IsPrefix b now → now ≡ longer_of a b
longer_is a b now one this that = go (nat_lt (length a) (length b)) refl one
  where
    go : (t : Bool) → nat_lt (length a) (length b) ≡ t → (now ≡ a) ⊎ (now ≡ b) → now ≡ cond t b a
    go true is (inr same) = same
    go true is (inl same) =
        let less : length a < length b = grind (arith, nat_tests) in
        let most = prefix_length b now that in
        absurd (omega (arith, less, most, ap length same))
    go false is (inl same) = same
    go false is (inr same) =
        let most : length b ≤ length a = grind (arith, nat_tests) in
        sym (prefix_whole a now this (omega (arith, most, ap length same)))

-- ---- the pincushion with it

pub added_is : (c : CushionValue) (history : History) (new : PinEntry) → IsCushion c → IsAddable c new.pin.stamp
    → IsPrefix c.history history → moment_at history new.pin.stamp ≡ Some new.pin.moment
    → IsCushion (record c { history = history; entries = with_entry new c.entries })
added_is c history new is addable begins shows = record {
  falls = with_entry_falls new c.entries is.falls addable.absent;
  shown = all_with_entry (λ (e : PinEntry). moment_at history e.pin.stamp ≡ Some e.pin.moment) new c.entries shows
      (All-weaker (λ (e : PinEntry). moment_at c.history e.pin.stamp ≡ Some e.pin.moment) (λ (e : PinEntry). moment_at history e.pin.stamp ≡ Some e.pin.moment)
      (λ e shown. moment_stays c.history history e.pin.stamp e.pin.moment begins shown) c.entries is.shown);
  few = let long = length_with_entry new c.entries is.falls addable.absent in let room = addable.room in omega (arith, long, room);
}
