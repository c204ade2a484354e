-- Texts read piece by piece: where a text stops that is one piece and then another, or one of two.
use Rattle.std.proofs.Common.{◌≡◌, Result, Ok, Err, IfErr, ◌⊎◌, inl, inr, true, ℕ, ◌+◌, ◌-◌, ◌<◌, ◌≤◌, List, [], ◌∷◌, ◌++◌, false, true≢false, ◌==◌, length, take, drop, get_or, refl, sym, ap, subst, ◌∙◌, arith, append_assoc, append-nil, length-append}
use Rattle.std.proofs.lemmas.List.{take-append-drop, take_at, drop_more, length-take-le, append_cancel_left, nil_from_length}
use Rattle.std.proofs.lemmas.Bool.Decides.{nat_tests}
use Rattle.std.specs.Result.{IsErrAnd}
use Rattle.txc_tags.specs.TextGrammar.{IsText, IsPrefix, IsLongestPrefix}
use Rattle.txc_tags.specs.TextNumber.{IsDigit, BeginsWithNoDigit}
use Rattle.txc_tags.specs.TextReader.{IsWord, Then, Either, NoneGoesOn, Reads, Stops, GoesWrong, IsRefused}

-- two texts that begin one text are one, or one of them goes on after the other
abbrev pub Compared : List ℕ → List ℕ → List ℕ → List ℕ → Type 0
Compared x y r s = ((x ≡ y) × (r ≡ s))
    ⊎ (((b : ℕ) × (z : List ℕ) × (y ≡ x ++ b ∷ z) × (r ≡ b ∷ (z ++ s)))
    ⊎ ((b : ℕ) × (z : List ℕ) × (x ≡ y ++ b ∷ z) × (s ≡ b ∷ (z ++ r))))

pub compare : (x y r s : List ℕ) → x ++ r ≡ y ++ s → Compared x y r s
compare [] [] r s e = inl (refl, e)
compare [] (b ∷ y) r s e = inr (inl (b, y, refl, e))
compare (b ∷ x) [] r s e = inr (inr (b, x, refl, sym e))
compare (a ∷ x) (b ∷ y) r s e =
    let first : a ≡ b = cc in
    let others : x ++ r ≡ y ++ s = cc in
    elim (compare x y r s others) [
      | inl p ↦ inl ((let q = p.0 in cc), p.1)
      | inr (inl p) ↦ inr (inl (p.0, p.1, (let q = p.2 in cc), p.3))
      | inr (inr p) ↦ inr (inr (p.0, p.1, (let q = p.2 in cc), p.3))
    ]

-- no text of the first goes on with a byte that begins one of the second
abbrev pub Apart : (List ℕ → Type 0) → (List ℕ → Type 0) → Type 0
Apart First Second = (x y z : List ℕ) (b : ℕ) → First x → First (x ++ b ∷ y) → Second (b ∷ z) → ⊥

-- where nothing goes on with the first byte of the rest, nothing goes on with a rest that begins so
begins_so : (Language : List ℕ → Type 0) (x read : List ℕ) (byte : ℕ) (others more : List ℕ) → NoneGoesOn Language x (read ++ byte ∷ others) → NoneGoesOn Language x (read ++ byte ∷ more)
begins_so Language x [] byte others more none b rest y e = let f : byte ∷ others ≡ b ∷ others = (let g : byte ≡ b = cc in cc) in none b others y f
begins_so Language x (c ∷ read) byte others more none b rest y e = let f : c ∷ (read ++ byte ∷ others) ≡ b ∷ (read ++ byte ∷ others) = (let g : c ≡ b = cc in cc) in none b (read ++ byte ∷ others) y f

begins_with : (Language : List ℕ → Type 0) (x read rest : List ℕ) → NoneGoesOn Language x (read ++ rest) → NoneGoesOn Language x read
begins_with Language x [] rest none b others y e = absurd (cc)
begins_with Language x (c ∷ read) rest none b others y e = let f : c ∷ (read ++ rest) ≡ b ∷ (read ++ rest) = (let g : c ≡ b = cc in cc) in none b (read ++ rest) y f

module _ (First Second : List ℕ → Type 0) (apart : Apart First Second) where
  -- a first piece that is whole is the first piece of every text that begins so
  pub split : (w r x y : List ℕ) → First w → NoneGoesOn First w r → First x → Second y → w ++ r ≡ x ++ y → (w ≡ x) × (r ≡ y)
  split w r x y first none other second e = elim (compare w x r y e) [
    | inl same ↦ same
    | inr (inl p) ↦ absurd (none p.0 (p.1 ++ y) p.1 p.3 (subst First p.2 other))
    | inr (inr p) ↦ absurd (apart x p.1 (p.1 ++ r) p.0 other (subst First p.2 first) (subst Second p.3 second))
  ]

  module _ (text w r : List ℕ) (first : Reads First text w r) where
    then_none : (read rest : List ℕ) → r ≡ read ++ rest → NoneGoesOn Second read rest → NoneGoesOn (Then First Second) (w ++ read) rest
    then_none read rest parts stops byte others more e (x, y, h, k, is) =
        let short : NoneGoesOn First w (read ++ byte ∷ more) = begins_so First w read byte others more (rw (parts, e) at first.no_more) in
        let p = split w (read ++ byte ∷ more) x y first.whole short h k (sym (append_assoc w read (byte ∷ more)) ∙ is) in
        stops byte others more e (subst Second (sym p.1) k)

    then_parts : (read rest : List ℕ) → r ≡ read ++ rest → text ≡ (w ++ read) ++ rest
    then_parts read rest parts = first.parts ∙ ap (λ t. w ++ t) parts ∙ sym (append_assoc w read rest)

    pub then_reads : (piece rest : List ℕ) → Reads Second r piece rest → Reads (Then First Second) text (w ++ piece) rest
    then_reads piece rest second = record {
      whole = (w, piece, first.whole, second.whole, refl);
      parts = then_parts piece rest second.parts;
      no_more = then_none piece rest second.parts second.no_more;
    }

    then_stops : (rest : List ℕ) → Stops Second r rest → Stops (Then First Second) text rest
    then_stops rest s = record {
      read = w ++ s.read;
      parts = then_parts s.read rest s.parts;
      begins = (s.begins.0, (w, s.read ++ s.begins.0, first.whole, s.begins.1, append_assoc w s.read s.begins.0));
      no_more = then_none s.read rest s.parts s.no_more;
    }

    pub then_wrong : (rest : List ℕ) → GoesWrong Second r rest → GoesWrong (Then First Second) text rest
    unfolding then_stops
    then_wrong rest g = record { stops = then_stops rest g.stops; open_end = open_end }
      where
        open_end : Then First Second (w ++ g.stops.read) → ⊥
        open_end (x, y, h, k, is) =
            let short = begins_with First w g.stops.read rest (rw g.stops.parts at first.no_more) in
            let p = split w g.stops.read x y first.whole short h k is in
            g.open_end (subst Second (sym p.1) k)

    pub then_refused : (rest : List ℕ) → IsRefused Second r rest → IsRefused (Then First Second) text rest
    then_refused rest g = record { stops = then_stops rest g.stops; none = none }
      where
        none : Then First Second text → ⊥
        none (x, y, h, k, is) = g.none (subst Second (sym (split w r x y first.whole first.no_more h k (sym first.parts ∙ is)).1) k)

  -- the first piece goes wrong
  pub first_wrong : (text rest y : List ℕ) → Second y → GoesWrong First text rest → GoesWrong (Then First Second) text rest
  first_wrong text rest z last g = record {
    stops = record {
      read = g.stops.read;
      parts = g.stops.parts;
      begins = (g.stops.begins.0 ++ z, (g.stops.read ++ g.stops.begins.0, z, g.stops.begins.1, last, sym (append_assoc g.stops.read g.stops.begins.0 z)));
      no_more = no_more;
    };
    open_end = open_end;
  }
    where
      short : (x y : List ℕ) (b : ℕ) (more : List ℕ) → First x → Second (b ∷ more) → g.stops.read ≡ x ++ b ∷ y → ⊥
      short x y b more h k e = apart x (y ++ g.stops.begins.0) more b h (subst First (ap (λ t. t ++ g.stops.begins.0) e ∙ append_assoc x (b ∷ y) g.stops.begins.0) g.stops.begins.1) k

      no_more : NoneGoesOn (Then First Second) g.stops.read rest
      no_more byte others more e (x, y, h, k, is) = elim (compare g.stops.read x (byte ∷ more) y is) [
        | inl p ↦ g.open_end (subst First (sym p.0) h)
        | inr (inl p) ↦ g.stops.no_more byte others p.1 e (let b : p.0 ≡ byte = (let q = p.3 in cc) in subst First (p.2 ∙ ap (λ c. g.stops.read ++ c ∷ p.1) b) h)
        | inr (inr p) ↦ short x p.1 p.0 (p.1 ++ byte ∷ more) h (subst Second p.3 k) p.2
      ]

      open_end : Then First Second g.stops.read → ⊥
      open_end (x, y, h, k, is) = elim (compare g.stops.read x [] y (append-nil g.stops.read ∙ is)) [
        | inl p ↦ g.open_end (subst First (sym p.0) h)
        | inr (inl p) ↦ absurd (let q = p.3 in cc)
        | inr (inr p) ↦ short x p.1 p.0 (p.1 ++ []) h (subst Second p.3 k) p.2
      ]

-- ---- one of two

-- no text of the other begins with one of the first
abbrev pub Distinct : (List ℕ → Type 0) → (List ℕ → Type 0) → Type 0
Distinct First Second = (x y : List ℕ) → First x → Second (x ++ y) → ⊥

module _ (First Second : List ℕ → Type 0) where
  pub first_reads : Distinct First Second → (text piece rest : List ℕ) → Reads First text piece rest → Reads (Either First Second) text piece rest
  first_reads distinct text piece rest r = record { whole = inl r.whole; parts = r.parts; no_more = no_more }
    where
      no_more : NoneGoesOn (Either First Second) piece rest
      no_more byte others more e (inl k) = r.no_more byte others more e k
      no_more byte others more e (inr k) = distinct piece (byte ∷ more) r.whole k

  pub second_reads : Distinct Second First → (text piece rest : List ℕ) → Reads Second text piece rest → Reads (Either First Second) text piece rest
  second_reads distinct text piece rest r = record { whole = inr r.whole; parts = r.parts; no_more = no_more }
    where
      no_more : NoneGoesOn (Either First Second) piece rest
      no_more byte others more e (inl k) = distinct piece (byte ∷ more) r.whole k
      no_more byte others more e (inr k) = r.no_more byte others more e k

-- what goes wrong earlier goes wrong there too
module _ (Language : List ℕ → Type 0) (text r s : List ℕ) (g : GoesWrong Language text s) (read : List ℕ) (parts : text ≡ read ++ r) (shorter : length r ≤ length s) where
  earlier : Compared g.stops.read read s r
  earlier = compare g.stops.read read s r (sym g.stops.parts ∙ parts)

  none_later : NoneGoesOn Language read r
  none_later byte others more e k = elim earlier [
    | inl p ↦ g.stops.no_more byte others more (p.1 ∙ e) (subst (λ (t : List ℕ). Language (t ++ byte ∷ more)) (sym p.0) k)
    | inr (inl p) ↦ g.stops.no_more p.0 (p.1 ++ r) (p.1 ++ byte ∷ more) p.3 (subst Language (ap (λ t. t ++ byte ∷ more) p.2 ∙ append_assoc g.stops.read (p.0 ∷ p.1) (byte ∷ more)) k)
    | inr (inr p) ↦ let l : length r ≡ length (p.0 ∷ (p.1 ++ s)) = ap length p.3 in omega (arith, l, length-append p.1 s, shorter)
  ]

  open_later : Language read → ⊥
  open_later k = elim earlier [
    | inl p ↦ g.open_end (subst Language (sym p.0) k)
    | inr (inl p) ↦ g.stops.no_more p.0 (p.1 ++ r) p.1 p.3 (subst Language p.2 k)
    | inr (inr p) ↦ let l : length r ≡ length (p.0 ∷ (p.1 ++ s)) = ap length p.3 in omega (arith, l, length-append p.1 s, shorter)
  ]

-- ---- the same language

module _ (First Second : List ℕ → Type 0) (there : (text : List ℕ) → First text → Second text) (back : (text : List ℕ) → Second text → First text) where
  alike_stops : (text rest : List ℕ) → Stops First text rest → Stops Second text rest
  alike_stops text rest s = record {
    read = s.read;
    parts = s.parts;
    begins = (s.begins.0, there (s.read ++ s.begins.0) s.begins.1);
    no_more = λ byte others more e k. s.no_more byte others more e (back (s.read ++ byte ∷ more) k);
  }

  pub alike_reads : (text piece rest : List ℕ) → Reads First text piece rest → Reads Second text piece rest
  alike_reads text piece rest r = record {
    whole = there piece r.whole;
    parts = r.parts;
    no_more = λ byte others more e k. r.no_more byte others more e (back (piece ++ byte ∷ more) k);
  }

  pub alike_wrong : (text rest : List ℕ) → GoesWrong First text rest → GoesWrong Second text rest
  unfolding alike_stops
  alike_wrong text rest g = record { stops = alike_stops text rest g.stops; open_end = λ k. g.open_end (back g.stops.read k) }

  pub alike_refused : (text rest : List ℕ) → IsRefused First text rest → IsRefused Second text rest
  alike_refused text rest g = record { stops = alike_stops text rest g.stops; none = λ k. g.none (back text k) }

-- where all texts of one language begin with one word, and those of the other with another one
abbrev pub BeginsWith : List ℕ → (List ℕ → Type 0) → Type 0
BeginsWith word Language = (text : List ℕ) → Language text → (rest : List ℕ) × (text ≡ word ++ rest)

abbrev pub Differ : List ℕ → List ℕ → Type 0
Differ u v = (r s : List ℕ) → u ++ r ≡ v ++ s → ⊥

pub distinct : (u v : List ℕ) (First Second : List ℕ → Type 0) → Differ u v → BeginsWith u First → BeginsWith v Second → Distinct First Second
distinct u v First Second differ one other x y h k =
    let p = one x h in
    let q = other (x ++ y) k in
    differ (p.0 ++ y) q.0 (sym (append_assoc u p.0 y) ∙ ap (λ t. t ++ y) (sym p.1) ∙ q.1)

pub word_begins : (word : List ℕ) → BeginsWith word (IsWord word)
word_begins word text h = ([], h ∙ sym (append-nil word))

pub then_begins : (word : List ℕ) (Second : List ℕ → Type 0) → BeginsWith word (Then (IsWord word) Second)
then_begins word Second text (x, y, h, k, e) = (y, e ∙ ap (λ t. t ++ y) h)

-- the longer of two prefixes, where both go wrong
module _ (First Second : List ℕ → Type 0) (text r s : List ℕ) where
  pub first_further : GoesWrong First text r → GoesWrong Second text s → length r ≤ length s → GoesWrong (Either First Second) text r
  first_further g h l = record { stops = record { read = g.stops.read; parts = g.stops.parts; begins = (g.stops.begins.0, inl g.stops.begins.1); no_more = no_more }; open_end = open_end }
    where
      no_more : NoneGoesOn (Either First Second) g.stops.read r
      no_more byte others more e (inl k) = g.stops.no_more byte others more e k
      no_more byte others more e (inr k) = none_later Second text r s h g.stops.read g.stops.parts l byte others more e k

      open_end : Either First Second g.stops.read → ⊥
      open_end (inl k) = g.open_end k
      open_end (inr k) = open_later Second text r s h g.stops.read g.stops.parts l k

abbrev pub IsFurther : List ℕ → List ℕ → List ℕ → Type 0
IsFurther r s rest = ((rest ≡ r) × (length r ≤ length s)) ⊎ ((rest ≡ s) × (length s ≤ length r))

pub further_wrong : (First Second : List ℕ → Type 0) (text r s rest : List ℕ) → GoesWrong First text r → GoesWrong Second text s → IsFurther r s rest → GoesWrong (Either First Second) text rest
further_wrong First Second text r s rest g h (inl p) = subst (GoesWrong (Either First Second) text) (sym p.0) (first_further First Second text r s g h p.1)
further_wrong First Second text r s rest g h (inr p) = subst (GoesWrong (Either First Second) text) (sym p.0)
    (alike_wrong (Either Second First) (Either First Second) (λ t. other_way) (λ t. other_way) text s (first_further Second First text s r h g p.1))
  where
    other_way : {A B : Type 0} → A ⊎ B → B ⊎ A
    other_way (inl a) = inr a
    other_way (inr b) = inl b

pub empty : (rest : List ℕ) → true ≡ (length rest == 0) → rest ≡ []
empty rest e = let none : length rest ≡ 0 = grind (arith, nat_tests) in nil_from_length rest none

-- nothing goes on where nothing is left
pub nothing_left : (Language : List ℕ → Type 0) (read rest : List ℕ) → length rest ≡ 0 → NoneGoesOn Language read rest
nothing_left Language read rest l byte others more e k = let n : length rest ≡ length (byte ∷ others) = ap length e in omega (arith, n, l)

-- what goes wrong is no text as a whole
pub wrong_refused : (Language : List ℕ → Type 0) (text rest : List ℕ) → GoesWrong Language text rest → IsRefused Language text rest
wrong_refused Language text [] g = record { stops = g.stops; none = λ k. g.open_end (subst Language (g.stops.parts ∙ append-nil g.stops.read) k) }
wrong_refused Language text (b ∷ rest) g = record { stops = g.stops; none = λ k. g.stops.no_more b rest rest refl (subst Language g.stops.parts k) }

-- nor is a text that goes on after a piece with which no more of it begins a text
pub trailing_refused : (Language : List ℕ → Type 0) (text piece rest : List ℕ) → false ≡ (length rest == 0) → Reads Language text piece rest → IsRefused Language text rest
trailing_refused Language text piece [] left r = absurd (true≢false (sym left))
trailing_refused Language text piece (b ∷ rest) left r = record {
  stops = record { read = piece; parts = r.parts; begins = ([], subst Language (sym (append-nil piece)) r.whole); no_more = r.no_more };
  none = λ k. r.no_more b rest rest refl (subst Language r.parts k);
}

-- ---- words, and what goes on with digits alone

word_ends : (word : List ℕ) (byte : ℕ) (more : List ℕ) → word ++ byte ∷ more ≡ word → ⊥
word_ends word byte more e = let l : length (word ++ byte ∷ more) ≡ length word = ap length e in omega (arith, l, length-append word (byte ∷ more))

pub word_reads : (word text rest : List ℕ) → text ≡ word ++ rest → Reads (IsWord word) text word rest
word_reads word text rest e = record { whole = refl; parts = e; no_more = λ byte others more _ k. word_ends word byte more k }

-- the word goes wrong at its byte with number i
pub word_wrong : (word text rest : List ℕ) (i : ℕ) → i < length word → text ≡ take i word ++ rest → ((others : List ℕ) → rest ≡ get_or word i 0 ∷ others → ⊥) → GoesWrong (IsWord word) text rest
word_wrong word text rest i l e other = record {
  stops = record {
    read = take i word;
    parts = e;
    begins = (drop i word, take-append-drop i word);
    no_more = λ byte others more is k. other others (is ∙ ap (λ (b : ℕ). b ∷ others) (next byte more k));
  };
  open_end = λ k. let n : length (take i word) ≡ length word = ap length k in omega (arith, n, length-take-le i word (omega (arith, l)), l);
}
  where
    next : (byte : ℕ) (more : List ℕ) → take i word ++ byte ∷ more ≡ word → byte ≡ get_or word i 0
    next byte more k =
        let q : byte ∷ more ≡ get_or word i 0 ∷ drop (i + 1) word = append_cancel_left (take i word) (byte ∷ more) (get_or word i 0 ∷ drop (i + 1) word)
        (k ∙ sym (take-append-drop i word) ∙ ap (λ t. take i word ++ t) (drop_more word i 0 l)) in
        cc

pub word_apart : (word : List ℕ) (Second : List ℕ → Type 0) → Apart (IsWord word) Second
word_apart word Second x y z b h k second = word_ends word b y (ap (λ t. t ++ b ∷ y) (sym h) ∙ k)

-- a text of the language goes on to another one with a digit alone
abbrev pub Solid : (List ℕ → Type 0) → Type 0
Solid Language = (x y : List ℕ) (b : ℕ) → Language x → Language (x ++ b ∷ y) → IsDigit b

pub solid_apart : (First Second : List ℕ → Type 0) → Solid First → ((b : ℕ) (z : List ℕ) → Second (b ∷ z) → IsDigit b → ⊥) → Apart First Second
solid_apart First Second solid other x y z b h k second = other b z second (solid x y b h k)

pub solid_none : (Language : List ℕ → Type 0) → Solid Language → (x rest : List ℕ) → Language x → BeginsWithNoDigit rest → NoneGoesOn Language x rest
solid_none Language solid x [] h other byte others more e k = absurd (cc)
solid_none Language solid x (b ∷ rest) h other byte others more e k = other (subst IsDigit (let f : byte ≡ b = cc in f) (solid x more byte h k))

pub word_solid : (word : List ℕ) → Solid (IsWord word)
word_solid word x y b h k = absurd (word_ends word b y (ap (λ t. t ++ b ∷ y) (sym h) ∙ k))

pub either_solid : (First Second : List ℕ → Type 0) → Distinct First Second → Distinct Second First → Solid First → Solid Second → Solid (Either First Second)
either_solid First Second one other f s x y b (inl h) (inl k) = f x y b h k
either_solid First Second one other f s x y b (inl h) (inr k) = absurd (one x (b ∷ y) h k)
either_solid First Second one other f s x y b (inr h) (inl k) = absurd (other x (b ∷ y) h k)
either_solid First Second one other f s x y b (inr h) (inr k) = s x y b h k

pub then_solid : (First Second : List ℕ → Type 0) → Apart First Second → Solid First → Solid Second → Solid (Then First Second)
then_solid First Second apart f s x y b (u, v, h, k, e) (u', v', h', k', e') = elim (compare u u' (v ++ b ∷ y) v' (sym (append_assoc u v (b ∷ y)) ∙ ap (λ t. t ++ b ∷ y) (sym e) ∙ e')) [
  | inl p ↦ s v y b k (subst Second (sym p.1) k')
  | inr (inl p) ↦ longer v p.0 p.1 k (subst First p.2 h') p.3
  | inr (inr p) ↦ absurd (apart u' p.1 (p.1 ++ (v ++ b ∷ y)) p.0 h' (subst First p.2 h) (subst Second p.3 k'))
]
  where
    longer : (second : List ℕ) (d : ℕ) (z : List ℕ) → Second second → First (u ++ d ∷ z) → second ++ b ∷ y ≡ d ∷ (z ++ v') → IsDigit b
    longer [] d z k q is = subst IsDigit (let f : d ≡ b = cc in f) (f u z d h q)
    longer (c ∷ second) d z k q is = absurd (apart u z second d h q (subst Second (let f : c ≡ d = cc in ap (λ a. a ∷ second) f) k))

-- ---- the whole text

-- where a reader stops is where the longest prefix ends
pub longest : {V : Type 0} (Allowed : V → Type 0) (write : V → List ℕ) (text rest : List ℕ) → IsRefused (IsText Allowed write) text rest → IsLongestPrefix Allowed write text (length text - length rest)
longest Allowed write text rest g = record {
  within = omega (arith);
  is_prefix = subst (IsPrefix Allowed write) (sym read_is) g.stops.begins;
  no_longer = no_longer;
}
  where
    counted : length text ≡ length g.stops.read + length rest
    counted = ap length g.stops.parts ∙ length-append g.stops.read rest

    n_is : length text - length rest ≡ length g.stops.read
    n_is = omega (arith, counted)

    read_is : take (length text - length rest) text ≡ g.stops.read
    read_is = ap (λ (n : ℕ). take n text) n_is ∙ ap (take (length g.stops.read)) g.stops.parts ∙ take_at g.stops.read rest (length g.stops.read) refl

    more_of : (k : ℕ) → length g.stops.read < k → k ≤ length text → (byte : ℕ) × (others more : List ℕ) × (rest ≡ byte ∷ others) × (take k text ≡ g.stops.read ++ byte ∷ more)
    more_of k l h = elim (compare g.stops.read (take k text) rest (drop k text) (sym g.stops.parts ∙ sym (take-append-drop k text))) [
      | inl p ↦ let n : length g.stops.read ≡ length (take k text) = ap length p.0 in absurd (omega (arith, n, length-take-le k text h, l))
      | inr (inl p) ↦ (p.0, p.1 ++ drop k text, p.1, p.3, p.2)
      | inr (inr p) ↦ let n : length g.stops.read ≡ length (take k text ++ p.0 ∷ p.1) = ap length p.2 in absurd (omega (arith, n, length-append (take k text) (p.0 ∷ p.1), length-take-le k text h, l))
    ]

    no_longer : (k : ℕ) → length text - length rest < k → k ≤ length text → IsPrefix Allowed write (take k text) → ⊥
    no_longer k l h (after, whole) =
        let m = more_of k (subst (λ (n : ℕ). n < k) n_is l) h in
        g.stops.no_more m.0 m.1 (m.2 ++ after) m.3 (subst (IsText Allowed write) (ap (λ t. t ++ after) m.4 ∙ append_assoc g.stops.read (m.0 ∷ m.2) after) whole)

-- what a `?` hands on
pub handed_on : {T E : Type 0} (P : E → Type 0) (r : Result T E) (error : E) → IsErrAnd r (λ e. e ≡ error) → P error → IfErr r P
handed_on P (Ok value) error is h = absurd is
handed_on P (Err e) error is h = subst P (sym is) h

-- ---- one byte alone, or something else

-- a text where the byte alone goes wrong goes wrong at once, and does not begin with it
pub other_byte : (byte : ℕ) (text rest : List ℕ) → GoesWrong (IsWord (byte ∷ [])) text rest → (text ≡ rest) × ((others : List ℕ) → text ≡ byte ∷ others → ⊥)
other_byte byte text rest g = by_read g.stops.read g.stops.parts g.stops.begins.1 g.stops.no_more g.open_end
  where
    by_read : (read : List ℕ) → text ≡ read ++ rest → read ++ g.stops.begins.0 ≡ byte ∷ [] → NoneGoesOn (IsWord (byte ∷ [])) read rest → (read ≡ byte ∷ [] → ⊥) → (text ≡ rest) × ((others : List ℕ) → text ≡ byte ∷ others → ⊥)
    by_read [] parts whole none no_end = (parts, λ others e. none byte others [] (sym parts ∙ e) refl)
    by_read (b ∷ []) parts whole none no_end = absurd (no_end (let f : b ≡ byte = cc in ap (λ (c : ℕ). c ∷ []) f))
    by_read (b ∷ c ∷ read) parts whole none no_end = absurd (cc)

module _ (byte : ℕ) (Second : List ℕ → Type 0) (text : List ℕ) where
  pub other_refused : (rest : List ℕ) → ((others : List ℕ) → text ≡ byte ∷ others → ⊥) → IsRefused Second text rest → IsRefused (Either (IsWord (byte ∷ [])) Second) text rest
  other_refused rest other g = record {
    stops = record { read = g.stops.read; parts = g.stops.parts; begins = (g.stops.begins.0, inr g.stops.begins.1); no_more = no_more };
    none = none;
  }
    where
      by_read : (read : List ℕ) (b : ℕ) (others more : List ℕ) → text ≡ read ++ rest → rest ≡ b ∷ others → read ++ b ∷ more ≡ byte ∷ [] → ⊥
      by_read [] b others more parts e k = other others (parts ∙ e ∙ ap (λ (c : ℕ). c ∷ others) (let f : b ≡ byte = cc in f))
      by_read (c ∷ read) b others more parts e k = other (read ++ rest) (parts ∙ ap (λ (d : ℕ). d ∷ (read ++ rest)) (let f : c ≡ byte = cc in f))

      no_more : NoneGoesOn (Either (IsWord (byte ∷ [])) Second) g.stops.read rest
      no_more b others more e (inl k) = by_read g.stops.read b others more g.stops.parts e k
      no_more b others more e (inr k) = g.stops.no_more b others more e k

      none : Either (IsWord (byte ∷ [])) Second text → ⊥
      none (inl k) = other [] k
      none (inr k) = g.none k
