-- What is found around a stamp shows there what the states answer.
use Rattle.std.proofs.Common.{◌≡◌, ◌⊎◌, inl, inr, ℕ, ◌+◌, ◌-◌, ◌<◌, ◌≤◌, List, [], ◌∷◌, ◌++◌, filter, true, ◌&&◌, Option, Some, None, nat_le, nat_lt, refl, sym, ap, subst, ◌∙◌, arith}
use borrow.Author.Tests.{leb-true, le-leb, ltb-true, ltb-false, lt-ltb}
use Rattle.std.proofs.lemmas.List.Sorted.{IsPermutation-sym, Contains-permutation}
use Rattle.sqlite_trees.proofs.ListLemmas.{all-permutation}
use Rattle.txc_rows.specs.declared.version.Versioned.{Versioned}
use Rattle.txc_rows.specs.declared.query.Query.{Query}
use Rattle.txc_rows.specs.Values.{RowValue}
use Rattle.txc_rows.specs.States.{State, matches, answer}
use Rattle.txc_rows.specs.Versions.{suits, is_visible, lives_at, shown_at, Follows, Pairwise, IsVersion, AreVersions}
use Rattle.txc_rows.specs.FoundVersions.{IsNeedless, FindsAround}
use Rattle.txc_rows.specs.KeptStates.{KeepsStates}
use Rattle.txc_rows.specs.FoundAnswers.{HoldsOn, ShowsAround, AnswersAround}
use Rattle.txc_rows.proofs.Members.{bool_cases, both_true, and_true, IsIn, is_in, contains_it, in_filter, from_filter, in_either, all_in, in_left}
use Rattle.txc_rows.proofs.SaysLemmas.{behind, in_front, said_each, said_only, says_seen}
use Rattle.txc_rows.proofs.VersionLemmas.{kept_versions}
use Rattle.txc_rows.proofs.Finding.{Meets, meet, pairs_permute, in_order, shown_rises}
use Rattle.txc_tags.proofs.All.{all_front}

-- ---- when a version is visible

seen_of : (s b : ℕ) (x : Option ℕ) (d : ℕ) → x ≡ Some d → nat_le b s && lives_at s x ≡ true → (b ≤ s) × (s < d)
seen_of s b None d e h = absurd (let f = e in cc)
seen_of s b (Some x) d e h =
    let same : x ≡ d = cc in
    let both = both_true (nat_le b s) (nat_lt s x) h in
    subst (λ n. (b ≤ s) × (s < n)) same (leb-true b s both.0, ltb-true s x both.1)

of_seen : (s b : ℕ) (x : Option ℕ) (d : ℕ) → x ≡ Some d → b ≤ s → s < d → nat_le b s && lives_at s x ≡ true
of_seen s b None d e low high = absurd (let f = e in cc)
of_seen s b (Some x) d e low high =
    let same : x ≡ d = cc in
    and_true (nat_le b s) (nat_lt s x) (le-leb b s low) (lt-ltb s x (subst (λ n. s < n) (sym same) high))

born_by : (s b : ℕ) (x : Option ℕ) → nat_le b s && lives_at s x ≡ true → b ≤ s
born_by s b x h = leb-true b s (both_true (nat_le b s) (lives_at s x) h).0

same_death : (x : Option ℕ) (d e : ℕ) → x ≡ Some d → x ≡ Some e → d ≡ e
same_death x d e p q = let two : ◌≡◌ {A = Option ℕ} (Some d) (Some e) = sym p ∙ q in cc

-- ---- two versions

pub two_of : (vs : List Versioned) (v w : Versioned) → Pairwise Follows vs → IsIn v vs → IsIn w vs → (v ≡ w) ⊎ (Follows v w ⊎ Follows w v)
two_of [] v w p a b = absurd a
two_of (u ∷ us) v w p (inl a) (inl b) = inl (a ∙ sym b)
two_of (u ∷ us) v w p (inl a) (inr b) = inr (inl (subst (λ x. Follows x w) (sym a) (all_in (Follows u) us w p.0 b)))
two_of (u ∷ us) v w p (inr a) (inl b) = inr (inr (subst (λ x. Follows x v) (sym b) (all_in (Follows u) us v p.0 a)))
two_of (u ∷ us) v w p (inr a) (inr b) = two_of us v w p.1 a b

-- where a version ends no other shows its row
ends : (vs : List Versioned) (s : ℕ) (v w : Versioned) → AreVersions vs → IsIn v vs → v.died ≡ Some (s + 1) → IsIn w vs → is_visible (s + 1) w ≡ true → v.row ≡ w.row → ⊥
ends vs s v w are here died there seen same =
    let life = (all_in IsVersion vs v are.each here).life (s + 1) died in
    let low = born_by (s + 1) w.born w.died seen in
    let table : v.row.table ≡ w.row.table = ap (λ (r : RowValue). r.table) same in
    let id : v.row.id ≡ w.row.id = ap (λ (r : RowValue). r.id) same in
    elim (two_of vs v w are.apart here there) [
      | inl e ↦ let late = (seen_of (s + 1) w.born w.died (s + 1) (subst (λ (x : Versioned). x.died ≡ Some (s + 1)) e died) seen).1 in omega arith
      | inr (inl f) ↦ let d = f.died table id in let k = same_death v.died d.0 (s + 1) d.1 died in d.3 (omega (arith, d.2, k, low)) same
      | inr (inr f) ↦ let d = f.died (sym table) (sym id) in let late = (seen_of (s + 1) w.born w.died d.0 d.1 seen).1 in omega (arith, d.2, life.0, late)
    ]

-- each of the first ones with each of the others
across : (xs ys : List Versioned) (w v : Versioned) → Pairwise Meets (xs ++ ys) → IsIn w xs → IsIn v ys → Meets w v
across [] ys w v p a b = absurd a
across (x ∷ xs) ys w v p (inl a) b = subst (λ y. Meets y v) (sym a) (all_in (Meets x) (xs ++ ys) v p.0 (behind_them xs b))
  where
    behind_them : (zs : List Versioned) → IsIn v ys → IsIn v (zs ++ ys)
    behind_them [] h = h
    behind_them (z ∷ zs) h = inr (behind_them zs h)
across (x ∷ xs) ys w v p (inr a) b = across xs ys w v p.1 a b

front_pairs : (xs ys : List Versioned) → Pairwise Meets (xs ++ ys) → Pairwise Meets xs
front_pairs [] ys p = tt
front_pairs (x ∷ xs) ys p = (all_front (Meets x) xs ys p.0, front_pairs xs ys p.1)

-- ---- what is left out

module _ (q : Query) (t : ℕ) (vs found : List Versioned) (finds : FindsAround q t vs found) (states : ℕ → State) (horizon newest : ℕ) (keeps : KeepsStates states horizon newest vs) where
  there : (v : Versioned) → IsIn v (found ++ finds.rest) → IsIn v vs × (suits q v ≡ true)
  there v h = from_filter (suits q) v vs (is_in (filter (suits q) vs) v (Contains-permutation (found ++ finds.rest) (filter (suits q) vs) v (IsPermutation-sym _ _ finds.all) (contains_it (found ++ finds.rest) v h)))

  pairs : Pairwise Meets (found ++ finds.rest)
  pairs = (pairs_permute (filter (suits q) vs) (found ++ finds.rest) finds.all).1 (meet (filter (suits q) vs) (kept_versions (suits q) vs keeps.versions).apart)

  pub around_versions : AreVersions found
  around_versions =
      in_order found (all_front IsVersion found finds.rest (all-permutation IsVersion _ (found ++ finds.rest) finds.all (kept_versions (suits q) vs keeps.versions).each))
      (front_pairs found finds.rest pairs) finds.sorted

  -- no found version ends in the interval, after its first stamp
  abbrev NoneEnds : ℕ → ℕ → Type 0
  NoneEnds first last = (w : Versioned) → IsIn w found → (e : ℕ) → w.died ≡ Some e → first < e → e ≤ last → ⊥

  upto_it : (a b : ℕ) → (a < b → ⊥) → b ≤ a
  upto_it a b h = elim (bool_cases (nat_lt a b)) [ inl e ↦ absurd (h (ltb-true a b e)) | inr e ↦ ltb-false a b e ]

  before_it : (a b : ℕ) → (b ≤ a → ⊥) → a < b
  before_it a b h = elim (bool_cases (nat_lt a b)) [ inl e ↦ ltb-true a b e | inr e ↦ absurd (h (ltb-false a b e)) ]

  -- so none of those that were left out is visible there
  unseen : (first last : ℕ) → first ≤ t → t ≤ last → NoneEnds first last → (v : Versioned) → IsIn v finds.rest → (s : ℕ) → first ≤ s → s ≤ last → is_visible s v ≡ true → ⊥
  unseen first last low high none v stands s from upto seen =
      let it = all_in (IsNeedless t found) finds.rest v finds.needless stands in
      let w = it.0 in
      let near = is_in found w it.1 in
      let d = it.2.0 in
      let e = it.2.1 in
      let dead : v.died ≡ Some d = it.2.2 in
      let ended : w.died ≡ Some e = it.2.3 in
      let lives = seen_of s v.born v.died d dead seen in
      elim it.2.4 [
        | inl early ↦ let soon = upto_it first e (λ later. none w near e ended later (omega (arith, early.1, high))) in omega (arith, early.0, soon, lives.1, from)
        | inr late ↦
            let far = before_it last e (λ within. none w near e ended (omega (arith, late.2, low)) within) in
            born_late w v near stands d e dead ended late.0 late.1 late.3 (omega (arith, lives.0, upto, far))
      ]
    where
      born_late : (w v : Versioned) → IsIn w found → IsIn v finds.rest → (d e : ℕ) → v.died ≡ Some d → w.died ≡ Some e → v.row.table ≡ w.row.table → v.row.id ≡ w.row.id → e ≤ d → v.born < e → ⊥
      born_late w v near stands d e dead ended table id order early = elim (across found finds.rest w v pairs near stands) [
        | inl f ↦ let k = f.died (sym table) (sym id) in let same = same_death w.died k.0 e k.1 ended in omega (arith, k.2, same, early)
        | inr f ↦
            let k = f.died table id in
            let same = same_death v.died k.0 d k.1 dead in
            let life = (all_in IsVersion vs w keeps.versions.each (there w (in_left w found finds.rest near)).0).life e ended in
            omega (arith, k.2, same, life.0, order)
      ]

  -- and the found ones show the answers
  shows_there : (first last : ℕ) → horizon ≤ first → first ≤ t → t ≤ last → last ≤ newest → NoneEnds first last → (s : ℕ) → first ≤ s → s ≤ last → shown_at q s found ≡ answer q (states s)
  shows_there first last kept low high known none s from upto =
      says_seen q s vs found (states s) (keeps.each s (omega (arith, kept, from)) (omega (arith, known, upto))) (keeps.says.kept s (omega (arith, kept, from)) (omega (arith, known, upto)))
      (λ v h. contains_it vs v (there v (in_left v found finds.rest (is_in found v h))).0)
      (λ v h fits seen.
      let all = is_in (found ++ finds.rest) v (Contains-permutation (filter (suits q) vs) (found ++ finds.rest) v finds.all (contains_it (filter (suits q) vs) v (in_filter (suits q) v vs (is_in vs v h) fits))) in
      elim (in_either v found finds.rest all) [ inl here ↦ contains_it found v here | inr left ↦ absurd (unseen first last low high none v left s from upto seen) ])
      (shown_rises s q found around_versions.apart finds.sorted)

  -- where the found ones show one answer none of them ends
  ends_shown : (first last : ℕ) → first ≤ t → t ≤ last → HoldsOn (λ s. shown_at q s found) t first last → NoneEnds first last
  ends_shown first last low high holds w near e ended after within =
      let s = e - 1 in
      let next : s + 1 ≡ e = omega (arith, after) in
      let life = (all_in IsVersion found w around_versions.each near).life e ended in
      let seen : is_visible s w ≡ true = of_seen s w.born w.died e ended (omega (arith, life.0, next)) (omega (arith, next)) in
      let here = in_front (λ v. is_visible s v && suits q v) found w.row (record { version = w; stands = near; passes = and_true (is_visible s w) (suits q w) seen (there w (in_left w found finds.rest near)).1; is = refl }) in
      let same : shown_at q s found ≡ shown_at q (s + 1) found = holds s (omega (arith, after, next)) (omega (arith, within, next)) ∙ sym (holds (s + 1) (omega (arith, after, next)) (omega (arith, within, next))) in
      let b = behind (λ v. is_visible (s + 1) v && suits q v) found w.row (subst (λ (rows : List RowValue). IsIn w.row rows) same here) in
      ends found s w b.version around_versions near (ended ∙ ap (λ (n : ℕ). Some n) (sym next)) b.stands (both_true (is_visible (s + 1) b.version) (suits q b.version) b.passes).0 b.is

  -- and where the states have one answer
  ends_said : (first last : ℕ) → horizon ≤ first → last ≤ newest → first ≤ t → t ≤ last → HoldsOn (λ s. answer q (states s)) t first last → NoneEnds first last
  ends_said first last kept known low high holds w near e ended after within =
      let s = e - 1 in
      let next : s + 1 ≡ e = omega (arith, after) in
      let at = there w (in_left w found finds.rest near) in
      let life = (all_in IsVersion vs w keeps.versions.each at.0).life e ended in
      let seen : is_visible s w ≡ true = of_seen s w.born w.died e ended (omega (arith, life.0, next)) (omega (arith, next)) in
      let said = said_only s vs (states s) w.row (keeps.says.kept s (omega (arith, kept, after, next)) (omega (arith, known, within, next))) (in_front (is_visible s) vs w.row (record { version = w; stands = at.0; passes = seen; is = refl })) in
      let same : answer q (states s) ≡ answer q (states (s + 1)) = holds s (omega (arith, after, next)) (omega (arith, within, next)) ∙ sym (holds (s + 1) (omega (arith, after, next)) (omega (arith, within, next))) in
      let moved = from_filter (matches q) w.row (states (s + 1)) (subst (λ (rows : List RowValue). IsIn w.row rows) same (in_filter (matches q) w.row (states s) said at.1)) in
      let b = behind (is_visible (s + 1)) vs w.row (said_each (s + 1) vs (states (s + 1)) w.row (keeps.says.kept (s + 1) (omega (arith, kept, after, next)) (omega (arith, known, within, next))) moved.0) in
      ends vs s w b.version keeps.versions at.0 (ended ∙ ap (λ (n : ℕ). Some n) (sym next)) b.stands b.passes b.is

  pub around_shows : horizon ≤ t → t ≤ newest → ShowsAround q states horizon newest t found
  around_shows kept known = record {
    shown = shows_there t t kept (omega arith) (omega arith) known (λ w near e ended after within. omega (arith, after, within)) t (omega arith) (omega arith);
    alike = λ first last a low high b. (
      λ holds s from upto.
          let shows = shows_there first last a low high b (ends_shown first last low high holds) in
          sym (shows s from upto) ∙ (holds s from upto ∙ shows t low high),
      λ holds s from upto.
          let shows = shows_there first last a low high b (ends_said first last a b low high holds) in
          shows s from upto ∙ (holds s from upto ∙ sym (shows t low high)),
    );
    versions = around_versions;
  }

pub around_answers : (q : Query) (t : ℕ) (vs found : List Versioned) → FindsAround q t vs found → AnswersAround q t vs found
around_answers q t vs found finds states horizon newest keeps = around_shows q t vs found finds states horizon newest keeps
