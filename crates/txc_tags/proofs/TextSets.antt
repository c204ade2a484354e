-- The text of a set of tags: a dash, or tags joined by commas.
use Rattle.std.proofs.Common.{◌≡◌, Option, Some, None, IfNone, Result, Ok, Err, IfOk, ℕ, ◌+◌, inl, inr, false, ◌==◌, List, [], ◌∷◌, ◌++◌, map, length, refl, sym, ap, subst, ◌∙◌, arith, append-nil}
use Rattle.std.specs.Bool.{⊤}
use Rattle.std.specs.List.{flat_map, join_with_byte}
use Rattle.std.proofs.lemmas.List.Elements.{All-head, All-tail, All-nil, All-cons, All-push}
use Rattle.std.proofs.lemmas.Bool.Decides.{nat_tests}
use Rattle.txc_tags.specs.declared.tag.Tag.{Tag}
use Rattle.txc_tags.specs.declared.text.tag.Spelling.{Spelling}
use Rattle.txc_tags.specs.declared.text.tag.Spelling.TheVariants.{Usual}
use Rattle.txc_tags.specs.Tags.{with_tag, set_of, IsCanonical}
use Rattle.txc_tags.specs.TextGrammar.{IsText, IsTextOf}
use Rattle.txc_tags.specs.TextReader.{IsWord, Either, Reads, GoesWrong, IsRefused, IsJoined, HasRead}
use Rattle.txc_tags.specs.TextTag.{tag_text, SpeltTag, spelled, spelt_text, IsTagInRange, IsSpeltInRange}
use Rattle.txc_tags.specs.TextSet.{tags_text, spelt_tags_text, AreTagsInRange, AreSpeltInRange, tags_spelt, IsSetOfText}
use Rattle.txc_tags.proofs.Sixteen.{set_of_set, with_tags_push}
use Rattle.txc_tags.proofs.TextReading.{Distinct, Solid, alike_refused, first_reads, trailing_refused, other_refused, other_byte}
use Rattle.txc_tags.proofs.TextJoined as joined
use Rattle.txc_tags.proofs.TextJoined.{join_others}
use Rattle.txc_tags.proofs.TextTags.{spelt_solid, same_spelt, spelt_begins}

-- any number of tags
abbrev pub Any : ℕ → Type 0
Any n = ⊤

abbrev IsTag : List ℕ → Type 0
IsTag = IsText IsSpeltInRange spelt_text

tag_solid : Solid IsTag
tag_solid = spelt_solid

no_comma : (rest : List ℕ) → ◌≡◌ {A = List ℕ} [] (44 ∷ rest) → ⊥
no_comma rest e = cc

abbrev pub Tags : List ℕ → Type 0
Tags = IsJoined IsSpeltInRange spelt_text [] Any 0

-- ---- a set is a dash, or tags

abbrev IsSet : List ℕ → Type 0
IsSet = IsText AreSpeltInRange spelt_tags_text

tags_parts : (tag : SpeltTag) (tags : List SpeltTag) → spelt_tags_text (tag ∷ tags) ≡ spelt_text tag ++ (flat_map (λ t. 44 ∷ spelt_text t) tags ++ [])
tags_parts tag tags = join_others spelt_text tag tags ∙ ap (λ xs. spelt_text tag ++ xs) (sym (append-nil (flat_map (λ t. 44 ∷ spelt_text t) tags)))

to_tags : (text : List ℕ) → IsSet text → Either (IsWord (45 ∷ [])) Tags text
to_tags text ([], h) = inl h.1
to_tags text (tag ∷ tags, (all, e)) = inr (spelt_text tag, flat_map (λ t. 44 ∷ spelt_text t) tags ++ [], (tag, (All-head IsSpeltInRange tag tags all, refl)), (tags, All-tail IsSpeltInRange tag tags all, tt, refl), e ∙ tags_parts tag tags)

from_tags : (text : List ℕ) → Either (IsWord (45 ∷ [])) Tags text → IsSet text
from_tags text (inl e) = ([], (All-nil IsSpeltInRange, e))
from_tags text (inr (x, y, (tag, (l, d)), (tags, all, few, f), e)) = (tag ∷ tags, (All-cons IsSpeltInRange tag tags l all, e ∙ ap (λ t. t ++ y) d ∙ ap (λ t. spelt_text tag ++ t) f ∙ sym (tags_parts tag tags)))

letter_first : (tag : SpeltTag) → IsSpeltInRange tag → (r s : List ℕ) → spelt_text tag ++ r ≡ 45 ∷ s → ⊥
letter_first tag h r s e = spelt_begins tag h r s e

dash_apart : Distinct (IsWord (45 ∷ [])) Tags
dash_apart x y h (u, v, (tag, (l, d)), k, e) = letter_first tag l v y (ap (λ t. t ++ v) (sym d) ∙ sym e ∙ ap (λ t. t ++ y) h)

-- a dash, and something after it
pub dash_refused : (text rest : List ℕ) → false ≡ (length rest == 0) → Reads (IsWord (45 ∷ [])) text (45 ∷ []) rest → IsRefused IsSet text rest
dash_refused text rest left r = alike_refused (Either (IsWord (45 ∷ [])) Tags) IsSet from_tags to_tags text rest
    (trailing_refused (Either (IsWord (45 ∷ [])) Tags) text (45 ∷ []) rest left (first_reads (IsWord (45 ∷ [])) Tags dash_apart text (45 ∷ []) rest r))

-- ---- the tags

some_tags : (tags : List SpeltTag) (tag : SpeltTag) → spelt_tags_text (tags ++ tag ∷ []) ≡ join_with_byte 44 (map spelt_text (tags ++ tag ∷ []))
some_tags [] tag = refl
some_tags (a ∷ tags) tag = refl

spelt_push : (tags : List SpeltTag) (tag : SpeltTag) → tags_spelt (tags ++ tag ∷ []) ≡ tags_spelt tags ++ tag.tag ∷ []
spelt_push [] tag = refl
spelt_push (a ∷ tags) tag = ap (λ ts. a.tag ∷ ts) (spelt_push tags tag)

-- tags were read, and the set is that of them
pub record HasTags (text rest : List ℕ) (set : List Tag) : Type 0 where
  pub tags : List SpeltTag
  pub read : HasRead IsSpeltInRange spelt_text [] Any text rest tags
  pub set_is : set ≡ set_of (tags_spelt tags)

module _ (text rest : List ℕ) (set : List Tag) (read : HasTags text rest set) (no_dash : (others : List ℕ) → text ≡ 45 ∷ others → ⊥) where
  refused : (last : List ℕ) → IsRefused (IsJoined IsSpeltInRange spelt_text [] Any (length read.tags)) rest last → IsRefused IsSet text last
  refused last g = alike_refused (Either (IsWord (45 ∷ [])) Tags) IsSet from_tags to_tags text last (other_refused 45 Tags text last no_dash (read.read.refused last g))

  pub tag_wrong : (last : List ℕ) → GoesWrong IsTag rest last → IsRefused IsSet text last
  tag_wrong last g = refused last (joined.item_refused IsSpeltInRange spelt_text [] Any tag_solid tt no_comma (length read.tags) rest last tt g)

  module _ (s : Spelling) (tag : Tag) (after : List ℕ) (in_range : IsTagInRange tag) (one : Reads IsTag rest (spelled s tag) after) where
    abbrev item : SpeltTag
    item = record { spelling = s; tag = tag }

    added : with_tag tag set ≡ set_of (tags_spelt (read.tags ++ item ∷ []))
    added = ap (with_tag tag) read.set_is ∙ sym (with_tags_push (tags_spelt read.tags) [] tag) ∙ ap set_of (sym (spelt_push read.tags item))

    -- something else than a comma
    pub comma_wrong : (last : List ℕ) → false ≡ (length after == 0) → GoesWrong (IsWord (44 ∷ [])) after last → IsRefused IsSet text last
    comma_wrong last left g =
        let other = other_byte 44 after last g in
        let some : after ≡ [] → ⊥ = λ e. (let n : length after ≡ 0 = ap length e in grind (arith, n, left, nat_tests)) in
        subst (IsRefused IsSet text) other.0
        (refused after (joined.after_refused IsSpeltInRange spelt_text [] Any tag_solid tt no_comma (length read.tags) rest (spelled s tag) after after one
        (joined.neither_refused IsSpeltInRange spelt_text [] Any tag_solid tt no_comma (length read.tags + 1) after tt some (λ byte others more e is. absurd (cc)) (λ others n e few. other.1 others e))))

    pub one_more : (next : List ℕ) → after ≡ 44 ∷ next → HasTags text next (with_tag tag set)
    one_more next e = record {
      tags = read.tags ++ item ∷ [];
      read = joined.read_more IsSpeltInRange spelt_text [] Any tag_solid tt no_comma text rest after next read.tags item read.read in_range one e;
      set_is = added;
    }

    pub all_tags : after ≡ [] → IsSetOfText text (with_tag tag set)
    all_tags e = (
      read.tags ++ item ∷ [],
      (All-push IsSpeltInRange read.tags item read.read.all in_range, joined.read_all IsSpeltInRange spelt_text [] Any tag_solid tt no_comma text rest after read.tags item read.read one e ∙ append-nil (join_with_byte 44 (map spelt_text (read.tags ++ item ∷ []))) ∙ sym (some_tags read.tags item)),
      added,
    )

-- a set to which all tags were added, where memory was not refused, and one tag more
pub carried : {E : Type 0} (tag : Tag) (meant old new : List Tag) (refused after : Option E) → IfNone after ((refused ≡ None) × (new ≡ with_tag tag old)) → IfNone refused (old ≡ meant)
    → IfNone after (new ≡ with_tag tag meant)
carried tag meant old new None None h k = h.1 ∙ ap (with_tag tag) k
carried tag meant old new (Some e) None h k = cc
carried tag meant old new refused (Some e) h k = tt

-- ---- tags are known by their text

pub same_spelt_text : (xs ys : List SpeltTag) → AreSpeltInRange xs → AreSpeltInRange ys → spelt_tags_text xs ≡ spelt_tags_text ys → xs ≡ ys
same_spelt_text [] [] h k e = refl
same_spelt_text [] (y ∷ ys) h k e = absurd (letter_first y (All-head IsSpeltInRange y ys k) (flat_map (λ t. 44 ∷ spelt_text t) ys ++ []) [] (sym (tags_parts y ys) ∙ sym e))
same_spelt_text (x ∷ xs) [] h k e = absurd (letter_first x (All-head IsSpeltInRange x xs h) (flat_map (λ t. 44 ∷ spelt_text t) xs ++ []) [] (sym (tags_parts x xs) ∙ e))
same_spelt_text (x ∷ xs) (y ∷ ys) h k e =
    joined.joined_known IsSpeltInRange spelt_text [] Any tag_solid tt no_comma same_spelt x y xs ys (All-head IsSpeltInRange x xs h) (All-head IsSpeltInRange y ys k) (All-tail IsSpeltInRange x xs h) (All-tail IsSpeltInRange y ys k)
    (sym (tags_parts x xs) ∙ e ∙ tags_parts y ys)

-- tags as they are written
abbrev usual : Tag → SpeltTag
usual tag = record { spelling = Usual; tag = tag }

texts_usual : (tags : List Tag) → map spelt_text (map usual tags) ≡ map tag_text tags
texts_usual [] = refl
texts_usual (t ∷ tags) = ap (λ ts. tag_text t ∷ ts) (texts_usual tags)

text_usual : (tags : List Tag) → spelt_tags_text (map usual tags) ≡ tags_text tags
text_usual [] = refl
text_usual (t ∷ tags) = ap (join_with_byte 44) (texts_usual (t ∷ tags))

tags_usual : (tags : List Tag) → tags_spelt (map usual tags) ≡ tags
tags_usual [] = refl
tags_usual (t ∷ tags) = ap (λ ts. t ∷ ts) (tags_usual tags)

range_usual : (tags : List Tag) → AreTagsInRange tags → AreSpeltInRange (map usual tags)
range_usual [] h = All-nil IsSpeltInRange
range_usual (t ∷ tags) h = All-cons IsSpeltInRange (usual t) (map usual tags) (All-head IsTagInRange t tags h) (range_usual tags (All-tail IsTagInRange t tags h))

-- a set is read back from its text
pub known_set : {E : Type 0} (text : List ℕ) (tags : List Tag) (result : Result (List Tag) E) → IfOk result (IsSetOfText text) → IsCanonical tags → IsTextOf AreTagsInRange tags_text text tags → IfOk result (λ set. set ≡ tags)
known_set text tags (Ok set) (read, (in_range, e), made) c w =
    made ∙ ap (λ ts. set_of (tags_spelt ts)) (same_spelt_text read (map usual tags) in_range (range_usual tags w.0) (sym e ∙ w.1 ∙ sym (text_usual tags))) ∙ ap set_of (tags_usual tags) ∙ set_of_set tags c
known_set text tags (Err e) h c w = tt
