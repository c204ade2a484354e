-- What holds over reaches, put together and weakened.
use Rattle.std.proofs.Common.{◌≡◌, ℕ, ◌&&◌, max, min, List, [], ◌∷◌, ◌++◌, append-nil, Option, Some, None, true, refl, sym, subst, ◌∙◌, arith}
use Rattle.std.proofs.lemmas.Bool.{le-leb}
use Rattle.txc_stamp.specs.Interval.{Interval, Holds, meet_of}
use Rattle.txc_tags.specs.declared.tag.Tag.{Tag}
use Rattle.txc_tags.specs.Tags.{covers, with_tags}
use Rattle.txc_tags.proofs.Offered.{both_true, and_true, all_keep}
use Rattle.txc_tags.proofs.Covering.{all_cover}
use Rattle.txc_rows.specs.declared.query.Query.{Query}
use Rattle.txc_rows.specs.States.{State}
use Rattle.txc_rows.specs.RowTags.{query_tag, covers_query}
use Rattle.txc_db.specs.History.{History, state_at}
use Rattle.txc_app.specs.Claims.{covers_all, HoldsOver}
use Rattle.txc_call.specs.Reaches.{InReach, ReachesMeet, meet}

-- ---- cover

-- a joined set covers what the old one covered
all_one : (tags more : List Tag) (qs : List Query) → covers_all tags qs ≡ true → covers_all (with_tags more tags) qs ≡ true
all_one tags more [] h = refl
all_one tags more (q ∷ qs) h =
    let two = both_true (covers_query tags q) (covers_all tags qs) h in
    and_true (covers_query (with_tags more tags) q) (covers_all (with_tags more tags) qs) (all_keep more (query_tag q) tags two.0) (all_one tags more qs two.1)

-- and what the tags that were added to it covered
all_other : (tags more : List Tag) (qs : List Query) → covers_all more qs ≡ true → covers_all (with_tags more tags) qs ≡ true
all_other tags more [] h = refl
all_other tags more (q ∷ qs) h =
    let two = both_true (covers_query more q) (covers_all more qs) h in
    and_true (covers_query (with_tags more tags) q) (covers_all (with_tags more tags) qs) (all_cover more tags (query_tag q) two.0) (all_other tags more qs two.1)

all_both : (tags : List Tag) (qs rs : List Query) → covers_all tags qs ≡ true → covers_all tags rs ≡ true → covers_all tags (qs ++ rs) ≡ true
all_both tags [] rs h k = k
all_both tags (q ∷ qs) rs h k =
    let two = both_true (covers_query tags q) (covers_all tags qs) h in
    and_true (covers_query tags q) (covers_all tags (qs ++ rs)) two.0 (all_both tags qs rs two.1 k)

-- ---- reaches

abbrev pub both : Interval → Interval → Interval
both a b = record { lo = max a.lo b.lo; known = min a.known b.known; still = a.still && b.still }

-- where a stamp is held by both, their meet
pub meet_is : (t : ℕ) (a b : Interval) → Holds a t → Holds b t → meet_of a b ≡ Some (both a b)
meet_is t a b h k = let h0 = h.0 in let h1 = h.1 in let k0 = k.0 in let k1 = k.1 in rw (le-leb (max a.lo b.lo) (min a.known b.known) (omega (arith, h0, h1, k0, k1))) refl

in_both : (t : ℕ) (a b : Interval) → Holds (both a b) t → Holds a t × Holds b t
in_both t a b h = let h0 = h.0 in let h1 = h.1 in ((omega (arith, h0, h1), omega (arith, h0, h1)), (omega (arith, h0, h1), omega (arith, h0, h1)))

-- a stamp that both hold lies in the meet
pub in_meet : (t : ℕ) (a b : Option Interval) → InReach t a → InReach t b → InReach t (meet a b)
in_meet t None b h k = k
in_meet t (Some a) None h k = h
in_meet t (Some a) (Some b) h k =
    let h0 = h.0 in let h1 = h.1 in let k0 = k.0 in let k1 = k.1 in
    subst (λ (o : Option Interval). InReach t o) (sym (meet_is t a b h k)) (omega (arith, h0, k0), omega (arith, h1, k1))

-- what both hold, they meet at
pub meets_at : (t : ℕ) (a b : Option Interval) → InReach t a → InReach t b → ReachesMeet a b
meets_at t None b h k = tt
meets_at t (Some a) None h k = tt
meets_at t (Some a) (Some b) h k = record { at_stamp = t; one = h; other = k }

pub meets_none : (a : Option Interval) → ReachesMeet a None
meets_none None = tt
meets_none (Some a) = tt

-- ---- claims

-- two claims hold together over the meet of their reaches, with the tags of both, where some stamp lies in both
pub both_hold : (L : History) (P P' : State → Type 0) (Q Q' : State → List Query) (r r' : Option Interval) (tags tags' : List Tag)
    → ReachesMeet r r' → HoldsOver L P Q r tags → HoldsOver L P' Q' r' tags'
    → HoldsOver L (λ s. P s × P' s) (λ s. Q s ++ Q' s) (meet r r') (with_tags tags' tags)
both_hold L P P' Q Q' None None tags tags' m h k = λ s. (((h s).0, (k s).0), rw ((h s).1, (k s).1) refl)
both_hold L P P' Q Q' None (Some b) tags tags' m h k = record {
  within = k.within;
  holds = λ s inside. ((h (state_at L s)).0, k.holds s inside);
  covered = λ still s inside. rw ((h (state_at L s)).1) (all_other tags tags' (Q' (state_at L s)) (k.covered still s inside));
}
both_hold L P P' Q Q' (Some a) None tags tags' m h k = record {
  within = h.within;
  holds = λ s inside. (h.holds s inside, (k (state_at L s)).0);
  covered = λ still s inside. rw ((k (state_at L s)).1, append-nil (Q (state_at L s))) (all_one tags tags' (Q (state_at L s)) (h.covered still s inside));
}
both_hold L P P' Q Q' (Some a) (Some b) tags tags' m h k =
    subst (λ (o : Option Interval). HoldsOver L (λ s. P s × P' s) (λ s. Q s ++ Q' s) o (with_tags tags' tags)) (sym (meet_is m.at_stamp a b m.one m.other)) record {
      within = let w = h.within in omega (arith, w);
      holds = λ s inside. let two = in_both s a b inside in (h.holds s two.0, k.holds s two.1);
      covered = λ still s inside.
          let two = in_both s a b inside in
          let stills = both_true a.still b.still still in
          all_both (with_tags tags' tags) (Q (state_at L s)) (Q' (state_at L s))
          (all_one tags tags' (Q (state_at L s)) (h.covered stills.0 s two.0))
          (all_other tags tags' (Q' (state_at L s)) (k.covered stills.1 s two.1));
    }

-- a claim gives another that rests on the same queries
pub weaker : (L : History) (P P' : State → Type 0) (Q Q' : State → List Query) (r : Option Interval) (tags : List Tag)
    → ((s : State) → P s → P' s × (Q' s ≡ Q s)) → HoldsOver L P Q r tags → HoldsOver L P' Q' r tags
weaker L P P' Q Q' None tags step h = λ s. let n = step s (h s).0 in (n.0, n.1 ∙ (h s).1)
weaker L P P' Q Q' (Some r) tags step h = record {
  within = h.within;
  holds = λ t inside. (step (state_at L t) (h.holds t inside)).0;
  covered = λ still t inside. rw ((step (state_at L t) (h.holds t inside)).1) (h.covered still t inside);
}
