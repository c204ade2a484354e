-- Lists whose texts are joined by commas, up to an end.
use Rattle.std.proofs.Common.{◌≡◌, ℕ, ◌+◌, All, List, [], ◌∷◌, ◌++◌, map, length, refl, sym, ap, subst, ◌∙◌, arith, append_assoc, append-nil, length-append}
use Rattle.std.specs.List.{flat_map, join_with_byte}
use Rattle.std.proofs.lemmas.List.{flat_map_more}
use Rattle.std.proofs.lemmas.List.Elements.{All-head, All-tail, All-nil, All-cons, All-push}
use Rattle.txc_tags.specs.TextGrammar.{IsText}
use Rattle.txc_tags.specs.TextNumber.{BeginsWithNoDigit}
use Rattle.txc_tags.specs.TextReader.{NoneGoesOn, Reads, GoesWrong, IsRefused, IsMore, IsJoined, HasRead}
use Rattle.txc_tags.proofs.TextReading.{Apart, Solid, solid_apart, solid_none, split, first_wrong, wrong_refused, then_refused}

-- they are the first, and each other with a comma before it
pub join_others : {X : Type 0} (write : X → List ℕ) (first : X) (others : List X) → join_with_byte 44 (map write (first ∷ others)) ≡ write first ++ flat_map (λ y. 44 ∷ write y) others
join_others write first [] = sym (append-nil (write first))
join_others write first (other ∷ others) = ap (λ zs. write first ++ 44 ∷ zs) (join_others write other others)

-- with one more, they are each with a comma after it, and that one
pub join_push : {X : Type 0} (write : X → List ℕ) (xs : List X) (x : X) → join_with_byte 44 (map write (xs ++ x ∷ [])) ≡ flat_map (λ y. write y ++ 44 ∷ []) xs ++ write x
join_push write [] x = refl
join_push write (a ∷ []) x = sym (append_assoc (write a) (44 ∷ []) (write x)) ∙ ap (λ zs. zs ++ write x) (sym (append-nil (write a ++ 44 ∷ [])))
join_push write (a ∷ b ∷ xs) x =
    ap (λ zs. write a ++ 44 ∷ zs) (join_push write (b ∷ xs) x)
    ∙ sym (append_assoc (write a) (44 ∷ []) (flat_map (λ y. write y ++ 44 ∷ []) (b ∷ xs) ++ write x))
    ∙ sym (append_assoc (write a ++ 44 ∷ []) (flat_map (λ y. write y ++ 44 ∷ []) (b ∷ xs)) (write x))

module _ {X : Type 0} (Allowed : X → Type 0) (write : X → List ℕ) (end : List ℕ) (Few : ℕ → Type 0) (solid : Solid (IsText Allowed write)) where
  abbrev Item : List ℕ → Type 0
  Item = IsText Allowed write

  abbrev More : ℕ → List ℕ → Type 0
  More = IsMore Allowed write end Few

  abbrev Joined : ℕ → List ℕ → Type 0
  Joined = IsJoined Allowed write end Few

  -- what stands after an item
  abbrev pub after_item : List X → List ℕ
  after_item items = flat_map (λ item. 44 ∷ write item) items ++ end

  next_item : (item : X) (items : List X) → after_item (item ∷ items) ≡ 44 ∷ (write item ++ after_item items)
  next_item item items = ap (λ t. 44 ∷ t) (append_assoc (write item) (flat_map (λ y. 44 ∷ write y) items) end)

  -- further items after a comma
  to_joined : ((rest : List ℕ) → end ≡ 44 ∷ rest → ⊥) → (k : ℕ) (text : List ℕ) → More k (44 ∷ text) → Joined k text
  to_joined no_comma k text ([], all, few, e) = absurd (no_comma text (sym e))
  to_joined no_comma k text (item ∷ items, all, few, e) =
      let q : 44 ∷ text ≡ 44 ∷ (write item ++ after_item items) = e ∙ next_item item items in
      let counted : k + length (item ∷ items) ≡ (k + 1) + length items = omega arith in
      (write item, after_item items, (item, (All-head Allowed item items all, refl)), (items, All-tail Allowed item items all, subst Few counted few, refl), (let r : text ≡ write item ++ after_item items = cc in r))

  from_joined : (k : ℕ) (text : List ℕ) → Joined k text → More k (44 ∷ text)
  from_joined k text (x, y, (item, (h, d)), (items, all, few, f), e) =
      let counted : (k + 1) + length items ≡ k + length (item ∷ items) = omega arith in
      (item ∷ items, All-cons Allowed item items h all, subst Few counted few, ap (λ t. 44 ∷ t) (e ∙ ap (λ t. t ++ y) d ∙ ap (λ t. write item ++ t) f) ∙ sym (next_item item items))

  module _ (no_digit : BeginsWithNoDigit end) (no_comma : (rest : List ℕ) → end ≡ 44 ∷ rest → ⊥) where
    no_digit_after : (items : List X) → BeginsWithNoDigit (after_item items)
    no_digit_after [] = no_digit
    no_digit_after (item ∷ items) = λ d. omega (arith, d.0)

    apart : (k : ℕ) → Apart Item (More k)
    apart k = solid_apart Item (More k) solid (λ b z h. subst BeginsWithNoDigit (sym h.3) (no_digit_after h.0))

    -- an item goes wrong
    pub item_refused : (k : ℕ) (text rest : List ℕ) → Few (k + 1) → GoesWrong Item text rest → IsRefused (Joined k) text rest
    item_refused k text rest few g =
        let one : Few (k + 1 + length {A = X} []) = subst Few (omega arith) few in
        wrong_refused (Joined k) text rest (first_wrong Item (More (k + 1)) (apart (k + 1)) text rest end ([], All-nil Allowed, one, refl) g)

    -- what comes after it does
    pub after_refused : (k : ℕ) (text piece after rest : List ℕ) → Reads Item text piece after → IsRefused (More (k + 1)) after rest → IsRefused (Joined k) text rest
    after_refused k text piece after rest r g = then_refused Item (More (k + 1)) (apart (k + 1)) text piece after r rest g

    -- what comes after a comma does
    pub comma_refused : (k : ℕ) (text rest : List ℕ) → IsRefused (Joined k) text rest → IsRefused (More k) (44 ∷ text) rest
    comma_refused k text rest g = record {
      stops = record {
        read = 44 ∷ g.stops.read;
        parts = ap (λ t. 44 ∷ t) g.stops.parts;
        begins = (g.stops.begins.0, from_joined k (g.stops.read ++ g.stops.begins.0) g.stops.begins.1);
        no_more = λ byte others more e h. g.stops.no_more byte others more e (to_joined no_comma k (g.stops.read ++ byte ∷ more) h);
      };
      none = λ h. g.none (to_joined no_comma k text h);
    }

    -- neither the end nor a comma with room for more
    pub neither_refused : (k : ℕ) (text : List ℕ) → Few k → (text ≡ end → ⊥) → ((byte : ℕ) (others more : List ℕ) → text ≡ byte ∷ others → byte ∷ more ≡ end → ⊥)
        → ((others : List ℕ) (n : ℕ) → text ≡ 44 ∷ others → Few (k + (1 + n)) → ⊥) → IsRefused (More k) text text
    neither_refused k text few alone no_end no_more = record {
      stops = record { read = []; parts = refl; begins = (end, ([], All-nil Allowed, subst Few (omega arith) few, refl)); no_more = none };
      none = whole;
    }
      where
        further : (others more : List ℕ) (byte : ℕ) (item : X) (items : List X) → text ≡ byte ∷ others → Few (k + length (item ∷ items)) → byte ∷ more ≡ after_item (item ∷ items) → ⊥
        further others more byte item items e h is =
            let b : byte ≡ 44 = cc in
            let counted : k + length (item ∷ items) ≡ k + (1 + length items) = omega arith in
            no_more others (length items) (e ∙ ap (λ (c : ℕ). c ∷ others) b) (subst Few counted h)

        none : NoneGoesOn (More k) [] text
        none byte others more e ([], all, h, is) = no_end byte others more e is
        none byte others more e (item ∷ items, all, h, is) = further others more byte item items e h is

        whole : More k text → ⊥
        whole ([], all, h, is) = alone is
        whole (item ∷ items, all, h, is) = further (write item ++ after_item items) (write item ++ after_item items) 44 item items (is ∙ next_item item items) h (sym (next_item item items))

    abbrev After : List ℕ → Type 0
    After text = (items : List X) × (text ≡ after_item items)

    head_known : (x y : X) (xs ys : List X) → Allowed x → Allowed y → write x ++ after_item xs ≡ write y ++ after_item ys → (write x ≡ write y) × (after_item xs ≡ after_item ys)
    head_known x y xs ys h k e =
        split Item After (solid_apart Item After solid (λ b z i. subst BeginsWithNoDigit (sym i.1) (no_digit_after i.0)))
        (write x) (after_item xs) (write y) (after_item ys) (x, (h, refl)) (solid_none Item solid (write x) (after_item xs) (x, (h, refl)) (no_digit_after xs)) (y, (k, refl)) (ys, refl) e

    -- items are known by their text
    module _ (known : (a b : X) → Allowed a → Allowed b → write a ≡ write b → a ≡ b) where
      after_known : (xs ys : List X) → All Allowed xs → All Allowed ys → after_item xs ≡ after_item ys → xs ≡ ys
      after_known [] [] hs ks e = refl
      after_known [] (y ∷ ys) hs ks e = absurd (no_comma (write y ++ after_item ys) (e ∙ next_item y ys))
      after_known (x ∷ xs) [] hs ks e = absurd (no_comma (write x ++ after_item xs) (sym e ∙ next_item x xs))
      after_known (x ∷ xs) (y ∷ ys) hs ks e =
          let q : 44 ∷ (write x ++ after_item xs) ≡ 44 ∷ (write y ++ after_item ys) = sym (next_item x xs) ∙ e ∙ next_item y ys in
          let t : write x ++ after_item xs ≡ write y ++ after_item ys = cc in
          let p = head_known x y xs ys (All-head Allowed x xs hs) (All-head Allowed y ys ks) t in
          ap (λ (z : X). z ∷ xs) (known x y (All-head Allowed x xs hs) (All-head Allowed y ys ks) p.0) ∙ ap (λ (zs : List X). y ∷ zs) (after_known xs ys (All-tail Allowed x xs hs) (All-tail Allowed y ys ks) p.1)

      pub joined_known : (x y : X) (xs ys : List X) → Allowed x → Allowed y → All Allowed xs → All Allowed ys → write x ++ after_item xs ≡ write y ++ after_item ys → x ∷ xs ≡ y ∷ ys
      joined_known x y xs ys h k hs ks e =
          let p = head_known x y xs ys h k e in
          ap (λ (z : X). z ∷ xs) (known x y h k p.0) ∙ ap (λ (zs : List X). y ∷ zs) (after_known xs ys hs ks p.1)

    -- ---- what the readers keep

    pub read_more : (text rest after next : List ℕ) (items : List X) (item : X) → HasRead Allowed write end Few text rest items → Allowed item → Reads Item rest (write item) after → after ≡ 44 ∷ next → HasRead Allowed write end Few text next (items ++ item ∷ [])
    read_more text rest after next items item h allowed r e = record {
      all = All-push Allowed items item h.all allowed;
      parts = h.parts ∙ ap (λ t. flat_map each items ++ t) (r.parts ∙ ap (λ t. write item ++ t) e ∙ sym (append_assoc (write item) (44 ∷ []) next))
          ∙ sym (append_assoc (flat_map each items) (each item) next) ∙ ap (λ t. t ++ next) (flat_map_more each [] items item);
      refused = refused;
    }
      where
        each : X → List ℕ
        each x = write x ++ 44 ∷ []

        refused : (last : List ℕ) → IsRefused (Joined (length (items ++ item ∷ []))) next last → IsRefused (Joined 0) text last
        refused last g =
            let counted : length (items ++ item ∷ []) ≡ length items + 1 = length-append items (item ∷ []) in
            let later : IsRefused (More (length items + 1)) after last = subst (λ (t : List ℕ). IsRefused (More (length items + 1)) t last) (sym e) (comma_refused (length items + 1) next last (subst (λ (k : ℕ). IsRefused (Joined k) next last) counted g)) in
            h.refused last (after_refused (length items) rest (write item) after last r later)

    -- the last item, and the end
    pub read_all : (text rest after : List ℕ) (items : List X) (item : X) → HasRead Allowed write end Few text rest items → Reads Item rest (write item) after → after ≡ end → text ≡ join_with_byte 44 (map write (items ++ item ∷ [])) ++ end
    read_all text rest after items item h r e =
        h.parts ∙ ap (λ t. flat_map (λ x. write x ++ 44 ∷ []) items ++ t) (r.parts ∙ ap (λ t. write item ++ t) e)
        ∙ sym (append_assoc (flat_map (λ x. write x ++ 44 ∷ []) items) (write item) end) ∙ ap (λ t. t ++ end) (sym (join_push write items item))
