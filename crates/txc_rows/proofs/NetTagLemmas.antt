-- The tags of net changes are those between the states.
use Rattle.std.proofs.Common.{◌≡◌, inl, inr, List, [], ◌∷◌, ◌++◌, Bool, true, false, true≢false, not, ◌||◌, Option, Some, None, refl, sym, ap, subst, ◌∙◌}
use Rattle.std.specs.List.{AllByRecursion, list_any, flat_map}
use Rattle.txc_tags.specs.Tags.{set_of}
use Rattle.txc_rows.specs.declared.query.Change.{Change}
use Rattle.txc_rows.specs.declared.query.Change.TheVariants.{Put, Remove}
use Rattle.txc_rows.specs.States.{RowValue, State, row_before, IsState}
use Rattle.txc_rows.specs.RowTags.{has_row, lost, tags_of_row}
use Rattle.txc_rows.specs.Net.{changes_state, KeysAscend, puts_of, rows_at}
use Rattle.txc_rows.specs.Laws.{NetTags}
use Rattle.txc_rows.proofs.Members.{IsIn, bool_cases, not_true_is, in_filter, from_filter}
use Rattle.txc_rows.proofs.RowTests.{has_row_in, has_there}
use Rattle.txc_rows.proofs.ChangeLemmas.{is_of, Makes, made_of}
use Rattle.txc_rows.proofs.Rising.{changes_state as changed_state, same_rows, filter_state}
use Rattle.txc_rows.proofs.NetLemmas.{Over, Meets, or_else, last_of, last_is, from_changes, to_changes, each_in}

under_puts : (row : RowValue) (cs : List Change) → Over (Put row) cs → AllByRecursion (λ (s : RowValue). row_before row s ≡ true) (puts_of cs)
under_puts row [] h = tt
under_puts row (Put new ∷ cs) h = (h.0, under_puts row cs h.1)
under_puts row (Remove t i ∷ cs) h = under_puts row cs h.1

puts_state : (net : List Change) → KeysAscend net → IsState (puts_of net)
puts_state [] h = tt
puts_state (Put row ∷ cs) h = (under_puts row cs h.0, puts_state cs h.1)
puts_state (Remove t i ∷ cs) h = puts_state cs h.1

in_puts : (net : List Change) (row : RowValue) → IsIn (Put row) net → IsIn row (puts_of net)
in_puts [] row h = absurd h
in_puts (Put new ∷ cs) row (inl same) = inl (let e = same in cc)
in_puts (Put new ∷ cs) row (inr later) = inr (in_puts cs row later)
in_puts (Remove t i ∷ cs) row (inl same) = absurd (let e = same in cc)
in_puts (Remove t i ∷ cs) row (inr later) = in_puts cs row later

from_puts : (net : List Change) (row : RowValue) → IsIn row (puts_of net) → IsIn (Put row) net
from_puts [] row h = absurd h
from_puts (Put new ∷ cs) row (inl same) = inl (ap (λ (x : RowValue). Put x) same)
from_puts (Put new ∷ cs) row (inr later) = inr (from_puts cs row later)
from_puts (Remove t i ∷ cs) row h = inr (from_puts cs row h)

last_stands : (net : List Change) (r : RowValue) (c : Change) → last_of net r ≡ Some c → IsIn c net
last_stands [] r c e = absurd (let f = e in cc)
last_stands (d ∷ ds) r c e = go (last_of ds r) refl (is_of d r) e (last_stands ds r c)
  where
    go : (o : Option Change) → last_of ds r ≡ o → (b : Bool) → or_else o b d ≡ Some c → (last_of ds r ≡ Some c → IsIn c ds) → IsIn c (d ∷ ds)
    go (Some x) f b e on = inr (on (f ∙ e))
    go None f true e on = inl (let g = e in cc)
    go None f false e on = absurd (let g = e in cc)

-- none of the net's keys is the row's
none_of_net : (net : List Change) (r : RowValue) → list_any (λ c. is_of c r) net ≡ false → last_of net r ≡ None
none_of_net [] r e = refl
none_of_net (c ∷ cs) r e = go (is_of c r) e (none_of_net cs r)
  where
    go : (b : Bool) → b || list_any (λ d. is_of d r) cs ≡ false → (list_any (λ d. is_of d r) cs ≡ false → last_of cs r ≡ None) → or_else (last_of cs r) b c ≡ None
    go true e on = absurd (true≢false e)
    go false e on = rw (on e) refl

-- one of them is
some_about : (net : List Change) (r : RowValue) → list_any (λ c. is_of c r) net ≡ true → (c : Change) × (last_of net r ≡ Some c)
some_about [] r e = absurd (true≢false (sym e))
some_about (c ∷ cs) r e = go (last_of cs r) refl (is_of c r) e (some_about cs r)
  where
    go : (o : Option Change) → last_of cs r ≡ o → (b : Bool) → b || list_any (λ d. is_of d r) cs ≡ true → (list_any (λ d. is_of d r) cs ≡ true → (d : Change) × (last_of cs r ≡ Some d)) → (d : Change) × (or_else o b c ≡ Some d)
    go (Some d) f b e on = (d, refl)
    go None f true e on = (c, refl)
    go None f false e on = let it = on e in absurd (let g = sym f ∙ it.1 in cc)

pub net_tags : NetTags
net_tags old new net h is =
    ap (λ (rs : List RowValue). set_of (flat_map tags_of_row rs)) (λ i. before i ++ after i)
  where
    state : IsState new
    state = subst IsState is.transition (changed_state net old h)

    into : (r : RowValue) → Meets (last_of net r) r old → IsIn r new
    into r m = subst (λ (s : State). IsIn r s) is.transition (to_changes net r old m)

    out : (r : RowValue) → IsIn r new → Meets (last_of net r) r old
    out r k = from_changes net r old (subst (λ (s : State). IsIn r s) (sym is.transition) k)

    -- a put of the net isn't in the old state
    is_new : (c : Change) (r : RowValue) → IsIn c net → Makes c r → IsIn r old → ⊥
    is_new (Put row) r stands m k = true≢false (sym (has_there old row (subst (λ (x : RowValue). IsIn x old) m k)) ∙ not_true_is _ (each_in (changes_state old) net (Put row) is.each stands))
    is_new (Remove t i) r stands m k = absurd m

    after : lost new old ≡ puts_of net
    after = same_rows (lost new old) (puts_of net) (filter_state (λ r. not (has_row old r)) new state) (puts_state net is.rising)
        (λ r k. let it = from_filter (λ (x : RowValue). not (has_row old x)) r new k in made r (last_of net r) refl (out r it.0) (not_true_is _ it.1))
        (λ r k. in_filter (λ (x : RowValue). not (has_row old x)) r new (into r (subst (λ (o : Option Change). Meets o r old) (sym (last_is net (Put r) r is.rising (from_puts net r k) (made_of (Put r) r refl))) refl)) (each_in (changes_state old) net (Put r) is.each (from_puts net r k)))
      where
        made : (r : RowValue) (o : Option Change) → last_of net r ≡ o → Meets o r old → has_row old r ≡ false → IsIn r (puts_of net)
        made r None e m off = absurd (true≢false (sym (has_there old r m) ∙ off))
        made r (Some (Put row)) e m off = subst (λ (x : RowValue). IsIn x (puts_of net)) (sym m) (in_puts net row (last_stands net r (Put row) e))
        made r (Some (Remove t i)) e m off = absurd m

    before : lost old new ≡ rows_at net old
    before = same_rows (lost old new) (rows_at net old) (filter_state (λ r. not (has_row new r)) old h) (filter_state (λ r. list_any (λ c. is_of c r) net) old h)
        (λ r k. let it = from_filter (λ (x : RowValue). not (has_row new x)) r old k in in_filter (λ (x : RowValue). list_any (λ c. is_of c x) net) r old it.0 (about r it.0 (not_true_is _ it.1)))
        (λ r k. let it = from_filter (λ (x : RowValue). list_any (λ c. is_of c x) net) r old k in in_filter (λ (x : RowValue). not (has_row new x)) r old it.0 (ap not (away r it.0 it.1)))
      where
        about : (r : RowValue) → IsIn r old → has_row new r ≡ false → list_any (λ c. is_of c r) net ≡ true
        about r k off = elim (bool_cases (list_any (λ c. is_of c r) net)) [
          | inl hit ↦ hit
          | inr none ↦ absurd (true≢false (sym (has_there new r (into r (subst (λ (o : Option Change). Meets o r old) (sym (none_of_net net r none)) k))) ∙ off))
        ]

        away : (r : RowValue) → IsIn r old → list_any (λ c. is_of c r) net ≡ true → has_row new r ≡ false
        away r k hit = elim (bool_cases (has_row new r)) [
          | inl has ↦ let it = some_about net r hit in absurd (is_new it.0 r (last_stands net r it.0 it.1) (subst (λ (o : Option Change). Meets o r old) it.1 (out r (has_row_in new r has))) k)
          | inr off ↦ off
        ]
