-- A replay, as the events themselves.
use Rattle.std.proofs.Common.{◌≡◌, ℕ, ◌+◌, ◌-◌, ◌<◌, Bool, true, false, ◌&&◌, cond, ltb, suc, zero, List, [], ◌∷◌, length, get_or, Option, Some, None, refl, sym, ap, ◌∙◌, arith}
use Rattle.std.specs.List.{AllByRecursion, position}
use Rattle.std.proofs.lemmas.Bool.Decides.{nat_tests}
use Rattle.std.proofs.lemmas.List.Quantifiers.{position-Some}
use Rattle.txc_stamp.specs.Interval.{Interval, closed_at}
use Rattle.txc_tags.specs.declared.tag.Tag.{Tag}
use Rattle.txc_tags.specs.Tags.{sets_match}
use Rattle.txc_node.specs.declared.entry.Entry.{Entry}
use Rattle.txc_node.specs.Cache.{closed_before, replayed_reach, is_invalidated, entry_after, last_of}
use Rattle.txc_node.specs.Laws.{after_events, ReplaysAsIfItHadBeenThere, TrustsNoLostEvent}
use Rattle.txc_node.proofs.Inserts.{position_none}

-- the entry closed at a stamp
abbrev closed_entry : ℕ → Entry → Entry
closed_entry known e = record e { reach = closed_at known e.reach }

entry_at : (stamp : ℕ) (tags : List Tag) (e : Entry) (b : Bool) → is_invalidated stamp tags e ≡ b → entry_after stamp tags e ≡ cond b (closed_entry (stamp - 1) e) e
entry_at stamp tags e b h = ap (λ v. cond v (closed_entry (stamp - 1) e) e) h

spared : (stamp : ℕ) (tags : List Tag) (e : Entry) → sets_match tags e.tags ≡ false → is_invalidated stamp tags e ≡ false
spared stamp tags e h =
    let go : (a b m : Bool) → m ≡ false → (a && (b && m)) ≡ false = λ a b m. elim a as (λ v. m ≡ false → (v && (b && m)) ≡ false) [ true ↦ elim b as (λ v. m ≡ false → (v && m) ≡ false) [ true ↦ (λ k. k) | false ↦ (λ _. refl) ] | false ↦ (λ _. refl) ] in
    go e.reach.still (ltb e.reach.known stamp) (sets_match tags e.tags) h

struck : (stamp : ℕ) (tags : List Tag) (e : Entry) → e.reach.still ≡ true → e.reach.known < stamp → sets_match tags e.tags ≡ true → is_invalidated stamp tags e ≡ true
struck stamp tags e s k m =
    let below : ltb e.reach.known stamp ≡ true = grind (arith, nat_tests) in
    let go : (a b c : Bool) → a ≡ true → b ≡ true → c ≡ true → (a && (b && c)) ≡ true = λ a b c x y z. cc in
    go e.reach.still (ltb e.reach.known stamp) (sets_match tags e.tags) s below m

-- no event changes a closed entry
closed_stays : (stamp : ℕ) (more : List (List Tag)) (known : ℕ) (e : Entry) → after_events stamp more (closed_entry known e) ≡ closed_entry known e
closed_stays stamp [] known e = refl
closed_stays stamp (t ∷ ts) known e = closed_stays (stamp + 1) ts known e

-- nor do events that do not match
unmatched_stays : (stamp : ℕ) (more : List (List Tag)) (e : Entry) → AllByRecursion (λ t. sets_match t e.tags ≡ false) more → after_events stamp more e ≡ e
unmatched_stays stamp [] e h = refl
unmatched_stays stamp (t ∷ ts) e h = ap (after_events (stamp + 1) ts) (entry_at stamp t e false (spared stamp t e h.0)) ∙ unmatched_stays (stamp + 1) ts e h.1

-- the first one that matches closes it just below itself
first_match_closes : (stamp : ℕ) (more : List (List Tag)) (k : ℕ) (e : Entry) → e.reach.still ≡ true → e.reach.known < stamp → k < length more
    → ((d : List Tag) → sets_match (get_or more k d) e.tags ≡ true) → ((j : ℕ) → j < k → (d : List Tag) → sets_match (get_or more j d) e.tags ≡ false)
    → after_events stamp more e ≡ closed_entry (stamp + k - 1) e
first_match_closes stamp [] k e s n l at before = absurd (omega arith)
first_match_closes stamp (t ∷ ts) zero e s n l at before =
    ap (after_events (stamp + 1) ts) (entry_at stamp t e true (struck stamp t e s n (at t))) ∙ closed_stays (stamp + 1) ts (stamp - 1) e ∙ ap (λ m. closed_entry m e) (omega arith)
first_match_closes stamp (t ∷ ts) (suc k) e s n l at before =
    ap (after_events (stamp + 1) ts) (entry_at stamp t e false (spared stamp t e (before 0 (omega arith) t)))
    ∙ first_match_closes (stamp + 1) ts k e s (omega arith) (omega arith) at (λ j m d. before (suc j) (omega arith) d)
    ∙ ap (λ m. closed_entry m e) (omega arith)

replayed : (more : List (List Tag)) (e : Entry) (o : Option ℕ) → position (λ t. sets_match t e.tags) more ≡ o → e.reach.still ≡ true
    → (let r : Entry = record e { reach = closed_before o e.reach } in r ≡ after_events (e.reach.known + 1) more e)
replayed more e None h s = sym (unmatched_stays (e.reach.known + 1) more e (position_none (λ t. sets_match t e.tags) more h))
replayed more e (Some k) h s =
    let p = λ (d : List Tag). position-Some (λ t. sets_match t e.tags) more k d h in
    sym (first_match_closes (e.reach.known + 1) more k e s (omega arith) (p []).0 (λ d. (p d).1) (λ j l d. (p d).2 j l) ∙ ap (λ m. closed_entry m e) (omega arith))

pub replays_as_if_it_had_been_there : ReplaysAsIfItHadBeenThere
replays_as_if_it_had_been_there c e s l =
    let missed = c.processed - e.reach.known in
    let more = last_of missed c.recent in
    let o = position (λ t. sets_match t e.tags) more in
    let kept : ltb (length c.recent) missed ≡ false = grind (arith, nat_tests) in
    let reach : replayed_reach c e ≡ closed_before o e.reach =
    ap (λ b. cond b (cond (ltb (length c.recent) missed) (closed_at e.reach.known e.reach) (closed_before o e.reach)) e.reach) s
    ∙ ap (λ b. cond b (closed_at e.reach.known e.reach) (closed_before o e.reach)) kept in
    ap (λ (i : Interval). let r : Entry = record e { reach = i } in r) reach ∙ replayed more e o refl s

pub trusts_no_lost_event : TrustsNoLostEvent
trusts_no_lost_event c e s l =
    let missed = c.processed - e.reach.known in
    let o = position (λ t. sets_match t e.tags) (last_of missed c.recent) in
    let lost : ltb (length c.recent) missed ≡ true = grind (arith, nat_tests) in
    ap (λ b. cond b (cond (ltb (length c.recent) missed) (closed_at e.reach.known e.reach) (closed_before o e.reach)) e.reach) s
    ∙ ap (λ b. cond b (closed_at e.reach.known e.reach) (closed_before o e.reach)) lost
