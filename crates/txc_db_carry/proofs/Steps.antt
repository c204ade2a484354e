-- What a step of a carry does, and why it is refused.
use Rattle.std.proofs.Common.{◌≡◌, ◌≢◌, inl, inr, ℕ, ◌+◌, ◌<◌, ◌≤◌, List, [], ◌∷◌, ◌++◌, filter, map, length, Bool, true, false, true≢false, Option, Some, None, refl, sym, ap, subst, ◌∙◌, arith, length-append}
use Rattle.std.proofs.lemmas.List.{length_push}
use Rattle.std.specs.List.{AllByRecursion}
use Rattle.txc_stream.specs.Names.{Name, stored, unstored}
use Rattle.txc_tags.specs.declared.tag.Tag.{Tag}
use Rattle.txc_tags.specs.Tags.{sets_match}
use Rattle.txc_tags.specs.declared.tag.TheConstants.{LAST_TABLE}
use Rattle.txc_tags.specs.declared.text.number.TheConstants.{LAST_NUMBER}
use Rattle.txc_tags.proofs.Lists.{bool_cases, IsIn}
use Rattle.txc_tags.proofs.Merging.{match_nothing}
use Rattle.txc_tags.proofs.All.{all_weaker}
use Rattle.txc_rows.proofs.Offered.{is_in, filter_state, puts_append}
use Rattle.txc_rows.specs.declared.query.Query.{Query}
use Rattle.txc_rows.specs.declared.query.Query.TheVariants.{ById, Range}
use Rattle.txc_rows.specs.declared.query.Change.{Change}
use Rattle.txc_rows.specs.declared.query.Change.TheVariants.{Put}
use Rattle.txc_rows.specs.declared.store_error.StoreError.TheVariants as store
use Rattle.txc_rows.specs.declared.version.Versioned.{Versioned}
use Rattle.txc_rows.specs.States.{RowValue, State, IsState, matches, answer}
use Rattle.txc_rows.specs.Versions.{suits}
use Rattle.txc_rows.specs.Laws.{ChangedIsState, NetTransition}
use Rattle.txc_rows.proofs.Members.{few_left}
use Rattle.txc_db.specs.declared.error.DbError.{DbError}
use Rattle.txc_db.specs.declared.error.DbError.TheVariants.{SnapshotGone, Conflict, Full, Store, Broken, FutureStamp, Memory}
use Rattle.txc_db.specs.Room.{events_room, AreTagsGone}
use Rattle.txc_db.specs.History.{History, state_at, tags_at, commit_event}
use Rattle.txc_db.specs.DatabaseValue.{DatabaseValue, IsSound, newest, newest_state, newest_net, after_commit}
use Rattle.txc_db.specs.Calls.{matching_of, row_query, IsCommitRefused, IsQueryRefused}
use Rattle.txc_db.proofs.Histories.{is_state}
use Rattle.txc_db_carry.specs.Carry.{stands_before, HasCarried, IsReadRefusal, IsPutRefusal}
use Rattle.txc_db_carry.specs.Rooms.{IsHistoryFor, room_for}
use Rattle.txc_db_carry.proofs.Places.{range_joined, before_more, range_before, none_before, table_done, version_done, all_before, none_matching, range_in, one_matching}
use Rattle.txc_db_carry.proofs.Puts.{after_either, commit_state, Puts, all_net, all_written, all_puts}

-- ---- histories

-- the history of a database that is kept so has room for as many events
pub room_of : (room : Option ℕ) (name : Name) → IsHistoryFor room name → events_room name ≡ room_for room
room_of (Some n) (stored cells) is = is
room_of (Some n) (unstored number) is = absurd is
room_of None (stored cells) is = absurd (is tt)
room_of None (unstored number) is = refl

-- where the horizon is 0, the tags of no event are gone
none_gone : (name : Name) (horizon : ℕ) → horizon ≡ 0 → AreTagsGone name horizon 0 → ⊥
none_gone (stored cells) horizon none gone = gone
none_gone (unstored number) horizon none gone = absurd (omega (arith, none, gone))

-- ---- the first step and the last

pub start_carried : (old new : DatabaseValue) → new.broken ≡ false → new.holds ≡ [] → new.history ≡ [] → new.versions ≡ [] → new.horizon ≡ 0 → new.most ≡ old.most
    → HasCarried old new.events 0 0 new
start_carried old new whole holds history versions horizon limit = record {
  whole = whole;
  named = refl;
  limit = limit;
  horizon = horizon;
  holds = holds;
  rows = ap (λ (L : History). state_at L (length L)) history ∙ sym (none_before (newest_state old));
  versions = subst (AllByRecursion (λ (v : Versioned). stands_before 0 0 v.row ≡ true)) (sym versions) tt;
  few = let e : length new.history ≡ 0 = ap (λ (L : History). length L) history in omega (arith, e);
}

pub table_carried : (old new : DatabaseValue) (events : Name) (t : ℕ) → IsSound old → HasCarried old events t (LAST_NUMBER + 1) new → HasCarried old events (t + 1) 0 new
table_carried old new events t sound h = record {
  whole = h.whole;
  named = h.named;
  limit = h.limit;
  horizon = h.horizon;
  holds = h.holds;
  rows = h.rows ∙ table_done old sound t;
  versions = all_weaker (λ v. stands_before t (LAST_NUMBER + 1) v.row ≡ true) (λ v. stands_before (t + 1) 0 v.row ≡ true) (λ v k. version_done t (LAST_NUMBER + 1) v.row k) new.versions h.versions;
  few = h.few;
}

pub all_carried : (old new : DatabaseValue) (events : Name) → IsSound old → HasCarried old events (LAST_TABLE + 1) 0 new → newest_state new ≡ newest_state old
all_carried old new events sound h = h.rows ∙ all_before old sound

-- ---- one range

passed : (p : RowValue → Bool) (Q : RowValue → Type 0) (s : State) → ((r : RowValue) → p r ≡ true → Q r) → AllByRecursion Q (filter p s)
passed p Q [] to = tt
passed p Q (x ∷ xs) to =
    let rest = passed p Q xs to in
    elim (bool_cases (p x)) [
      | inl within ↦ rw within (to x within, rest)
      | inr beyond ↦ rw beyond rest
    ]

some_rows : (d : DatabaseValue) (rows : List RowValue) → newest_net d (map Put rows) ≢ [] → 1 ≤ length rows
some_rows d [] some = absurd (some refl)
some_rows d (r ∷ rs) some = omega arith

module _ (old new : DatabaseValue) (events : Name) (t f l : ℕ) (rows : List RowValue) (changed : ChangedIsState) (le : f ≤ l)
    (h : HasCarried old events t f new) (is : rows ≡ answer (Range t f l) (newest_state old)) where
  whole_state : newest_state new ++ rows ≡ filter (stands_before t (l + 1)) (newest_state old)
  whole_state =
      ap (λ (s : State). s ++ rows) h.rows
      ∙ (ap (λ (rs : State). filter (stands_before t f) (newest_state old) ++ rs) is ∙ range_joined t f l le (newest_state old) (is_state changed old.history (newest old)))

  all_rows : (Q : RowValue → Type 0) → ((r : RowValue) → matches (Range t f l) r ≡ true → Q r) → AllByRecursion Q rows
  all_rows Q to = subst (AllByRecursion Q) (sym is) (passed (matches (Range t f l)) Q (newest_state old) to)

  new_state : NetTransition → newest_state (after_commit new (map Put rows)) ≡ newest_state new ++ rows
  new_state transition = commit_state new (map Put rows) changed transition ∙ puts_append rows (newest_state new) (subst IsState (sym whole_state) (filter_state (stands_before t (l + 1)) (newest_state old) (is_state changed old.history (newest old))))

  moved : AllByRecursion (λ v. stands_before t (l + 1) v.row ≡ true) new.versions
  moved = all_weaker (λ v. stands_before t f v.row ≡ true) (λ v. stands_before t (l + 1) v.row ≡ true) (λ v k. before_more t f (l + 1) (omega (arith, le)) v.row k) new.versions h.versions

  put_versions : AllByRecursion (λ v. stands_before t (l + 1) v.row ≡ true) (after_commit new (map Put rows)).versions
  put_versions =
      let P = λ (r : RowValue). stands_before t (l + 1) r ≡ true in
      after_either new (map Put rows) (λ v. AllByRecursion (λ w. stands_before t (l + 1) w.row ≡ true) v.versions)
      (λ none. moved)
      (λ some. all_written P (newest new + 1) (newest_net new (map Put rows)) new.versions (all_net (Puts P) (newest_state new) (map Put rows) (all_puts P rows (all_rows P (range_before t f l)))) moved)

  fits : newest (after_commit new (map Put rows)) ≤ length (newest_state new ++ rows)
  fits =
      after_either new (map Put rows) (λ v. newest v ≤ length (newest_state new ++ rows))
      (λ none. omega (arith, h.few, length-append (newest_state new) rows))
      (λ some. omega (arith, h.few, length-append (newest_state new) rows, some_rows new rows some, length_push new.history (commit_event (newest_state new) (map Put rows))))

  range_carried : NetTransition → HasCarried old events t (l + 1) (after_commit new (map Put rows))
  range_carried transition = record {
    whole = after_either new (map Put rows) (λ v. v.broken ≡ false) (λ none. h.whole) (λ some. h.whole);
    named = after_either new (map Put rows) (λ v. v.events ≡ events) (λ none. h.named) (λ some. h.named);
    limit = after_either new (map Put rows) (λ v. v.most ≡ old.most) (λ none. h.limit) (λ some. h.limit);
    horizon = after_either new (map Put rows) (λ v. v.horizon ≡ 0) (λ none. h.horizon) (λ some. h.horizon);
    holds = after_either new (map Put rows) (λ v. v.holds ≡ []) (λ none. h.holds) (λ some. h.holds);
    rows = new_state transition ∙ whole_state;
    versions = put_versions;
    few = subst (λ (s : State). newest (after_commit new (map Put rows)) ≤ length s) (sym (new_state transition)) fits;
  }

  pub range_done : NetTransition → (now : DatabaseValue) → now ≡ after_commit new (map Put rows) → HasCarried old events t (l + 1) now
  range_done transition now after = subst (λ (v : DatabaseValue). HasCarried old events t (l + 1) v) (sym after) (range_carried transition)

  -- ---- refusals of the put

  none_kept : (r : RowValue) → matches (Range t f l) r ≡ true → matching_of new (row_query (Put r)) ≡ 0
  none_kept r m =
      let it = range_in t f l r m in
      ap length (subst (λ (table : ℕ). filter (suits (ById table r.id)) new.versions ≡ []) (sym it.0) (none_matching t f r.id it.1 new.versions h.versions))

  put_one : (c : Change) (rs : List RowValue) → IsIn c (map Put rs) → AllByRecursion (λ r. matching_of new (row_query (Put r)) ≡ 0) rs → matching_of new (row_query c) ≡ 0
  put_one c [] k a = absurd k
  put_one c (r ∷ rs) (inl same) a = subst (λ (x : Change). matching_of new (row_query x) ≡ 0) (sym same) a.0
  put_one c (r ∷ rs) (inr later) a = put_one c rs later a.1

  no_match : (xs : List Tag) → sets_match xs [] ≡ true → ⊥
  no_match xs e = true≢false (sym e ∙ match_nothing xs)

  pub put_refused : (e : DbError) → IsCommitRefused new 0 [] (map Put rows) e → IsPutRefusal old (events_room new.events) e
  put_refused Full r =
      let some = some_rows new rows r.some in
      let full : newest new ≡ events_room new.events = r.full in
      let few : newest new ≤ length (newest_state new) = h.few in
      let whole : length (newest_state new ++ rows) ≡ length (filter (stands_before t (l + 1)) (newest_state old)) = ap (λ (s : State). length s) whole_state in
      omega (arith, some, full, few, whole, length-append (newest_state new) rows, few_left (stands_before t (l + 1)) (newest_state old))
  put_refused (Store store.TooManyRows) r =
      let it = r.1 in
      let none = put_one it.0 rows (is_in (map Put rows) it.0 it.1) (all_rows (λ x. matching_of new (row_query (Put x)) ≡ 0) none_kept) in
      absurd (omega (arith, none, it.2))
  put_refused (Store (store.Store cause)) r = tt
  put_refused (Store store.StoreMemory) r = tt
  put_refused (Store store.Memory) r = absurd r.1
  put_refused Memory r = tt
  put_refused Broken r = tt
  put_refused (FutureStamp last) r = absurd (omega (arith, r.1))
  put_refused (Conflict first) r = absurd (no_match (tags_at new.history first) r.1.matches)
  put_refused (SnapshotGone horizon) r = absurd (none_gone new.events new.horizon h.horizon r.1)
  put_refused e r = absurd r

-- ---- refusals of the read

pub read_refused : (d : DatabaseValue) (q : Query) (stamp : ℕ) → d.broken ≡ false → IsSound d → stamp ≡ newest d → (e : DbError) → e ≢ Store store.TooManyRows → IsQueryRefused d q stamp e → IsReadRefusal e
read_refused d q stamp whole sound at Broken few r = absurd (true≢false (sym r ∙ whole))
read_refused d q stamp whole sound at (FutureStamp last) few r = absurd (omega (arith, r.1, at))
read_refused d q stamp whole sound at (SnapshotGone horizon) few r = let kept = sound.kept.kept in absurd (omega (arith, r.1, at, kept))
read_refused d q stamp whole sound at Memory few r = tt
read_refused d q stamp whole sound at (Store store.TooManyRows) few r = absurd (few refl)
read_refused d q stamp whole sound at (Store (store.Store cause)) few r = tt
read_refused d q stamp whole sound at (Store store.StoreMemory) few r = tt
read_refused d q stamp whole sound at (Store store.Memory) few r = absurd r.1
read_refused d q stamp whole sound at e few r = absurd r

pub too_many : (d : DatabaseValue) (t f l : ℕ) → f ≡ l → d.most < matching_of d (Range t f l) → d.most < matching_of d (ById t f)
too_many d t f l one many = subst (λ (n : ℕ). d.most < n) (one_matching d t f) (subst (λ (last : ℕ). d.most < matching_of d (Range t f last)) (sym one) many)
