-- Refusals, one in terms of another, and what they leave.
use Rattle.std.proofs.Common.{◌≡◌, ◌≢◌, inl, inr, ℕ, List, [], ◌∷◌, false, true≢false, refl, sym, subst, ◌∙◌}
use Rattle.std.specs.Prelude.{Result, Ok, Err, IfErr}
use Rattle.std.specs.Result.{IsErrAnd}
use Rattle.txc_stream.specs.Names.{HasRow}
use Rattle.txc_tags.specs.declared.tag.Tag.{Tag}
use Rattle.txc_rows.specs.declared.query.Change.{Change}
use Rattle.txc_rows.specs.declared.store_error.StoreError.TheVariants as store
use Rattle.txc_rows.proofs.Offered.{IsIn, contains_it}
use Rattle.txc_db.specs.declared.error.DbError.{DbError}
use Rattle.txc_db.specs.declared.error.DbError.TheVariants.{Store, Broken, FutureStamp, SnapshotGone}
use Rattle.txc_db.specs.DatabaseValue.{DatabaseValue, newest_net}
use Rattle.txc_db.specs.Calls.{IsLeft, IsCommittable, row_query, IsCommitRefused}
use Rattle.txc_db.specs.Steps.{IsBaseRefused, IsReadRefused, IsNetRefused}

-- an error that is passed on
pub passed_up : {T E : Type 0} (r : Result T E) (e : E) (P : E → Type 0) → IsErrAnd r (λ y. y ≡ e) → P e → IfErr r P
passed_up (Ok x) e P is p = absurd is
passed_up (Err y) e P is p = subst P (sym is) p

-- ---- of the steps of a commit

pub base_left : (d : DatabaseValue) (base : ℕ) (e : DbError) → IsBaseRefused d base e → IsLeft d d e
base_left d base Broken r = inl (refl, r)
base_left d base e r = refl

pub base_refused : (d : DatabaseValue) (base : ℕ) (read : List Tag) (changes : List Change) (e : DbError) → IsBaseRefused d base e → IsCommitRefused d base read changes e
base_refused d base read changes Broken h = inl h
base_refused d base read changes (FutureStamp last) h = h
base_refused d base read changes (SnapshotGone horizon) h = h
base_refused d base read changes e h = absurd h

-- a base is refused as broken by a broken database alone
pub base_taken : {T : Type 0} (r : Result T DbError) (d : DatabaseValue) (base : ℕ) (e : DbError) → IsErrAnd r (λ y. y ≡ e) → IsBaseRefused d base e
    → d.broken ≡ false → r ≡ Err Broken → HasRow d.events
base_taken (Ok x) d base e is h whole broken = absurd is
base_taken (Err y) d base Broken is h whole broken = absurd (true≢false (sym h ∙ whole))
base_taken (Err y) d base (FutureStamp last) is h whole broken = absurd (cc (is, broken))
base_taken (Err y) d base (SnapshotGone horizon) is h whole broken = absurd (cc (is, broken))
base_taken (Err y) d base e is h whole broken = absurd h

some_in : (c : Change) (changes : List Change) → IsIn c changes → changes ≢ []
some_in c [] is none = is
some_in c (x ∷ xs) is none = let f = none in absurd cc

-- a refusal at one of the changes is one of all of them
pub read_refused : (d : DatabaseValue) (changes : List Change) (c : Change) → IsIn c changes → (e : DbError) → IsReadRefused d (row_query c) e → IsNetRefused d changes e
read_refused d changes c one (Store store.TooManyRows) h = (c, contains_it changes c one, h)
read_refused d changes c one (Store (store.Store cause)) h = some_in c changes one
read_refused d changes c one (Store store.StoreMemory) h = some_in c changes one
read_refused d changes c one (Store store.Memory) h = h
read_refused d changes c one e h = h

-- ---- under the lock

-- where a commit leaves another newest stamp, there was room for its event
pub mark_refused : (d : DatabaseValue) (base : ℕ) (read : List Tag) (changes : List Change) → IsCommittable d base read changes → newest_net d changes ≢ [] → IsCommitRefused d base read changes Broken
mark_refused d base read changes due some = inr (record { unread = due.unread; few = due.few; some = some; room = due.room some })
