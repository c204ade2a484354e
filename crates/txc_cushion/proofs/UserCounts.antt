-- How many may use a pin, and how often a stamp is named.
use Rattle.std.proofs.Common.{◌≡◌, ℕ, ◌+◌, ◌<◌, ◌≤◌, ◌==◌, not, Bool, true, false, List, [], ◌∷◌, length, take, get_or, zero, suc, Some, refl, ap, subst, arith, All, Contains, eqb-true, eq-eqb, ne_eqb}
use Rattle.std.proofs.lemmas.List.{take_all}
use Rattle.std.proofs.lemmas.List.Elements.{Contains-get_or, All-filter}
use Rattle.std.proofs.lemmas.List.Sums.{count_by_more_yes, count_by_more_no, length-filter, count_by-le-length}
use Rattle.txc_db.specs.History.{moment_at}
use Rattle.txc_cushion.specs.declared.entry.PinEntry.{PinEntry}
use Rattle.txc_cushion.specs.Entries.{EntriesDescend, users_of, times, is_retirable}
use Rattle.txc_cushion.specs.Refusals.{HaveUsers}
use Rattle.txc_cushion.specs.Cushion.{CushionValue, IsCushion, after_retire}
use Rattle.txc_cushion.proofs.Falling.{falls_head, falls_tail, falls_filter}

-- ---- users of an entry

pub users_of_entry : (es : List PinEntry) (e : PinEntry) → EntriesDescend es → Contains es e → users_of e.pin.stamp es ≡ e.users
users_of_entry [] e falls (k, below, at) = absurd (omega (arith, below))
users_of_entry (x ∷ xs) e falls (zero, below, at) =
    let same : x ≡ e = at in
    let here : (x.pin.stamp == e.pin.stamp) ≡ true = eq-eqb x.pin.stamp e.pin.stamp (ap (λ (o : PinEntry). o.pin.stamp) same) in
    rw here (ap (λ (o : PinEntry). o.users) same)
users_of_entry (x ∷ xs) e falls (suc k, below, at) =
    let less = falls_head x xs falls k e (omega (arith, below)) in
    let lower : e.pin.stamp < x.pin.stamp = omega (arith, less, ap (λ (o : PinEntry). o.pin.stamp) at) in
    let off : (x.pin.stamp == e.pin.stamp) ≡ false = ne_eqb x.pin.stamp e.pin.stamp (λ same. omega (arith, lower, same)) in
    rw off (users_of_entry xs e (falls_tail x xs falls) (k, omega (arith, below), at))

pub each_has_users : (es : List PinEntry) (stamps : List ℕ) → EntriesDescend es → HaveUsers es stamps → All (λ e. times e.pin.stamp stamps ≤ e.users) es
each_has_users es stamps falls have = λ k d below.
    let enough = have (get_or es k d).pin.stamp in
    let here = users_of_entry es (get_or es k d) falls (Contains-get_or es k d below) in
    omega (arith, enough, here)

-- ---- stamps named one after the other

pub have_more : (es : List PinEntry) (stamps : List ℕ) (i x : ℕ) → i < length stamps → x ≡ get_or stamps i 0
    → HaveUsers es (take i stamps) → times x (take i stamps) < users_of x es → HaveUsers es (take (i + 1) stamps)
have_more es stamps i x below at have room = λ s. go s (x == s) refl
  where
    go : (s : ℕ) (b : Bool) → (x == s) ≡ b → times s (take (i + 1) stamps) ≤ users_of s es
    go s true is =
        let same : x ≡ s = eqb-true x s is in
        let more = count_by_more_yes (λ (y : ℕ). y == s) stamps i 0 below (rw (← at) is) in
        let enough : times s (take i stamps) < users_of s es = rw (← same) room in
        omega (arith, more, enough)
    go s false is =
        let more = count_by_more_no (λ (y : ℕ). y == s) stamps i 0 below (rw (← at) is) in
        let enough = have s in
        omega (arith, more, enough)

pub have_all : (es : List PinEntry) (stamps : List ℕ) (i : ℕ) → length stamps ≤ i → HaveUsers es (take i stamps) → HaveUsers es stamps
have_all es stamps i all have = subst (HaveUsers es) (take_all i stamps all) have

-- ---- pins taken out

pub retire_is : (c : CushionValue) (now age : ℕ) → IsCushion c → IsCushion (after_retire c now age)
retire_is c now age is = record {
  falls = falls_filter (λ (e : PinEntry). not (is_retirable now age e)) c.entries is.falls;
  shown = All-filter (λ (e : PinEntry). not (is_retirable now age e)) (λ (e : PinEntry). moment_at c.history e.pin.stamp ≡ Some e.pin.moment) c.entries is.shown;
  few =
      let count = length-filter (λ (e : PinEntry). not (is_retirable now age e)) c.entries in
      let most = count_by-le-length (λ (e : PinEntry). not (is_retirable now age e)) c.entries in
      let few = is.few in
      omega (arith, count, most, few);
}
