-- Loops over spots: which of them died so, the first, the last and the latest.
use Rattle.std.proofs.Common.{◌≡◌, inl, ◌≤◌, List, [], ◌∷◌, ◌++◌, filter, true, false, Option, Some, None, refl, sym, ap, subst, ◌∙◌, append-nil, arith}
use Rattle.std.specs.Prelude.{MatchOption}
use Rattle.std.specs.List.{AllByRecursion}
use Rattle.std.proofs.lemmas.List.Elements.{filter-append}
use Rattle.sqlite_trees.proofs.ListLemmas.{all_weaker, all-append}
use Rattle.txc_rows.specs.declared.replaced.Spot.{Spot}
use Rattle.txc_rows.specs.declared.replaced.Deaths.{Deaths}
use Rattle.txc_rows.specs.ReplacedIndex.{dies_within, DeathsAscend, IsEarliest, IsLatest}
use Rattle.txc_rows.proofs.Members.{is_in, contains_it, in_left, in_right}

module _ (d : Deaths) (s : Spot) where
  pub one_off : dies_within d s ≡ false → filter (dies_within d) (s ∷ []) ≡ []
  one_off off = rw off refl

  pub one_on : dies_within d s ≡ true → filter (dies_within d) (s ∷ []) ≡ s ∷ []
  one_on on = rw on refl

  -- it stands first
  pub front_off : (ss : List Spot) → dies_within d s ≡ false → filter (dies_within d) (s ∷ ss) ≡ filter (dies_within d) ss
  front_off ss off = rw off refl

  pub front_on : (ss : List Spot) → dies_within d s ≡ true → filter (dies_within d) (s ∷ ss) ≡ s ∷ filter (dies_within d) ss
  front_on ss on = rw on refl

  pub front_apart : (ss : List Spot) → filter (dies_within d) (s ∷ ss) ≡ filter (dies_within d) (s ∷ []) ++ filter (dies_within d) ss
  front_apart ss = filter-append (dies_within d) (s ∷ []) ss

  -- it stands last
  pub back_off : (ss : List Spot) → dies_within d s ≡ false → filter (dies_within d) (ss ++ s ∷ []) ≡ filter (dies_within d) ss
  back_off ss off = filter-append (dies_within d) ss (s ∷ []) ∙ (ap (λ ts. filter (dies_within d) ss ++ ts) (one_off off) ∙ append-nil (filter (dies_within d) ss))

  pub back_on : (ss : List Spot) → dies_within d s ≡ true → filter (dies_within d) (ss ++ s ∷ []) ≡ filter (dies_within d) ss ++ s ∷ []
  back_on ss on = filter-append (dies_within d) ss (s ∷ []) ∙ ap (λ ts. filter (dies_within d) ss ++ ts) (one_on on)

-- the first is the earliest where deaths rise
pub first_earliest : (s : Spot) (ss : List Spot) → DeathsAscend (s ∷ ss) → IsEarliest (s ∷ ss) s
first_earliest s ss rise = record { there = contains_it (s ∷ ss) s (inl refl); least = (omega arith, rise.0) }

all_to_last : (s : Spot) (ss : List Spot) → DeathsAscend (ss ++ s ∷ []) → AllByRecursion (λ t. t.death ≤ s.death) ss
all_to_last s [] rise = tt
all_to_last s (t ∷ ss) rise = (last_of_all ss rise.0, all_to_last s ss rise.1)
  where
    last_of_all : (us : List Spot) → AllByRecursion (λ u. t.death ≤ u.death) (us ++ s ∷ []) → t.death ≤ s.death
    last_of_all [] all = all.0
    last_of_all (u ∷ us) all = last_of_all us all.1

-- the newest of two
pub latest_new : (s : Spot) (ss : List Spot) → AllByRecursion (λ t. t.death ≤ s.death) ss → IsLatest (ss ++ s ∷ []) s
latest_new s ss all = record { there = contains_it (ss ++ s ∷ []) s (in_right s ss (s ∷ []) (inl refl)); greatest = all-append (λ t. t.death ≤ s.death) ss (s ∷ []) all (omega arith, tt) }

pub latest_kept : (l s : Spot) (ss : List Spot) → IsLatest ss l → s.death ≤ l.death → IsLatest (ss ++ s ∷ []) l
latest_kept l s ss is low = record { there = contains_it (ss ++ s ∷ []) l (in_left l ss (s ∷ []) (is_in ss l is.there)); greatest = all-append (λ t. t.death ≤ l.death) ss (s ∷ []) is.greatest (low, tt) }

pub latest_over : (l s : Spot) (ss : List Spot) → IsLatest ss l → l.death ≤ s.death → IsLatest (ss ++ s ∷ []) s
latest_over l s ss is low = latest_new s ss (all_weaker (λ t. t.death ≤ l.death) (λ t. t.death ≤ s.death) (λ t le. omega (arith, le, low)) ss is.greatest)

-- the last is the latest where deaths rise
pub last_latest : (s : Spot) (ss : List Spot) → DeathsAscend (ss ++ s ∷ []) → IsLatest (ss ++ s ∷ []) s
last_latest s ss rise = latest_new s ss (all_to_last s ss rise)

-- the later of what was seen and one more
abbrev pub IsBest : List Spot → Option Spot → Type 0
IsBest seen o = MatchOption o (seen ≡ []) (IsLatest seen)

pub best_same : (seen : List Spot) (o : Option Spot) (ts : List Spot) → ts ≡ [] → IsBest seen o → IsBest (seen ++ ts) o
best_same seen o ts none best = rw none (subst (λ us. IsBest us o) (sym (append-nil seen)) best)

pub best_new : (seen : List Spot) (o : Option Spot) (s : Spot) → IsBest seen o → ((l : Spot) → o ≡ Some l → l.death ≤ s.death) → IsBest (seen ++ s ∷ []) (Some s)
best_new seen None s none low = rw none (latest_new s [] tt)
best_new seen (Some l) s best low = latest_over l s seen best (low l refl)
