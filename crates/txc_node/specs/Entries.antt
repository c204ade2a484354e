-- Entries by themselves.
use Rattle.std.specs.Prelude.{◌≡◌, ℕ, Bool, false, not, ◌&&◌, ◌||◌, ◌==◌, nat_lt, nat_le, List, [], ◌∷◌}
use Rattle.std.specs.List.{AllByRecursion, filter, list_all}
use Rattle.txc_stamp.specs.Interval.{end_at}
use Rattle.txc_tags.specs.Keys.{Call, same_call}
use Rattle.txc_node.specs.declared.entry.Entry.{Entry}

-- the same key, and the same first stamp
abbrev pub same_place : Entry → Entry → Bool
same_place a b = same_call a.key b.key && a.reach.lo == b.reach.lo

-- an entry of the key whose span meets the stamps from lo to hi
abbrev pub meets_range : ℕ → Call → ℕ → ℕ → Entry → Bool
meets_range processed key lo hi e =
    same_call e.key key && (nat_le e.reach.lo hi && nat_lt lo (end_at processed e.reach))

-- the span of a ends later than that of b, or equally and begins later
abbrev pub outlasts : ℕ → Entry → Entry → Bool
outlasts processed a b =
    nat_lt (end_at processed b.reach) (end_at processed a.reach)
    || (end_at processed b.reach == end_at processed a.reach && nat_lt b.reach.lo a.reach.lo)

-- e meets the range, and no entry that meets it outlasts e
abbrev pub is_best : ℕ → Call → ℕ → ℕ → List Entry → Entry → Bool
is_best processed key lo hi es e =
    meets_range processed key lo hi e
    && list_all (λ o. not (meets_range processed key lo hi o && outlasts processed o e)) es

-- the entries that have another key or another first stamp than e
abbrev pub others : Entry → List Entry → List Entry
others e es = filter (λ o. not (same_place o e)) es

-- no two have the same key and the same first stamp
abbrev pub AreApart : List Entry → Type 0
AreApart [] = Unit {0}
AreApart (e ∷ es) = AllByRecursion (λ o. same_place o e ≡ false) es × AreApart es
