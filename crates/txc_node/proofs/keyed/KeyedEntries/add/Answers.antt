use Rattle.std.proofs.Common.{◌≡◌, ◌-◌, ◌∷◌, List, Some, None, take, ap, sym, subst, ◌∙◌}
use Rattle.std.specs.Prelude.{slice_get}
use Rattle.std.specs.List.{find}
use Rattle.lru.specs.LruCache.{LruCache}
use Rattle.txc_stamp.specs.Interval.{Interval}
use Rattle.txc_node.specs.declared.entry.Entry.{Entry}
use Rattle.txc_node.specs.declared.place.Place.{Place}
use Rattle.txc_node.specs.declared.stored.Stored.{Stored}
use Rattle.txc_node.specs.Entries.{same_place}
use Rattle.txc_node.specs.IndexedEntries.{HeldEntries, entry_of, entries_of, listed, Relists, with_first}
use Rattle.txc_node.proofs.KeyLists.{relisted_here}
use Rattle.txc_node.proofs.Puts.{absent_entries, absent_put, evicted_is, pushed_out, put_tied, relists_over, same_keys, take_past, within_pairs}
use Rattle.txc_node.proofs.keyed.KeyedEntries.add.Goals as goal

pub invariant_of-self : goal.invariant_of-self
invariant_of-self c =
    let i = c.self.inside in
    record {
      placed = c.self.invariant.placed;
      apart = c.self.invariant.apart;
      keys = same_keys c.args.place.key i.keys.versions.entries c.add.new.self.versions.entries (entries_of i.cache.entries) c.self.invariant.keys (rw c.in_default.is at c.add.ensures);
    }

pub invariant_of-self-in-Err : goal.invariant_of-self-in-Err
invariant_of-self-in-Err c =
    let a = c.args in
    let i = c.self.inside in
    let index = i.keys.versions.entries in
    let mid = c.add.new.self.versions.entries in
    let new = c.drop_first.new.self.versions.entries in
    let rs = listed index a.place.key in
    let more = a.stored.reach ∷ rs in
    let back : c.in-Err.failed.value.0 ≡ a.place = ap (λ (p : Place × Stored). p.0) c.in-Err.ensures.value_returned in
    let added : Relists a.place.key more index mid = rw c.in-Ok.is at c.add.ensures in
    let taken : (r : Interval) (is : List Interval) → listed mid a.place.key ≡ r ∷ is → Relists a.place.key is mid new =
    subst (λ (q : Place). (r : Interval) (is : List Interval) → listed mid q.key ≡ r ∷ is → Relists q.key is mid new) back c.drop_first.ensures in
    let relists = relists_over a.place.key rs more index mid new added (taken a.stored.reach rs (relisted_here a.place.key more index mid added)) in
    let same : c.push.new.self.entries ≡ i.cache.entries = ap (λ (m : LruCache Place Stored). m.entries) c.in-Err.ensures.err in
    rw same (record { placed = c.self.invariant.placed; apart = c.self.invariant.apart; keys = same_keys a.place.key index new (entries_of i.cache.entries) c.self.invariant.keys relists })

pub invariant_of-self-in-Ok-None : goal.invariant_of-self-in-Ok-None
invariant_of-self-in-Ok-None c =
    let a = c.args in
    let i = c.self.inside in
    let ps = i.cache.entries in
    let absent = subst (λ (m : HeldEntries). find (λ o. same_place o (entry_of (a.place, a.stored))) m.entries ≡ None) (sym c.self.view_is) c.requires.absent in
    let put = absent_put i.cache a.place a.stored c.requires.placed absent c.self.invariant.placed in
    let none : slice_get ps (i.cache.cap - 1) ≡ None = sym put.1 ∙ sym c.in-Ok-None.ensures.old ∙ c.in-Ok-None.field-0-is in
    let new : c.push.new.self.entries ≡ (a.place, a.stored) ∷ ps =
    ap (λ (m : LruCache Place Stored). m.entries) c.in-Ok-None.ensures.entries ∙ put.0 ∙ ap (λ (qs : List (Place × Stored)). (a.place, a.stored) ∷ qs) (take_past (i.cache.cap - 1) ps none) in
    rw new (put_tied ps a.place a.stored i.keys.versions.entries c.add.new.self.versions.entries c.requires.placed absent c.self.invariant (rw c.in-Ok.is at c.add.ensures))

pub invariant_of-self-in-Ok-Some : goal.invariant_of-self-in-Ok-Some
invariant_of-self-in-Ok-Some c =
    let a = c.args in
    let i = c.self.inside in
    let ps = i.cache.entries in
    let x : Place × Stored = (c.in-Ok-Some.place, c.in-Ok-Some.stored) in
    let p : Place × Stored = (a.place, a.stored) in
    let absent = subst (λ (m : HeldEntries). find (λ o. same_place o (entry_of (a.place, a.stored))) m.entries ≡ None) (sym c.self.view_is) c.requires.absent in
    let put = absent_put i.cache a.place a.stored c.requires.placed absent c.self.invariant.placed in
    let last : slice_get ps (i.cache.cap - 1) ≡ Some x = sym put.1 ∙ sym c.in-Ok-Some.ensures.old ∙ c.in-Ok-Some.field-0-is in
    let new : c.push.new.self.entries ≡ p ∷ take (i.cache.cap - 1) ps = ap (λ (m : LruCache Place Stored). m.entries) c.in-Ok-Some.ensures.entries ∙ put.0 in
    let whole = put_tied ps a.place a.stored i.keys.versions.entries c.add.new.self.versions.entries c.requires.placed absent c.self.invariant (rw c.in-Ok.is at c.add.ensures) in
    let valid = c.len-len.ensures.valid in
    rw new (pushed_out i.cache.cap ps p x c.add.new.self.versions.entries c.drop_last.new.self.versions.entries valid.2 (within_pairs ps i.cache.cap valid.1) last whole c.drop_last.ensures)

pub returns-in-Ok-None-clause-entries : goal.returns-in-Ok-None-clause-entries
returns-in-Ok-None-clause-entries c =
    let a = c.args in
    let absent = subst (λ (m : HeldEntries). find (λ o. same_place o (entry_of (a.place, a.stored))) m.entries ≡ None) (sym c.self.view_is) c.requires.absent in
    rw (← c.self.view_is) (ap (λ (m : LruCache Place Stored). entries_of m.entries) c.in-Ok-None.ensures.entries ∙ absent_entries c.self.inside.cache a.place a.stored c.requires.placed absent c.self.invariant.placed c.len-len.ensures.valid.2)

pub returns-in-Ok-Some-clause-entries : goal.returns-in-Ok-Some-clause-entries
returns-in-Ok-Some-clause-entries c =
    let a = c.args in
    let absent = subst (λ (m : HeldEntries). find (λ o. same_place o (entry_of (a.place, a.stored))) m.entries ≡ None) (sym c.self.view_is) c.requires.absent in
    rw (← c.self.view_is) (ap (λ (m : LruCache Place Stored). entries_of m.entries) c.in-Ok-Some.ensures.entries ∙ absent_entries c.self.inside.cache a.place a.stored c.requires.placed absent c.self.invariant.placed c.len-len.ensures.valid.2)

pub returns-in-Ok-None-clause-evicted : goal.returns-in-Ok-None-clause-evicted
returns-in-Ok-None-clause-evicted c =
    let a = c.args in
    let i = c.self.inside in
    let absent = subst (λ (m : HeldEntries). find (λ o. same_place o (entry_of (a.place, a.stored))) m.entries ≡ None) (sym c.self.view_is) c.requires.absent in
    let put = absent_put i.cache a.place a.stored c.requires.placed absent c.self.invariant.placed in
    evicted_is i.cache.cap i.cache.entries (entry_of (a.place, a.stored)) None c.len-len.ensures.valid.2 absent (sym c.in-Ok-None.field-0-is ∙ c.in-Ok-None.ensures.old ∙ put.1)
    ∙ ap (λ (m : HeldEntries). slice_get (with_first (entry_of (a.place, a.stored)) m.entries) m.capacity) c.self.view_is

pub returns-in-Ok-Some-clause-evicted : goal.returns-in-Ok-Some-clause-evicted
returns-in-Ok-Some-clause-evicted c =
    let a = c.args in
    let i = c.self.inside in
    let x : Place × Stored = (c.in-Ok-Some.place, c.in-Ok-Some.stored) in
    let absent = subst (λ (m : HeldEntries). find (λ o. same_place o (entry_of (a.place, a.stored))) m.entries ≡ None) (sym c.self.view_is) c.requires.absent in
    let put = absent_put i.cache a.place a.stored c.requires.placed absent c.self.invariant.placed in
    ap (λ (e : Entry). Some e) c.join.ensures ∙ evicted_is i.cache.cap i.cache.entries (entry_of (a.place, a.stored)) (Some x) c.len-len.ensures.valid.2 absent (sym c.in-Ok-Some.field-0-is ∙ c.in-Ok-Some.ensures.old ∙ put.1)
    ∙ ap (λ (m : HeldEntries). slice_get (with_first (entry_of (a.place, a.stored)) m.entries) m.capacity) c.self.view_is
