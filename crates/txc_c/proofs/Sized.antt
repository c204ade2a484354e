-- Settings with which a site may be made.
use Rattle.std.proofs.Common.{◌≡◌, ◌≤◌, ◌==◌, ◌&&◌, ℕ, true, nat_le, Option, Some, None, IfSome, sym, subst, arith, leb-true}
use Rattle.std.proofs.lemmas.Bool.{and_parts, cond_both, eqb-false}
use Rattle.txc_node.specs.declared.node.TheConstants.{MAX_CAPACITY, MAX_RECENT, MOST_CAPACITY}
use Rattle.txc_shared.specs.declared.settings.NodeSettings.{NodeSettings}
use Rattle.txc_stream.specs.declared.row.TheConstants.{MAX_CAPACITY as MAX_EVENTS}
use Rattle.txc_c.specs.Settings.{are_settings, capacity_of, stored_events_of, site_node_of, or_default, recent_of, room_for_events, room_of, said, store_of}
use Rattle.txc_c.specs.declared.site_settings.TheConstants.{CAPACITY_END, RECENT_END, SIZE_END, STORE_END, STORE_PLAIN}
use Rattle.txc_c.specs.declared.site_settings.TxcSiteSettings.{TxcSiteSettings}

room_fits : (events most : ℕ) → events ≤ most → IfSome (room_for_events events) (λ (e : ℕ). (1 ≤ e) × (e ≤ most))
room_fits events most low =
    cond_both (events == 0) None (Some events) (λ (o : Option ℕ). IfSome o (λ (e : ℕ). (1 ≤ e) × (e ≤ most))) (λ none. tt)
    (λ some. let other = eqb-false events 0 some in (omega (arith, other), low))

default_fits : (default value : ℕ) → 1 ≤ default → 1 ≤ or_default default value
default_fits default value low = cond_both (value == 0) default value (λ (n : ℕ). 1 ≤ n) (λ none. low) (λ some. let other = eqb-false value 0 some in omega (arith, other))

-- each is within its limit
limits_of : (s : TxcSiteSettings) → are_settings s ≡ true → (stored_events_of s ≤ MAX_EVENTS) × (capacity_of s ≤ MOST_CAPACITY) × (recent_of s ≤ MAX_RECENT)
limits_of s is =
    let all =
    and_parts (nat_le SIZE_END s.size && nat_le s.size STORE_END) (nat_le (stored_events_of s) MAX_EVENTS && (nat_le (capacity_of s) MOST_CAPACITY && (nat_le (recent_of s) MAX_RECENT && nat_le (store_of s) STORE_PLAIN))) is in
    let one = and_parts (nat_le (stored_events_of s) MAX_EVENTS) (nat_le (capacity_of s) MOST_CAPACITY && (nat_le (recent_of s) MAX_RECENT && nat_le (store_of s) STORE_PLAIN)) all.1 in
    let two = and_parts (nat_le (capacity_of s) MOST_CAPACITY) (nat_le (recent_of s) MAX_RECENT && nat_le (store_of s) STORE_PLAIN) one.1 in
    let three = and_parts (nat_le (recent_of s) MAX_RECENT) (nat_le (store_of s) STORE_PLAIN) two.1 in
    (leb-true (stored_events_of s) MAX_EVENTS one.0, leb-true (capacity_of s) MOST_CAPACITY two.0, leb-true (recent_of s) MAX_RECENT three.0)

pub may_have_room : (s : TxcSiteSettings) → are_settings s ≡ true → (room : Option ℕ) → room ≡ room_of s → IfSome room (λ (e : ℕ). (1 ≤ e) × (e ≤ MAX_EVENTS))
may_have_room s is room same = subst (λ (o : Option ℕ). IfSome o (λ (e : ℕ). (1 ≤ e) × (e ≤ MAX_EVENTS))) (sym same) (room_fits (stored_events_of s) MAX_EVENTS (limits_of s is).0)

pub may_hold : (s : TxcSiteSettings) → are_settings s ≡ true → (node : NodeSettings) → node ≡ site_node_of s → (1 ≤ node.capacity) × (node.capacity ≤ MOST_CAPACITY)
may_hold s is node same =
    subst (λ (n : NodeSettings). (1 ≤ n.capacity) × (n.capacity ≤ MOST_CAPACITY)) (sym same) (default_fits MAX_CAPACITY (said s.size CAPACITY_END s.capacity) (omega arith), (limits_of s is).1)

pub may_keep : (s : TxcSiteSettings) → are_settings s ≡ true → (node : NodeSettings) → node ≡ site_node_of s → (1 ≤ node.recent) × (node.recent ≤ MAX_RECENT)
may_keep s is node same =
    subst (λ (n : NodeSettings). (1 ≤ n.recent) × (n.recent ≤ MAX_RECENT)) (sym same) (default_fits MAX_RECENT (said s.size RECENT_END s.recent) (omega arith), (limits_of s is).2)
