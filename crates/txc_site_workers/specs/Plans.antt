-- Plans of sites.
use Rattle.std.specs.Prelude.{◌≤◌, ◌/◌, ℕ, List, Option, map, max, IfSome}
use Rattle.std.specs.List.{range_with_len}
use Rattle.std.specs.Option.{option_map}
use Rattle.txc_node.specs.declared.node.TheConstants.{MAX_CAPACITY, MAX_RECENT}
use Rattle.txc_call_permits.specs.declared.pool.TheConstants.{MAX_PERMITS}
use Rattle.txc_rows.specs.declared.store_error.TheConstants.{MAX_MATCHING, MOST_MATCHING}
use Rattle.txc_shared.specs.declared.settings.NodeSettings.{NodeSettings}
use Rattle.txc_stream.specs.declared.row.TheConstants.{MAX_CAPACITY as MAX_ROOM}
use Rattle.txc_site_workers.specs.declared.plan.Plan.{Plan}
use Rattle.txc_site_workers.specs.declared.plan.TheConstants.{MAX_NODES}

-- each number is within its limits
abbrev pub IsPlan : Plan → Type 0
IsPlan p =
    (1 ≤ p.nodes) × (p.nodes ≤ MAX_NODES)
    × (1 ≤ p.capacity) × (p.capacity ≤ MAX_CAPACITY)
    × (1 ≤ p.recent) × (p.recent ≤ MAX_RECENT)
    × (1 ≤ p.permits) × (p.permits ≤ MAX_PERMITS)
    × (MAX_MATCHING ≤ p.matching) × (p.matching ≤ MOST_MATCHING)
    × IfSome p.events (λ room. (1 ≤ room) × (room ≤ MAX_ROOM))
    × IfSome p.records (λ room. (1 ≤ room) × (room ≤ MAX_ROOM))

-- the settings of the node of this number
abbrev pub settings_of_node : Plan → ℕ → NodeSettings
settings_of_node p number = record { number = number; capacity = p.capacity; recent = p.recent }

-- the most bytes of the values that a keep leaves in each node: an equal share of the plan's budget, if it has
-- one
abbrev pub share_of : Plan → Option ℕ
share_of p = option_map (λ bytes. bytes / max p.nodes 1) p.bytes

-- the settings of the nodes, in order
abbrev pub nodes_of : Plan → List NodeSettings
nodes_of p = map (λ number. settings_of_node p number) (range_with_len 0 p.nodes)
