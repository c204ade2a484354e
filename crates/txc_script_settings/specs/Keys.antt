-- The keys of the settings, their ranges, and their values in a document.
use Rattle.std.specs.Prelude.{◌≡◌, ℕ, pos, Bool, false, ◌&&◌, nat_le, List, Option, Some, None, if◌then◌else◌, codes, unwrap_or, option_and_then}
use Rattle.std.specs.Cmp.Lexicographic.{slice_cmp}
use Rattle.std.specs.Ordering.{is_lt, nat_cmp}
use Rattle.std.specs.Str.{bytes_eq}
use Rattle.toml.specs.Data.{Data, integer, Members, no_members, member, get_member}
use Rattle.txc_node.specs.declared.node.TheConstants.{MAX_CAPACITY, MAX_RECENT}
use Rattle.txc_script_settings.specs.declared.limits.TheConstants.{MAX_NODES, MAX_PERMITS, MAX_RENEW_AFTER, MAX_ROW_CAP, MAX_WORKERS}

-- the least and the greatest value of a setting, by its key
abbrev pub range_of : List ℕ → Option (ℕ × ℕ)
range_of key =
    if bytes_eq key (codes "capacity") then Some (1, MAX_CAPACITY)
    else (if bytes_eq key (codes "nodes") then Some (1, MAX_NODES)
    else (if bytes_eq key (codes "permits") then Some (1, MAX_PERMITS)
    else (if bytes_eq key (codes "recent") then Some (1, MAX_RECENT)
    else (if bytes_eq key (codes "renew_after") then Some (0, MAX_RENEW_AFTER)
    else (if bytes_eq key (codes "row_cap") then Some (1, MAX_ROW_CAP)
    else (if bytes_eq key (codes "workers") then Some (1, MAX_WORKERS) else None))))))

-- the number of a TOML integer from 0 on
abbrev pub natural_of : Data → Option ℕ
natural_of (integer (pos n)) = Some n
natural_of _ = None

abbrev pub is_within : Option (ℕ × ℕ) → Option ℕ → Bool
is_within (Some range) (Some n) = nat_le range.0 n && nat_le n range.1
is_within _ _ = false

-- the key is a setting's, and its value an integer in its range
abbrev pub is_allowed : List ℕ → Data → Bool
is_allowed key value = is_within (range_of key) (natural_of value)

-- the first key of a document that is not allowed
abbrev pub first_fault : Members → Option (List ℕ)
first_fault no_members = None
first_fault (member key value rest) = if is_allowed key value then first_fault rest else Some key

-- no key that is not allowed is before this one in byte order
abbrev pub IsLeastFault : Members → List ℕ → Type 0
IsLeastFault document key =
    (other : List ℕ) (value : Data) → get_member other document ≡ Some value → is_allowed other value ≡ false
    → is_lt (slice_cmp nat_cmp other key) ≡ false

-- the number of a key in a document, or the default if the document lacks the key
abbrev pub setting : Members → List ℕ → ℕ → ℕ
setting document key default = unwrap_or (option_and_then natural_of (get_member key document)) default
