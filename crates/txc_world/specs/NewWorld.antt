-- The ports of a new world.
use Rattle.std.specs.Prelude.{◌≡◌, ℕ, ◌+◌, false, List, [], Some, length, slice_get}
use Rattle.txc_stream.specs.Names.{stored}
use Rattle.txc_rows.specs.declared.store_error.TheConstants.{MAX_MATCHING}
use Rattle.txc_db.specs.FrontsAndFeeds.{FrontValue}
use Rattle.txc_shared.specs.declared.settings.NodeSettings.{NodeSettings}
use Rattle.txc_shared.specs.Nodes.{NodeValue, start_of}
use Rattle.txc_db.specs.Room.{HasCapacity}
use Rattle.txc_world.specs.declared.settings.WorldSettings.{WorldSettings}
use Rattle.txc_world.specs.Ports.{PortsValue, whole_of}

-- a node without entries and records, with this many passes, and this much room for records
pub record IsNewNode (settings : NodeSettings) (row_cap passes : ℕ) (seen : FrontValue) (n : NodeValue)
    : Type 0 where
  pub settings_are : n.settings ≡ settings
  pub begun : n.from ≡ 0
  pub row : List ℕ
  pub name : n.name ≡ stored row
  pub cells : length row ≡ row_cap
  pub records : n.records ≡ []
  pub passes_are : n.passes ≡ passes
  pub cache : n.cache ≡ start_of settings 0
  pub seen_is : n.seen ≡ seen
  pub whole : n.broken ≡ false

-- the settings of the node of a number
abbrev pub node_settings : WorldSettings → ℕ → NodeSettings
node_settings settings number =
    record { number = number; capacity = settings.capacity; recent = settings.recent }

-- each of the nodes is new, and is made by its number
abbrev pub AreNewNodes : WorldSettings → ℕ → FrontValue → List NodeValue → Type 0
AreNewNodes settings passes seen nodes = (number : ℕ) (n : NodeValue) → slice_get nodes number ≡ Some n
    → IsNewNode (node_settings settings number) settings.row_cap passes seen n

-- the ports of a new world: nothing happened, and the nodes are new
pub record AreNewPorts (settings : WorldSettings) (actors : ℕ) (p : PortsValue) : Type 0 where
  pub history : p.database.history ≡ []
  pub events : HasCapacity p.database.events settings.row_cap
  pub holds : p.database.holds ≡ []
  pub horizon : p.database.horizon ≡ 0
  pub limit : p.database.most ≡ MAX_MATCHING
  pub entries : p.cushion.entries ≡ []
  pub spare : p.spare ≡ []
  pub count : length p.nodes ≡ settings.nodes
  pub nodes : AreNewNodes settings (actors + 1) (whole_of p) p.nodes
  pub actors_are : p.actors ≡ actors
