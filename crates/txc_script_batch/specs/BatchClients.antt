-- The nodes and the clients of a batch, by its settings.
use Rattle.std.specs.Prelude.{◌≡◌, ℕ, ◌<◌, List, Some, All, length, map, slice_get}
use Rattle.txc_stream.specs.Names.{Name, stored}
use Rattle.txc_script_settings.specs.declared.settings.Settings.{Settings}
use Rattle.txc_shared.specs.declared.settings.NodeSettings.{NodeSettings}
use Rattle.txc_txn_client.specs.RoTxn.{ClientValue}
use Rattle.txc_work.specs.declared.job.Receipted.{Receipted}

-- the settings of the node of a number
abbrev pub node_by : Settings → ℕ → NodeSettings
node_by s number = record { number = number; capacity = s.capacity; recent = s.recent }

-- the nodes of the settings, each made by its number
pub record AreNodesBy (s : Settings) (nodes : List NodeSettings) : Type 0 where
  pub count : length nodes ≡ s.nodes
  pub each : (number : ℕ) (node : NodeSettings) → slice_get nodes number ≡ Some node → node ≡ node_by s number

-- the history of each node is stored, in a row with room for this many records
abbrev pub HaveRoomsBy : Settings → (ℕ → Name) → Type 0
HaveRoomsBy s node_histories = (number : ℕ) → number < s.nodes
    → (row : List ℕ) × (node_histories number ≡ stored row) × (length row ≡ s.row_cap)

-- one client for each worker of the settings; each has a pass through each of the nodes, whose histories are
-- these, and renews a pin after that time
pub record AreClientsBy (s : Settings) (node_histories : ℕ → Name) (clients : List ClientValue) : Type 0 where
  pub count : length clients ≡ s.workers
  pub nodes : All (λ client. AreNodesBy s (map (λ pass. pass.settings) client.passes)) clients
  pub rooms : HaveRoomsBy s node_histories
  pub renewal : All (λ client. client.renew_after ≡ s.renew_after) clients

-- the results of jobs, and the settings of the clients that ran them and of their nodes
pub record RanValue : Type 0 where
  pub settings : Settings
  pub results : List Receipted
