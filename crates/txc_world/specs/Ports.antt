-- The plain ports of a world, and what its steps leave of them.
use Rattle.std.specs.Prelude.{◌≡◌, ℕ, ◌+◌, List, All, Some, false, length, map, slice_get, slice_set}
use mathlib.Core.List.{IsPrefix}
use Rattle.txc_db.specs.declared.error.DbError.{DbError}
use Rattle.txc_db.specs.declared.pinned.Pinned.{Pinned}
use Rattle.txc_db.specs.FrontsAndFeeds.{FrontValue}
use Rattle.txc_db.specs.DatabaseValue.{DatabaseValue, front_of}
use Rattle.txc_db.specs.Calls.{IsLeft}
use Rattle.txc_cushion.specs.Cushion.{CushionValue}
use Rattle.txc_cushion.specs.Cushion.{cushion_front}
use Rattle.txc_stream.specs.Names.{HasRow}
use Rattle.txc_app.specs.Eval.{Next}
use Rattle.txc_shared.specs.Nodes.{NodeValue, start_of}
use Rattle.txc_shared.specs.Runs.{IsNode}
use Rattle.txc_world.specs.Parts.{IsPartOf}

-- the database; the pincushion; the nodes; the pins that the keeper has and did not add yet; and how many
-- actors there are
pub record PortsValue : Type 0 where
  pub database : DatabaseValue
  pub cushion : CushionValue
  pub nodes : List NodeValue
  pub spare : List Pinned
  pub actors : ℕ

-- the front of the whole history
abbrev pub whole_of : PortsValue → FrontValue
whole_of p = front_of p.database

-- Each result that the node stores is true in the events that it has seen; unless it is broken, its state is that
-- after its records.
abbrev pub IsSoundNode : Next → NodeValue → Type 0
IsSoundNode next n = IsNode next n.seen.history (start_of n.settings n.from) n.records n.cache n.broken

-- The invariant of a node: its history is stored, and began before the first event. It has seen events of the
-- row and, unless the node is broken, a prefix of the whole history, and it is sound. Each actor has a pass, by
-- its number, and the keeper has the last one.
pub record IsNodeOf (next : Next) (whole : FrontValue) (actors : ℕ) (n : NodeValue) : Type 0 where
  pub kind : HasRow n.name
  pub begun : n.from ≡ 0
  pub row : n.seen.events ≡ whole.events
  pub seen : n.broken ≡ false → IsPartOf whole n.seen
  pub passes : n.passes ≡ actors + 1
  pub sound : IsSoundNode next n

-- the invariant of the ports: each front of the pincushion, the nodes and the pins is part of the whole
pub record ArePorts (next : Next) (p : PortsValue) : Type 0 where
  pub cushion : IsPartOf (whole_of p) (cushion_front p.cushion)
  pub nodes : All (IsNodeOf next (whole_of p) p.actors) p.nodes
  pub spare : All (λ pinned. IsPartOf (whole_of p) pinned.front) p.spare

-- ---- the effect of steps

-- each step keeps the row, the nodes and their settings, and the actors; the history only grows
pub record KeepsRow (old new : PortsValue) : Type 0 where
  pub events : new.database.events ≡ old.database.events
  pub longer : IsPrefix old.database.history new.database.history
  pub count : length new.nodes ≡ length old.nodes
  pub settings : map (λ n. n.settings) new.nodes ≡ map (λ n. n.settings) old.nodes
  pub actors : new.actors ≡ old.actors

-- the database failed, and nothing else was called
pub record HasRefused (old new : PortsValue) (refusal : DbError) : Type 0 where
  pub is : new ≡ record old { database = new.database }
  pub left : IsLeft old.database new.database refusal

-- the node of that number was led from one value to the other, and nothing else was called
pub record HasLedNode (at : ℕ) (transition : NodeValue → NodeValue → Type 0) (old new : PortsValue) : Type 0 where
  pub before : NodeValue
  pub after : NodeValue
  pub there : slice_get old.nodes at ≡ Some before
  pub is : new ≡ record old { nodes = slice_set old.nodes at after }
  pub led : transition before after
