-- The state of a world, and its value.
use Rattle.std.specs.Prelude.{◌≡◌, ℕ, ◌≤◌, Bool, true, false, List, [], All, Option, None, Some, length, map}
use Rattle.txc_db.specs.History.{History, state_at}
use Rattle.txc_db.specs.FrontsAndFeeds.{FrontValue}
use Rattle.txc_cushion.specs.declared.pin.Pin.{Pin}
use Rattle.txc_app.specs.Eval.{Next}
use Rattle.txc_shared.specs.Nodes.{start_of, NodeValue}
use Rattle.txc_shared.specs.Runs.{IsNode}
use Rattle.txc_txn_ports.specs.Answers.{AreConsistent, IsFresh}
use Rattle.txc_world.specs.declared.actor.Actor.{Actor}
use Rattle.txc_world.specs.declared.settings.WorldSettings.{WorldSettings}
use Rattle.txc_world.specs.declared.reply.Refusal.{Refusal}
use Rattle.txc_world.specs.declared.reply.Refusal.TheVariants.{NoActor, NotOpen}
use Rattle.txc_world.specs.Observation.{Reading, ObservedActor, idle, reading, writing, leaving, Observation}
use Rattle.txc_world.specs.Ports.{PortsValue, whole_of}
use Rattle.txc_world.specs.KeeperAtPorts.{stamps_of_pins}
use Rattle.txc_world.specs.ActorValues.{actor_at, ActorValue}
use Rattle.txc_world.specs.Actors.{observed_at, IsActorThere}
use Rattle.txc_world.specs.Holdings.{account_at, holdings_of, Holdings}
use Rattle.txc_world.specs.Tidy.{AreBalanced, InHand}

-- its settings, its history, the stamps of the pins that its keeper has yet to add, the floor of each actor's
-- session, and what each actor has open
abbrev pub told_of : {A C : Type 0} → WorldSettings → PortsValue → List ℕ → List (Option (Actor A C)) → Observation
told_of settings ports floors actors = record {
  settings = settings;
  history = ports.database.history;
  spare = map (λ p. p.stamp) ports.spare;
  floors = floors;
  actors = map observed_at actors;
}

-- the value of a world in contracts: its observation, its holdings, its ports, and its actors
pub record WorldValue : Type 0 where
  pub told : Observation
  pub holdings : Holdings
  pub ports : PortsValue
  pub actors : List ActorValue

abbrev pub value_of_world : {A C : Type 0} → WorldSettings → PortsValue → List ℕ → List (Option (Actor A C)) → WorldValue
value_of_world settings ports floors actors = record {
  told = told_of settings ports floors actors;
  holdings = holdings_of ports (map account_at actors);
  ports = ports;
  actors = map actor_at actors;
}

-- each has what is its own, the keeper by what it has in hand
abbrev pub IsBalanced : WorldValue → InHand → Type 0
IsBalanced world in_hand = AreBalanced world.told.spare world.holdings in_hand

-- the invariant of every world: it has the nodes of its settings, at least one; each actor has its pass through
-- each node, and its session; and no actor is in the middle of a step
pub record IsWorld {A C : Type 0} (next : Next) (settings : WorldSettings) (ports : PortsValue)
    (floors : List ℕ) (actors : List (Option (Actor A C))) : Type 0 where
  pub nodes : length ports.nodes ≡ settings.nodes
  pub some : 1 ≤ settings.nodes
  pub passes : length actors ≡ ports.actors
  pub sessions : length floors ≡ length actors
  pub there : All (IsActorThere next (whole_of ports) settings.nodes) actors

-- ---- between two steps

-- The invariant of a node between any two steps: it has seen events of the history's row, and each result that
-- it holds is true in the events seen, even if the node is broken. Unless it is broken, each is true in the
-- whole history, and the node is the result of a legal history of its records.
pub record IsTrueNode (next : Next) (whole : FrontValue) (n : NodeValue) : Type 0 where
  pub row : n.seen.events ≡ whole.events
  pub seen : IsNode next n.seen.history (start_of n.settings 0) n.records n.cache n.broken
  pub right : n.broken ≡ false → IsNode next whole.history (start_of n.settings 0) n.records n.cache false

-- The invariant of a world between any two steps: the history shown is its database's, the spare pins are its
-- keeper's, and it has the nodes of its settings, each of which is true.
pub record IsTrueWorld (next : Next) (w : WorldValue) : Type 0 where
  pub history : w.told.history ≡ w.ports.database.history
  pub spare : w.told.spare ≡ stamps_of_pins w.ports.spare
  pub count : length w.ports.nodes ≡ w.told.settings.nodes
  pub nodes : All (IsTrueNode next (whole_of w.ports)) w.ports.nodes

-- ---- pin sets

-- the refusal due to a request for an actor's pins, if one is: no such actor exists, or it has no read-only
-- transaction open
abbrev pub due_of_pins : Option ObservedActor → Option Refusal
due_of_pins None = Some NoActor
due_of_pins (Some idle) = Some NotOpen
due_of_pins (Some (reading r)) = None
due_of_pins (Some (writing w)) = Some NotOpen
due_of_pins (Some (leaving stamp)) = Some NotOpen

-- The stamps at which a transaction may still be serialised: the present, or a member. Each member is a pin
-- that the bounds allow, at which each answer is the result of its call without a cache.
pub record AreMembersOf (next : Next) (L : History) (r : Reading) (has_present : Bool)
    (members : List Pin) : Type 0 where
  pub some : members ≡ [] → has_present ≡ true
  pub fresh : All (IsFresh L r.bounds) members
  pub consistent : All (λ m. AreConsistent next r.answers (state_at L m.stamp)) members
