-- The node's entry of a call, at the lookup of an act.
use Rattle.std.specs.Prelude.{◌≡◌, ℕ, List, [], Option, Some, None, Result, Ok}
use Rattle.txc_pinset.specs.Members.{AreBounds, kept}
use Rattle.txc_cushion.specs.declared.pin.Pin.{Pin}
use Rattle.txc_tags.specs.Keys.{Call}
use Rattle.txc_node.specs.declared.hit.HitValue.{HitValue}
use Rattle.txc_db.specs.declared.answered.Answered.{Answered}
use Rattle.txc_shared.specs.Nodes.{NodeValue}
use Rattle.txc_call.specs.declared.need.Need.TheVariants as needs
use Rattle.txc_txn_ports.specs.declared.reply.PortReply.{PortReply}
use Rattle.txc_txn_ports.specs.declared.reply.PortReply.TheVariants.{Lookup}
use Rattle.txc_txn.specs.TxnCore.{CoreValue}
use Rattle.txc_caller.specs.Ports.{CallerLookupTransition}
use Rattle.txc_caller.specs.declared.step.CallerError.{CallerError}
use Rattle.txc_caller.specs.declared.step.Step.{Step}
use Rattle.txc_caller.specs.declared.step.Step.TheVariants.{Compute}

-- there is no result whose reach holds one of these pins
abbrev pub IsMiss : List Pin → Option (Answered HitValue) → Type 0
IsMiss members None = Unit {0}
IsMiss members (Some hit) = kept hit.answer.reach members ≡ []

-- the node was asked for the call, at the stamps from the least to the greatest of these pins, and has this
-- entry; it has none if it fails
pub record HasLookedUp (members : List Pin) (key : Call) (old new : NodeValue) (hit : Option (Answered HitValue)) : Type 0 where
  pub lo : ℕ
  pub hi : ℕ
  pub bounds : AreBounds members (lo, hi)
  pub transition : CallerLookupTransition key lo hi old new hit

-- the node was asked for the call, and has no result whose reach holds one of these pins
pub record HasMissed (members : List Pin) (key : Call) (old new : NodeValue) : Type 0 where
  pub hit : Option (Answered HitValue)
  pub looked_up : HasLookedUp members key old new hit
  pub none : IsMiss members hit

-- the call that the transaction needs was looked up, if the reply is one to that
abbrev pub IsLookedUp : CoreValue → NodeValue → NodeValue → PortReply → Type 0
IsLookedUp c old new (Lookup hit) = (k : Call) × (c.call.need ≡ Some (needs.Lookup k)) × HasLookedUp c.pins.members k old new hit
IsLookedUp c old new reply = Unit {0}

-- a function begins only if the node has no result of its call
abbrev pub IsComputedOnMiss : CoreValue → NodeValue → NodeValue → Result Step CallerError → Type 0
IsComputedOnMiss c old new (Ok Compute) = (k : Call) × (c.call.need ≡ Some (needs.Begin k)) × HasMissed c.pins.members k old new
IsComputedOnMiss c old new step = Unit {0}
