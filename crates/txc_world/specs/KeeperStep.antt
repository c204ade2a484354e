-- The ports after a step of the keeper, and its report.
use Rattle.std.specs.Prelude.{◌≡◌, ◌≤◌, Ok, Err, Some, None, [], ◌∷◌, length}
use Rattle.txc_db.specs.Calls.{IsQueryRefused}
use Rattle.txc_world.specs.declared.step.KeeperStep.{KeeperStep}
use Rattle.txc_world.specs.declared.step.KeeperStep.TheVariants as keeps
use Rattle.txc_world.specs.declared.reply.Reply.{Reply}
use Rattle.txc_world.specs.declared.reply.Reply.TheVariants as replies
use Rattle.txc_world.specs.declared.reply.Reply.TheVariants.{Refused}
use Rattle.txc_world.specs.declared.reply.Refusal.TheVariants as refusals
use Rattle.txc_world.specs.NodeSteps.{AdvanceTransition, SweepTransition}
use Rattle.txc_world.specs.Ports.{PortsValue, whole_of, HasLedNode, KeepsRow}
use Rattle.txc_world.specs.PortRequests.{UnpinTransition}
use Rattle.txc_world.specs.KeeperAtPorts.{AddSpareTransition, GiveBackTransition, IsToldAnswer, PinSpareTransition, RetireTransition, VacuumTransition, WriteTransition}

-- the ports after each step, by its reply
abbrev pub KeepTransition : KeeperStep → PortsValue → PortsValue → Reply → Type 0
KeepTransition (keeps.Write change) old new (replies.At stamp) = WriteTransition change old new (Ok stamp)
KeepTransition (keeps.Write change) old new (Refused (refusals.Database e)) = WriteTransition change old new (Err e)
KeepTransition (keeps.Pin now) old new (replies.At stamp) = PinSpareTransition now old new (Ok stamp)
KeepTransition (keeps.Pin now) old new (Refused (refusals.Database e)) = PinSpareTransition now old new (Err e)
KeepTransition (keeps.Add stamp) old new replies.Added = AddSpareTransition {A = Unit {0}} stamp old new (Some (Ok tt))
KeepTransition (keeps.Add stamp) old new (Refused (refusals.Pincushion e)) =
    AddSpareTransition {A = Unit {0}} stamp old new (Some (Err e))
KeepTransition (keeps.Add stamp) old new (Refused refusals.NoRequest) =
    AddSpareTransition {A = Unit {0}} stamp old new None
KeepTransition (keeps.GiveBack stamp) old new replies.GivenBack =
    GiveBackTransition {A = Unit {0}} (stamp ∷ []) old new (Ok tt)
KeepTransition (keeps.GiveBack stamp) old new (Refused (refusals.GiveBack unknown)) =
    GiveBackTransition {A = Unit {0}} (stamp ∷ []) old new (Err unknown)
KeepTransition (keeps.Retire now age) old new (replies.Retired stamps) =
    RetireTransition {A = Unit {0}} now age old new (Ok stamps)
KeepTransition (keeps.Retire now age) old new (Refused refusals.Memory) = new ≡ old
KeepTransition (keeps.Unpin stamp) old new replies.Unpinned = UnpinTransition {A = Unit {0}} stamp old new (Ok tt)
KeepTransition (keeps.Unpin stamp) old new (Refused (refusals.Database e)) =
    UnpinTransition {A = Unit {0}} stamp old new (Err e)
KeepTransition keeps.Vacuum old new (replies.Vacuumed horizon) = VacuumTransition old new (Ok horizon)
KeepTransition keeps.Vacuum old new (Refused (refusals.Database e)) = VacuumTransition old new (Err e)
KeepTransition (keeps.Query stamp query) old new (replies.Rows rows) =
    (new ≡ old) × IsToldAnswer query stamp old rows
KeepTransition (keeps.Query stamp query) old new (Refused (refusals.Database e)) =
    (new ≡ old) × IsQueryRefused old.database query stamp e
KeepTransition (keeps.Advance node) old new (replies.Advanced advanced) =
    HasLedNode node (λ was is. AdvanceTransition old.actors (whole_of old) was is (Ok advanced)) old new
KeepTransition (keeps.Advance node) old new (Refused (refusals.Node e)) =
    HasLedNode node (λ was is. AdvanceTransition old.actors (whole_of old) was is (Err e)) old new
KeepTransition (keeps.Advance node) old new (Refused refusals.NoNode) = (new ≡ old) × (length old.nodes ≤ node)
KeepTransition (keeps.Sweep node horizon) old new (replies.Swept count) =
    HasLedNode node (λ was is. SweepTransition old.actors horizon was is (Ok count)) old new
KeepTransition (keeps.Sweep node horizon) old new (Refused (refusals.Node e)) =
    HasLedNode node (λ was is. SweepTransition old.actors horizon was is (Err e)) old new
KeepTransition (keeps.Sweep node horizon) old new (Refused refusals.NoNode) =
    (new ≡ old) × (length old.nodes ≤ node)
KeepTransition keep old new reply = ⊥

-- the step left the ports so, and kept their row
pub record IsKeeperStep (keep : KeeperStep) (old new : PortsValue) (reply : Reply) : Type 0 where
  pub transition : KeepTransition keep old new reply
  pub keeps : KeepsRow old new
