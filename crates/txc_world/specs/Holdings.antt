-- The holdings of a world: the owner of each hold of a stamp, and the users of each pin.
use Rattle.std.specs.Prelude.{◌≡◌, ℕ, ◌+◌, ◌<◌, ◌≤◌, List, [], ◌∷◌, Option, Some, None, map, sum_by, false}
use Rattle.txc_db.specs.DatabaseValue.{IsSound}
use Rattle.txc_db.specs.Laws.{OneHoldLess}
use Rattle.txc_cushion.specs.declared.entry.PinEntry.{PinEntry}
use Rattle.txc_cushion.specs.declared.pin.Pin.{Pin}
use Rattle.txc_cushion.specs.Entries.{pins_of, stamps_of, times, users_of}
use Rattle.txc_cushion.specs.Cushion.{IsCushion}
use Rattle.txc_cushion.specs.Refusals.{HaveUsers}
use Rattle.txc_cushion.specs.Laws.{AddCountsOnePin, FreshCountsUsers, GiveBackCountsUsers, PinsEachStampOnce, RetireCountsTheUnused}
use Rattle.txc_txn_ports.specs.declared.request.PortRequest.{PortRequest}
use Rattle.txc_txn_ports.specs.declared.request.PortRequest.TheVariants as requests
use Rattle.txc_txn_ports.specs.declared.reply.PortReply.{PortReply}
use Rattle.txc_txn.specs.TxnCore.{left_after, left_pin, taken_after, CoreValue}
use Rattle.txc_world.specs.declared.actor.Actor.{Actor}
use Rattle.txc_world.specs.declared.actor.Actor.TheVariants.{Idle, Reading, Writing, Leaving}
use Rattle.txc_world.specs.declared.reply.Reply.{Reply}
use Rattle.txc_world.specs.LostSnapshot.{IfPortLoses, IfReplyLost}
use Rattle.txc_world.specs.Ports.{PortsValue}

-- the account of an actor: the stamps of the pins that were issued to it or added by it, of each of which it is
-- a user; and the stamps whose holds it must remove
pub record Account : Type 0 where
  pub taken : List ℕ
  pub own : List ℕ

abbrev pub nothing : Account
nothing = record { taken = []; own = [] }

-- these pins were issued
abbrev pub handed : List Pin → Account
handed pins = record { taken = map (λ p. p.stamp) pins; own = [] }

-- the stamp, if there is one
abbrev pub stamp_if_any : Option ℕ → List ℕ
stamp_if_any None = []
stamp_if_any (Some stamp) = stamp ∷ []

-- a read-only transaction has what it took, and the hold of a pin that is not added yet; a read-write one has
-- that of its base; and one that has ended has the hold that is left
abbrev pub account_of_core : CoreValue → Account
account_of_core c = record { taken = c.taken; own = stamp_if_any (left_pin c.pinning) }

abbrev pub account_of : {A C : Type 0} → Actor A C → Account
account_of (Idle objects) = nothing
account_of (Reading o) = account_of_core o.txn.core
account_of (Writing o) = record { taken = []; own = o.core.base ∷ [] }
account_of (Leaving objects stamp) = record { taken = []; own = stamp ∷ [] }

abbrev pub account_at : {A C : Type 0} → Option (Actor A C) → Account
account_at None = nothing
account_at (Some actor) = account_of actor

-- the stamps that the database holds, one for each hold; the pins of the pincushion, with their users; and
-- the account of each actor
pub record Holdings : Type 0 where
  pub holds : List ℕ
  pub entries : List PinEntry
  pub accounts : List Account

abbrev pub holdings_of : PortsValue → List Account → Holdings
holdings_of ports accounts = record {
  holds = ports.database.holds;
  entries = ports.cushion.entries;
  accounts = accounts;
}

-- the number of times that the actors took the stamp
abbrev pub times_taken : ℕ → List Account → ℕ
times_taken stamp accounts = sum_by (λ a. times stamp a.taken) accounts

-- the number of holds of the stamp that are the actors' own
abbrev pub times_own : ℕ → List Account → ℕ
times_own stamp accounts = sum_by (λ a. times stamp a.own) accounts

-- no pin comes or goes, and nothing but users has changed
pub record KeepsPins (old new : PortsValue) : Type 0 where
  pub pins : pins_of new.cushion.entries ≡ pins_of old.cushion.entries
  pub same : new ≡ record old { cushion = record old.cushion { entries = new.cushion.entries } }

-- each of these pins has one user fewer, if they have that many
abbrev pub GivesBack : PortsValue → PortsValue → List Pin → Type 0
GivesBack old new pins = HaveUsers old.cushion.entries (map (λ p. p.stamp) pins)
    → (stamp : ℕ) → users_of stamp new.cushion.entries + times stamp (map (λ p. p.stamp) pins)
    ≡ users_of stamp old.cushion.entries

-- ---- the effect of an actor's step on them

-- No other actor has less after it: each stamp got at least as many holds as the actor and the pincushion have
-- more, and at least as many users as the actor took more.
pub record TakesOnlyItsOwn (old new : PortsValue) (before after : Account) : Type 0 where
  pub holds : (stamp : ℕ)
      → times stamp after.own + times stamp (stamps_of new.cushion.entries) + times stamp old.database.holds
      ≤ times stamp before.own + times stamp (stamps_of old.cushion.entries) + times stamp new.database.holds
  pub users : (stamp : ℕ) → times stamp after.taken + users_of stamp old.cushion.entries
      ≤ times stamp before.taken + users_of stamp new.cushion.entries

-- the part of the account that a request spends: the hold of the pin to be added or unpinned
abbrev pub spent : PortRequest → Account
spent (requests.AddPin pinned) = record { taken = []; own = pinned.stamp ∷ [] }
spent (requests.Unpin stamp) = record { taken = []; own = stamp ∷ [] }
spent request = nothing

-- the part of the account that a reply adds: a user of a pin that was added, or the hold of one that is not
abbrev pub gained : PortReply → Account
gained reply = record { taken = taken_after [] reply; own = stamp_if_any (left_after reply) }

-- a snapshot is gone only if its stamp is held no more; and no other request fails so
abbrev pub LosesOnlyUnheld : PortRequest → PortsValue → PortReply → Type 0
LosesOnlyUnheld (requests.Query query stamp) p reply = IfPortLoses reply (times stamp p.database.holds ≡ 0)
LosesOnlyUnheld request p reply = IfPortLoses reply ⊥

-- a stamp of the account is held no more
pub record HasLost (p : PortsValue) (account : Account) : Type 0 where
  pub stamp : ℕ
  pub had : 0 < times stamp account.taken + times stamp account.own
  pub lost : times stamp p.database.holds ≡ 0

-- one request of a transaction: no other actor loses by it, and it fails for a lost snapshot only if that is
-- held no more
pub record AskCounts (request : PortRequest) (old new : PortsValue) (reply : PortReply) : Type 0 where
  pub own_only : TakesOnlyItsOwn old new (spent request) (gained reply)
  pub gone : LosesOnlyUnheld request old reply

-- one step of an actor: no other actor loses by it, and it fails for a lost snapshot only if that is one of its
-- own
pub record ActCounts (old new : PortsValue) (before after : Account) (reply : Reply) : Type 0 where
  pub own_only : TakesOnlyItsOwn old new before after
  pub loss : IfReplyLost reply (HasLost old before)

-- ---- reasons

-- The ports' own holdings, and the effects of their calls, stamp by stamp.
pub record CountRight (p : PortsValue) : Type 0 where
  pub sound : p.database.broken ≡ false → IsSound p.database
  pub cushion : IsCushion p.cushion
  pub once : PinsEachStampOnce
  pub fresh : FreshCountsUsers
  pub add : AddCountsOnePin
  pub give_back : GiveBackCountsUsers
  pub retire : RetireCountsTheUnused
  pub unpin : OneHoldLess
