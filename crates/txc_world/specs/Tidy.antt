-- Tidy lists of steps: the keeper removes only holds and users of its own.
use Rattle.std.specs.Prelude.{ℕ, ◌+◌, ◌≤◌, List, [], ◌∷◌, ◌++◌, Contains}
use Rattle.txc_db.specs.DatabaseValue.{without}
use Rattle.txc_cushion.specs.Entries.{stamps_of, times, users_of}
use Rattle.txc_world.specs.declared.step.KeeperStep.{KeeperStep}
use Rattle.txc_world.specs.declared.step.KeeperStep.TheVariants as keeps
use Rattle.txc_world.specs.declared.step.Step.{Step}
use Rattle.txc_world.specs.declared.step.Step.TheVariants.{Actor, BeginIn, Keeper}
use Rattle.txc_world.specs.declared.reply.Reply.{Reply}
use Rattle.txc_world.specs.declared.reply.Reply.TheVariants as replies
use Rattle.txc_world.specs.declared.reply.Reply.TheVariants.{Refused}
use Rattle.txc_world.specs.declared.reply.Refusal.TheVariants as refusals
use Rattle.txc_world.specs.Holdings.{holdings_of, times_own, times_taken, Account, Holdings}
use Rattle.txc_world.specs.KeeperAtPorts.{stamps_of_pins}
use Rattle.txc_world.specs.LostSnapshot.{IfReplyLost}
use Rattle.txc_world.specs.Ports.{PortsValue}

-- The keeper's own holds and users, computed from its steps and their replies: the stamps of the pins that it
-- added and has a user of, and the stamps that it must unpin. A retirement returned the latter, or an addition
-- that failed left them.
pub record InHand : Type 0 where
  pub lent : List ℕ
  pub owed : List ℕ

abbrev pub nothing_in_hand : InHand
nothing_in_hand = record { lent = []; owed = [] }

-- the keeper's own after one of its steps
abbrev pub in_hand_kept : KeeperStep → Reply → InHand → InHand
in_hand_kept (keeps.Add stamp) replies.Added in_hand = record in_hand { lent = stamp ∷ in_hand.lent }
in_hand_kept (keeps.Add stamp) (Refused (refusals.Pincushion error)) in_hand =
    record in_hand { owed = stamp ∷ in_hand.owed }
in_hand_kept (keeps.GiveBack stamp) replies.GivenBack in_hand =
    record in_hand { lent = without stamp in_hand.lent }
in_hand_kept (keeps.Retire now age) (replies.Retired stamps) in_hand =
    record in_hand { owed = stamps.items ++ in_hand.owed }
in_hand_kept (keeps.Unpin stamp) replies.Unpinned in_hand = record in_hand { owed = without stamp in_hand.owed }
in_hand_kept keep reply in_hand = in_hand

abbrev pub in_hand_after : Step → Reply → InHand → InHand
in_hand_after (Actor number act) reply in_hand = in_hand
in_hand_after (BeginIn number now staleness) reply in_hand = in_hand
in_hand_after (Keeper keep) reply in_hand = in_hand_kept keep reply in_hand

-- the keeper's own after a list of steps and their replies, one after another
abbrev pub in_hand_by : InHand → List Step → List Reply → InHand
in_hand_by in_hand [] replies = in_hand
in_hand_by in_hand (step ∷ steps) [] = in_hand
in_hand_by in_hand (step ∷ steps) (reply ∷ replies) = in_hand_by (in_hand_after step reply in_hand) steps replies

-- ---- tidy

-- the keeper returns only users of pins that it added, and unpins only stamps that it must unpin
abbrev pub IsTidyKeep : KeeperStep → Reply → InHand → Type 0
IsTidyKeep (keeps.GiveBack stamp) replies.GivenBack in_hand = Contains in_hand.lent stamp
IsTidyKeep (keeps.Unpin stamp) replies.Unpinned in_hand = Contains in_hand.owed stamp
IsTidyKeep keep reply in_hand = Unit {0}

abbrev pub IsTidy : Step → Reply → InHand → Type 0
IsTidy (Actor number act) reply in_hand = Unit {0}
IsTidy (BeginIn number now staleness) reply in_hand = Unit {0}
IsTidy (Keeper keep) reply in_hand = IsTidyKeep keep reply in_hand

-- each step is tidy after those before it
abbrev pub AreTidy : InHand → List Step → List Reply → Type 0
AreTidy in_hand [] replies = Unit {0}
AreTidy in_hand (step ∷ steps) [] = Unit {0}
AreTidy in_hand (step ∷ steps) (reply ∷ replies) =
    IsTidy step reply in_hand × AreTidy (in_hand_after step reply in_hand) steps replies

-- ---- consequences

-- no request, call, query of the transaction itself or commit failed because its snapshot is gone
abbrev pub LosesNothing : Reply → Type 0
LosesNothing reply = IfReplyLost reply ⊥

-- nor is it one of an actor; the keeper may ask for what is gone
abbrev pub LosesNoSnapshot : Step → Reply → Type 0
LosesNoSnapshot (Actor number act) reply = LosesNothing reply
LosesNoSnapshot (BeginIn number now staleness) reply = LosesNothing reply
LosesNoSnapshot (Keeper keep) reply = Unit {0}

abbrev pub LoseNoSnapshot : List Step → List Reply → Type 0
LoseNoSnapshot [] replies = Unit {0}
LoseNoSnapshot (step ∷ steps) [] = Unit {0}
LoseNoSnapshot (step ∷ steps) (reply ∷ replies) =
    LosesNoSnapshot step reply × LoseNoSnapshot steps replies

-- Everyone has their own. Of each stamp there are at least as many holds as these need: the keeper's pins that
-- it did not add, the pincushion's pins, the stamps that the keeper must unpin, and the actors' holds. And
-- there are at least as many users as the keeper has and the actors took.
pub record AreBalanced (spare : List ℕ) (holdings : Holdings) (in_hand : InHand) : Type 0 where
  pub held : (stamp : ℕ) → times stamp spare + times stamp (stamps_of holdings.entries) + times stamp in_hand.owed
      + times_own stamp holdings.accounts ≤ times stamp holdings.holds
  pub used : (stamp : ℕ) → times stamp in_hand.lent + times_taken stamp holdings.accounts
      ≤ users_of stamp holdings.entries

-- ---- a step of the keeper

-- a tidy step keeps the balance
abbrev pub KeepsBalance : KeeperStep → PortsValue → PortsValue → Reply → Type 0
KeepsBalance keep old new reply = (in_hand : InHand) (accounts : List Account) → IsTidyKeep keep reply in_hand
    → AreBalanced (stamps_of_pins old.spare) (holdings_of old accounts) in_hand
    → AreBalanced (stamps_of_pins new.spare) (holdings_of new accounts) (in_hand_kept keep reply in_hand)
