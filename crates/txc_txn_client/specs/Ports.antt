-- The passes of a client, and the effect of each request on them.
use Rattle.txc_stream.specs.Names.{Name}
use Rattle.std.specs.Prelude.{◌≡◌, ◌⊎◌, ℕ, List, [], ◌∷◌, slice_get, set, Option, Some, None}
use Rattle.txc_tags.specs.Keys.{Call}
use Rattle.txc_db.specs.declared.answered.Answered.{Answered}
use Rattle.txc_node.specs.declared.entry.Entry.{Entry}
use Rattle.txc_node.specs.declared.hit.HitValue.{HitValue}
use Rattle.txc_node.specs.declared.op.Op.TheVariants.{Lookup}
use Rattle.txc_node.specs.declared.reply.Reply.{Reply}
use Rattle.txc_node.specs.declared.reply.Reply.TheVariants.{Hit, Miss}
use Rattle.txc_node.specs.Counts.{Totals, AreCountsOf}
use Rattle.txc_shared.specs.declared.error.NodeError.{NodeError}
use Rattle.txc_shared.specs.declared.insertion.Insertion.{Insertion}
use Rattle.txc_shared.specs.declared.insertion.Insertion.TheVariants as insertions
use Rattle.txc_shared.specs.Nodes.{NodeValue}
use Rattle.txc_shared.specs.Passes.{PassValue, GrowsByOthers, HasGrown, HasInserted, HasMade, IsPassLeft}
use Rattle.txc_shared.specs.Refusals.{IsCountRefused, IsLookupRefused, IsRefusedThrough, IsStepRefused, NodeMayRefuse}
use Rattle.txc_txn_ports.specs.declared.kept.Kept.{Kept}
use Rattle.txc_txn_ports.specs.declared.kept.Kept.TheVariants as kept
use Rattle.txc_txn_ports.specs.Exchanges.{Exchange}
use Rattle.txc_txn_ports.specs.Exchanges as exchanges

-- each pass has seen no less of its node than before
abbrev pub HaveGrown : List PassValue → List PassValue → Type 0
HaveGrown [] [] = Unit {0}
HaveGrown (old ∷ olds) (new ∷ news) = HasGrown old new × HaveGrown olds news
HaveGrown olds news = ⊥

-- one call was made through the pass of this node; every other pass is as it was
pub record IsCallAt (node : ℕ) (call : PassValue → PassValue → Type 0) (olds news : List PassValue) : Type 0 where
  pub old : PassValue
  pub new : PassValue
  pub pass : slice_get olds node ≡ Some old
  pub grown : HasGrown old new
  pub called : call old new
  pub others : news ≡ set olds node new

-- a call through the pass failed as some node of the named history fails, and left the pass so
pub record IsCallRefused (node_histories : ℕ → Name) (refused : NodeValue → NodeError → Type 0)
    (old new : PassValue) : Type 0 where
  pub error : NodeError
  pub reason : NodeMayRefuse node_histories (λ n. IsRefusedThrough refused n old) error
  pub left : IsPassLeft (node_histories old.settings.number) old new error

-- the reply of a node to a lookup with this result
abbrev pub reply_to_lookup : Option (Answered HitValue) → Reply HitValue
reply_to_lookup None = Miss
reply_to_lookup (Some hit) = Hit hit.answer

-- one lookup, whose record has the result; or it failed, and nothing was found
abbrev pub LookupLeaves : (ℕ → Name) → Call → ℕ → ℕ → Option (Answered HitValue) → PassValue → PassValue → Type 0
LookupLeaves node_histories key lo hi found old new = HasMade old new (Lookup key lo hi) (reply_to_lookup found)
    ⊎ ((found ≡ None) × IsCallRefused node_histories (λ n. IsLookupRefused n lo hi) old new)

-- the result of a node's insertion
abbrev pub kept_by : Insertion → Kept
kept_by (insertions.Stored reach) = kept.Stored reach
kept_by insertions.Kept = kept.Earlier

-- one insertion of the entry, with this result; or it failed, and nothing is stored
abbrev pub InsertLeaves : (ℕ → Name) → Entry → Option Kept → PassValue → PassValue → Type 0
InsertLeaves node_histories entry (Some keeps) old new =
    (insertion : Insertion) × HasInserted old new entry insertion × (keeps ≡ kept_by insertion)
InsertLeaves node_histories entry None old new = IsCallRefused node_histories IsStepRefused old new

-- the counts of all records of the node, which the pass was shown; or it failed, and nothing was counted
abbrev pub CountsLeave : (ℕ → Name) → Option Totals → PassValue → PassValue → Type 0
CountsLeave node_histories (Some counts) old new =
    GrowsByOthers old.pass old.records new.records × AreCountsOf new.records counts
CountsLeave node_histories None old new = IsCallRefused node_histories IsCountRefused old new

-- The passes after an exchange. A lookup is one lookup at the named node, of this call at these stamps; an
-- insertion is one insertion of this entry there; and any other exchange leaves every pass as before.
abbrev pub PassesAfter : (ℕ → Name) → List PassValue → Exchange → List PassValue → Type 0
PassesAfter node_histories olds (exchanges.Lookup node key lo hi found) news =
    IsCallAt node (LookupLeaves node_histories key lo hi found) olds news
PassesAfter node_histories olds (exchanges.Insert node entry keeps) news =
    IsCallAt node (InsertLeaves node_histories entry keeps) olds news
PassesAfter node_histories olds exchange news = news ≡ olds
