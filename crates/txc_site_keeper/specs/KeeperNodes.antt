-- A keeper's pass through a node, and what the node was asked through it.
use Rattle.std.specs.Prelude.{◌≡◌, ℕ, Option}
use Rattle.txc_stream.specs.Names.{Name}
use Rattle.txc_shared.specs.declared.error.NodeError.{NodeError}
use Rattle.txc_shared.specs.Nodes.{NodeValue}
use Rattle.txc_shared.specs.Passes.{PassValue, IsPassLeft}
use Rattle.txc_shared.specs.Refusals.{IsRefusedThrough, NodeMayRefuse}
use Rattle.txc_site_ledger.specs.CommitCounter.{counted_again}

-- the pass, the number of the node's errors at requests through it, and the most bytes of the node's values
-- after a trim, if there is a budget
pub record KeeperNodeValue : Type 0 where
  pub pass : PassValue
  pub refusals : ℕ
  pub budget : Option ℕ

-- it is the same pass through the same node, with the same budget
pub record IsSamePass (old new : KeeperNodeValue) : Type 0 where
  pub settings : new.pass.settings ≡ old.pass.settings
  pub pass : new.pass.pass ≡ old.pass.pass
  pub budget : new.budget ≡ old.budget

-- a request of the node succeeded
abbrev pub HasNotRefused : KeeperNodeValue → KeeperNodeValue → Type 0
HasNotRefused old new = new.refusals ≡ old.refusals

-- a request of the node failed as such a step may fail in a node of its history, which leaves the pass so
pub record HasBeenRefused (histories : ℕ → Name) (refused : NodeValue → NodeError → Type 0) (old : KeeperNodeValue) (error : NodeError)
    (new : KeeperNodeValue) : Type 0 where
  pub once_more : new.refusals ≡ counted_again old.refusals
  pub reason : NodeMayRefuse histories (λ n. IsRefusedThrough refused n old.pass) error
  pub left : IsPassLeft (histories old.pass.settings.number) old.pass new.pass error
