-- Why a node gives no pass.
use Rattle.std.proofs.Common.{◌≡◌, ◌⊎◌, inl, inr, ℕ, List}
use Rattle.std.specs.Prelude.{Any}
use Rattle.txc_shared.specs.declared.error.NodeError.{NodeError}
use Rattle.txc_shared.specs.declared.error.NodeError.TheVariants as refusals
use Rattle.txc_shared.specs.declared.settings.NodeSettings.{NodeSettings}
use Rattle.txc_shared.specs.Refusals.{IsNewPassRefused, NodeMayRefuse}
use Rattle.txc_stream.specs.Names.{Name}
use Rattle.txc_site_keeper.specs.Refusals.{IsNoPass}

-- a node that refuses a new pass gives none
pub no_new_pass : (histories : ℕ → Name) (node : NodeSettings) (error : NodeError) → NodeMayRefuse histories (IsNewPassRefused node) error → IsNoPass error
no_new_pass histories node refusals.Broken h = tt
no_new_pass histories node refusals.EmptyRange (n, named, (never, made)) = absurd never
no_new_pass histories node refusals.HistoryFull (n, named, (never, made)) = absurd never
no_new_pass histories node refusals.PassesFull h = tt
no_new_pass histories node refusals.Memory h = tt

-- and so does a client of some node that refuses one
pub no_pass : (histories : ℕ → Name) (nodes : List NodeSettings) (error : NodeError)
    → (error ≡ refusals.Memory) ⊎ Any (λ node. NodeMayRefuse histories (IsNewPassRefused node) error) nodes → IsNoPass error
no_pass histories nodes refusals.Broken h = tt
no_pass histories nodes refusals.EmptyRange (inl h) = absurd (cc h)
no_pass histories nodes refusals.EmptyRange (inr (k, node, within, at, h)) = no_new_pass histories node refusals.EmptyRange h
no_pass histories nodes refusals.HistoryFull (inl h) = absurd (cc h)
no_pass histories nodes refusals.HistoryFull (inr (k, node, within, at, h)) = no_new_pass histories node refusals.HistoryFull h
no_pass histories nodes refusals.PassesFull h = tt
no_pass histories nodes refusals.Memory h = tt
