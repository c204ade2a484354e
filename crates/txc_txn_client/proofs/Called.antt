-- What one call through a pass leaves of all passes.
use Rattle.txc_stream.specs.Names.{Name}
use Rattle.std.proofs.Common.{◌≡◌, ℕ, ◌<◌, List, length, get_or, set, Option, Some, None, Result, Ok, Err, IfOk, OnOk, IfErr, refl, sym, subst, inl, inr}
use Rattle.std.specs.Option.{option_map}
use Rattle.std.specs.Prelude.{IfSome}
use Rattle.std.specs.Result.{result_unwrap_or}
use Rattle.std.proofs.lemmas.Option.{slice_get_read}
use Rattle.txc_tags.specs.Keys.{Call}
use Rattle.txc_db.specs.declared.answered.Answered.{Answered}
use Rattle.txc_db.specs.FrontsAndFeeds.{FrontValue}
use Rattle.txc_app.specs.Eval.{Next}
use Rattle.txc_app.specs.Claims.{IsTrueIn, entry_shown}
use Rattle.txc_node.specs.declared.entry.Entry.{Entry}
use Rattle.txc_node.specs.declared.hit.HitValue.{HitValue}
use Rattle.txc_node.specs.declared.op.Op.TheVariants.{Lookup}
use Rattle.txc_node.specs.Steps.{found_reply}
use Rattle.txc_node.specs.Counts.{Totals, AreCountsOf}
use Rattle.txc_shared.specs.declared.error.NodeError.{NodeError}
use Rattle.txc_shared.specs.declared.insertion.Insertion.{Insertion}
use Rattle.txc_shared.specs.Passes.{PassValue, GrowsByOthers, HasGrown, HasInserted, HasMade, IsPassLeft}
use Rattle.txc_shared.specs.Refusals.{IsCountRefused, IsLookupRefused, IsRefusedThrough, IsStepRefused, NodeMayRefuse}
use Rattle.txc_txn_ports.specs.declared.kept.Kept.{Kept}
use Rattle.txc_txn_ports.specs.declared.request.PortRequest.TheVariants as requests
use Rattle.txc_txn_ports.specs.declared.reply.PortReply.TheVariants as replies
use Rattle.txc_txn_ports.specs.PortRequests.{IsOfRow, IsReplyTo}
use Rattle.txc_txn_client.specs.Ports.{kept_by, CountsLeave, InsertLeaves, IsCallAt, LookupLeaves}

pub called_at : (ps : List PassValue) (node : ℕ) (call : PassValue → PassValue → Type 0) (old new : PassValue) → node < length ps → old ≡ get_or ps node old
    → HasGrown old new → call old new → IsCallAt node call ps (set ps node new)
called_at ps node call old new within at grown called =
    record { old = old; new = new; pass = slice_get_read ps (length ps) node old refl within at; grown = grown; called = called; others = refl }

-- what is kept, by what an insertion returns
abbrev pub kept_of : Result Insertion NodeError → Option Kept
kept_of (Ok insertion) = Some (kept_by insertion)
kept_of (Err e) = None

module _ (node_histories : ℕ → Name) (old new : PassValue) where
  -- a lookup, by what it returns
  pub looked_up : (key : Call) (lo hi : ℕ) (r : Result (Option (Answered HitValue)) NodeError)
      → IfOk r (λ o. HasMade old new (Lookup key lo hi) (found_reply (option_map (λ f. f.answer) o))) → IfErr r (IsPassLeft (node_histories old.settings.number) old new)
      → IfErr r (NodeMayRefuse node_histories (λ n. IsRefusedThrough (λ m. IsLookupRefused m lo hi) n old))
      → LookupLeaves node_histories key lo hi (result_unwrap_or r None) old new
  looked_up key lo hi (Ok (Some hit)) made left refused = inl made
  looked_up key lo hi (Ok None) made left refused = inl made
  looked_up key lo hi (Err e) made left refused = inr (refl, record { error = e; reason = refused; left = left })

  -- an insertion, by what it returns
  pub inserted : (entry : Entry) (r : Result Insertion NodeError) → IfOk r (HasInserted old new entry) → IfErr r (IsPassLeft (node_histories old.settings.number) old new)
      → IfErr r (NodeMayRefuse node_histories (λ n. IsRefusedThrough IsStepRefused n old))
      → (keeps : Option Kept) → keeps ≡ kept_of r → InsertLeaves node_histories entry keeps old new
  inserted entry (Ok insertion) made left refused keeps is = rw is (insertion, made, refl)
  inserted entry (Err e) made left refused keeps is = rw is (record { error = e; reason = refused; left = left })

  -- counts, by what they return
  pub counted : (r : Result Totals NodeError) (counts : Totals) → r ≡ Ok counts → OnOk r (GrowsByOthers old.pass old.records new.records)
      → IfOk r (AreCountsOf new.records) → CountsLeave node_histories (Some counts) old new
  counted r counts is others right = (
    subst (λ (q : Result Totals NodeError). OnOk q (GrowsByOthers old.pass old.records new.records)) is others,
    subst (λ (q : Result Totals NodeError). IfOk q (AreCountsOf new.records)) is right,
  )

  pub count_refused : (r : Result Totals NodeError) (e : NodeError) → r ≡ Err e → IfErr r (IsPassLeft (node_histories old.settings.number) old new)
      → IfErr r (NodeMayRefuse node_histories (λ n. IsRefusedThrough IsCountRefused n old)) → CountsLeave node_histories None old new
  count_refused r e is left refused = record {
    error = e;
    reason = subst (λ (q : Result Totals NodeError). IfErr q (NodeMayRefuse node_histories (λ n. IsRefusedThrough IsCountRefused n old))) is refused;
    left = subst (λ (q : Result Totals NodeError). IfErr q (IsPassLeft (node_histories old.settings.number) old new)) is left;
  }

-- a hit that is true of the call, and of the row, as the reply to a lookup
pub right_hit : (next : Next) (node : ℕ) (key : Call) (lo hi : ℕ) (hit : Option (Answered HitValue)) → IfSome hit (λ h. IsTrueIn next h.front.history (entry_shown key h.answer))
    → IsReplyTo next (requests.Lookup node key lo hi) (replies.Lookup hit)
right_hit next node key lo hi (Some hit) right = right
right_hit next node key lo hi None right = tt

pub row_of_hit : (row : Name) (hit : Option (Answered HitValue)) → IfSome hit (λ h. h.front.events ≡ row) → IsOfRow row (replies.Lookup hit)
row_of_hit row (Some hit) of = λ front is.
    let same : hit.front ≡ front = cc in
    subst (λ (f : FrontValue). f.events ≡ row) same of
row_of_hit row None of = λ front is. cc is
