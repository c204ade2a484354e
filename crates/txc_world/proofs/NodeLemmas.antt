-- What the steps at a node keep of it.
use Rattle.std.proofs.Common.{◌≡◌, ◌∙◌, inl, inr, ℕ, true, false, Option, Some, None, Result, Ok, Err, refl, ap, sym, subst}
use Rattle.std.specs.Prelude.{◌≤◌, IfErr, IfOk, IfSome, OnOk}
use Rattle.std.specs.Option.{option_map}
use Rattle.std.specs.Result.{result_unwrap_or}
use mathlib.Core.List.{IsPrefix}
use Rattle.txc_tags.specs.Keys.{Call}
use Rattle.txc_db.specs.History.{History}
use Rattle.txc_db.specs.FrontsAndFeeds.{FrontValue}
use Rattle.txc_db.specs.declared.answered.Answered.{Answered}
use Rattle.txc_node.specs.Cache.{lookup_answer, swept_count}
use Rattle.txc_node.specs.declared.entry.Entry.{Entry}
use Rattle.txc_node.specs.declared.hit.HitValue.{HitValue}
use Rattle.txc_node.specs.declared.op.Op.{Op}
use Rattle.txc_node.specs.declared.op.Op.TheVariants.{Lookup, Sweep}
use Rattle.txc_app.specs.Eval.{Next}
use Rattle.txc_shared.specs.declared.advanced.Advanced.{Advanced}
use Rattle.txc_shared.specs.declared.advanced.Advanced.TheVariants.{Taken, Idle}
use Rattle.txc_shared.specs.declared.error.NodeError.{NodeError}
use Rattle.txc_shared.specs.declared.error.NodeError.TheVariants as errors
use Rattle.txc_shared.specs.declared.insertion.Insertion.{Insertion}
use Rattle.txc_shared.specs.Nodes.{NodeValue, after_call, seeing, HasAdvanced, IsLonger}
use Rattle.txc_shared.specs.Refusals.{CanRecord, IsLookupRefused, IsNodeLeft, IsNodeBroken, IsStepRefused, IsTakingRefused}
use Rattle.txc_stream.proofs.Offered.{longer_is}
use Rattle.txc_world.specs.Parts.{IsPartOf}
use Rattle.txc_world.specs.NodeSteps.{LookupTransition, InsertTransition, AdvanceTransition, SweepTransition}
use Rattle.txc_stream.specs.Names.{HasRow}
use Rattle.txc_world.specs.Ports.{IsNodeOf, IsSoundNode}
use Rattle.txc_world.proofs.PartLemmas.{part_itself}

-- the longer of the whole and a part of it is the whole
pub longer_is_whole : (one whole longer : FrontValue) → IsLonger one whole longer → IsPartOf whole one → longer ≡ whole
longer_is_whole one whole longer l part =
    let events : longer.events ≡ whole.events = l.events ∙ part.row in
    let history : longer.history ≡ whole.history = longer_is one.history whole.history longer.history part.begins l.either l.second in
    λ i. record { events = events i; history = history i }

-- what a whole node made of the next event, by what it returns
pub advanced_so : (pass : ℕ) (whole : FrontValue) (old new : NodeValue) (r : Result Advanced NodeError) → old.broken ≡ false
    → IsPartOf whole old.seen → OnOk r (IsLonger old.seen whole new.seen) → IfOk r (HasAdvanced (seeing old new.seen) pass new)
    → IfErr r (IsNodeLeft old new) → IfErr r (IsTakingRefused old) → AdvanceTransition pass whole old new r
advanced_so pass whole old new (Ok advanced) is part longer after left refused = (
  is,
  subst (λ (front : FrontValue). HasAdvanced (seeing old front) pass new advanced) (longer_is_whole old.seen whole new.seen longer part) after,
)
advanced_so pass whole old new (Err errors.Memory) is part longer after left refused = (left, is)
advanced_so pass whole old new (Err e) is part longer after left refused = (left, refused)

-- a step keeps how the node was made, what its history is called, its row and its passes; and what it has seen is part of the whole unless it
-- is broken, if it was before
pub record StaysNode (whole : FrontValue) (old new : NodeValue) : Type 0 where
  pub settings : new.settings ≡ old.settings
  pub from : new.from ≡ old.from
  pub name : new.name ≡ old.name
  pub row : old.seen.events ≡ whole.events → new.seen.events ≡ whole.events
  pub passes : new.passes ≡ old.passes
  pub seen : (old.broken ≡ false → IsPartOf whole old.seen) → new.broken ≡ false → IsPartOf whole new.seen

pub node_stays : {next : Next} (whole : FrontValue) (actors : ℕ) (old new : NodeValue) → StaysNode whole old new → IsSoundNode next new
    → IsNodeOf next whole actors old → IsNodeOf next whole actors new
node_stays whole actors old new s sound n = record { kind = subst HasRow (sym s.name) n.kind; begun = s.from ∙ n.begun; row = s.row n.row; seen = s.seen n.seen; passes = s.passes ∙ n.passes; sound = sound }

module _ (whole : FrontValue) where
  pub stays_itself : (n : NodeValue) → StaysNode whole n n
  stays_itself n = record { settings = refl; from = refl; name = refl; row = λ h. h; passes = refl; seen = λ h. h }

  stays_same : (old new : NodeValue) → new ≡ old → StaysNode whole old new
  stays_same old new is = subst (λ (n : NodeValue). StaysNode whole old n) (sym is) (stays_itself old)

  pub stays_after : (old new : NodeValue) (pass : ℕ) (op : Op) → new ≡ after_call old pass op → StaysNode whole old new
  stays_after old new pass op is =
      subst (λ (n : NodeValue). StaysNode whole old n) (sym is) (record { settings = refl; from = refl; name = refl; row = λ h. h; passes = refl; seen = λ h. h })

  -- what was broken stays so, whatever it has seen
  stays_broken : (old new : NodeValue) → IsNodeBroken old new → StaysNode whole old new
  stays_broken old new broke = record {
    settings = ap (λ (n : NodeValue). n.settings) broke.is;
    from = ap (λ (n : NodeValue). n.from) broke.is;
    name = ap (λ (n : NodeValue). n.name) broke.is;
    row = λ h. broke.events ∙ h;
    passes = ap (λ (n : NodeValue). n.passes) broke.is;
    seen = λ h whole_new. let no : true ≡ false = sym (ap (λ (n : NodeValue). n.broken) broke.is) ∙ whole_new in cc no;
  }

  pub stays_left : (old new : NodeValue) (e : NodeError) → IsNodeLeft old new e → StaysNode whole old new
  stays_left old new errors.Broken (inl same) = stays_same old new same.0
  stays_left old new errors.Broken (inr broke) = stays_broken old new broke
  stays_left old new e same = stays_same old new same

  pub stays_looked_up : (old new : NodeValue) (pass : ℕ) (key : Call) (lo hi : ℕ) (found : Option HitValue)
      → LookupTransition pass key lo hi old new found → StaysNode whole old new
  stays_looked_up old new pass key lo hi (Some shown) transition = stays_after old new pass (Lookup key lo hi) transition.0
  stays_looked_up old new pass key lo hi None (inl transition) = stays_after old new pass (Lookup key lo hi) transition.0
  stays_looked_up old new pass key lo hi None (inr refused) = stays_left old new refused.0 refused.2

  -- one of two parts is a part
  longer_part : (one other longer : FrontValue) → IsLonger one other longer → IsPartOf whole one → IsPartOf whole other → IsPartOf whole longer
  longer_part one other longer l a b = elim l.either [
    | inl is ↦ record { row = l.events ∙ a.row; begins = subst (λ (h : History). IsPrefix h whole.history) (sym is) a.begins }
    | inr is ↦ record { row = l.events ∙ a.row; begins = subst (λ (h : History). IsPrefix h whole.history) (sym is) b.begins }
  ]

  pub stays_inserted : (old new : NodeValue) (pass : ℕ) (seen : FrontValue) (entry : Entry) (made : Option Insertion)
      → IsPartOf whole seen → InsertTransition pass seen entry old new made → StaysNode whole old new
  stays_inserted old new pass seen entry (Some insertion) part has = record {
    settings = ap (λ (n : NodeValue). n.settings) has.after;
    from = ap (λ (n : NodeValue). n.from) has.after;
    name = ap (λ (n : NodeValue). n.name) has.after;
    row = λ h. has.longer.events ∙ h;
    passes = ap (λ (n : NodeValue). n.passes) has.after;
    seen = λ h whole_new. longer_part old.seen seen new.seen has.longer (h (sym (ap (λ (n : NodeValue). n.broken) has.after) ∙ whole_new)) part;
  }
  stays_inserted old new pass seen entry None part refused = stays_left old new refused.0 refused.2

  stays_seeing : (old new : NodeValue) → new ≡ seeing old whole → StaysNode whole old new
  stays_seeing old new is =
      subst (λ (n : NodeValue). StaysNode whole old n) (sym is) (record { settings = refl; from = refl; name = refl; row = λ h. refl; passes = refl; seen = λ h w. part_itself whole })

  pub stays_advanced : (old new : NodeValue) (pass : ℕ) (advanced : Result Advanced NodeError)
      → AdvanceTransition pass whole old new advanced → StaysNode whole old new
  stays_advanced old new pass (Ok (Taken stamp closed)) transition =
      subst (λ (n : NodeValue). StaysNode whole old n) (sym transition.1.0) (record { settings = refl; from = refl; name = refl; row = λ h. refl; passes = refl; seen = λ h w. part_itself whole })
  stays_advanced old new pass (Ok Idle) transition = stays_seeing old new transition.1.0
  stays_advanced old new pass (Err e) transition = stays_left old new e transition.0

  pub stays_swept : (old new : NodeValue) (pass horizon : ℕ) (swept : Result ℕ NodeError)
      → SweepTransition pass horizon old new swept → StaysNode whole old new
  stays_swept old new pass horizon (Ok count) transition = stays_after old new pass (Sweep horizon) transition.1
  stays_swept old new pass horizon (Err e) transition = stays_left old new e transition.0

-- ---- a sweep, by what it returns

pub swept_so : (pass horizon : ℕ) (old new : NodeValue) (r : Result ℕ NodeError) → OnOk r (new ≡ after_call old pass (Sweep horizon))
    → IfOk r (λ count. count ≡ swept_count old.cache horizon) → OnOk r (CanRecord old) → IfErr r (IsNodeLeft old new) → IfErr r (IsStepRefused old)
    → SweepTransition pass horizon old new r
swept_so pass horizon old new (Ok count) after answer can left refused = (can, after, answer)
swept_so pass horizon old new (Err e) after answer can left refused = (left, refused)

-- ---- a lookup, by what it returns

pub looked_up : (pass : ℕ) (key : Call) (lo hi : ℕ) (old new : NodeValue) (r : Result (Option (Answered HitValue)) NodeError)
    → OnOk r (new ≡ after_call old pass (Lookup key lo hi)) → IfOk r (λ o. option_map (λ f. f.answer) o ≡ lookup_answer old.cache key lo hi)
    → IfErr r (IsNodeLeft old new) → IfErr r (IsLookupRefused old lo hi)
    → LookupTransition pass key lo hi old new (option_map (λ f. f.answer) (result_unwrap_or r None))
looked_up pass key lo hi old new (Ok (Some hit)) after answer left refused = (after, sym answer)
looked_up pass key lo hi old new (Ok None) after answer left refused = inl (after, sym answer)
looked_up pass key lo hi old new (Err e) after answer left refused = inr (e, refused, left)

-- which a whole node alone shows, so that it is part of the whole
pub found_part : (whole : FrontValue) (node : NodeValue) (lo hi : ℕ) (r : Result (Option (Answered HitValue)) NodeError) → (node.broken ≡ false → IsPartOf whole node.seen)
    → IfOk r (λ o. IfSome o (λ f. f.front ≡ node.seen)) → OnOk r (CanRecord node × (lo ≤ hi)) → IfSome (result_unwrap_or r None) (λ f. IsPartOf whole f.front)
found_part whole node lo hi (Ok (Some hit)) seen front can = subst (IsPartOf whole) (sym front) (seen can.0.whole)
found_part whole node lo hi (Ok None) seen front can = tt
found_part whole node lo hi (Err e) seen front can = tt
