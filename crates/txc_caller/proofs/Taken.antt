-- A node that takes events.
use Rattle.std.proofs.Common.{◌≡◌, ◌∙◌, Bool, true, false, List, [], ◌++◌, append-nil, inl, inr, refl, ap, subst, sym}
use Rattle.std.proofs.lemmas.List.{append_assoc}
use Rattle.txc_db.specs.DatabaseValue.{DatabaseValue}
use Rattle.txc_db.specs.FrontsAndFeeds.{FrontValue}
use Rattle.txc_node.specs.declared.record.Record.{Record}
use Rattle.txc_stream.specs.Names.{HasRow}
use Rattle.txc_shared.specs.Nodes.{seeing, HasAdvanced, NodeValue}
use Rattle.txc_shared.specs.Refusals.{IsNodeLeft, IsStepRefused}
use Rattle.txc_shared.specs.declared.advanced.Advanced.{Advanced}
use Rattle.txc_shared.specs.declared.advanced.Advanced.TheVariants as advances
use Rattle.txc_shared.specs.declared.error.NodeError.{NodeError}
use Rattle.txc_shared.specs.declared.error.NodeError.TheVariants as errors
use Rattle.txc_caller.specs.Budgets.{node_bytes}
use Rattle.txc_caller.specs.Ports.{GoesOnByEvents, HasNoEventFor, IsOfEvent, MayHaveTaken, StaysBehind}
use Rattle.txc_caller.proofs.Budgets.{event_bytes, left_bytes}
use Rattle.txc_caller.proofs.Asked.{changes_so, node_left, node_same, step_breaks}
use Rattle.txc_tags.proofs.All.{all-append}

-- none was taken
pub none_taken : (old new : NodeValue) → new ≡ old → GoesOnByEvents old new
none_taken old new is = record {
  keeps = node_same old new is;
  bytes = λ none. ap (λ (n : NodeValue). node_bytes n) is;
  more = [];
  records = ap (λ (n : NodeValue). n.records) is ∙ sym (append-nil old.records);
  events = tt;
}

-- some were taken, and then some more
pub taken_then : (old mid new : NodeValue) → GoesOnByEvents old mid → GoesOnByEvents mid new → GoesOnByEvents old new
taken_then old mid new a b = record {
  keeps = record {
    row = b.keeps.row ∙ a.keeps.row;
    same = b.keeps.same ∙ ap (λ (n : NodeValue). record n { records = new.records; cache = new.cache; seen = new.seen; broken = new.broken }) a.keeps.same;
    whole = λ none. b.keeps.whole (λ has. none (subst HasRow (ap (λ (n : NodeValue). n.name) a.keeps.same) has)) ∙ a.keeps.whole none;
  };
  bytes = λ none. b.bytes (λ has. none (subst HasRow (ap (λ (n : NodeValue). n.name) a.keeps.same) has)) ∙ a.bytes none;
  more = a.more ++ b.more;
  records = b.records ∙ (ap (λ (rs : List Record). rs ++ b.more) a.records ∙ append_assoc old.records a.more b.more);
  events = all-append (λ r. IsOfEvent r.op) a.more b.more a.events b.events;
}

-- the next was taken, or there was none
pub advanced_so : (old new : NodeValue) (seen : FrontValue) (advanced : Advanced) → seen.events ≡ old.seen.events → HasAdvanced (seeing old seen) 0 new advanced → GoesOnByEvents old new
advanced_so old new seen (advances.Taken stamp closed) row h = record {
  keeps = record {
    row = ap (λ (n : NodeValue). n.seen.events) h.0 ∙ row;
    same = changes_so old _ new h.0 refl;
    whole = λ none. ap (λ (n : NodeValue). n.broken) h.0;
  };
  bytes = λ none. ap (λ (n : NodeValue). node_bytes n) h.0 ∙ event_bytes old.cache _ _;
  more = _;
  records = ap (λ (n : NodeValue). n.records) h.0;
  events = (tt, tt);
}
advanced_so old new seen advances.Idle row h = record {
  keeps = record {
    row = ap (λ (n : NodeValue). n.seen.events) h.0 ∙ row;
    same = changes_so old _ new h.0 refl;
    whole = λ none. ap (λ (n : NodeValue). n.broken) h.0;
  };
  bytes = λ none. ap (λ (n : NodeValue). node_bytes n) h.0;
  more = [];
  records = ap (λ (n : NodeValue). n.records) h.0 ∙ sym (append-nil old.records);
  events = tt;
}

-- the node refused
pub refused_so : (old new : NodeValue) (e : NodeError) → IsStepRefused old e → IsNodeLeft old new e → GoesOnByEvents old new
refused_so old new e refused left = record {
  keeps = node_left old new e (step_breaks old e refused) left;
  bytes = λ none. left_bytes old new e refused none left;
  more = [];
  records = records_left old new e left ∙ sym (append-nil old.records);
  events = tt;
}
  where
    records_left : (old new : NodeValue) (e : NodeError) → IsNodeLeft old new e → new.records ≡ old.records
    records_left old new errors.Broken (inl same) = ap (λ (n : NodeValue). n.records) same.0
    records_left old new errors.Broken (inr broke) = ap (λ (n : NodeValue). n.records) broke.is
    records_left old new e same = ap (λ (n : NodeValue). n.records) same

-- they were taken, whichever is said
pub said_so : (d : DatabaseValue) (old new : NodeValue) (has_all : Bool) → GoesOnByEvents old new → (has_all ≡ true → HasNoEventFor d new) → (has_all ≡ false → StaysBehind d old new) → MayHaveTaken d old new
said_so d old new true goes all left = (goes, inl (all refl))
said_so d old new false goes all left = (goes, inr (left refl))
