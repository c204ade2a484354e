-- Histories of a node.
use Rattle.std.proofs.Common.{◌≡◌, ℕ, suc, ◌+◌, ◌==◌, List, [], ◌∷◌, ◌++◌, length-append, take, Option, Some, None, slice_get, Bool, true, false, cond, refl, sym, subst, ◌∙◌, arith}
use Rattle.std.proofs.lemmas.List.Sums.{sum_by-append}
use borrow.Author.Tests.{eqb-true}
use Rattle.txc_db.specs.History.{History}
use Rattle.txc_db.specs.Laws.{TagsStay}
use Rattle.txc_node.specs.declared.entry.Entry.{Entry}
use Rattle.txc_node.specs.declared.refusal.Refusal.{Refusal}
use Rattle.txc_node.specs.declared.refusal.Refusal.TheVariants as refusals
use Rattle.txc_node.specs.declared.op.Op.{Op}
use Rattle.txc_node.specs.declared.op.Op.TheVariants as ops
use Rattle.txc_node.specs.declared.record.Record.{Record}
use Rattle.txc_node.specs.Cache.{Cache, found, after_use, is_kept, entries_with}
use Rattle.txc_node.specs.declared.value.TheConstants.{MOST_VALUE_LEN}
use Rattle.txc_node.specs.Steps.{refusal_of, after_step}
use Rattle.txc_app.proofs.Offered.{each_beginning}
use Rattle.txc_shared.specs.Histories.{cache_after, IsOfHistory, records_of, IsNext, IsLegal, is_event, events_of}
use Rattle.txc_shared.specs.Laws.{LegalInLonger, BeginningIsLegal, EventsAreTaken}

-- ---- records

pub cache_push : (c : Cache) (rs : List Record) (r : Record) → cache_after c (rs ++ r ∷ []) ≡ after_step (cache_after c rs) r.op
cache_push c [] r = refl
cache_push c (x ∷ rs) r = cache_push (after_step c x.op) rs r

pub records_of-append : (p : ℕ) (xs ys : List Record) → records_of p (xs ++ ys) ≡ records_of p xs + records_of p ys
records_of-append p xs ys = sum_by-append (λ (r : Record). cond (r.pass == p) 1 0) xs ys

pub events_of-append : (xs ys : List Record) → events_of (xs ++ ys) ≡ events_of xs + events_of ys
events_of-append xs ys = sum_by-append (λ (r : Record). cond (is_event r.op) 1 0) xs ys

-- ---- longer histories

of_longer : TagsStay → (L more : History) (op : Op) → IsOfHistory L op → IsOfHistory (L ++ more) op
of_longer stay L more (ops.Event stamp tags) h =
    (let w = h.0 in let long = length-append L more in omega (arith, w, long), h.1 ∙ sym (stay L more stamp h.0))
of_longer stay L more (ops.Lookup key lo hi) h = h
of_longer stay L more (ops.Insert e) h = h
of_longer stay L more (ops.Sweep horizon) h = h
of_longer stay L more (ops.Trim most) h = h

legal_with_more : TagsStay → (L more : History) (start : Cache) (rs : List Record) → IsLegal L start rs → IsLegal (L ++ more) start rs
legal_with_more stay L more start rs h = record {
  each = λ i r is.
      let next = h.each i r is in
      record { possible = next.possible; reply = next.reply; event = of_longer stay L more r.op next.event; turn = next.turn };
}

pub legal_in_longer : TagsStay → LegalInLonger
legal_in_longer stay L M start rs begins h = subst (λ (l : History). IsLegal l start rs) begins.1 (legal_with_more stay L begins.0 start rs h)

pub beginning_is_legal : BeginningIsLegal
beginning_is_legal L start rs all begins h = record { each = each_beginning (IsNext L start) rs all begins h.each }

-- ---- events

pub used_processed : (c : Cache) (f : Option Entry) → (after_use c f).processed ≡ c.processed
used_processed c None = refl
used_processed c (Some e) = refl

pub kept_processed : (c : Cache) (e : Entry) (b : Bool) → (let d : Cache = cond b c (record c { entries = take c.capacity (entries_with c e) }) in d.processed) ≡ c.processed
kept_processed c e true = refl
kept_processed c e false = refl

plus_none : (n : ℕ) → n ≡ n + 0
plus_none n = omega arith

-- an event that is not refused is the next one
pub next_stamp : (c : Cache) (stamp : ℕ) (b : Bool) → stamp == c.processed + 1 ≡ b
    → ◌≡◌ {A = Option Refusal} (cond b None (Some (refusals.OutOfOrder c.processed))) None → stamp ≡ c.processed + 1
next_stamp c stamp true is none = eqb-true stamp (c.processed + 1) is
next_stamp c stamp false is none = absurd (cc none)

pub step_processed : (c : Cache) (op : Op) → refusal_of MOST_VALUE_LEN c op ≡ None → (after_step c op).processed ≡ c.processed + cond (is_event op) 1 0
step_processed c (ops.Lookup key lo hi) can = used_processed c (found c key lo hi) ∙ plus_none c.processed
step_processed c (ops.Insert e) can = kept_processed c e (is_kept c e) ∙ plus_none c.processed
step_processed c (ops.Event stamp tags) can = next_stamp c stamp (stamp == c.processed + 1) refl can
step_processed c (ops.Sweep horizon) can = plus_none c.processed
step_processed c (ops.Trim most) can = plus_none c.processed

events_from : (c : Cache) (rs : List Record)
    → ((i : ℕ) (r : Record) → slice_get rs i ≡ Some r → refusal_of MOST_VALUE_LEN (cache_after c (take i rs)) r.op ≡ None)
    → (cache_after c rs).processed ≡ c.processed + events_of rs
events_from c [] h = plus_none c.processed
events_from c (r ∷ rs) h =
    let rest = events_from (after_step c r.op) rs (λ i x is. h (suc i) x is) in
    let one = step_processed c r.op (h 0 r refl) in
    let all : events_of (r ∷ rs) ≡ 0 + cond (is_event r.op) 1 0 + events_of rs = events_of-append (r ∷ []) rs in
    rest ∙ omega (arith, one, all)

pub events_are_taken : EventsAreTaken
events_are_taken L start rs h = events_from start rs (λ i r is. (h.each i r is).possible)
