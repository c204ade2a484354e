-- What calls under the lock leave of the node, and what they show a pass.
use Rattle.std.proofs.Common.{◌≡◌, ℕ, ◌+◌, ◌<◌, ◌≤◌, List, [], ◌∷◌, ◌++◌, length, false, Option, Some, None, sym, ap, subst, ◌∙◌, arith}
use Rattle.std.specs.Prelude.{IfSome}
use mathlib.Core.List.{IsPrefix}
use Rattle.txc_stream.proofs.Offered.{prefix_trans, prefix_push, longer_is}
use Rattle.txc_stream.specs.Names.{Name}
use Rattle.txc_tags.specs.declared.tag.Tag.{Tag}
use Rattle.txc_db.specs.History.{History, tags_at}
use Rattle.txc_db.specs.FrontsAndFeeds.{FrontValue, taken_at_start}
use Rattle.txc_node.specs.declared.hit.HitValue.{HitValue}
use Rattle.txc_node.specs.declared.op.Op.{Op}
use Rattle.txc_node.specs.declared.op.Op.TheVariants as ops
use Rattle.txc_node.specs.declared.reply.Reply.{Reply}
use Rattle.txc_node.specs.declared.reply.Reply.TheVariants as replies
use Rattle.txc_node.specs.declared.record.Record.{Record}
use Rattle.txc_node.specs.Cache.{Cache}
use Rattle.txc_node.specs.Steps.{step_reply}
use Rattle.txc_app.specs.Eval.{Next}
use Rattle.txc_shared.specs.declared.advanced.Advanced.{Advanced}
use Rattle.txc_shared.specs.declared.advanced.Advanced.TheVariants.{Taken, Idle}
use Rattle.txc_shared.specs.declared.settings.NodeSettings.{NodeSettings}
use Rattle.txc_shared.specs.Runs.{IsNode}
use Rattle.txc_shared.specs.Laws.{EventsAreTaken}
use Rattle.txc_shared.specs.Histories.{cache_after, records_of, events_of, next_record, IsLegal}
use Rattle.txc_shared.specs.Nodes.{NodeValue, IsHistoryFull, start_of, after_call, seeing, next_event, HasTags, HasAdvanced}
use Rattle.txc_shared.specs.Passes.{PassValue, IsLegalOver, HasSeen, GrowsByOthers, HasMade, HasTaken}
use Rattle.txc_shared.specs.LockedNode.{IsAhead, IsAdmitted}
use Rattle.txc_shared.proofs.Histories.{records_of-append}
use Rattle.txc_shared.proofs.Passes.{legal_as, legal_over, none_left}

-- ---- a step of an admitted pass

-- where all has as many records of the pass as its beginning has, so has what stands between
pub turn_between : (pass : ℕ) (own mid all : List Record) → IsPrefix own mid → IsPrefix mid all → records_of pass all ≡ records_of pass own → records_of pass all ≡ records_of pass mid
turn_between pass own mid all p q same =
    let a = records_of-append pass own p.0 in let b = records_of-append pass mid q.0 in
    let e = ap (records_of pass) p.1 in let f = ap (records_of pass) q.1 in omega (arith, a, b, e, f, same)

-- the node goes on ahead of the pass
pub ahead_after : (n m : NodeValue) (p : PassValue) (seen : FrontValue) (op : Op) → IsAdmitted n p → m ≡ after_call (seeing n seen) p.pass op → IsAhead m p
ahead_after n m p seen op h is = subst (λ (k : NodeValue). IsAhead k p) (sym is) (record {
  whole = h.ahead.whole;
  settings = h.ahead.settings;
  own = h.ahead.own;
  records = prefix_trans p.records n.records _ h.ahead.records (prefix_push n.records (next_record p.pass n.records op (step_reply n.cache op)));
})

-- what others did since
pub others_did : (own : ℕ) (old all : List Record) → IsPrefix old all → records_of own all ≡ records_of own old → GrowsByOthers own old all
others_did own old all begins same = record {
  others = begins.0;
  is = sym begins.1;
  none = let e = records_of-append own old begins.0 in let f = ap (records_of own) begins.1 in omega (arith, e, f, same);
}

-- and then a step of its own
pub then_own : (n m : NodeValue) (p q : PassValue) (seen : FrontValue) (op : Op) (reply : Reply HitValue) → IsAdmitted n p
    → m ≡ after_call (seeing n seen) p.pass op → q.records ≡ m.records → reply ≡ step_reply n.cache op → HasMade p q op reply
then_own n m p q seen op reply h is shows reply_is =
    let o = others_did p.pass p.records n.records h.ahead.records h.turn in
    let last : next_record p.pass n.records op (step_reply n.cache op) ≡ next_record p.pass p.records op reply =
    λ i. record { pass = p.pass; turn = h.turn i; op = op; reply = (sym reply_is) i } in
    record {
      others = o.others;
      is = shows ∙ (ap (λ (k : NodeValue). k.records) is ∙ (λ i. o.is i ++ last i ∷ []));
      none = o.none;
    }

-- the same where the node sees more in between
pub ahead_seeing : (n m k : NodeValue) (p : PassValue) (seen more : FrontValue) (op : Op) → IsAdmitted n p → m ≡ after_call (seeing n seen) p.pass op
    → k ≡ seeing m more → IsAhead k p
ahead_seeing n m k p seen more op h is sees =
    let a = ahead_after n m p seen op h is in
    subst (λ (j : NodeValue). IsAhead j p) (sym sees) (record { whole = a.whole; settings = a.settings; own = a.own; records = a.records })

-- what a whole node shows is a legal history
pub shown_legal : EventsAreTaken → (row : Name) (next : Next) (n : NodeValue) (p : PassValue) → n.from ≡ taken_at_start row n.from
    → IsNode next n.seen.history (start_of n.settings n.from) n.records n.cache n.broken → IsAhead n p → IsLegalOver row n.seen.history p.settings n.records
shown_legal events row next n p begun node ahead =
    let run = node.run ahead.whole in
    let start = start_of n.settings n.from in
    let count : (cache_after start n.records).processed ≡ n.from + events_of n.records = events n.seen.history start n.records run.legal in
    let made : n.cache.processed ≡ (cache_after start n.records).processed = ap (λ (c : Cache). c.processed) run.is in
    let within = node.is_true.within in
    let low : n.from ≤ length n.seen.history = omega (arith, count, made, within) in
    subst (λ (s : NodeSettings). IsLegalOver row n.seen.history s n.records) (sym ahead.settings)
    (legal_over row n.seen.history n.settings n.records n.from begun low run.legal)

-- what an advance did
pub has_taken : EventsAreTaken → (row : Name) (next : Next) (n m : NodeValue) (p q : PassValue) (advanced : Advanced) → n.from ≡ taken_at_start row n.from
    → IsAdmitted n p → HasAdvanced (seeing n m.seen) p.pass m advanced
    → IsNode next m.seen.history (start_of m.settings m.from) m.records m.cache m.broken
    → IsPrefix p.history m.seen.history → HasSeen p m.records m.seen.history q → HasTaken row p q advanced
has_taken events row next n m p q (Taken stamp closed) begun h a node begins s =
    let tags = tags_at m.seen.history stamp in
    let op_is : ◌≡◌ {A = Op} (next_event (seeing n m.seen)) (ops.Event stamp tags) = λ i. ops.Event (sym a.1 i) (tags_at m.seen.history (sym a.1 i)) in (
      tags,
      then_own n m p q m.seen (ops.Event stamp tags) (replies.Closed closed) h
          (a.0 ∙ ap (after_call (seeing n m.seen) p.pass) op_is) s.records (ap replies.Closed a.3),
    )
has_taken events row next n m p q Idle begun h a node begins s =
    let whole : m.broken ≡ false = ap (λ (k : NodeValue). k.broken) a.0 ∙ h.ahead.whole in
    let run = node.run whole in
    let start = start_of m.settings m.from in
    let count : (cache_after start m.records).processed ≡ m.from + events_of m.records = events m.seen.history start m.records run.legal in
    let taken : m.cache.processed ≡ length m.seen.history = ap (λ (k : NodeValue). k.cache.processed) a.0 ∙ a.1 in
    let made : m.cache.processed ≡ (cache_after start m.records).processed = ap (λ (c : Cache). c.processed) run.is in
    let seen : q.history ≡ m.seen.history = longer_is p.history m.seen.history q.history begins s.either s.history in
    let shown : events_of q.records ≡ events_of m.records = ap events_of s.records in
    let long : length q.history ≡ length m.seen.history = ap length seen in
    let records : m.records ≡ n.records = ap (λ (k : NodeValue). k.records) a.0 in
    let from : m.from ≡ n.from = ap (λ (k : NodeValue). k.from) a.0 in
    let settings : q.settings ≡ m.settings = ap (λ (x : PassValue). x.settings) s.grown.is ∙ (h.ahead.settings ∙ sym (ap (λ (k : NodeValue). k.settings) a.0)) in
    let legal : IsLegal q.history (start_of q.settings m.from) q.records =
    legal_as q.history m.seen.history (start_of q.settings m.from) start q.records m.records seen (ap (λ (x : NodeSettings). start_of x m.from) settings) s.records run.legal in (
      subst (GrowsByOthers p.pass p.records) (sym (s.records ∙ records)) (others_did p.pass p.records n.records h.ahead.records h.turn),
      none_left row q m.from (from ∙ (begun ∙ ap (taken_at_start row) (sym from))) (omega (arith, count, taken, made, shown, long)) legal,
    )

-- ---- refusals

-- a full history is shown whole
pub full_shown : (histories : ℕ → Name) (n : NodeValue) (p q : PassValue) → IsAdmitted n p → IsHistoryFull n.name n.records
    → n.name ≡ histories n.settings.number → q.records ≡ n.records → GrowsByOthers p.pass p.records q.records × IsHistoryFull (histories p.settings.number) q.records
full_shown histories n p q h full named shows = (
  subst (GrowsByOthers p.pass p.records) (sym shows) (others_did p.pass p.records n.records h.ahead.records h.turn),
  subst (IsHistoryFull (histories p.settings.number)) (sym shows) (subst (λ (name : Name). IsHistoryFull name n.records) (named ∙ ap (λ (s : NodeSettings). histories s.number) (sym h.ahead.settings)) full),
)

-- ---- tags that were posted

-- what a feed tells of the next event are the tags of the event that the node takes next
pub posted_so : {X : Type 0} (tags_in : X → List Tag) (o : Option X) (L M : History) (taken number : ℕ) → M ≡ L → number ≡ taken + 1
    → IfSome o (λ x. (taken < length L) × (tags_in x ≡ tags_at L (taken + 1))) → IfSome o (λ x. HasTags M number (tags_in x))
posted_so tags_in None L M taken number same next told = tt
posted_so tags_in (Some x) L M taken number same next told =
    let low : taken < length L = told.0 in
    subst (λ (l : History). HasTags l number (tags_in x)) (sym same) (subst (λ (n : ℕ). HasTags L n (tags_in x)) (sym next) (omega (arith, low), told.1))
