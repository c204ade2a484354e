-- Runs of a node: one step more, and longer histories.
use Rattle.std.proofs.Common.{◌≡◌, ℕ, suc, ◌+◌, ◌-◌, ◌≤◌, ◌==◌, List, [], ◌∷◌, ◌++◌, length, length-append, take, map, Option, Some, None, Bool, true, false, true≢false, cond, nat_lt, refl, sym, ap, subst, ◌∙◌, arith}
use Rattle.std.proofs.lemmas.Bool.Decides.{nat_tests}
use Rattle.std.specs.List.{AllByRecursion}
use Rattle.std.specs.Option.{option_map}
use mathlib.Core.List.{IsPrefix}
use Rattle.txc_tags.specs.declared.tag.Tag.{Tag}
use Rattle.txc_tags.proofs.All.{all-filter, all-take, all_find, all_weaker}
use Rattle.txc_db.specs.History.{History, tags_at}
use Rattle.txc_db.specs.Laws.{TagsStay}
use Rattle.txc_node.specs.declared.entry.Entry.{Entry}
use Rattle.txc_node.specs.declared.op.Op.{Op}
use Rattle.txc_node.specs.declared.op.Op.TheVariants as ops
use Rattle.txc_node.specs.declared.refusal.Refusal.{Refusal}
use Rattle.txc_node.specs.declared.refusal.Refusal.TheVariants as refusals
use Rattle.txc_node.specs.declared.record.Record.{Record}
use Rattle.txc_node.specs.Entries.{is_best, others}
use Rattle.txc_node.specs.Cache.{Cache, empty_cache_at, found, shown_of, after_use, is_kept, entries_with, entry_after, after_event, staying_count}
use Rattle.txc_node.specs.Laws.{FindsTheLongest}
use Rattle.txc_node.specs.declared.value.TheConstants.{MOST_VALUE_LEN}
use Rattle.txc_node.specs.Steps.{refusal_of, step_reply, after_step}
use Rattle.txc_app.specs.Eval.{Next}
use Rattle.txc_app.specs.Claims.{IsTrueIn}
use Rattle.txc_app.specs.Laws.{TrueInLonger}
use Rattle.txc_app.proofs.Offered.{each_none, each_push}
use Rattle.txc_shared.specs.Runs.{IsShownTrue, shown_entry, AreTagsAfter, KeepsTags, IsTrueCache, IsRun}
use Rattle.txc_shared.specs.Histories.{IsNext, next_record}
use Rattle.txc_shared.specs.Laws.{TrueAfterEvent, TrueAfterReplay, NodeBegins, MayStep, NodeGoesOn, NodeBreaks, NodeSeesMore, AnswersAreTrue}
use Rattle.txc_shared.proofs.Entries.{drop_tags, drop_length}
use Rattle.txc_shared.proofs.Histories.{cache_push, legal_in_longer, next_stamp}

-- ---- lists

all_map : {X : Type 0} (P Q : X → Type 0) (f : X → X) (xs : List X) → ((x : X) → P x → Q (f x)) → AllByRecursion P xs → AllByRecursion Q (map f xs)
all_map P Q f [] each h = tt
all_map P Q f (x ∷ xs) each h = (each x h.0, all_map P Q f xs each h.1)

-- ---- longer histories

tags_longer : TagsStay → (L more : History) (s : ℕ) (Ts : List (List Tag)) → s + length Ts ≤ length L → AreTagsAfter L s Ts → AreTagsAfter (L ++ more) s Ts
tags_longer stay L more s [] long h = tt
tags_longer stay L more s (T ∷ Ts) long h = (h.0 ∙ sym (stay L more (suc s) (omega arith)), tags_longer stay L more (suc s) Ts (omega arith) h.1)

shown_longer : TrueInLonger → (next : Next) (L M : History) (p : ℕ) (e : Entry) → IsPrefix L M → IsShownTrue next L p e → IsShownTrue next M p e
shown_longer longer next L M p e begins h = record { some = h.some; true_as_shown = longer next L M (shown_entry p e) begins h.true_as_shown }

true_longer : TrueInLonger → TagsStay → (next : Next) (L M : History) (c : Cache) → IsPrefix L M → IsTrueCache next L c → IsTrueCache next M c
true_longer longer stay next L M c begins h = record {
  entries = all_weaker (IsShownTrue next L c.processed) (IsShownTrue next M c.processed)
      (λ e s. shown_longer longer next L M c.processed e begins s) c.entries h.entries;
  recent = record {
    before = h.recent.before;
    upto = h.recent.upto;
    tags = subst (λ (l : History). AreTagsAfter l h.recent.before c.recent) begins.1
        (tags_longer stay L begins.0 h.recent.before c.recent (let u = h.recent.upto in let w = h.within in omega (arith, u, w)) h.recent.tags);
  };
  within = let w = h.within in let long = length-append L begins.0 in let e = ap (λ (l : History). length l) begins.1 in omega (arith, w, long, e);
}

pub node_sees_more : TrueInLonger → TagsStay → NodeSeesMore
node_sees_more longer stay next L M start rs c broken begins h = record {
  is_true = true_longer longer stay next L M c begins h.is_true;
  run = λ whole. let run = h.run whole in record { is = run.is; legal = legal_in_longer stay L M start rs begins run.legal };
}

-- ---- one step more

push_tags : (L : History) (s : ℕ) (Ts : List (List Tag)) (T : List Tag) → AreTagsAfter L s Ts → T ≡ tags_at L (suc (s + length Ts)) → AreTagsAfter L s (Ts ++ T ∷ [])
push_tags L s [] T h is = (is ∙ ap (λ (k : ℕ). tags_at L (suc k)) (let e : s + 0 ≡ s = omega arith in e), tt)
push_tags L s (U ∷ Ts) T h is =
    (h.0, push_tags L (suc s) Ts T h.1 (is ∙ ap (λ (k : ℕ). tags_at L (suc k)) (let e : s + length (U ∷ Ts) ≡ suc s + length Ts = omega arith in e)))

recent_after : (L : History) (c : Cache) (stamp : ℕ) (tags : List Tag) → stamp ≡ suc c.processed → tags ≡ tags_at L stamp → KeepsTags L c → KeepsTags L (after_event c stamp tags)
recent_after L c stamp tags next right h =
    let u = h.upto in
    let all = c.recent ++ tags ∷ [] in
    let long : length all ≡ length c.recent + 1 = length-append c.recent (tags ∷ []) in
    let n = length all - c.depth in
    let low : n ≤ length all = omega arith in
    let left = drop_length n all low in
    record {
      before = h.before + n;
      upto = omega (arith, u, long, low, left, next);
      tags = drop_tags L n h.before all low (push_tags L h.before c.recent tags h.tags (right ∙ ap (tags_at L) (next ∙ ap suc (sym u))));
    }

with_entries : (next : Next) (L : History) (c : Cache) (es : List Entry) → IsTrueCache next L c → AllByRecursion (IsShownTrue next L c.processed) es → IsTrueCache next L (record c { entries = es })
with_entries next L c es h all =
    record { entries = all; recent = record { before = h.recent.before; upto = h.recent.upto; tags = h.recent.tags }; within = h.within }

used : (next : Next) (L : History) (c : Cache) (f : Option Entry) → ((e : Entry) → f ≡ Some e → IsShownTrue next L c.processed e) → IsTrueCache next L c → IsTrueCache next L (after_use c f)
used next L c None each h = h
used next L c (Some e) each h =
    with_entries next L c (e ∷ others e c.entries) h (each e refl, all-filter (IsShownTrue next L c.processed) _ c.entries h.entries)

inserted : TrueAfterReplay → (next : Next) (L : History) (c : Cache) (e : Entry) → IsTrueIn next L e → e.reach.lo ≤ e.reach.known → IsTrueCache next L c
    → (b : Bool) → IsTrueCache next L (cond b c (record c { entries = take c.capacity (entries_with c e) }))
inserted replay next L c e is some h true = h
inserted replay next L c e is some h false =
    with_entries next L c (take c.capacity (entries_with c e)) h (all-take (IsShownTrue next L c.processed) c.capacity (entries_with c e)
    (replay next L c e is some h.recent h.within, all-filter (IsShownTrue next L c.processed) _ c.entries h.entries))

event_taken : TrueAfterEvent → (next : Next) (L : History) (c : Cache) (stamp : ℕ) (tags : List Tag) → stamp ≡ suc c.processed → stamp ≤ length L → tags ≡ tags_at L stamp
    → IsTrueCache next L c → IsTrueCache next L (after_event c stamp tags)
event_taken event next L c stamp tags is within right h = record {
  entries = all_map (IsShownTrue next L c.processed) (IsShownTrue next L stamp) (entry_after stamp tags) c.entries
      (λ e s. subst (λ (t : List Tag). IsShownTrue next L stamp (entry_after stamp t e)) (sym right)
      (subst (λ (k : ℕ). IsShownTrue next L k (entry_after k (tags_at L k) e)) (sym is) (event next L c.processed e s (omega (arith, is, within))))) h.entries;
  recent = recent_after L c stamp tags is right h.recent;
  within = within;
}

-- an entry that is not refused has some reach
some_reach : (lo known : ℕ) (b : Bool) → nat_lt known lo ≡ b → (o : Option Refusal)
    → cond b (Some refusals.BadReach) o ≡ None → lo ≤ known
some_reach lo known true is o none = absurd (cc none)
some_reach lo known false is o none = at_least lo known is
  where
    at_least : (a b : ℕ) → nat_lt b a ≡ false → a ≤ b
    at_least a b h = grind (arith, nat_tests)

true_after : TrueAfterEvent → TrueAfterReplay → (next : Next) (L : History) (c : Cache) (op : Op)
    → IsTrueCache next L c → MayStep next L c op → IsTrueCache next L (after_step c op)
true_after event replay next L c (ops.Lookup key lo hi) h may =
    used next L c (found c key lo hi) (λ e is. all_find (IsShownTrue next L c.processed) (is_best c.processed key lo hi c.entries) c.entries e h.entries is) h
true_after event replay next L c (ops.Insert e) h may =
    inserted replay next L c e may.is_true (some_reach e.reach.lo e.reach.known (nat_lt e.reach.known e.reach.lo) refl _ may.possible) h (is_kept c e)
true_after event replay next L c (ops.Event stamp tags) h may =
    let is = next_stamp c stamp (stamp == c.processed + 1) refl may.possible in
    event_taken event next L c stamp tags (omega (arith, is)) may.event.0 may.event.1 h
true_after event replay next L c (ops.Sweep horizon) h may =
    with_entries next L c _ h (all-filter (IsShownTrue next L c.processed) _ c.entries h.entries)
true_after event replay next L c (ops.Trim most) h may =
    with_entries next L c _ h (all-take (IsShownTrue next L c.processed) (staying_count most c.entries) c.entries h.entries)

run_goes_on : (next : Next) (L : History) (start : Cache) (rs : List Record) (c : Cache) (pass : ℕ) (op : Op) → IsRun L start rs c → MayStep next L c op
    → IsRun L start (rs ++ next_record pass rs op (step_reply c op) ∷ []) (after_step c op)
run_goes_on next L start rs c pass op h may =
    let r = next_record pass rs op (step_reply c op) in
    let follows : IsNext L start rs r = record {
      possible = subst (λ (k : Cache). refusal_of MOST_VALUE_LEN k op ≡ None) h.is may.possible;
      reply = ap (λ (k : Cache). step_reply k op) h.is;
      event = may.event;
      turn = refl;
    } in
    record {
      is = ap (λ (k : Cache). after_step k op) h.is ∙ sym (cache_push start rs r);
      legal = record { each = each_push (IsNext L start) rs r h.legal.each follows };
    }

pub node_goes_on : TrueAfterEvent → TrueAfterReplay → NodeGoesOn
node_goes_on event replay next L start rs c pass op h may = record {
  is_true = true_after event replay next L c op h.is_true may;
  run = λ whole. run_goes_on next L start rs c pass op (h.run refl) may;
}

pub node_breaks : TrueAfterEvent → TrueAfterReplay → NodeBreaks
node_breaks event replay next L start rs c broken op h may = record {
  is_true = true_after event replay next L c op h.is_true may;
  run = λ whole. absurd (true≢false whole);
}

pub node_begins : NodeBegins
node_begins next L capacity depth from seen = record {
  is_true = record { entries = tt; recent = record { before = from; upto = omega arith; tags = tt }; within = seen };
  run = λ whole. record { is = refl; legal = record { each = each_none (IsNext L (empty_cache_at capacity depth from)) } };
}

-- ---- answers

pub answers_are_true : FindsTheLongest → AnswersAreTrue
answers_are_true longest next L c key lo hi a h is = go (found c key lo hi) refl is
  where
    go : (f : Option Entry) → found c key lo hi ≡ f → option_map (shown_of c.processed) f ≡ Some a
        → IsTrueIn next L (record { key = key; value = a.value; reach = a.reach; tags = a.tags })
    go None there none = absurd (cc none)
    go (Some e) there some =
        let s = all_find (IsShownTrue next L c.processed) (is_best c.processed key lo hi c.entries) c.entries e h.entries there in
        let shows : shown_of c.processed e ≡ a = cc some in
        let key_is : e.key ≡ key = (longest c key lo hi e there).meets.of_key in
        let same : shown_entry c.processed e ≡ (let x : Entry = record { key = key; value = a.value; reach = a.reach; tags = a.tags } in x) =
        λ i. record { key = key_is i; value = (shows i).value; reach = (shows i).reach; tags = (shows i).tags } in
        subst (IsTrueIn next L) same s.true_as_shown
