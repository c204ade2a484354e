-- What a step leaves of a node.
use Rattle.std.proofs.Common.{◌≡◌, ℕ, ◌+◌, ◌≤◌, List, [], ◌∷◌, ◌++◌, length, length-append, Bool, true, false, Option, None, Some, refl, sym, ap, subst, ◌∙◌, arith}
use Rattle.std.proofs.lemmas.Bool.Decides.{nat_tests}
use Rattle.std.specs.Option.{option_map}
use Rattle.std.specs.Prelude.{IfSome}
use mathlib.Core.List.{IsPrefix}
use Rattle.txc_tags.specs.declared.tag.Tag.{Tag}
use Rattle.txc_tags.specs.Keys.{Call}
use Rattle.txc_db.specs.History.{History, tags_at}
use Rattle.txc_db.specs.Laws.{TagsStay}
use Rattle.txc_db.specs.FrontsAndFeeds.{FrontValue}
use Rattle.txc_db.specs.declared.answered.Answered.{Answered}
use Rattle.txc_node.specs.declared.value.TheConstants.{MOST_VALUE_LEN}
use Rattle.txc_node.specs.declared.entry.Entry.{Entry}
use Rattle.txc_node.specs.declared.hit.HitValue.{HitValue}
use Rattle.txc_node.specs.declared.op.Op.{Op}
use Rattle.txc_node.specs.declared.op.Op.TheVariants.{Insert, Lookup, Event, Sweep, Trim}
use Rattle.txc_node.specs.declared.record.Record.{Record}
use Rattle.txc_node.specs.Cache.{Cache, lookup_answer}
use Rattle.txc_node.specs.Steps.{refusal_of, step_reply, after_step}
use Rattle.txc_node.proofs.Offered.{entry_is_made}
use Rattle.txc_app.specs.Eval.{Next}
use Rattle.txc_app.specs.Claims.{IsTrueIn, entry_shown}
use Rattle.txc_shared.specs.Histories.{next_record}
use Rattle.txc_shared.specs.Runs.{IsNode, IsTrueCache}
use Rattle.txc_shared.specs.Nodes.{LogValue, NodeValue, after_call, seeing, HasTags}
use Rattle.txc_shared.specs.Laws.{AnswersAreTrue, MayStep, NodeGoesOn, NodeBreaks}

module _ (next : Next) (L : History) (start : Cache) where
  node_as : (rs all : List Record) (c d : Cache) (b e : Bool) → all ≡ rs → d ≡ c → e ≡ b → IsNode next L start rs c b → IsNode next L start all d e
  node_as rs all c d b e rs_is c_is b_is h =
      subst (λ (l : List Record). IsNode next L start l d e) (sym rs_is)
      (subst (λ (k : Cache). IsNode next L start rs k e) (sym c_is) (subst (IsNode next L start rs c) (sym b_is) h))

  -- a whole node that made a step, and has the record of it
  pub stepped : NodeGoesOn → (rs all : List Record) (c d : Cache) (b : Bool) (pass : ℕ) (op : Op) (r : Record)
      → IsNode next L start rs c b → b ≡ false → MayStep next L c op
      → r ≡ next_record pass rs op (step_reply c op) → all ≡ rs ++ r ∷ [] → d ≡ after_step c op → IsNode next L start all d b
  stepped on rs all c d b pass op r h whole may r_is all_is d_is =
      node_as (rs ++ next_record pass rs op (step_reply c op) ∷ []) all (after_step c op) d false b
      (all_is ∙ ap (λ (x : Record). rs ++ x ∷ []) r_is) d_is whole (on next L start rs c pass op (subst (IsNode next L start rs c) whole h) may)

  -- a node that made a step, and has no record of it
  pub broke : NodeBreaks → (rs all : List Record) (c d : Cache) (b : Bool) (op : Op)
      → IsNode next L start rs c b → MayStep next L c op → all ≡ rs → d ≡ after_step c op → IsNode next L start all d true
  broke breaks rs all c d b op h may all_is d_is = node_as rs all (after_step c op) d true true all_is d_is refl (breaks next L start rs c b op h may)

-- ---- steps that may be made

module _ (next : Next) (L : History) where
  pub may_look_up : (c : Cache) (key : Call) (lo hi : ℕ) → lo ≤ hi → MayStep next L c (Lookup key lo hi)
  may_look_up c key lo hi some =
      let none : refusal_of MOST_VALUE_LEN c (Lookup key lo hi) ≡ None = grind (arith, nat_tests) in
      record { possible = none; event = tt; is_true = tt }

  pub may_insert : (c : Cache) (e : Entry) → e.reach.lo ≤ e.reach.known → length e.value ≤ MOST_VALUE_LEN → IsTrueIn next L e → MayStep next L c (Insert e)
  may_insert c e some short right = record { possible = entry_is_made MOST_VALUE_LEN e some short; event = tt; is_true = right }

  pub may_take : (c : Cache) (stamp : ℕ) (tags : List Tag) → stamp ≡ c.processed + 1 → stamp ≤ length L → tags ≡ tags_at L stamp → MayStep next L c (Event stamp tags)
  may_take c stamp tags is within right =
      let none : refusal_of MOST_VALUE_LEN c (Event stamp tags) ≡ None = grind (arith, nat_tests) in
      record { possible = none; event = (within, right); is_true = tt }

  pub may_sweep : (c : Cache) (horizon : ℕ) → MayStep next L c (Sweep horizon)
  may_sweep c horizon = record { possible = refl; event = tt; is_true = tt }

  pub may_trim : (c : Cache) (most : ℕ) → MayStep next L c (Trim most)
  may_trim c most = record { possible = refl; event = tt; is_true = tt }

-- an event has the same tags in a longer history
pub tags_in_longer : TagsStay → (L M : History) (number : ℕ) (tags : List Tag) → IsPrefix L M → HasTags L number tags → HasTags M number tags
tags_in_longer stay L M number tags begins h =
    subst (λ (l : History). HasTags l number tags) begins.1 (within, h.1 ∙ sym (stay L begins.0 number h.0))
  where
    within : number ≤ length (L ++ begins.0)
    within = let long = length-append L begins.0 in let h = h.0 in omega (arith, long, h)

-- what a lookup found in a true cache is true in the front beside it
pub found_true : AnswersAreTrue → (next : Next) (c : Cache) (key : Call) (lo hi : ℕ) (seen : FrontValue) (found : Option (Answered HitValue))
    → IsTrueCache next seen.history c → option_map (λ f. f.answer) found ≡ lookup_answer c key lo hi → IfSome found (λ f. f.front ≡ seen)
    → IfSome found (λ f. IsTrueIn next f.front.history (entry_shown key f.answer))
found_true are_true next c key lo hi seen None right is front = tt
found_true are_true next c key lo hi seen (Some f) right is front =
    subst (λ (s : FrontValue). IsTrueIn next s.history (entry_shown key f.answer)) (sym front) (are_true next seen.history c key lo hi f.answer right (sym is))

-- the value of a node that made a step, by its fields
pub called : (n : NodeValue) (seen : FrontValue) (pass : ℕ) (op : Op) (r : Record) (log : LogValue) (cache : Cache)
    → r ≡ next_record pass n.records op (step_reply n.cache op)
    → log ≡ record { name = n.name; records = n.records ++ r ∷ []; passes = n.passes } → cache ≡ after_step n.cache op
    → record { settings = n.settings; from = n.from; name = log.name; records = log.records; passes = log.passes; cache = cache; seen = seen; broken = n.broken }
    ≡ after_call (seeing n seen) pass op
called n seen pass op r log cache r_is log_is cache_is =
    let records : log.records ≡ n.records ++ next_record pass n.records op (step_reply n.cache op) ∷ [] =
    ap (λ (l : LogValue). l.records) log_is ∙ ap (λ (x : Record). n.records ++ x ∷ []) r_is in
    λ i. record {
      settings = n.settings;
      from = n.from;
      name = (log_is i).name;
      records = records i;
      passes = (log_is i).passes;
      cache = cache_is i;
      seen = seen;
      broken = n.broken;
    }
