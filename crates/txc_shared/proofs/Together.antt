-- Events that a node takes one after the other.
use Rattle.std.proofs.Common.{◌≡◌, ◌⊎◌, inl, inr, ◌∙◌, ℕ, ◌+◌, List, [], ◌∷◌, ◌++◌, append-nil, refl, ap, sym, subst, arith}
use Rattle.std.proofs.lemmas.List.{append_assoc, length_push}
use Rattle.txc_stream.proofs.Offered.{prefix_self, prefix_trans}
use Rattle.txc_stream.specs.Names.{Name}
use Rattle.txc_db.specs.FrontsAndFeeds.{FrontValue}
use Rattle.txc_node.specs.declared.record.Record.{Record}
use Rattle.txc_node.specs.declared.op.Op.TheVariants as ops
use Rattle.txc_node.specs.declared.reply.Reply.TheVariants as replies
use Rattle.txc_node.specs.Steps.{step_reply}
use Rattle.txc_shared.specs.declared.advanced.Advanced.TheVariants.{Taken}
use Rattle.txc_shared.specs.declared.error.NodeError.{NodeError}
use Rattle.txc_shared.specs.declared.error.NodeError.TheVariants.{HistoryFull}
use Rattle.txc_shared.specs.Histories.{records_of, next_record}
use Rattle.txc_shared.specs.Nodes.{NodeValue, seeing, next_event, HasAdvanced}
use Rattle.txc_shared.specs.Passes.{PassValue, HasGrown, GrowsByOthers, HasTaken, HasTakenEach, IsPassLeft}
use Rattle.txc_shared.specs.EventBatch.{EndTogether, StandTogether}
use Rattle.txc_shared.proofs.Histories.{records_of-append}
use Rattle.txc_shared.proofs.Turns.{one_record}

-- a pass that has not changed has grown by nothing
pub grown_self : (p : PassValue) → HasGrown p p
grown_self p = record { is = refl; records = prefix_self p.records; history = prefix_self p.history }

-- a pass that has grown, and then once more
pub grown_then : (old mid new : PassValue) → HasGrown old mid → HasGrown mid new → HasGrown old new
grown_then old mid new a b = record {
  is = b.is ∙ (λ i. record {
    settings = (ap (λ (p : PassValue). p.settings) a.is) i;
    pass = (ap (λ (p : PassValue). p.pass) a.is) i;
    own = new.own;
    records = new.records;
    history = new.history;
  });
  records = prefix_trans old.records mid.records new.records a.records b.records;
  history = prefix_trans old.history mid.history new.history a.history b.history;
}

-- one event more was taken
pub one_taken_more : (row : Name) (old last new : PassValue) (stamps : List ℕ) (stamp closed : ℕ) → HasTakenEach row old stamps last
    → HasGrown last new → HasTaken row last new (Taken stamp closed) → HasTakenEach row old (stamp ∷ stamps) new
one_taken_more row old last new stamps stamp closed before grown taken = (last, closed, before, grown, taken)

-- and those that were taken after them
pub taken_then : (row : Name) (old mid new : PassValue) (stamps more : List ℕ) → HasTakenEach row old stamps mid
    → HasTakenEach row mid more new → HasTakenEach row old (more ++ stamps) new
taken_then row old mid new stamps [] before same = subst (HasTakenEach row old stamps) (sym same) before
taken_then row old mid new stamps (stamp ∷ more) before after =
    (after.0, after.1, taken_then row old mid after.0 stamps more before after.2, after.3, after.4)

-- ---- records that stand together

pub grows_by_none : (pass : ℕ) (rs : List Record) → GrowsByOthers pass rs rs
grows_by_none pass rs = record { others = []; is = sym (append-nil rs); none = refl }

-- nothing was taken yet; or what the pass has seen is what the node has, and ends with its own
abbrev pub EndsWithOwn : PassValue → PassValue → NodeValue → ℕ → Type 0
EndsWithOwn old p n taken = ((taken ≡ 0) × (p ≡ old)) ⊎ ((p.records ≡ n.records) × EndTogether old.pass taken old.records p.records)

pub end_with_own : (old p : PassValue) (n : NodeValue) (taken : ℕ) → EndsWithOwn old p n taken → EndTogether old.pass taken old.records p.records
end_with_own old p n taken (inl none) = record {
  others = [];
  own = [];
  is = ap (λ (q : PassValue). q.records) none.1 ∙ (sym (append-nil old.records) ∙ sym (append-nil (old.records ++ [])));
  none = refl;
  all = refl;
  counted = sym none.0;
}
end_with_own old p n taken (inr ends) = ends.1

-- one more of its own
end_more : (pass taken : ℕ) (old rs new : List Record) (r : Record) → EndTogether pass taken old rs → new ≡ rs ++ r ∷ [] → r.pass ≡ pass
    → EndTogether pass (taken + 1) old new
end_more pass taken old rs new r before is by = record {
  others = before.others;
  own = before.own ++ r ∷ [];
  is = is ∙ (ap (λ (l : List Record). l ++ r ∷ []) before.is ∙ append_assoc (old ++ before.others) before.own (r ∷ []));
  none = before.none;
  all =
      let own = records_of-append pass before.own (r ∷ []) in let one = one_record r pass by in
      let long = length_push before.own r in let all = before.all in omega (arith, own, one, long, all);
  counted = let long = length_push before.own r in let counted = before.counted in omega (arith, long, counted);
}

-- a pass that goes on as the node does
pub more_of_its_own : (row : Name) (old p q : PassValue) (n m : NodeValue) (seen : FrontValue) (taken stamp closed : ℕ) → HasGrown old p
    → EndsWithOwn old p n taken → HasTaken row p q (Taken stamp closed) → HasAdvanced (seeing n seen) p.pass m (Taken stamp closed)
    → q.records ≡ m.records → EndsWithOwn old q m (taken + 1)
more_of_its_own row old p q n m seen taken stamp closed grown (inl none) made goes shows =
    let same : p.pass ≡ old.pass = ap (λ (x : PassValue). x.pass) grown.is in
    let one = made.1 in
    let r = next_record p.pass p.records (ops.Event stamp made.0) (replies.Closed closed) in
    let start = ap (λ (x : PassValue). x.records) none.1 in
    inr (
      shows,
      record {
        others = one.others;
        own = r ∷ [];
        is = one.is ∙ ap (λ (l : List Record). l ++ one.others ++ r ∷ []) start;
        none = subst (λ (k : ℕ). records_of k one.others ≡ 0) same one.none;
        all = one_record r old.pass same;
        counted = let zero = none.0 in omega (arith, zero);
      },
    )
more_of_its_own row old p q n m seen taken stamp closed grown (inr ends) made goes shows =
    let same : p.pass ≡ old.pass = ap (λ (x : PassValue). x.pass) grown.is in
    let added = ap (λ (k : NodeValue). k.records) goes.0 in
    inr (
      shows,
      end_more old.pass taken old.records p.records q.records
          (next_record p.pass n.records (next_event (seeing n seen)) (step_reply n.cache (next_event (seeing n seen)))) ends.1
          (shows ∙ (added ∙ ap (λ (l : List Record). l ++ next_record p.pass n.records (next_event (seeing n seen)) (step_reply n.cache (next_event (seeing n seen))) ∷ []) (sym ends.0))) same,
    )

-- a refusal shows records of others at most
pub left_by_others : (name : Name) (old new : PassValue) (e : NodeError) → IsPassLeft name old new e → GrowsByOthers old.pass old.records new.records
left_by_others name old new HistoryFull left = left.0
left_by_others name old new e left = subst (λ (p : PassValue). GrowsByOthers old.pass old.records p.records) (sym left) (grows_by_none old.pass old.records)

-- what was taken stands together, whatever others did after it
pub stand_together : (old p q : PassValue) (n : NodeValue) (taken : ℕ) → HasGrown old p → EndsWithOwn old p n taken
    → GrowsByOthers p.pass p.records q.records → StandTogether old.pass taken old.records q.records
stand_together old p q n taken grown ends after = record {
  between = p.records;
  own = end_with_own old p n taken ends;
  after = subst (λ (k : ℕ). GrowsByOthers k p.records q.records) (ap (λ (x : PassValue). x.pass) grown.is) after;
}
