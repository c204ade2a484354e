-- A client's own records in the history of a node.
use Rattle.txc_stream.specs.Names.{Name}
use Rattle.std.proofs.Common.{◌≡◌, ◌≢◌, ℕ, zero, suc, Bool, true, false, List, [], ◌∷◌, ◌++◌, set, slice_get, Some, None, cond, refl, sym, ap, subst, ◌∙◌, append-nil, append_assoc, inl, inr}
use Rattle.std.specs.List.{filter}
use Rattle.std.specs.Prelude.{◌==◌}
use Rattle.std.proofs.lemmas.Bool.{eq-eqb, eqb-true, eqb-false}
use Rattle.std.proofs.lemmas.List.{nil_from_length}
use Rattle.std.proofs.lemmas.List.Elements.{filter-append}
use Rattle.std.proofs.lemmas.List.Sums.{length-filter}
use Rattle.txc_tags.specs.Keys.{Call}
use Rattle.txc_db.specs.declared.answered.Answered.{Answered}
use Rattle.txc_node.specs.declared.op.Op.{Op}
use Rattle.txc_node.specs.declared.op.Op.TheVariants as ops
use Rattle.txc_node.specs.declared.hit.HitValue.{HitValue}
use Rattle.txc_node.specs.declared.record.Record.{Record}
use Rattle.txc_node.specs.declared.entry.Entry.{Entry}
use Rattle.txc_node.specs.declared.reply.Reply.{Reply}
use Rattle.txc_node.specs.declared.reply.Reply.TheVariants as replies
use Rattle.txc_app.specs.Eval.{Next}
use Rattle.txc_shared.specs.declared.error.NodeError.{NodeError}
use Rattle.txc_shared.specs.declared.error.NodeError.TheVariants.{HistoryFull}
use Rattle.txc_shared.specs.Histories.{records_of, next_record}
use Rattle.txc_shared.specs.Passes.{PassValue, HasNextRecord, GrowsByOthers, HasGrown, HasMade, IsPassLeft}
use Rattle.txc_txn_ports.specs.declared.turn.Turn.TheVariants.{Ended}
use Rattle.txc_txn_ports.specs.declared.kept.Kept.{Kept}
use Rattle.txc_txn_ports.specs.Turns.{PortTurn}
use Rattle.txc_txn_ports.specs.Exchanges.{Exchange}
use Rattle.txc_txn_ports.specs.Exchanges as exchanges
use Rattle.txc_txn_client.specs.Laws.{asks, own_records, IsOne, AreOne, Leaves, AreLeftBy, HasAdded, EachCallIsRecordedOnce}
use Rattle.txc_txn_client.specs.Ports.{InsertLeaves, IsCallAt, LookupLeaves, PassesAfter, reply_to_lookup}
use Rattle.txc_txn_client.specs.Run.{ExchangesTransition}
use Rattle.txc_txn_client.specs.RoTxn.{RoTxnValue}

-- ---- the records of a pass among others

abbrev made_by : ℕ → List Record → List Record
made_by pass rs = filter (λ (r : Record). r.pass == pass) rs

module _ (pass : ℕ) where
  by_others : (others : List Record) → records_of pass others ≡ 0 → made_by pass others ≡ []
  by_others others none =
      nil_from_length (made_by pass others) (length-filter (λ (r : Record). r.pass == pass) others ∙ none)

  by_itself : (old : List Record) (op : Op) (reply : Reply HitValue) → made_by pass (next_record pass old op reply ∷ []) ≡ next_record pass old op reply ∷ []
  by_itself old op reply = rw (eq-eqb pass pass refl) refl

  none_more : (old others : List Record) → records_of pass others ≡ 0 → made_by pass (old ++ others) ≡ made_by pass old
  none_more old others none =
      filter-append (λ (r : Record). r.pass == pass) old others
      ∙ ap (λ (l : List Record). made_by pass old ++ l) (by_others others none)
      ∙ append-nil (made_by pass old)

  one_more : (old new : List Record) (op : Op) (reply : Reply HitValue) → HasNextRecord pass old new op reply
      → made_by pass new ≡ made_by pass old ++ next_record pass old op reply ∷ []
  one_more old new op reply h =
      let own = next_record pass old op reply ∷ [] in
      ap (made_by pass) h.is
      ∙ filter-append (λ (r : Record). r.pass == pass) (old ++ h.others) own
      ∙ ap (λ (l : List Record). l ++ made_by pass own) (none_more old h.others h.none)
      ∙ ap (λ (l : List Record). made_by pass old ++ l) (by_itself old op reply)

  stays : (old new : List Record) → GrowsByOthers pass old new → made_by pass new ≡ made_by pass old
  stays old new h = ap (made_by pass) h.is ∙ none_more old h.others h.none

-- ---- what exchanges left

left_both : (a b : List Exchange) (one two : List Record) → AreLeftBy a one → AreLeftBy b two → AreLeftBy (a ++ b) (one ++ two)
left_both [] b one two h k = subst (λ (l : List Record). AreLeftBy b (l ++ two)) (sym h) k
left_both (x ∷ a) b one two h k = (
  h.0,
  h.1 ++ two,
  ap (λ (l : List Record). l ++ two) h.2 ∙ append_assoc h.0 h.1 two,
  h.3,
  left_both a b h.1 two h.4 k,
)

pub added_none : (p : PassValue) → HasAdded [] p p
added_none p = record { same = refl; made = []; left = refl; own = sym (append-nil (own_records p)) }

pub added_both : (p q r : PassValue) (a b : List Exchange) → HasAdded a p q → HasAdded b q r → HasAdded (a ++ b) p r
added_both p q r a b one two = record {
  same = two.same ∙ one.same;
  made = one.made ++ two.made;
  left = left_both a b one.made two.made one.left two.left;
  own = two.own ∙ ap (λ (l : List Record). l ++ two.made) one.own ∙ append_assoc (own_records p) one.made two.made;
}

module _ (old new : PassValue) (grown : HasGrown old new) (x : Exchange) where
  is_same : new.pass ≡ old.pass
  is_same = ap (λ (p : PassValue). p.pass) grown.is

  own_is : own_records new ≡ made_by old.pass new.records
  own_is = ap (λ (n : ℕ). made_by n new.records) is_same

  added_these : (made : List Record) → Leaves x made → made_by old.pass new.records ≡ own_records old ++ made → HasAdded (x ∷ []) old new
  added_these made leaves is =
      record { same = is_same; made = made; left = (made, [], sym (append-nil made), leaves, refl); own = own_is ∙ is }

  -- the step was made, and its record is the exchange's
  added_one : (op : Op) (reply : Reply HitValue) → HasMade old new op reply → (AreOne x (next_record old.pass old.records op reply ∷ []) → Leaves x (next_record old.pass old.records op reply ∷ []))
      → IsOne x (next_record old.pass old.records op reply) → HasAdded (x ∷ []) old new
  added_one op reply h may is =
      added_these (next_record old.pass old.records op reply ∷ []) (may (next_record old.pass old.records op reply, refl, is)) (one_more old.pass old.records new.records op reply h)

  -- it was refused
  added_no : Leaves x [] → (name : Name) (e : NodeError) → IsPassLeft name old new e → HasAdded (x ∷ []) old new
  added_no none name e h = added_these [] none (as_before e h ∙ sym (append-nil (own_records old)))
    where
      as_before : (error : NodeError) → IsPassLeft name old new error → made_by old.pass new.records ≡ own_records old
      as_before HistoryFull left = stays old.pass old.records new.records left.0
      as_before error left = ap (λ (p : PassValue). made_by old.pass p.records) left

-- ---- one exchange

get_set_same : (ps : List PassValue) (i : ℕ) (old new : PassValue) → slice_get ps i ≡ Some old → slice_get (set ps i new) i ≡ Some new
get_set_same [] i old new is = cc is
get_set_same (p ∷ ps) zero old new is = refl
get_set_same (p ∷ ps) (suc i) old new is = get_set_same ps i old new is

get_set_other : (ps : List PassValue) (i j : ℕ) (new : PassValue) → i ≢ j → slice_get (set ps i new) j ≡ slice_get ps j
get_set_other [] i j new other = refl
get_set_other (p ∷ ps) zero zero new other = absurd (other refl)
get_set_other (p ∷ ps) zero (suc j) new other = refl
get_set_other (p ∷ ps) (suc i) zero new other = refl
get_set_other (p ∷ ps) (suc i) (suc j) new other = get_set_other ps i j new (λ is. other (ap suc is))

-- a pass at the same place, to which these exchanges added
abbrev pub AddedAt : ℕ → List Exchange → PassValue → List PassValue → Type 0
AddedAt node xs p news = (q : PassValue) × (slice_get news node ≡ Some q) × HasAdded xs p q

-- the exchange, if it is with the node
abbrev one_if : Bool → Exchange → List Exchange
one_if b x = cond b (x ∷ []) []

module _ (at node : ℕ) (x : Exchange) (call : PassValue → PassValue → Type 0) (olds news : List PassValue) (p : PassValue)
    (does : (old new : PassValue) → HasGrown old new → call old new → HasAdded (x ∷ []) old new) where
  added_at : IsCallAt at call olds news → slice_get olds node ≡ Some p → AddedAt node (one_if (at == node) x) p news
  added_at h is = go (at == node) refl
    where
      go : (b : Bool) → (at == node) ≡ b → AddedAt node (one_if b x) p news
      go true equal =
          let same : at ≡ node = eqb-true at node equal in
          let own : Some h.old ≡ Some p = sym h.pass ∙ ap (slice_get olds) same ∙ is in
          let own' : h.old ≡ p = cc own in (
            h.new,
            ap (λ (l : List PassValue). slice_get l node) h.others ∙ ap (slice_get (set olds at h.new)) (sym same) ∙ get_set_same olds at h.old h.new h.pass,
            subst (λ (w : PassValue). HasAdded (x ∷ []) w h.new) own' (does h.old h.new h.grown h.called),
          )
      go false apart = (
        p,
        ap (λ (l : List PassValue). slice_get l node) h.others ∙ get_set_other olds at node h.new (eqb-false at node apart) ∙ is,
        added_none p,
      )

-- any other exchange leaves it as it was
stays_at : (node : ℕ) (p : PassValue) (olds news : List PassValue) → news ≡ olds → slice_get olds node ≡ Some p → AddedAt node [] p news
stays_at node p olds news same is = (p, ap (λ (l : List PassValue). slice_get l node) same ∙ is, added_none p)

module _ (node_histories : ℕ → Name) (olds news : List PassValue) (node : ℕ) (p : PassValue) where
  hit_adds : (at : ℕ) (key : Call) (lo hi : ℕ) (hit : Answered HitValue) → IsCallAt at (LookupLeaves node_histories key lo hi (Some hit)) olds news
      → slice_get olds node ≡ Some p → AddedAt node (one_if (at == node) (exchanges.Lookup at key lo hi (Some hit))) p news
  hit_adds at key lo hi hit h is =
      added_at at node (exchanges.Lookup at key lo hi (Some hit)) (LookupLeaves node_histories key lo hi (Some hit)) olds news p
      (λ old new grown called. elim called [
        | inl made ↦ added_one old new grown (exchanges.Lookup at key lo hi (Some hit)) (ops.Lookup key lo hi) (reply_to_lookup (Some hit)) made (λ one. one) (refl, refl)
        | inr refused ↦ cc refused.0
      ]) h is

  miss_adds : (at : ℕ) (key : Call) (lo hi : ℕ) → IsCallAt at (LookupLeaves node_histories key lo hi None) olds news
      → slice_get olds node ≡ Some p → AddedAt node (one_if (at == node) (exchanges.Lookup at key lo hi None)) p news
  miss_adds at key lo hi h is =
      added_at at node (exchanges.Lookup at key lo hi None) (LookupLeaves node_histories key lo hi None) olds news p
      (λ old new grown called. elim called [
        | inl made ↦ added_one old new grown (exchanges.Lookup at key lo hi None) (ops.Lookup key lo hi) (reply_to_lookup None) made (λ one. inr one) (refl, refl)
        | inr refused ↦ added_no old new grown (exchanges.Lookup at key lo hi None) (inl refl) (node_histories old.settings.number) refused.1.error refused.1.left
      ]) h is

  kept_adds : (at : ℕ) (entry : Entry) (keeps : Kept) → IsCallAt at (InsertLeaves node_histories entry (Some keeps)) olds news
      → slice_get olds node ≡ Some p → AddedAt node (one_if (at == node) (exchanges.Insert at entry (Some keeps))) p news
  kept_adds at entry keeps h is =
      added_at at node (exchanges.Insert at entry (Some keeps)) (InsertLeaves node_histories entry (Some keeps)) olds news p
      (λ old new grown made.
      added_one old new grown (exchanges.Insert at entry (Some keeps)) (ops.Insert entry) (replies.Inserted made.1.inserted) made.1.made (λ one. one) (refl, (made.1.inserted, refl))) h is

  refused_adds : (at : ℕ) (entry : Entry) → IsCallAt at (InsertLeaves node_histories entry None) olds news
      → slice_get olds node ≡ Some p → AddedAt node (one_if (at == node) (exchanges.Insert at entry None)) p news
  refused_adds at entry h is =
      added_at at node (exchanges.Insert at entry None) (InsertLeaves node_histories entry None) olds news p
      (λ old new grown refused.
      added_no old new grown (exchanges.Insert at entry None) (inl refl) (node_histories old.settings.number) refused.error refused.left) h is

  exchange_adds : (x : Exchange) → PassesAfter node_histories olds x news → slice_get olds node ≡ Some p → AddedAt node (filter (asks node) (x ∷ [])) p news
  exchange_adds (exchanges.Pin now at_least pinned) h is = stays_at node p olds news h is
  exchange_adds (exchanges.AddPin pinned given added) h is = stays_at node p olds news h is
  exchange_adds (exchanges.Unpin stamp unpinned) h is = stays_at node p olds news h is
  exchange_adds (exchanges.Lookup at key lo hi None) h is = miss_adds at key lo hi h is
  exchange_adds (exchanges.Lookup at key lo hi (Some hit)) h is = hit_adds at key lo hi hit h is
  exchange_adds (exchanges.Query query stamp found) h is = stays_at node p olds news h is
  exchange_adds (exchanges.Insert at entry (Some keeps)) h is = kept_adds at entry keeps h is
  exchange_adds (exchanges.Insert at entry None) h is = refused_adds at entry h is

-- ---- a run

module _ (next : Next) (row : Name) (node_histories : ℕ → Name) (node : ℕ) where
  led_adds : (xs : List Exchange) (old new : RoTxnValue) (asking turn : PortTurn) (p : PassValue) → ExchangesTransition next row node_histories old asking xs new turn
      → slice_get old.passes node ≡ Some p → AddedAt node (filter (asks node) xs) p new.passes
  led_adds [] old new asking turn p led is = stays_at node p old.passes new.passes (ap (λ (v : RoTxnValue). v.passes) led.0) is
  led_adds (x ∷ xs) old new asking turn p led is =
      let one = exchange_adds node_histories old.passes led.0.passes node p x led.2.passes is in
      let rest = led_adds xs led.0 new led.1 turn one.0 led.3 one.1 in (
        rest.0,
        rest.1,
        subst (λ (l : List Exchange). HasAdded l p rest.0) (sym (filter-append (asks node) (x ∷ []) xs))
            (added_both p one.0 rest.0 (filter (asks node) (x ∷ [])) (filter (asks node) xs) one.2 rest.2),
      )

pub each_call_is_recorded_once : EachCallIsRecordedOnce
each_call_is_recorded_once next row node_histories old new k result run node before after was is =
    let began = ap (λ (l : List PassValue). slice_get l node) run.begun.passes ∙ was in
    let adds = led_adds next row node_histories node run.exchanges run.first new run.first_turn (Ended result) before run.led began in
    let both : Some adds.0 ≡ Some after = sym adds.1 ∙ is in
    let same : adds.0 ≡ after = cc both in
    subst (λ (q : PassValue). HasAdded (filter (asks node) run.exchanges) before q) same adds.2
