-- What the steps of a world keep of its ports.
use Rattle.std.proofs.Common.{◌≡◌, ◌∙◌, ◌⊎◌, inl, inr, ℕ, zero, suc, ◌+◌, ◌<◌, arith, ◌==◌, ◌||◌, eq-eqb, ne_eqb, remove, Bool, true, false, List, [], ◌∷◌, ◌++◌, length, get_or, set, Some, All, Result, Ok, Err, refl, ap, sym, subst, length-append}
use Rattle.std.proofs.lemmas.List.{length-set}
use Rattle.std.proofs.lemmas.Option.{slice_get-get_or}
use Rattle.std.proofs.Math.Seq.{map-set_same}
use Rattle.std.proofs.lemmas.List.Elements.{All-set, All-get_or, All-from_get_or, All-append, recursion_from_All, All-from_recursion}
use mathlib.Core.List.{IsPrefix}
use Rattle.txc_stream.proofs.Offered.{prefix_self, prefix_push}
use Rattle.std.specs.Prelude.{IfErr, IfOk, IsOk}
use Rattle.txc_rows.specs.declared.query.Change.{Change}
use Rattle.txc_rows.specs.declared.query.Query.{Query}
use Rattle.txc_rows.specs.RowTags.{query_tag}
use Rattle.txc_validity.specs.declared.answer.Found.{Found}
use Rattle.txc_validity.specs.Answers.{IsAnswer}
use Rattle.txc_db.specs.declared.error.DbError.{DbError}
use Rattle.txc_db.specs.declared.error.DbError.TheVariants as errors
use Rattle.txc_db.specs.declared.pinned.Pinned.{Pinned}
use Rattle.txc_db.specs.FrontsAndFeeds.{FrontValue}
use Rattle.txc_db.specs.DatabaseValue.{DatabaseValue, after_commit, after_pin, is_held, newest, without, after_event_of, where_some, newest_net, newest_state, front_of}
use Rattle.txc_db.specs.History.{commit_event, moment_at, pin_event, state_at}
use Rattle.txc_db.specs.Calls.{IsAnswerable, IsLeft, IsPinnable, IsQueryRefused}
use Rattle.std.specs.List.{AllByRecursion}
use Rattle.txc_cushion.specs.declared.error.AddError.{AddError}
use Rattle.txc_cushion.specs.Cushion.{cushion_front}
use Rattle.txc_app.specs.Eval.{Next}
use Rattle.txc_shared.specs.Nodes.{NodeValue}
use Rattle.txc_shared.specs.declared.advanced.Advanced.{Advanced}
use Rattle.txc_shared.specs.declared.error.NodeError.{NodeError}
use Rattle.txc_world.specs.NodeSteps.{AdvanceTransition}
use Rattle.txc_world.specs.Parts.{IsPartOf}
use Rattle.txc_world.specs.Ports.{PortsValue, whole_of, IsNodeOf, IsSoundNode, ArePorts, KeepsRow, HasLedNode}
use Rattle.txc_world.specs.PortRequests.{AddTransition, HasPinned, QueryTransition}
use Rattle.txc_world.specs.KeeperAtPorts.{stamps_of_pins, HasAddedSpare, HasPinnedSpare}
use Rattle.txc_world.proofs.PartLemmas.{part_itself, part_then}
use Rattle.txc_world.proofs.NodeLemmas.{StaysNode, node_stays}

-- ---- a node

-- the ports with one node led on
pub ports_with_node : {next : Next} (p : PortsValue) (i : ℕ) (old new : NodeValue) → ArePorts next p → i < length p.nodes → old ≡ get_or p.nodes i old
    → StaysNode (whole_of p) old new → IsSoundNode next new → ArePorts next (record p { nodes = set p.nodes i new })
ports_with_node {next = next} p i old new are there at stays sound = record {
  cushion = are.cushion;
  nodes = All-set (IsNodeOf next (whole_of p) p.actors) p.nodes i new
      (node_stays (whole_of p) p.actors old new stays sound
      (subst (IsNodeOf next (whole_of p) p.actors) (sym at) (All-get_or (IsNodeOf next (whole_of p) p.actors) p.nodes i old there are.nodes)))
      are.nodes;
  spare = are.spare;
}

pub keeps_itself : (p : PortsValue) → KeepsRow p p
keeps_itself p = record { events = refl; longer = prefix_self p.database.history; count = refl; settings = refl; actors = refl }

-- a step that changes nothing keeps all
pub keeps_same : (old new : PortsValue) → new ≡ old → KeepsRow old new
keeps_same old new same = subst (λ (p : PortsValue). KeepsRow old p) (sym same) (keeps_itself old)

pub keeps_with_node : (p : PortsValue) (i : ℕ) (old new : NodeValue) → old ≡ get_or p.nodes i old
    → StaysNode (whole_of p) old new → KeepsRow p (record p { nodes = set p.nodes i new })
keeps_with_node p i old new at stays = record {
  events = refl;
  longer = prefix_self p.database.history;
  count = length-set p.nodes i new;
  settings = map-set_same (λ (n : NodeValue). n.settings) p.nodes i new old (stays.settings ∙ ap (λ (n : NodeValue). n.settings) at);
  actors = refl;
}

-- ---- the database

module _ (p : PortsValue) (d : DatabaseValue) where
  -- the ports over a database of the same row whose history has grown
  node_grows : {next : Next} (n : NodeValue) → IsPartOf (front_of d) (whole_of p) → IsNodeOf next (whole_of p) p.actors n → IsNodeOf next (front_of d) p.actors n
  node_grows n grown is = record {
    kind = is.kind;
    begun = is.begun;
    row = is.row ∙ grown.row;
    seen = λ w. part_then (front_of d) (whole_of p) n.seen grown (is.seen w);
    passes = is.passes;
    sound = is.sound;
  }

  pub ports_grow : {next : Next} → IsPartOf (front_of d) (whole_of p) → ArePorts next p → ArePorts next (record p { database = d })
  ports_grow grown are = record {
    cushion = part_then (front_of d) (whole_of p) (cushion_front p.cushion) grown are.cushion;
    nodes = λ i n within. node_grows (get_or p.nodes i n) grown (are.nodes i n within);
    spare = λ i n within. part_then (front_of d) (whole_of p) (get_or p.spare i n).front grown (are.spare i n within);
  }

  pub keeps_grown : (spare : List Pinned) → IsPartOf (front_of d) (whole_of p) → KeepsRow p (record p { database = d; spare = spare })
  keeps_grown spare grown = record { events = sym grown.row; longer = grown.begins; count = refl; settings = refl; actors = refl }

-- a refusal leaves the row and the history
module _ (old new : DatabaseValue) where
  pub left_events : (e : DbError) → IsLeft old new e → new.events ≡ old.events
  left_events errors.Broken (inl same) = ap (λ (d : DatabaseValue). d.events) same.0
  left_events errors.Broken (inr broke) = broke.events
  left_events e left = ap (λ (d : DatabaseValue). d.events) left

  pub left_history : (e : DbError) → IsLeft old new e → new.history ≡ old.history
  left_history errors.Broken (inl same) = ap (λ (d : DatabaseValue). d.history) same.0
  left_history errors.Broken (inr broke) = broke.history
  left_history e left = ap (λ (d : DatabaseValue). d.history) left

-- a commit leaves the row, and the history or one that goes on from it
commit_events : (d : DatabaseValue) (changes net : List Change) (other : DatabaseValue) → other.events ≡ d.events
    → (where_some net d other).events ≡ d.events
commit_events d changes [] other same = refl
commit_events d changes (c ∷ cs) other same = same

commit_history : (d : DatabaseValue) (net : List Change) (other : DatabaseValue) → IsPrefix d.history other.history
    → IsPrefix d.history (where_some net d other).history
commit_history d [] other begins = prefix_self d.history
commit_history d (c ∷ cs) other begins = begins

pub commit_part : (d : DatabaseValue) (changes : List Change) → IsPartOf (front_of (after_commit d changes)) (front_of d)
commit_part d changes = record {
  row = sym (commit_events d changes (newest_net d changes) (after_event_of d (commit_event (newest_state d) changes) (newest_net d changes)) refl);
  begins = commit_history d (newest_net d changes) (after_event_of d (commit_event (newest_state d) changes) (newest_net d changes))
      (prefix_push d.history (commit_event (newest_state d) changes));
}

-- ---- from the fields of the ports to their value

module _ (p q : PortsValue) (same : p ≡ q) where
  pub keeps_node_from : (at : ℕ) (old new : NodeValue) → old ≡ get_or p.nodes at old → StaysNode (whole_of p) old new
      → KeepsRow q (record p { nodes = set p.nodes at new })
  keeps_node_from at old new is stays =
      subst (λ (v : PortsValue). KeepsRow v (record p { nodes = set p.nodes at new })) same (keeps_with_node p at old new is stays)

  pub keeps_grown_from : (d : DatabaseValue) (spare : List Pinned) → IsPartOf (front_of d) (whole_of p)
      → KeepsRow q (record p { database = d; spare = spare })
  keeps_grown_from d spare grown =
      subst (λ (v : PortsValue). KeepsRow v (record p { database = d; spare = spare })) same (keeps_grown p d spare grown)

  pub ports_node_from : {next : Next} (at : ℕ) (old new : NodeValue) → ArePorts next p → at < length q.nodes → old ≡ get_or p.nodes at old
      → StaysNode (whole_of p) old new → IsSoundNode next new → ArePorts next (record p { nodes = set p.nodes at new })
  ports_node_from at old new are within is stays sound =
      ports_with_node p at old new are (subst (λ (v : PortsValue). at < length v.nodes) (sym same) within) is stays sound

  pub node_from : {next : Next} (at : ℕ) (old : NodeValue) → ArePorts next p → at < length q.nodes → old ≡ get_or p.nodes at old → IsNodeOf next (whole_of q) q.actors old
  node_from {next = next} at old are within is =
      let there : at < length p.nodes = subst (λ (v : PortsValue). at < length v.nodes) (sym same) within in
      subst (λ (v : PortsValue). IsNodeOf next (whole_of v) v.actors old) same
      (subst (IsNodeOf next (whole_of p) p.actors) (sym is) (All-get_or (IsNodeOf next (whole_of p) p.actors) p.nodes at old there are.nodes))

  pub led_from : (at : ℕ) (transition : NodeValue → NodeValue → Type 0) (old new : NodeValue) → at < length q.nodes
      → old ≡ get_or p.nodes at old → transition old new → HasLedNode at transition q (record p { nodes = set p.nodes at new })
  led_from at transition old new within is led =
      let there : at < length p.nodes = subst (λ (v : PortsValue). at < length v.nodes) (sym same) within in
      subst (λ (v : PortsValue). HasLedNode at transition v (record p { nodes = set p.nodes at new })) same (record {
        before = old;
        after = new;
        there = slice_get-get_or p.nodes at old there ∙ ap Some (sym is);
        is = refl;
        led = led;
      })

pub led_advanced : (p q : PortsValue) (same : p ≡ q) (at : ℕ) (old new : NodeValue) (advanced : Result Advanced NodeError) → at < length q.nodes
    → old ≡ get_or p.nodes at old → AdvanceTransition p.actors (whole_of p) old new advanced
    → HasLedNode at (λ was is. AdvanceTransition q.actors (whole_of q) was is advanced) q (record p { nodes = set p.nodes at new })
led_advanced p q same at old new advanced within is led =
    led_from p q same at (λ was is. AdvanceTransition q.actors (whole_of q) was is advanced) old new within is
    (subst (λ (v : PortsValue). AdvanceTransition v.actors (whole_of v) old new advanced) same led)

-- ---- queries

-- what comes of a query, by what the database returns
pub query_led : (p : PortsValue) (query : Query) (stamp : ℕ) (r : Result Found DbError)
    → IfOk r (λ found. IsAnswer (state_at p.database.history) query stamp p.database.horizon (newest p.database) found) → IfOk r (λ found. found.tags ≡ query_tag query ∷ [])
    → (IsOk r → IsAnswerable p.database stamp) → IfErr r (IsQueryRefused p.database query stamp) → QueryTransition query stamp p r
query_led p query stamp (Ok found) answer tag only_if refused = (record { answer = answer; tag = tag }, only_if refl)
query_led p query stamp (Err e) answer tag only_if refused = refused

-- as it is shown: a refusal for want of memory is one of a query that has an answer
pub query_shown : (p : PortsValue) (query : Query) (stamp : ℕ) (found shown : Result Found DbError) → QueryTransition query stamp p found
    → (shown ≡ found) ⊎ (IsOk found × (shown ≡ Err errors.Memory)) → QueryTransition query stamp p shown
query_shown p query stamp found shown transition (inl same) = subst (QueryTransition query stamp p) (sym same) transition
query_shown p query stamp (Ok found) shown transition (inr out) = subst (QueryTransition query stamp p) (sym out.1) transition.1
query_shown p query stamp (Err e) shown transition (inr out) = absurd (cc out.0)

pub query_refused : (p : PortsValue) (query : Query) (stamp : ℕ) (found : Result Found DbError) (e : DbError) → QueryTransition query stamp p found
    → (found ≡ Err e) ⊎ (IsOk found × (e ≡ errors.Memory)) → IsQueryRefused p.database query stamp e
query_refused p query stamp found e transition (inl is) = subst (QueryTransition query stamp p) is transition
query_refused p query stamp (Ok found) e transition (inr out) = rw out.1 transition.1
query_refused p query stamp (Err other) e transition (inr out) = absurd (cc out.0)

-- ---- events more

-- one event more is a longer history
pub pin_part : (d new : DatabaseValue) (now : ℕ) → new ≡ after_pin d now → IsPartOf (front_of new) (front_of d)
pin_part d new now is = subst (λ (e : DatabaseValue). IsPartOf (front_of e) (front_of d)) (sym is)
    (record { row = refl; begins = prefix_push d.history (pin_event now) })

pub commit_part_of : (d new : DatabaseValue) (changes : List Change) → new ≡ after_commit d changes → IsPartOf (front_of new) (front_of d)
commit_part_of d new changes is = subst (λ (e : DatabaseValue). IsPartOf (front_of e) (front_of d)) (sym is) (commit_part d changes)

-- the keeper has one pin more, of the whole as it then is
pub ports_with_spare : {next : Next} (p : PortsValue) (d : DatabaseValue) (pinned : Pinned) (spare : List Pinned) → ArePorts next p
    → IsPartOf (front_of d) (whole_of p) → pinned.front ≡ front_of d → spare ≡ p.spare ++ pinned ∷ []
    → ArePorts next (record p { database = d; spare = spare })
ports_with_spare p d pinned spare are grown front is =
    let more = ports_grow p d grown are in
    record {
      cushion = more.cushion;
      nodes = more.nodes;
      spare = subst (All (λ s. IsPartOf (front_of d) s.front)) (sym is)
          (All-append (λ s. IsPartOf (front_of d) s.front) p.spare (pinned ∷ []) more.spare
          (All-from_get_or (λ s. IsPartOf (front_of d) s.front) (pinned ∷ []) pinned (one pinned front)));
    }
  where
    one : (s : Pinned) → s.front ≡ front_of d → (i : ℕ) → i < 1 → IsPartOf (front_of d) (get_or (s ∷ []) i s).front
    one s f zero within = subst (λ (v : FrontValue). IsPartOf (front_of d) v) (sym f) (part_itself (front_of d))
    one s f (suc i) within = absurd (omega (arith, within))

pub pinned_from : (p q : PortsValue) (same : p ≡ q) (d : DatabaseValue) (now at_least : ℕ) (pinned : Pinned)
    → d ≡ after_pin p.database now → IsPinnable p.database at_least → pinned.stamp ≡ newest d → pinned.moment ≡ now → pinned.front ≡ front_of d
    → moment_at pinned.front.history pinned.stamp ≡ Some pinned.moment → HasPinned now at_least q (record p { database = d }) pinned
pinned_from p q same d now at_least pinned after only_if stamp moment front shown =
    let next : newest d ≡ newest p.database + 1 = ap newest after ∙ length-append p.database.history (pin_event now ∷ []) in
    let low = only_if.late in
    subst (λ (v : PortsValue). HasPinned now at_least v (record p { database = d }) pinned) same (record {
      after = ap (λ (e : DatabaseValue). record p { database = e }) after;
      only_if = only_if;
      stamp = stamp;
      moment = moment;
      late = omega (arith, low, next, stamp);
      front = front;
      shown = shown;
    })

pub pinned_spare : (p q : PortsValue) (same : p ≡ q) (d : DatabaseValue) (spare : List Pinned) (now : ℕ) (pinned : Pinned)
    → d ≡ after_pin p.database now → IsPinnable p.database 0 → pinned.stamp ≡ newest d → pinned.moment ≡ now → pinned.front ≡ front_of d
    → moment_at pinned.front.history pinned.stamp ≡ Some pinned.moment → spare ≡ p.spare ++ pinned ∷ []
    → HasPinnedSpare now q (record p { database = d; spare = spare }) pinned.stamp
pinned_spare p q same d spare now pinned after only_if stamp moment front shown more =
    subst (λ (v : PortsValue). HasPinnedSpare now v (record p { database = d; spare = spare }) pinned.stamp) same (record {
      pinned = pinned;
      made = record {
        after = λ i. record p { database = after i };
        only_if = only_if;
        stamp = stamp;
        moment = moment;
        late = omega arith;
        front = front;
        shown = shown;
      };
      stamp_is = refl;
      spare = more;
    })

-- ---- the keeper's pins

-- the first pin of a stamp, taken out, leaves the stamps without one of it
pub without_first : (stamp : ℕ) (spare : List Pinned) (i : ℕ) → i < length spare → ((k : ℕ) → k < i → get_or (stamps_of_pins spare) k 0 ≡ stamp → ⊥)
    → get_or (stamps_of_pins spare) i 0 ≡ stamp → stamps_of_pins (remove spare i) ≡ without stamp (stamps_of_pins spare)
without_first stamp [] i within before here = absurd (omega (arith, within))
without_first stamp (s ∷ ss) zero within before here = rw (eq-eqb s.stamp stamp here) refl
without_first stamp (s ∷ ss) (suc i) within before here =
    let other : (s.stamp == stamp) ≡ false = ne_eqb s.stamp stamp (before 0 (omega arith)) in
    rw other (ap (λ (l : List ℕ). s.stamp ∷ l) (without_first stamp ss i (omega (arith, within)) (λ k below. before (suc k) (omega (arith, below))) here))

pub first_is_held : (stamp : ℕ) (spare : List Pinned) (i : ℕ) → i < length spare → get_or (stamps_of_pins spare) i 0 ≡ stamp
    → is_held stamp (stamps_of_pins spare) ≡ true
first_is_held stamp [] i within here = absurd (omega (arith, within))
first_is_held stamp (s ∷ ss) zero within here = rw (eq-eqb s.stamp stamp here) refl
first_is_held stamp (s ∷ ss) (suc i) within here = go (s.stamp == stamp) (first_is_held stamp ss i (omega (arith, within)) here)
  where
    go : (b : Bool) → is_held stamp (stamps_of_pins ss) ≡ true → (b || is_held stamp (stamps_of_pins ss)) ≡ true
    go true rest = refl
    go false rest = rest

pub none_is_held : (stamp : ℕ) (spare : List Pinned) → ((k : ℕ) → k < length spare → get_or (stamps_of_pins spare) k 0 ≡ stamp → ⊥)
    → is_held stamp (stamps_of_pins spare) ≡ false
none_is_held stamp [] none = refl
none_is_held stamp (s ∷ ss) none =
    let other : (s.stamp == stamp) ≡ false = ne_eqb s.stamp stamp (none 0 (omega arith)) in
    rw other (none_is_held stamp ss (λ k below. none (suc k) (omega (arith, below))))

pub stamp_at : (spare : List Pinned) (i : ℕ) (pinned : Pinned) → i < length spare → pinned ≡ get_or spare i pinned
    → get_or (stamps_of_pins spare) i 0 ≡ pinned.stamp
stamp_at [] i pinned within is = omega (arith, within)
stamp_at (s ∷ ss) zero pinned within is = sym (ap (λ (q : Pinned). q.stamp) is)
stamp_at (s ∷ ss) (suc i) pinned within is = stamp_at ss i pinned (omega (arith, within)) is

pub none_more : (stamp : ℕ) (spare : List Pinned) (at : ℕ) → ((k : ℕ) → k < at → get_or (stamps_of_pins spare) k 0 ≡ stamp → ⊥)
    → (get_or (stamps_of_pins spare) at 0 ≡ stamp → ⊥) → (k : ℕ) → k < at + 1 → get_or (stamps_of_pins spare) k 0 ≡ stamp → ⊥
none_more stamp spare at before here k below is = elim (split k at below) [
  | inl less ↦ before k less is
  | inr same ↦ here (ap (λ (i : ℕ). get_or (stamps_of_pins spare) i 0) (sym same) ∙ is)
]
  where
    split : (k at : ℕ) → k < at + 1 → (k < at) ⊎ (k ≡ at)
    split zero zero below = inr refl
    split zero (suc at) below = inl (omega arith)
    split (suc k) zero below = absurd (omega (arith, below))
    split (suc k) (suc at) below = elim (split k at (omega (arith, below))) [
      | inl less ↦ inl (omega (arith, less))
      | inr same ↦ inr (ap suc same)
    ]

all_without : (P : Pinned → Type 0) (xs : List Pinned) (i : ℕ) → AllByRecursion P xs → AllByRecursion P (remove xs i)
all_without P [] zero h = h
all_without P [] (suc i) h = h
all_without P (x ∷ xs) zero h = h.1
all_without P (x ∷ xs) (suc i) h = (h.0, all_without P xs i h.1)

-- one pin of the keeper's is taken out
pub ports_without_spare : {next : Next} (p : PortsValue) (i : ℕ) (spare : List Pinned) → ArePorts next p → spare ≡ remove p.spare i
    → ArePorts next (record p { spare = spare })
ports_without_spare p i spare are is = record {
  cushion = are.cushion;
  nodes = are.nodes;
  spare = subst (All part) (sym is) (All-from_recursion part (remove p.spare i) (all_without part p.spare i (recursion_from_All part p.spare are.spare)));
}
  where
    part : Pinned → Type 0
    part s = IsPartOf (whole_of p) s.front

pub spare_is_part : {next : Next} (p : PortsValue) (i : ℕ) (pinned : Pinned) → ArePorts next p → i < length p.spare → pinned ≡ get_or p.spare i pinned
    → IsPartOf (whole_of p) pinned.front
spare_is_part p i pinned are within is =
    subst (λ (s : Pinned). IsPartOf (whole_of p) s.front) (sym is) (All-get_or (λ s. IsPartOf (whole_of p) s.front) p.spare i pinned within are.spare)

-- what is kept of the ports without one pin is kept of them
pub keeps_without_spare : (p q new : PortsValue) (spare : List Pinned) → p ≡ q → KeepsRow (record p { spare = spare }) new → KeepsRow q new
keeps_without_spare p q new spare same k = subst (λ (v : PortsValue). KeepsRow v new) same
    (record { events = k.events; longer = k.longer; count = k.count; settings = k.settings; actors = k.actors })

-- a pin of the keeper's was added
pub added_spare : {A : Type 0} (p q : PortsValue) (same : p ≡ q) (stamp i : ℕ) (pinned : Pinned) (spare : List Pinned) (new : PortsValue)
    (reply : Result A AddError) → i < length p.spare → pinned ≡ get_or p.spare i pinned → get_or (stamps_of_pins p.spare) i 0 ≡ stamp
    → is_held stamp (stamps_of_pins p.spare) ≡ true → stamps_of_pins (remove p.spare i) ≡ without stamp (stamps_of_pins p.spare) → spare ≡ remove p.spare i
    → AddTransition pinned (record p { spare = spare }) new reply → HasAddedSpare stamp q new reply
added_spare {A = A} p q same stamp i pinned spare new reply within is there held place out transition =
    subst (λ (v : PortsValue). HasAddedSpare stamp v new reply) same (record {
      at = i;
      pinned = pinned;
      there = slice_get-get_or p.spare i pinned within ∙ ap Some (sym is);
      stamp_is = sym (stamp_at p.spare i pinned within is) ∙ there;
      held = held;
      spare = kept reply transition ∙ place;
      added = subst (λ (l : List Pinned). AddTransition pinned (record p { spare = l }) new reply) out transition;
    })
  where
    kept : (r : Result A AddError) → AddTransition pinned (record p { spare = spare }) new r → stamps_of_pins new.spare ≡ stamps_of_pins (remove p.spare i)
    kept (Ok a) l = ap (λ (v : PortsValue). stamps_of_pins v.spare) l.0 ∙ ap stamps_of_pins out
    kept (Err e) l = ap (λ (v : PortsValue). stamps_of_pins v.spare) l.0 ∙ ap stamps_of_pins out
