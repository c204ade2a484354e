-- What actors are shown of transactions that begin in their sessions.
use Rattle.std.proofs.Common.{◌≡◌, ◌∙◌, ℕ, zero, suc, ◌<◌, ◌≤◌, List, [], ◌∷◌, ◌++◌, length, Option, Some, None, Ok, Err, refl, sym, ap, subst, take, arith, slice_get, slice_set}
use Rattle.std.proofs.Math.Seq.{take-length}
use Rattle.std.specs.Prelude.{MatchOption, Result}
use Rattle.std.proofs.lemmas.Option.{slice_get_within}
use Rattle.txc_db.specs.History.{History}
use Rattle.txc_cushion.specs.declared.pin.Pin.{Pin}
use Rattle.txc_app.specs.Eval.{Next}
use Rattle.txc_tags.proofs.All.{all-append}
use Rattle.txc_world.specs.declared.step.ActorStep.{ActorStep}
use Rattle.txc_world.specs.declared.step.ActorStep.TheVariants.{BeginRo, BeginRw, Start, Request, Ask, Write, Commit, Abort}
use Rattle.txc_world.specs.declared.step.Step.{Step}
use Rattle.txc_world.specs.declared.step.Step.TheVariants.{Actor, BeginIn, Keeper}
use Rattle.txc_txn_ports.specs.declared.error.TxnError.{TxnError}
use Rattle.txc_world.specs.declared.reply.Reply.{Reply}
use Rattle.txc_world.specs.declared.reply.Reply.TheVariants as replies
use Rattle.txc_world.specs.Observation.{Reading, ObservedActor, idle, reading, writing, leaving, Observation, act_at, after, after_end, begin_at, floor_at, floor_by, observed_after, AreExplained, IsCommitOf, IsExplainedIn, IsReceiptOfActor, ReplyExplains}
use Rattle.txc_world.specs.Sessions.{replied, BeganNone, HaveBegunNone, HaveToldAtMost, ActorSessionsAreMonotonic, ToldAtMost}
use Rattle.txc_world.proofs.Stepping.{set_length}

-- ---- floors

floor_set : (floors : List ℕ) (number floor : ℕ) → number < length floors → floor_at (slice_set floors number floor) number ≡ floor
floor_set [] number floor within = omega (arith, within)
floor_set (f ∷ fs) zero floor within = refl
floor_set (f ∷ fs) (suc number) floor within = floor_set fs number floor (omega (arith, within))

floors_rise : (floors : List ℕ) (at number : ℕ) (raise : ℕ → ℕ) → ((n : ℕ) → n ≤ raise n)
    → floor_at floors number ≤ floor_at (slice_set floors at (raise (floor_at floors at))) number
floors_rise [] at number raise up = omega arith
floors_rise (f ∷ fs) zero zero raise up = up f
floors_rise (f ∷ fs) zero (suc number) raise up = omega arith
floors_rise (f ∷ fs) (suc at) zero raise up = omega arith
floors_rise (f ∷ fs) (suc at) (suc number) raise up = floors_rise fs at number raise up

reply_raises : (reply : Reply) (floor : ℕ) → floor ≤ floor_by reply floor
reply_raises (replies.Receipt None) floor = omega arith
reply_raises (replies.Receipt (Some pin)) floor = omega arith
reply_raises (replies.At stamp) floor = omega arith
reply_raises reply floor = omega arith

-- each actor has a session
abbrev pub HasSessions : Observation → Type 0
HasSessions told = length told.floors ≡ length told.actors

module _ (told : Observation) (at : ℕ) (act : ActorStep) (reply : Reply) where
  act_has : (observed : Option ObservedActor) → HasSessions told → HasSessions (act_at at act reply told observed)
  act_has None h = h
  act_has (Some observed) h =
      set_length told.floors at (floor_by reply (floor_at told.floors at)) ∙ h ∙ sym (set_length told.actors at (observed_after act reply observed))

  act_raises : (observed : Option ObservedActor) (number : ℕ) → floor_at told.floors number ≤ floor_at (act_at at act reply told observed).floors number
  act_raises None number = omega arith
  act_raises (Some observed) number = floors_rise told.floors at number (floor_by reply) (reply_raises reply)

step_has : (told : Observation) (step : Step) (reply : Reply) → HasSessions told → HasSessions (after told step reply)
step_has told (Actor at act) reply h = act_has told at act reply (slice_get told.actors at) h
step_has told (BeginIn at now staleness) reply h = act_has told at (begin_at (floor_at told.floors at) now staleness) reply (slice_get told.actors at) h
step_has told (Keeper keep) reply h = h

step_raises : (told : Observation) (step : Step) (reply : Reply) (number : ℕ) → floor_at told.floors number ≤ floor_at (after told step reply).floors number
step_raises told (Actor at act) reply number = act_raises told at act reply (slice_get told.actors at) number
step_raises told (BeginIn at now staleness) reply number =
    act_raises told at (begin_at (floor_at told.floors at) now staleness) reply (slice_get told.actors at) number
step_raises told (Keeper keep) reply number = omega arith

-- ---- one after another

abbrev pub told_through : Observation → List (Step × Reply) → Observation
told_through told [] = told
told_through told (x ∷ xs) = told_through (after told x.0 x.1) xs

abbrev pub AreExplainedThrough : Next → Observation → List (Step × Reply) → Type 0
AreExplainedThrough next told [] = Unit {0}
AreExplainedThrough next told (x ∷ xs) =
    IsExplainedIn next (after told x.0 x.1).history told x.0 x.1 × AreExplainedThrough next (after told x.0 x.1) xs

through_raises : (told : Observation) (xs : List (Step × Reply)) (number : ℕ) → floor_at told.floors number ≤ floor_at (told_through told xs).floors number
through_raises told [] number = omega arith
through_raises told (x ∷ xs) number =
    let first = step_raises told x.0 x.1 number in
    let rest = through_raises (after told x.0 x.1) xs number in
    omega (arith, first, rest)

explained_through : (next : Next) (told : Observation) (steps : List Step) (replies : List Reply) → AreExplained next told steps replies
    → AreExplainedThrough next told (replied steps replies)
explained_through next told [] replies h = tt
explained_through next told (s ∷ ss) [] h = tt
explained_through next told (s ∷ ss) (r ∷ rs) h = (h.0, explained_through next (after told s r) ss rs h.1)

explained_apart : (next : Next) (told : Observation) (xs ys : List (Step × Reply)) → AreExplainedThrough next told (xs ++ ys)
    → AreExplainedThrough next told xs × AreExplainedThrough next (told_through told xs) ys
explained_apart next told [] ys h = (tt, h)
explained_apart next told (x ∷ xs) ys h =
    let rest = explained_apart next (after told x.0 x.1) xs ys h.1 in ((h.0, rest.0), rest.1)

-- ---- what is shown is at most the floor

module _ (next : Next) (L : History) (told : Observation) (has : HasSessions told) (number most : ℕ) where
  stamp_low : (at stamp : ℕ) (reply : Reply) → ((floor : ℕ) → stamp ≤ floor_by reply floor) → (observed : Option ObservedActor) → slice_get told.actors at ≡ observed
      → MatchOption observed ⊥ (λ s. ReplyExplains next L (length told.history) s reply) → floor_at (act_at at Commit reply told observed).floors number ≤ most
      → at ≡ number → stamp ≤ most
  stamp_low at stamp reply raises None is h low same = absurd h
  stamp_low at stamp reply raises (Some observed) is h low same =
      let within = slice_get_within told.actors at observed is in
      let below : at < length told.floors = omega (arith, within, has) in
      let low' = subst (λ (n : ℕ). floor_at (slice_set told.floors at (floor_by reply (floor_at told.floors at))) n ≤ most) (sym same) low in
      let set = floor_set told.floors at (floor_by reply (floor_at told.floors at)) below in
      let up = raises (floor_at told.floors at) in
      omega (arith, low', set, up)

  told_low : (step : Step) (reply : Reply) → IsExplainedIn next L told step reply → floor_at (after told step reply).floors number ≤ most
      → ToldAtMost number most step reply
  told_low (Actor at Commit) (replies.Receipt (Some pin)) h low =
      stamp_low at pin.stamp (replies.Receipt (Some pin)) (λ floor. omega arith) (slice_get told.actors at) refl h low
  told_low (Actor at Commit) (replies.At stamp) h low = stamp_low at stamp (replies.At stamp) (λ floor. omega arith) (slice_get told.actors at) refl h low
  told_low step reply h low = tt

before_low : (next : Next) (told : Observation) (xs : List (Step × Reply)) (number most : ℕ) → HasSessions told → AreExplainedThrough next told xs
    → floor_at (told_through told xs).floors number ≤ most → HaveToldAtMost number most xs
before_low next told [] number most has h low = tt
before_low next told (x ∷ xs) number most has h low =
    let up = through_raises (after told x.0 x.1) xs number in (
      told_low next (after told x.0 x.1).history told has number most x.0 x.1 h.0 (omega (arith, up, low)),
      before_low next (after told x.0 x.1) xs number most (step_has told x.0 x.1 has) h.1 low,
    )

-- ---- what an actor reads

-- a read-only transaction that the actor has open begins where this holds of the least stamp that it may read
abbrev pub ReadsFrom : (ℕ → Type 0) → ObservedActor → Type 0
ReadsFrom P idle = Unit {0}
ReadsFrom P (reading r) = P r.bounds.at_least
ReadsFrom P (writing w) = Unit {0}
ReadsFrom P (leaving stamp) = Unit {0}

abbrev pub NotBegun : Reply → Type 0
NotBegun replies.Begun = ⊥
NotBegun reply = Unit {0}

module _ (P : ℕ → Type 0) where
  end_reads : (end : Option (Result (List ℕ) TxnError)) (r : Reading) → P r.bounds.at_least → ReadsFrom P (reading (after_end end r))
  end_reads None r h = h
  end_reads (Some (Ok value)) r h = h
  end_reads (Some (Err error)) r h = h

  act_reads : (act : ActorStep) (reply : Reply) (observed : ObservedActor) → NotBegun reply → ReadsFrom P observed → ReadsFrom P (observed_after act reply observed)
  act_reads (BeginRo bounds) replies.Begun observed new h = absurd new
  act_reads BeginRw (replies.Based base) observed new h = tt
  act_reads (Start key) replies.Started (reading r) new h = h
  act_reads Request (replies.Asked did end) (reading r) new h = end_reads end r h
  act_reads Request (replies.Ended end) (reading r) new h = end_reads (Some end) r h
  act_reads (Ask query) (replies.Answered rows) (writing w) new h = tt
  act_reads (Write change) replies.Kept (writing w) new h = tt
  act_reads Commit (replies.Receipt pin) observed new h = tt
  act_reads Commit (replies.At stamp) (writing w) new h = tt
  act_reads Abort (replies.Aborted None) observed new h = tt
  act_reads Abort (replies.Aborted (Some held)) observed new h = tt
  act_reads act reply observed new h = h

-- what is set is there
set_there : (actors : List ObservedActor) (at : ℕ) (new observed : ObservedActor) → slice_get (slice_set actors at new) at ≡ Some observed → new ≡ observed
set_there [] at new observed is = cc is
set_there (s ∷ ss) zero new observed is = cc is
set_there (s ∷ ss) (suc at) new observed is = set_there ss at new observed is

set_reads : (P : ObservedActor → Type 0) (actors : List ObservedActor) (at number : ℕ) (new : ObservedActor) → (at ≡ number → P new)
    → ((observed : ObservedActor) → slice_get actors number ≡ Some observed → P observed)
    → (observed : ObservedActor) → slice_get (slice_set actors at new) number ≡ Some observed → P observed
set_reads P [] at number new own others observed is = others observed is
set_reads P (s ∷ ss) zero zero new own others observed is = let same : new ≡ observed = cc is in subst P same (own refl)
set_reads P (s ∷ ss) zero (suc number) new own others observed is = others observed is
set_reads P (s ∷ ss) (suc at) zero new own others observed is = others observed is
set_reads P (s ∷ ss) (suc at) (suc number) new own others observed is = set_reads P ss at number new (λ e. own (ap suc e)) others observed is

module _ (P : ℕ → Type 0) (number : ℕ) where
  -- a read-only transaction that the actor of the number has open begins so
  abbrev pub Reads : Observation → Type 0
  Reads told = (observed : ObservedActor) → slice_get told.actors number ≡ Some observed → ReadsFrom P observed

  place_reads : (told : Observation) (at : ℕ) (act : ActorStep) (reply : Reply) → (at ≡ number → NotBegun reply) → Reads told
      → (observed : Option ObservedActor) → slice_get told.actors at ≡ observed → Reads (act_at at act reply told observed)
  place_reads told at act reply new h None is = h
  place_reads told at act reply new h (Some was) is =
      set_reads (ReadsFrom P) told.actors at number (observed_after act reply was)
      (λ same. act_reads P act reply was (new same) (h was (subst (λ (n : ℕ). slice_get told.actors n ≡ Some was) same is))) h

  not_begun : (at : ℕ) (act : ActorStep) (reply : Reply) → BeganNone number (Actor at act) reply → at ≡ number → NotBegun reply
  not_begun at act replies.Begun none same = absurd (none same)
  not_begun at act reply none same = tt

  not_begun_in : (at now staleness : ℕ) (reply : Reply) → BeganNone number (BeginIn at now staleness) reply → at ≡ number → NotBegun reply
  not_begun_in at now staleness replies.Begun none same = absurd (none same)
  not_begun_in at now staleness reply none same = tt

  step_reads : (told : Observation) (step : Step) (reply : Reply) → BeganNone number step reply → Reads told → Reads (after told step reply)
  step_reads told (Actor at act) reply none h = place_reads told at act reply (not_begun at act reply none) h (slice_get told.actors at) refl
  step_reads told (BeginIn at now staleness) reply none h =
      place_reads told at (begin_at (floor_at told.floors at) now staleness) reply (not_begun_in at now staleness reply none) h (slice_get told.actors at) refl
  step_reads told (Keeper keep) reply none h = h

  through_reads : (told : Observation) (xs : List (Step × Reply)) → HaveBegunNone number xs → Reads told → Reads (told_through told xs)
  through_reads told [] none h = h
  through_reads told (x ∷ xs) none h = through_reads (after told x.0 x.1) xs none.1 (step_reads told x.0 x.1 none.0 h)

-- who begins in its session begins at its floor
begun_reads : (told : Observation) (number now staleness : ℕ) → Reads (λ n. n ≡ floor_at told.floors number) number (after told (BeginIn number now staleness) replies.Begun)
begun_reads told number now staleness = go (slice_get told.actors number) refl
  where
    P : ℕ → Type 0
    P n = n ≡ floor_at told.floors number

    go : (observed : Option ObservedActor) → slice_get told.actors number ≡ observed
        → Reads P number (act_at number (begin_at (floor_at told.floors number) now staleness) replies.Begun told observed)
    go None none = λ observed is. let no : None ≡ Some observed = sym none ∙ is in cc no
    go (Some was) some = λ observed is. subst (ReadsFrom P)
        (set_there told.actors number (observed_after (begin_at (floor_at told.floors number) now staleness) replies.Begun was) observed is) refl

-- ---- what a receipt is of

module _ (next : Next) (L : History) (told : Observation) (number : ℕ) where
  receipt_from : (P : ℕ → Type 0) (pin : Pin) → IsExplainedIn next L told (Actor number Commit) (replies.Receipt (Some pin)) → Reads P number told
      → (n : ℕ) × P n × (n ≤ pin.stamp)
  receipt_from P pin h reads = go (slice_get told.actors number) refl h
    where
      of : (observed : ObservedActor) → slice_get told.actors number ≡ Some observed → IsReceiptOfActor next L observed (Some pin) → (n : ℕ) × P n × (n ≤ pin.stamp)
      of idle is x = absurd x
      of (reading r) is x = (r.bounds.at_least, reads (reading r) is, x.1.allowed.late)
      of (writing w) is x = absurd x
      of (leaving stamp) is x = absurd x

      go : (observed : Option ObservedActor) → slice_get told.actors number ≡ observed → MatchOption observed ⊥ (λ s. IsReceiptOfActor next L s (Some pin)) → (n : ℕ) × P n × (n ≤ pin.stamp)
      go None is x = absurd x
      go (Some observed) is x = of observed is x

  -- once it is shown so, it has nothing open to read with
  receipt_ends : (at : ℕ) (pin : Option Pin) → at ≡ number → IsExplainedIn next L told (Actor at Commit) (replies.Receipt pin)
      → Reads (λ n. ⊥) number (after told (Actor at Commit) (replies.Receipt pin))
  receipt_ends at pin same h = go (slice_get told.actors at) refl h
    where
      go : (observed : Option ObservedActor) → slice_get told.actors at ≡ observed → MatchOption observed ⊥ (λ s. IsReceiptOfActor next L s pin)
          → Reads (λ n. ⊥) number (act_at at Commit (replies.Receipt pin) told observed)
      go None is x = absurd x
      go (Some was) is x = λ observed there. subst (ReadsFrom (λ n. ⊥))
          (set_there told.actors at idle observed (subst (λ (n : ℕ). slice_get (slice_set told.actors at idle) n ≡ Some observed) (sym same) there)) tt

  commit_ends : (at stamp : ℕ) → at ≡ number → IsExplainedIn next L told (Actor at Commit) (replies.At stamp)
      → Reads (λ n. ⊥) number (after told (Actor at Commit) (replies.At stamp))
  commit_ends at stamp same h = go (slice_get told.actors at) refl h
    where
      of : (was : ObservedActor) → IsCommitOf next L (length told.history) was stamp → Reads (λ n. ⊥) number (act_at at Commit (replies.At stamp) told (Some was))
      of idle x = absurd x
      of (reading r) x = absurd x
      of (writing w) x = λ observed there. subst (ReadsFrom (λ n. ⊥))
          (set_there told.actors at (leaving w.base) observed (subst (λ (n : ℕ). slice_get (slice_set told.actors at (leaving w.base)) n ≡ Some observed) (sym same) there)) tt
      of (leaving held) x = absurd x

      go : (observed : Option ObservedActor) → slice_get told.actors at ≡ observed → MatchOption observed ⊥ (λ s. IsCommitOf next L (length told.history) s stamp)
          → Reads (λ n. ⊥) number (act_at at Commit (replies.At stamp) told observed)
      go None is x = absurd x
      go (Some was) is x = of was x

  told_none : (most : ℕ) (step : Step) (reply : Reply) → IsExplainedIn next L told step reply → (Reads (λ n. ⊥) number (after told step reply) → ⊥)
      → ToldAtMost number most step reply
  told_none most (Actor at Commit) (replies.Receipt (Some pin)) h ends = λ same. absurd (ends (receipt_ends at (Some pin) same h))
  told_none most (Actor at Commit) (replies.At stamp) h ends = λ same. absurd (ends (commit_ends at stamp same h))
  told_none most step reply h ends = tt

-- a transaction that is committed has been open since it began
between_low : (next : Next) (L : History) (told : Observation) (xs : List (Step × Reply)) (number : ℕ) (pin : Pin) → HaveBegunNone number xs → AreExplainedThrough next told xs
    → IsExplainedIn next L (told_through told xs) (Actor number Commit) (replies.Receipt (Some pin)) → HaveToldAtMost number pin.stamp xs
between_low next L told [] number pin none h receipt = tt
between_low next L told (x ∷ xs) number pin none h receipt =
    let now = after told x.0 x.1 in (
      told_none next now.history told number pin.stamp x.0 x.1 h.0 (λ ended.
          (receipt_from next L (told_through now xs) number (λ n. ⊥) pin receipt (through_reads (λ n. ⊥) number now xs none.1 ended)).1),
      between_low next L now xs number pin none.1 h.1 receipt,
    )

pub sessions_are_monotonic : (next : Next) (told : Observation) (steps : List Step) (answers : List Reply) → HasSessions told → AreExplained next told steps answers
    → ActorSessionsAreMonotonic steps answers
sessions_are_monotonic next told steps answers has explained number now staleness pin before between more apart none =
    let receipt : Step × Reply = (Actor number Commit, replies.Receipt (Some pin)) in
    let rest : List (Step × Reply) = (BeginIn number now staleness, replies.Begun) ∷ (between ++ (receipt ∷ more)) in
    let all : AreExplainedThrough next told (before ++ rest) = subst (AreExplainedThrough next told) apart (explained_through next told steps answers explained) in
    let first = explained_apart next told before rest all in
    let start = told_through told before in
    let begun = after start (BeginIn number now staleness) replies.Begun in
    let second = explained_apart next begun between (receipt ∷ more) first.1.1 in
    let open_at = told_through begun between in
    let end = (after open_at (Actor number Commit) (replies.Receipt (Some pin))).history in
    let reads = through_reads (λ n. n ≡ floor_at start.floors number) number begun between none (begun_reads start number now staleness) in
    let from = receipt_from next end open_at number (λ n. n ≡ floor_at start.floors number) pin second.1.0 reads in
    let at = from.1 in
    let late = from.2 in
    all-append (λ (x : Step × Reply). ToldAtMost number pin.stamp x.0 x.1) before between
    (before_low next told before number pin.stamp has first.0 (omega (arith, at, late)))
    (between_low next end begun between number pin none second.0 second.1.0)

-- at the end of the loop over the steps
pub loop_back : (next : Next) (start : Observation) (steps : List Step) (i : ℕ) (answers : List Reply) → length steps ≤ i → i ≤ length steps
    → HasSessions start → AreExplained next start (take i steps) answers → ActorSessionsAreMonotonic steps answers
loop_back next start steps i answers past within has explained =
    let at : i ≡ length steps = omega (arith, past, within) in
    let all : take i steps ≡ steps = ap (λ n. take n steps) at ∙ take-length steps in
    sessions_are_monotonic next start steps answers has (subst (λ (ss : List Step). AreExplained next start ss answers) all explained)
