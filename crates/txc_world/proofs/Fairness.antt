-- What a transaction's requests do to holds and users.
use Rattle.std.proofs.Common.{◌≡◌, ◌∙◌, ℕ, ◌+◌, ◌<◌, ◌≤◌, ◌==◌, Bool, true, false, List, [], ◌∷◌, ◌++◌, ◌&&◌, All, Contains, Result, Ok, Err, None, refl, ap, sym, subst, inl, inr, arith, eqb-true, length-append}
use Rattle.std.proofs.lemmas.List.Elements.{All-head}
use Rattle.std.specs.Prelude.{if◌then◌else◌}
use Rattle.std.specs.List.{AllByRecursion}
use Rattle.txc_stream.specs.Names.{Name, stored, unstored}
use Rattle.txc_tags.specs.declared.tag.Tag.{Tag}
use Rattle.txc_rows.specs.declared.query.Change.{Change}
use Rattle.txc_rows.specs.declared.query.Query.{Query}
use Rattle.txc_validity.specs.declared.answer.Found.{Found}
use Rattle.txc_db.specs.declared.answered.Answered.{Answered}
use Rattle.txc_db.specs.declared.error.DbError.{DbError}
use Rattle.txc_db.specs.declared.error.DbError.TheVariants as errors
use Rattle.txc_db.specs.declared.pinned.Pinned.{Pinned}
use Rattle.txc_db.specs.History.{pin_event}
use Rattle.txc_db.specs.DatabaseValue.{after_pin, newest, DatabaseValue, IsReadable}
use Rattle.txc_db.specs.Calls.{IsCommitRefused, IsHoldRefused, IsLeft, IsPinRefused, IsQueryRefused, IsUnpinRefused}
use Rattle.txc_db.specs.Room.{AreTagsGone}
use Rattle.txc_cushion.specs.declared.error.AddError.{AddError}
use Rattle.txc_cushion.specs.declared.pin.Pin.{Pin}
use Rattle.txc_cushion.specs.Entries.{times}
use Rattle.txc_cushion.specs.declared.error.UnknownPin.{UnknownPin}
use Rattle.txc_cushion.specs.declared.pins.Pins.{Pins}
use Rattle.txc_cushion.specs.Laws.{GiveBackCountsUsers}
use Rattle.txc_cushion.specs.Pin.{is_older}
use Rattle.txc_cushion.proofs.Counts.{times_off}
use Rattle.txc_pinset.specs.declared.choice.Choice.TheVariants.{Present, At}
use Rattle.txc_pinset.specs.Members.{choice_among}
use Rattle.txc_app.specs.Eval.{Next}
use Rattle.txc_shared.specs.Nodes.{NodeValue}
use Rattle.txc_call_registry.specs.Objects.{Objects}
use Rattle.txc_txn_ports.specs.declared.request.PortRequest.{PortRequest}
use Rattle.txc_txn_ports.specs.declared.request.PortRequest.TheVariants as requests
use Rattle.txc_txn_ports.specs.declared.reply.PortReply.{PortReply}
use Rattle.txc_txn_ports.specs.declared.reply.PortReply.TheVariants as replies
use Rattle.txc_txn.specs.TxnCore.{left_after, left_pin, taken_after, CoreAsks, CoreValue, IsCore}
use Rattle.txc_world.specs.declared.port_outcome.PortOutcome.{PortOutcome}
use Rattle.txc_world.specs.declared.port_outcome.PortOutcome.TheVariants as dids
use Rattle.txc_world.specs.Ports.{PortsValue, HasLedNode}
use Rattle.txc_world.specs.PortRequests.{AddTransition, FindTransition, FreshTransition, PinTransition, UnpinTransition}
use Rattle.txc_world.specs.KeeperAtPorts.{GiveBackTransition}
use Rattle.txc_world.specs.declared.reply.Reply.{Reply}
use Rattle.txc_world.specs.Actors.{counted, holds_any}
use Rattle.txc_world.specs.Holdings.{account_of_core, gained, handed, nothing, spent, stamp_if_any, Account, ActCounts, AskCounts, CountRight, HasLost, TakesOnlyItsOwn, LosesOnlyUnheld}
use Rattle.txc_world.specs.LostSnapshot.{IfDidLose, IfGone, IfPortLoses, IfReplyLost}
use Rattle.txc_world.proofs.Losing.{gone_so, port_so}
use Rattle.txc_world.proofs.Times.{times_append, times_one, times_there, times_without}

-- ---- what is fair

-- as many holds, and the same pins, with the same users
pub fair_same : (old new : PortsValue) (before after : Account) → new.database.holds ≡ old.database.holds → new.cushion ≡ old.cushion
    → ((stamp : ℕ) → times stamp after.own ≤ times stamp before.own) → ((stamp : ℕ) → times stamp after.taken ≤ times stamp before.taken)
    → TakesOnlyItsOwn old new before after
fair_same old new before after holds cushion own taken = record {
  holds = λ t. rw (holds, cushion) (let less = own t in omega (arith, less));
  users = λ t. rw cushion (let less = taken t in omega (arith, less));
}

pub fair_itself : (p : PortsValue) (a : Account) → TakesOnlyItsOwn p p a a
fair_itself p a = fair_same p p a a refl refl (λ t. omega arith) (λ t. omega arith)

-- the database holds one stamp more, which is the actor's
pub fair_hold : (old new : PortsValue) (taken : List ℕ) (stamp : ℕ) → new.database.holds ≡ old.database.holds ++ stamp ∷ [] → new.cushion ≡ old.cushion
    → TakesOnlyItsOwn old new (record { taken = taken; own = [] }) (record { taken = taken; own = stamp ∷ [] })
fair_hold old new taken stamp holds cushion = record {
  holds = λ t. rw (holds, cushion) (let all = times_append t old.database.holds (stamp ∷ []) in omega (arith, all));
  users = λ t. rw cushion (omega arith);
}

-- one hold of the actor's is taken away, or the database refuses, which lets it go
pub fair_unpin : {A : Type 0} → (old new : PortsValue) (taken : List ℕ) (stamp : ℕ) (done : Result A DbError) → CountRight old → UnpinTransition stamp old new done
    → TakesOnlyItsOwn old new (record { taken = taken; own = stamp ∷ [] }) (record { taken = taken; own = [] })
fair_unpin old new taken stamp (Ok done) right transition = rw transition.0 (record {
  holds = λ t. let less = times_without right.unpin t stamp old.database.holds transition.1 in omega (arith, less);
  users = λ t. omega arith;
})
fair_unpin old new taken stamp (Err e) right transition = rw transition.0 (record {
  holds = λ t. omega arith;
  users = λ t. omega arith;
})

-- pins are handed out, each with one user more
pub fair_fresh : (old new : PortsValue) (now staleness at_least : ℕ) (pins : Pins) → CountRight old → FreshTransition {A = Unit {0}} now staleness at_least old new (Ok pins)
    → TakesOnlyItsOwn old new nothing (handed pins.pins.items)
fair_fresh old new now staleness at_least pins right transition = rw (transition.0, transition.1) (record {
  holds = λ t. let one = right.fresh old.cushion now staleness at_least t right.cushion in let same = ap (times t) one.stamps in omega (arith, same);
  users = λ t. let one = right.fresh old.cushion now staleness at_least t right.cushion in let more = one.users in omega (arith, more);
})

-- users are given back, or the pincushion refuses
pub fair_give_back : {A : Type 0} → (old new : PortsValue) (stamps : List ℕ) (given : Result A UnknownPin) → GiveBackCountsUsers → GiveBackTransition stamps old new given
    → (taken left own rest : List ℕ) → ((t : ℕ) → times t left + times t stamps ≤ times t taken) → ((t : ℕ) → times t rest ≤ times t own)
    → TakesOnlyItsOwn old new (record { taken = taken; own = own }) (record { taken = left; own = rest })
fair_give_back old new stamps (Ok given) law transition taken left own rest less fewer_own = rw transition.0 (record {
  holds = λ t. let one = law old.cushion stamps t transition.1 in let same = ap (times t) one.stamps in let o = fewer_own t in omega (arith, same, o);
  users = λ t. let one = law old.cushion stamps t transition.1 in let fewer = one.users in let l = less t in omega (arith, fewer, l);
})
fair_give_back old new stamps (Err unknown) law transition taken left own rest less fewer_own = rw transition.0 (record {
  holds = λ t. let o = fewer_own t in omega (arith, o);
  users = λ t. let l = less t in omega (arith, l);
})

-- ---- what is gone

none_held : (stamp horizon last : ℕ) (holds : List ℕ) → stamp < horizon → AllByRecursion (IsReadable horizon last) holds → times stamp holds ≡ 0
none_held stamp horizon last [] below all = refl
none_held stamp horizon last (h ∷ hs) below all = go (h == stamp) refl (none_held stamp horizon last hs below all.1)
  where
    go : (b : Bool) → (h == stamp) ≡ b → times stamp hs ≡ 0 → times stamp (h ∷ hs) ≡ 0
    go true is none = let same : h ≡ stamp = eqb-true h stamp is in let low = all.0.low in omega (arith, low, same, below)
    go false is none = times_off stamp h hs is ∙ none

module _ (p : PortsValue) (right : CountRight p) where
  pub gone_query : (query : Query) (stamp : ℕ) (e : DbError) → IsQueryRefused p.database query stamp e → IfGone e (times stamp p.database.holds ≡ 0)
  gone_query query stamp (errors.SnapshotGone horizon) h =
      none_held stamp p.database.horizon (newest p.database) p.database.holds h.1 (right.sound h.0).held
  gone_query query stamp e h = tt

  -- the tags of the events after a base are gone only where the base is below the horizon
  pub gone_commit : (base : ℕ) (read : List Tag) (changes : List Change) (e : DbError) → IsCommitRefused p.database base read changes e
      → IfGone e (times base p.database.holds ≡ 0)
  gone_commit base read changes (errors.SnapshotGone horizon) h =
      none_held base p.database.horizon (newest p.database) p.database.holds (below p.database.events p.database.horizon h.1) (right.sound h.0).held
    where
      below : (name : Name) (horizon : ℕ) → AreTagsGone name horizon base → base < horizon
      below (stored cells) horizon gone = absurd gone
      below (unstored number) horizon gone = gone
  gone_commit base read changes e h = tt

pub gone_hold : (p : PortsValue) (e : DbError) → IsHoldRefused p.database e → IfGone e ⊥
gone_hold p (errors.SnapshotGone horizon) h = h
gone_hold p e h = tt

gone_pin : (p : PortsValue) (at_least : ℕ) (e : DbError) → IsPinRefused p.database at_least e → IfGone e ⊥
gone_pin p at_least (errors.SnapshotGone horizon) h = h
gone_pin p at_least e h = tt

gone_unpin : (p : PortsValue) (stamp : ℕ) (e : DbError) → IsUnpinRefused p.database stamp e → IfGone e ⊥
gone_unpin p stamp (errors.SnapshotGone horizon) h = h
gone_unpin p stamp e h = tt

-- ---- requests

pub left_holds : (old new : DatabaseValue) (e : DbError) → IsLeft old new e → new.holds ≡ old.holds
left_holds old new errors.Broken (inl same) = ap (λ (d : DatabaseValue). d.holds) same.0
left_holds old new errors.Broken (inr broke) = broke.holds
left_holds old new e left = ap (λ (d : DatabaseValue). d.holds) left

-- a pin holds the stamp of its event
pub pin_holds : (old new : PortsValue) (now stamp : ℕ) → new.database ≡ after_pin old.database now → stamp ≡ newest new.database
    → new.database.holds ≡ old.database.holds ++ stamp ∷ []
pin_holds old new now stamp is at =
    let next : newest new.database ≡ newest old.database + 1 = ap newest is ∙ length-append old.database.history (pin_event now ∷ []) in
    ap (λ (d : DatabaseValue). d.holds) is ∙ ap (λ (s : ℕ). old.database.holds ++ s ∷ []) (sym (at ∙ next))

module _ (old new : PortsValue) where
  pub counts_pin : (now at_least : ℕ) (pinned : Result Pinned DbError) → PinTransition now at_least old new pinned → AskCounts (requests.Pin now at_least) old new (replies.Pin pinned)
  counts_pin now at_least (Ok pinned) h = record {
    own_only = fair_hold old new [] pinned.stamp (pin_holds old new now pinned.stamp (ap (λ (p : PortsValue). p.database) h.after) h.stamp) (ap (λ (p : PortsValue). p.cushion) h.after);
    gone = tt;
  }
  counts_pin now at_least (Err e) h = record {
    own_only = fair_same old new nothing nothing (left_holds old.database new.database e h.0.left) (ap (λ (p : PortsValue). p.cushion) h.0.is) (λ t. omega arith) (λ t. omega arith);
    gone = gone_pin old at_least e h.1;
  }

  pub counts_add : (pinned : Pinned) (added : Result (Unit {0}) AddError) → CountRight old → AddTransition pinned old new added → AskCounts (requests.AddPin pinned) old new (replies.AddPin pinned added)
  counts_add pinned (Ok added) right h = rw h.0 (record {
    own_only = record {
      holds = λ t. let one = right.add old.cushion pinned t right.cushion h.1 in let a = one.stamps in let b = times_one t pinned.stamp in omega (arith, a, b);
      users = λ t. let one = right.add old.cushion pinned t right.cushion h.1 in let a = one.users in let b = times_one t pinned.stamp in omega (arith, a, b);
    };
    gone = tt;
  })
  counts_add pinned (Err e) right h = rw h.0 (record { own_only = fair_itself old (spent (requests.AddPin pinned)); gone = tt })

  pub counts_unpin : (stamp : ℕ) (unpinned : Result (Unit {0}) DbError) → CountRight old → UnpinTransition stamp old new unpinned → AskCounts (requests.Unpin stamp) old new (replies.Unpin unpinned)
  counts_unpin stamp (Ok done) right h = record { own_only = fair_unpin {A = Unit {0}} old new [] stamp (Ok done) right h; gone = tt }
  counts_unpin stamp (Err e) right h = record { own_only = fair_unpin {A = Unit {0}} old new [] stamp (Err e) right h; gone = gone_unpin old stamp e h.1 }

  -- a node led on leaves holds and users
  pub fair_led : (at : ℕ) (transition : NodeValue → NodeValue → Type 0) → HasLedNode at transition old new → TakesOnlyItsOwn old new nothing nothing
  fair_led at transition led =
      fair_same old new nothing nothing (ap (λ (p : PortsValue). p.database.holds) led.is) (ap (λ (p : PortsValue). p.cushion) led.is) (λ t. omega arith) (λ t. omega arith)

  -- a query changes nothing
  pub counts_query : (query : Query) (stamp : ℕ) (found : Result (Answered Found) DbError) → CountRight old → new ≡ old → FindTransition query stamp old found
      → AskCounts (requests.Query query stamp) old new (replies.Query found)
  counts_query query stamp (Ok found) right same h = record { own_only = rw same (fair_itself old nothing); gone = tt }
  counts_query query stamp (Err e) right same h = record { own_only = rw same (fair_itself old nothing); gone = gone_query old right query stamp e h }

-- ---- a transaction goes on

-- what a request spends is all that the transaction has of its own
spends : (c : CoreValue) (request : PortRequest) → CoreAsks c request → spent request ≡ record { taken = []; own = stamp_if_any (left_pin c.pinning) }
spends c (requests.Pin now at_least) asking = rw asking.0.1 refl
spends c (requests.AddPin pinned) asking = rw asking.1 refl
spends c (requests.Unpin stamp) asking = rw asking.1.1 refl
spends c (requests.Lookup node key lo hi) asking = rw asking.0.0 refl
spends c (requests.Query query stamp) asking = rw asking.0.0 refl
spends c (requests.Insert node entry) asking = rw asking.0.0 refl

-- what a reply brings is added to what was taken before
brings : (t : ℕ) (taken : List ℕ) (reply : PortReply) → times t (taken_after taken reply) ≡ times t taken + times t (taken_after [] reply)
brings t taken (replies.AddPin pinned (Ok added)) = times_append t taken (pinned.stamp ∷ [])
brings t taken reply = omega arith

pub fair_gone_on : (old new : PortsValue) (c c' : CoreValue) (request : PortRequest) (reply : PortReply) → CoreAsks c request → TakesOnlyItsOwn old new (spent request) (gained reply)
    → c'.taken ≡ taken_after c.taken reply → left_pin c'.pinning ≡ left_after reply → TakesOnlyItsOwn old new (account_of_core c) (account_of_core c')
fair_gone_on old new c c' request reply asking own_only taken left =
    let own_only' : TakesOnlyItsOwn old new (record { taken = []; own = stamp_if_any (left_pin c.pinning) }) (gained reply) = subst (λ (a : Account). TakesOnlyItsOwn old new a (gained reply)) (spends c request asking) own_only in
    rw (taken, left) (record {
      holds = own_only'.holds;
      users = λ t. let all = brings t c.taken reply in let less = own_only'.users t in omega (arith, all, less);
    })

-- where the next query runs at a stamp, that is a member's, which was taken
newest_taken : (now renew_after : ℕ) (present : Bool) (members : List Pin) (taken : List ℕ) (stamp : ℕ)
    → choice_among now renew_after present members ≡ At stamp → All (λ m. Contains taken m.stamp) members → 0 < times stamp taken
newest_taken now renew_after present [] taken stamp is all = cc is
newest_taken now renew_after present (newest ∷ older) taken stamp is all = go (present && is_older renew_after now newest) refl
  where
    first : 0 < times newest.stamp taken
    first = times_there newest.stamp taken (All-head (λ (m : Pin). Contains taken m.stamp) newest older all)

    go : (b : Bool) → (present && is_older renew_after now newest) ≡ b → 0 < times stamp taken
    go true due = let no : Present ≡ At stamp = rw due at is in cc no
    go false due = let same : At newest.stamp ≡ At stamp = rw due at is in let at : newest.stamp ≡ stamp = cc in subst (λ (s : ℕ). 0 < times s taken) at first

-- what is asked at a stamp that is gone, is asked at one that was taken
pub loss_port : (next : Next) (objects : Objects) (p : PortsValue) (c : CoreValue) (request : PortRequest) (reply : PortReply) → IsCore next objects c → CoreAsks c request
    → LosesOnlyUnheld request p reply → IfPortLoses reply (HasLost p (account_of_core c))
loss_port next objects p c (requests.Query query stamp) reply fits asking gone =
    port_so (times stamp p.database.holds ≡ 0) (HasLost p (account_of_core c))
    (λ none. record {
      stamp = stamp;
      had = let some = newest_taken c.bounds.now c.renew_after c.pins.has_present c.pins.members c.taken stamp asking.1 fits.taken in omega (arith, some);
      lost = none;
    })
    reply gone
loss_port next objects p c request reply fits asking gone = port_so ⊥ (HasLost p (account_of_core c)) (λ no. absurd no) reply gone

-- a hit that holds no member loses nothing either
pub loss_counted : (P : Type 0) (members : List Pin) (did : PortOutcome) → IfDidLose did P → IfDidLose (counted members did) P
loss_counted P members (dids.Hit reach) lost = go (holds_any reach members)
  where
    go : (b : Bool) → IfDidLose (if b then dids.Hit reach else dids.Miss) P
    go true = tt
    go false = tt
loss_counted P members did lost = lost

-- ---- the ends of a transaction

-- all that was taken is given back; a hold is left, if one was there
pub fair_ended : {A : Type 0} → (old new : PortsValue) (c : CoreValue) (stamps : List ℕ) (given : Result A UnknownPin) → GiveBackCountsUsers → GiveBackTransition stamps old new given
    → stamps ≡ c.taken → (rest : List ℕ) → ((t : ℕ) → times t rest ≤ times t (stamp_if_any (left_pin c.pinning))) → TakesOnlyItsOwn old new (account_of_core c) (record { taken = []; own = rest })
fair_ended old new c stamps given law transition same rest fewer =
    fair_give_back old new stamps given law transition c.taken [] (stamp_if_any (left_pin c.pinning)) rest (λ t. rw same (omega arith)) fewer

pub loss_unpin : (p : PortsValue) (a : Account) (stamp : ℕ) (e : DbError) → IsUnpinRefused p.database stamp e → IfDidLose (dids.Refused e) (HasLost p a)
loss_unpin p a stamp e h = gone_so ⊥ (HasLost p a) (λ no. absurd no) e (gone_unpin p stamp e h)

-- a step that leaves the ports and the account
pub counts_itself : (p : PortsValue) (a : Account) (reply : Reply) → IfReplyLost reply (HasLost p a) → ActCounts p p a a reply
counts_itself p a reply loss = record { own_only = fair_itself p a; loss = loss }

-- what was taken stays, and nothing of its own is left
pub counts_unowned : (p : PortsValue) (c c' : CoreValue) (reply : Reply) → c'.taken ≡ c.taken → left_pin c'.pinning ≡ None → IfReplyLost reply (HasLost p (account_of_core c))
    → ActCounts p p (account_of_core c) (account_of_core c') reply
counts_unowned p c c' reply taken left loss = record {
  own_only = fair_same p p (account_of_core c) (account_of_core c') refl refl (λ t. rw left (omega arith)) (λ t. rw taken (omega arith));
  loss = loss;
}
