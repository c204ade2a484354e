use Rattle.std.specs.Prelude.{IfSome}
use Rattle.txc_tags.specs.declared.tag.Tag.{Tag}
use Rattle.std.proofs.Common.{◌≡◌, ◌⊎◌, inl, inr, ◌+◌, ℕ, Option, None, List, length, refl, ap, sym, subst, ◌∙◌, false, true≢false, arith}
use Rattle.txc_db.specs.History.{tags_at}
use Rattle.txc_node.specs.declared.op.Op.{Op}
use Rattle.txc_node.specs.declared.op.Op.TheVariants.{Event}
use Rattle.txc_node.specs.declared.record.Record.{Record}
use Rattle.txc_node.specs.declared.hit.HitValue.{HitValue}
use Rattle.txc_node.specs.declared.reply.Reply.{Reply}
use Rattle.txc_node.specs.declared.reply.Reply.TheVariants as replies
use Rattle.txc_node.specs.Cache.{closed_count}
use Rattle.txc_node.specs.Counts.{AreCountsOf}
use Rattle.txc_node.specs.Steps.{function_of}
use Rattle.txc_shared.specs.Histories.{next_record}
use Rattle.txc_shared.specs.Nodes.{start_of, NodeValue, LogValue, HasTags, after_call, seeing, next_event}
use Rattle.txc_shared.specs.LockedNode.{record_in}
use Rattle.txc_shared.proofs.Alike.{counts_alike}
use Rattle.txc_shared.proofs.Nodes.{stepped, broke, may_take, tags_in_longer, called}
use Rattle.txc_shared.proofs.stored_node.StoredNode.advance_by.Goals as goal

pub count_step-requires-clause-room : goal.count_step-requires-clause-room
count_step-requires-clause-room g c =
    let whole : c.self.inside.broken ≡ false = ap (λ (n : NodeValue). n.broken) c.self.view_is ∙ c.in_ok-check_whole.ensures.only_if in
    let all = (c.self.invariant.1 whole).all in
    let same = ap (λ (n : NodeValue). length n.records) c.self.view_is in
    let counted = c.in_ok-check_room.ensures.only_if.counted in
    omega (arith, all, same, counted)

pub invariant_of-self-then-not-append : goal.invariant_of-self-then-not-append
invariant_of-self-then-not-append g c =
    let core = c.self.inside.core in
    let stamp = c.after-stamp.result in
    let tags = c.in-Some.tags in
    let seen = c.longer-2.new.self.history in
    let number = c.number.result + 1 in
    let has : HasTags seen number tags = elim (subst (λ (o : Option (List Tag)). IfSome o (λ ts. HasTags c.args.self.now.seen.history number ts ⊎ HasTags c.args.front.now.history number ts)) c.in-Some.is c.in_ok-known.ensures.tags) [
      | inl own ↦ tags_in_longer c.states_stay.ensures.tags c.self.inside.seen.history seen number tags c.longer-2.ensures.this (subst (λ (n : NodeValue). HasTags n.seen.history number tags) (sym c.self.view_is) own)
      | inr other ↦ tags_in_longer c.states_stay.ensures.tags c.args.front.now.history seen number tags c.longer-2.ensures.that other
    ] in
    let here : HasTags seen stamp tags = subst (λ k. HasTags seen k tags) (sym c.after-stamp.ensures) has in
    let held = c.nodes_go_on.ensures.sees g.A.App.next c.self.inside.seen.history seen (start_of c.self.inside.settings c.self.inside.from) c.self.inside.log.records core c.self.inside.broken c.longer-2.ensures.this c.self.invariant.0 in (
      broke g.A.App.next seen (start_of c.self.inside.settings c.self.inside.from) c.nodes_go_on.ensures.breaks c.self.inside.log.records c.append.new.self.records core c.event.new.self c.self.inside.broken
          (Event stamp tags) held (may_take g.A.App.next seen core stamp tags (c.in-Ok.ensures.only_if.0 refl) here.0 here.1)
          (ap (λ (l : LogValue). l.records) (c.if-not-append.ensures.unchanged refl)) c.in-Ok.ensures.after,
      λ whole. absurd (true≢false whole),
    )

pub invariant_of-self-else-not-append : goal.invariant_of-self-else-not-append
invariant_of-self-else-not-append g c =
    let core = c.self.inside.core in
    let rs = c.self.inside.log.records in
    let stamp = c.after-stamp.result in
    let tags = c.in-Some.tags in
    let seen = c.longer-2.new.self.history in
    let number = c.number.result + 1 in
    let has : HasTags seen number tags = elim (subst (λ (o : Option (List Tag)). IfSome o (λ ts. HasTags c.args.self.now.seen.history number ts ⊎ HasTags c.args.front.now.history number ts)) c.in-Some.is c.in_ok-known.ensures.tags) [
      | inl own ↦ tags_in_longer c.states_stay.ensures.tags c.self.inside.seen.history seen number tags c.longer-2.ensures.this (subst (λ (n : NodeValue). HasTags n.seen.history number tags) (sym c.self.view_is) own)
      | inr other ↦ tags_in_longer c.states_stay.ensures.tags c.args.front.now.history seen number tags c.longer-2.ensures.that other
    ] in
    let here : HasTags seen stamp tags = subst (λ k. HasTags seen k tags) (sym c.after-stamp.ensures) has in
    let held = c.nodes_go_on.ensures.sees g.A.App.next c.self.inside.seen.history seen (start_of c.self.inside.settings c.self.inside.from) rs core c.self.inside.broken c.longer-2.ensures.this c.self.invariant.0 in
    let whole : c.self.inside.broken ≡ false = ap (λ (n : NodeValue). n.broken) c.self.view_is ∙ c.in_ok-check_whole.ensures.only_if in
    let done : Reply HitValue = replies.Closed c.in-Ok.closed in
    let replied : done ≡ replies.Closed (closed_count core stamp tags) = ap replies.Closed c.in-Ok.ensures.answer in
    let record_is = c.answered-next.ensures.answered (next_record c.args.pass rs (Event stamp tags) (replies.Closed (closed_count core stamp tags))) c.in_ok-prepared.ensures.awaits replied in
    let records = ap (λ (l : LogValue). l.records) (c.if-not-append.ensures.after refl) in
    let next = record_in c.answered-next.result in
    let of : ◌≡◌ {A = Option ℕ} None (function_of next.op) = sym (ap (λ (r : Record). function_of r.op) record_is) in
    let alike = counts_alike done next.reply (replied ∙ sym (ap (λ (r : Record). r.reply) record_is)) in (
      stepped g.A.App.next seen (start_of c.self.inside.settings c.self.inside.from) c.nodes_go_on.ensures.step rs c.append.new.self.records core c.event.new.self c.self.inside.broken
          c.args.pass (Event stamp tags) next held whole (may_take g.A.App.next seen core stamp tags (c.in-Ok.ensures.only_if.0 refl) here.0 here.1)
          record_is records c.in-Ok.ensures.after,
      λ kept. subst (λ (l : List Record). AreCountsOf l c.count_step.new.counts) (sym records) (c.count_step.ensures rs next (c.self.invariant.1 kept) of alike),
    )

pub returns-clause-after : goal.returns-clause-after
returns-clause-after g c =
    let inside = c.self.inside in
    let n : NodeValue = record { settings = inside.settings; from = inside.from; name = inside.log.name; records = inside.log.records; passes = inside.log.passes; cache = inside.core; seen = inside.seen; broken = inside.broken } in
    let stamp = c.after-stamp.result in
    let tags = c.in-Some.tags in
    let seen = c.longer-2.new.self.history in
    let number = c.number.result + 1 in
    let has : HasTags seen number tags = elim (subst (λ (o : Option (List Tag)). IfSome o (λ ts. HasTags c.args.self.now.seen.history number ts ⊎ HasTags c.args.front.now.history number ts)) c.in-Some.is c.in_ok-known.ensures.tags) [
      | inl own ↦ tags_in_longer c.states_stay.ensures.tags inside.seen.history seen number tags c.longer-2.ensures.this (subst (λ (m : NodeValue). HasTags m.seen.history number tags) (sym c.self.view_is) own)
      | inr other ↦ tags_in_longer c.states_stay.ensures.tags c.args.front.now.history seen number tags c.longer-2.ensures.that other
    ] in
    let here : HasTags seen stamp tags = subst (λ k. HasTags seen k tags) (sym c.after-stamp.ensures) has in
    let stamp_is : stamp ≡ c.args.self.now.cache.processed + 1 = c.in-Ok.ensures.only_if.0 refl ∙ ap (λ (m : NodeValue). m.cache.processed + 1) c.self.view_is in
    let op_is : ◌≡◌ {A = Op} (Event stamp tags) (next_event (seeing c.args.self.now c.longer-2.new.self)) = λ i. Event (stamp_is i) ((here.1 ∙ ap (tags_at seen) stamp_is) i) in
    let record_is = c.answered-next.ensures.answered (next_record c.args.pass n.records (Event stamp tags) (replies.Closed (closed_count n.cache stamp tags))) c.in_ok-prepared.ensures.awaits (ap replies.Closed c.in-Ok.ensures.answer) in (
      called n c.longer-2.new.self c.args.pass (Event stamp tags) (record_in c.answered-next.result) c.append.new.self c.event.new.self record_is (c.if-not-append.ensures.after refl) c.in-Ok.ensures.after
          ∙ (λ i. after_call (seeing (c.self.view_is i) c.longer-2.new.self) c.args.pass (op_is i)),
      stamp_is,
      here.0,
      c.in-Ok.ensures.answer ∙ (λ i. closed_count (c.self.view_is i).cache stamp (here.1 i)),
    )

pub append-requires-clause-by : goal.append-requires-clause-by
append-requires-clause-by g c =
    let stamp = c.after-stamp.result in
    let tags = c.in-Some.tags in
    ap (λ (r : Record). r.pass) (c.answered-next.ensures.answered (next_record c.args.pass c.self.inside.log.records (Event stamp tags) (replies.Closed (closed_count c.self.inside.core stamp tags)))
    c.in_ok-prepared.ensures.awaits (ap replies.Closed c.in-Ok.ensures.answer))

pub append-requires-clause-suits : goal.append-requires-clause-suits
append-requires-clause-suits g c = c.answered-next.ensures.suits c.self.inside.log.name c.in_ok-prepared.ensures.suits
