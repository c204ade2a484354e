use Rattle.std.proofs.Common.{◌≡◌, ℕ, Option, Some, List, length, refl, ap, sym, subst, ◌∙◌, false, true≢false, rules, arith}
use Rattle.std.specs.Option.{option_map}
use Rattle.txc_node.specs.declared.hit.HitValue.{HitValue}
use Rattle.txc_node.specs.declared.record.Record.{Record}
use Rattle.txc_node.specs.declared.reply.Reply.{Reply}
use Rattle.txc_node.specs.declared.op.Op.TheVariants.{Lookup}
use Rattle.txc_node.specs.Cache.{lookup_answer, after_lookup}
use Rattle.txc_node.specs.Counts.{AreCountsOf}
use Rattle.txc_node.specs.Steps.{found_reply, function_of}
use Rattle.txc_shared.specs.Histories.{next_record}
use Rattle.txc_shared.specs.Nodes.{start_of, NodeValue, LogValue, after_call}
use Rattle.txc_shared.specs.LockedNode.{record_in, DoCountAlike}
use Rattle.txc_shared.proofs.Nodes.{stepped, broke, may_look_up, found_true, called}
use Rattle.txc_shared.proofs.stored_node.StoredNode.lookup.Goals as goal

pub count_step-requires-clause-room : goal.count_step-requires-clause-room
count_step-requires-clause-room g c =
    let whole : c.self.inside.broken ≡ false = ap (λ (n : NodeValue). n.broken) c.self.view_is ∙ c.in_ok-check_whole.ensures.only_if in
    let all = (c.self.invariant.1 whole).all in
    let same = ap (λ (n : NodeValue). length n.records) c.self.view_is in
    let counted = c.in_ok-check_room.ensures.only_if.counted in
    omega (arith, all, same, counted)

pub invariant_of-self : goal.invariant_of-self
invariant_of-self g c =
    let next : c.mark_used.new.self ≡ after_lookup c.self.inside.core c.args.key.now c.args.lo c.args.hi = search rules in (
      broke g.A.App.next c.self.inside.seen.history (start_of c.self.inside.settings c.self.inside.from) c.nodes_go_on.ensures.breaks c.self.inside.log.records c.append.new.self.records c.self.inside.core c.mark_used.new.self c.self.inside.broken
          (Lookup c.args.key.now c.args.lo c.args.hi) c.self.invariant.0 (may_look_up g.A.App.next c.self.inside.seen.history c.self.inside.core c.args.key.now c.args.lo c.args.hi c.in-Ok.ensures.only_if)
          (ap (λ (l : LogValue). l.records) (c.if-not-append.ensures.unchanged refl)) next,
      λ whole. absurd (true≢false whole),
    )

pub invariant_of-self-else-not-append : goal.invariant_of-self-else-not-append
invariant_of-self-else-not-append g c =
    let rs = c.self.inside.log.records in
    let key = c.args.key.now in
    let op = Lookup key c.args.lo c.args.hi in
    let next : c.mark_used.new.self ≡ after_lookup c.self.inside.core key c.args.lo c.args.hi = search rules in
    let whole : c.self.inside.broken ≡ false = ap (λ (n : NodeValue). n.broken) c.self.view_is ∙ c.in_ok-check_whole.ensures.only_if in
    let shown = lookup_answer c.self.inside.core key c.args.lo c.args.hi in
    let answer : option_map (λ f. f.answer) c.in_ok-found.found ≡ shown =
    c.in_ok-found.ensures.answer ∙ (c.hit.ensures ∙ (λ i. lookup_answer c.self.inside.core key (c.in-Ok.ensures.stamps.0 i) (c.in-Ok.ensures.stamps.1 i))) in
    let reply = ap found_reply answer in
    let record_is = c.in_ok-next.ensures.answered (next_record c.args.pass rs op (found_reply shown)) c.in_ok-prepared.ensures.awaits reply in
    let records = ap (λ (l : LogValue). l.records) (c.if-not-append.ensures.after refl) in
    let step = record_in c.in_ok-next.next in
    let of : ◌≡◌ {A = Option ℕ} (Some c.function.result) (function_of step.op) = ap Some c.function.ensures.answer ∙ sym (ap (λ (r : Record). function_of r.op) record_is) in
    let alike : DoCountAlike c.reply_without_copies-reply.result step.reply =
    subst (λ (r : Reply HitValue). DoCountAlike c.reply_without_copies-reply.result r) (reply ∙ sym (ap (λ (r : Record). r.reply) record_is)) c.reply_without_copies-reply.ensures in (
      stepped g.A.App.next c.self.inside.seen.history (start_of c.self.inside.settings c.self.inside.from) c.nodes_go_on.ensures.step rs c.append.new.self.records c.self.inside.core c.mark_used.new.self c.self.inside.broken
          c.args.pass op step c.self.invariant.0 whole (may_look_up g.A.App.next c.self.inside.seen.history c.self.inside.core key c.args.lo c.args.hi c.in-Ok.ensures.only_if)
          record_is records next,
      λ kept. subst (λ (l : List Record). AreCountsOf l c.count_step.new.counts) (sym records) (c.count_step.ensures rs step (c.self.invariant.1 kept) of alike),
    )

pub append-requires-clause-by : goal.append-requires-clause-by
append-requires-clause-by g c =
    let rs = c.self.inside.log.records in
    let key = c.args.key.now in
    let op = Lookup key c.args.lo c.args.hi in
    let shown = lookup_answer c.self.inside.core key c.args.lo c.args.hi in
    let answer : option_map (λ f. f.answer) c.in_ok-found.found ≡ shown =
    c.in_ok-found.ensures.answer ∙ (c.hit.ensures ∙ (λ i. lookup_answer c.self.inside.core key (c.in-Ok.ensures.stamps.0 i) (c.in-Ok.ensures.stamps.1 i))) in
    let reply = ap found_reply answer in
    ap (λ (r : Record). r.pass) (c.in_ok-next.ensures.answered (next_record c.args.pass rs op (found_reply shown)) c.in_ok-prepared.ensures.awaits reply)

pub append-requires-clause-suits : goal.append-requires-clause-suits
append-requires-clause-suits g c = c.in_ok-next.ensures.suits c.self.inside.log.name c.in_ok-prepared.ensures.suits

pub returns-clause-after : goal.returns-clause-after
returns-clause-after g c =
    let inside = c.self.inside in
    let rs = inside.log.records in
    let key = c.args.key.now in
    let n : NodeValue = record { settings = inside.settings; from = inside.from; name = inside.log.name; records = inside.log.records; passes = inside.log.passes; cache = inside.core; seen = inside.seen; broken = inside.broken } in
    let op = Lookup key c.args.lo c.args.hi in
    let next : c.mark_used.new.self ≡ after_lookup inside.core key c.args.lo c.args.hi = search rules in
    let shown = lookup_answer c.self.inside.core key c.args.lo c.args.hi in
    let answer : option_map (λ f. f.answer) c.in_ok-found.found ≡ shown =
    c.in_ok-found.ensures.answer ∙ (c.hit.ensures ∙ (λ i. lookup_answer c.self.inside.core key (c.in-Ok.ensures.stamps.0 i) (c.in-Ok.ensures.stamps.1 i))) in
    let reply = ap found_reply answer in
    let record_is = c.in_ok-next.ensures.answered (next_record c.args.pass rs op (found_reply shown)) c.in_ok-prepared.ensures.awaits reply in
    called n inside.seen c.args.pass op (record_in c.in_ok-next.next) c.append.new.self c.mark_used.new.self record_is (c.if-not-append.ensures.after refl) next
    ∙ ap (λ (m : NodeValue). after_call m c.args.pass op) c.self.view_is

pub returns-clause-right : goal.returns-clause-right
returns-clause-right g c =
    let core = c.self.inside.core in
    let key = c.args.key.now in
    let answer : option_map (λ f. f.answer) c.in_ok-found.found ≡ lookup_answer core key c.args.lo c.args.hi =
    c.in_ok-found.ensures.answer ∙ (c.hit.ensures ∙ (λ i. lookup_answer core key (c.in-Ok.ensures.stamps.0 i) (c.in-Ok.ensures.stamps.1 i))) in
    found_true c.answers_are_true.ensures g.A.App.next core key c.args.lo c.args.hi c.self.inside.seen c.in_ok-found.found c.self.invariant.0.is_true answer c.in_ok-found.ensures.front
