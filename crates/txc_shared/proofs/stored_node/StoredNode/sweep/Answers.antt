use Rattle.std.proofs.Common.{◌≡◌, ℕ, Option, None, List, length, refl, ap, sym, subst, ◌∙◌, false, true≢false, arith}
use Rattle.txc_node.specs.declared.op.Op.TheVariants.{Sweep}
use Rattle.txc_node.specs.declared.record.Record.{Record}
use Rattle.txc_node.specs.Cache.{swept_count}
use Rattle.txc_node.specs.Counts.{AreCountsOf}
use Rattle.txc_node.specs.Steps.{function_of}
use Rattle.txc_node.specs.declared.hit.HitValue.{HitValue}
use Rattle.txc_node.specs.declared.reply.Reply.{Reply}
use Rattle.txc_node.specs.declared.reply.Reply.TheVariants as replies
use Rattle.txc_shared.specs.Histories.{next_record}
use Rattle.txc_shared.specs.Nodes.{start_of, NodeValue, LogValue, after_call}
use Rattle.txc_shared.specs.LockedNode.{record_in}
use Rattle.txc_shared.proofs.Alike.{counts_alike}
use Rattle.txc_shared.proofs.Nodes.{stepped, broke, may_sweep, called}
use Rattle.txc_shared.proofs.stored_node.StoredNode.sweep.Goals as goal

pub count_step-requires-clause-room : goal.count_step-requires-clause-room
count_step-requires-clause-room g c =
    let whole : c.self.inside.broken ≡ false = ap (λ (n : NodeValue). n.broken) c.self.view_is ∙ c.in_ok-check_whole.ensures.only_if in
    let all = (c.self.invariant.1 whole).all in
    let same = ap (λ (n : NodeValue). length n.records) c.self.view_is in
    let counted = c.in_ok-check_room.ensures.only_if.counted in
    omega (arith, all, same, counted)

pub invariant_of-self : goal.invariant_of-self
invariant_of-self g c = (
  broke g.A.App.next c.self.inside.seen.history (start_of c.self.inside.settings c.self.inside.from) c.nodes_go_on.ensures.breaks c.self.inside.log.records c.append.new.self.records c.self.inside.core c.sweep-dropped.new.self c.self.inside.broken
      (Sweep c.args.horizon) c.self.invariant.0 (may_sweep g.A.App.next c.self.inside.seen.history c.self.inside.core c.args.horizon)
      (ap (λ (l : LogValue). l.records) (c.if-not-append.ensures.unchanged refl)) c.sweep-dropped.ensures.after,
  λ whole. absurd (true≢false whole),
)

pub invariant_of-self-else-not-append : goal.invariant_of-self-else-not-append
invariant_of-self-else-not-append g c =
    let rs = c.self.inside.log.records in
    let op = Sweep c.args.horizon in
    let whole : c.self.inside.broken ≡ false = ap (λ (n : NodeValue). n.broken) c.self.view_is ∙ c.in_ok-check_whole.ensures.only_if in
    let done : Reply HitValue = replies.Swept c.sweep-dropped.result in
    let replied : done ≡ replies.Swept (swept_count c.self.inside.core c.args.horizon) = ap replies.Swept c.sweep-dropped.ensures.answer in
    let record_is = c.answered-next.ensures.answered (next_record c.args.pass rs op (replies.Swept (swept_count c.self.inside.core c.args.horizon))) c.in_ok-prepared.ensures.awaits replied in
    let records = ap (λ (l : LogValue). l.records) (c.if-not-append.ensures.after refl) in
    let next = record_in c.answered-next.result in
    let of : ◌≡◌ {A = Option ℕ} None (function_of next.op) = sym (ap (λ (r : Record). function_of r.op) record_is) in
    let alike = counts_alike done next.reply (replied ∙ sym (ap (λ (r : Record). r.reply) record_is)) in (
      stepped g.A.App.next c.self.inside.seen.history (start_of c.self.inside.settings c.self.inside.from) c.nodes_go_on.ensures.step rs c.append.new.self.records c.self.inside.core c.sweep-dropped.new.self c.self.inside.broken
          c.args.pass op next c.self.invariant.0 whole (may_sweep g.A.App.next c.self.inside.seen.history c.self.inside.core c.args.horizon)
          record_is records c.sweep-dropped.ensures.after,
      λ kept. subst (λ (l : List Record). AreCountsOf l c.count_step.new.counts) (sym records) (c.count_step.ensures rs next (c.self.invariant.1 kept) of alike),
    )

pub append-requires-clause-by : goal.append-requires-clause-by
append-requires-clause-by g c =
    ap (λ (r : Record). r.pass) (c.answered-next.ensures.answered (next_record c.args.pass c.self.inside.log.records (Sweep c.args.horizon) (replies.Swept (swept_count c.self.inside.core c.args.horizon)))
    c.in_ok-prepared.ensures.awaits (ap replies.Swept c.sweep-dropped.ensures.answer))

pub append-requires-clause-suits : goal.append-requires-clause-suits
append-requires-clause-suits g c = c.answered-next.ensures.suits c.self.inside.log.name c.in_ok-prepared.ensures.suits

pub returns-clause-after : goal.returns-clause-after
returns-clause-after g c =
    let inside = c.self.inside in
    let n : NodeValue = record { settings = inside.settings; from = inside.from; name = inside.log.name; records = inside.log.records; passes = inside.log.passes; cache = inside.core; seen = inside.seen; broken = inside.broken } in
    let op = Sweep c.args.horizon in
    let record_is = c.answered-next.ensures.answered (next_record c.args.pass n.records op (replies.Swept (swept_count n.cache c.args.horizon))) c.in_ok-prepared.ensures.awaits (ap replies.Swept c.sweep-dropped.ensures.answer) in
    called n inside.seen c.args.pass op (record_in c.answered-next.result) c.append.new.self c.sweep-dropped.new.self record_is (c.if-not-append.ensures.after refl) c.sweep-dropped.ensures.after
    ∙ ap (λ (m : NodeValue). after_call m c.args.pass op) c.self.view_is
