use Rattle.std.proofs.Common.{◌≡◌, ℕ, Option, Some, List, length, refl, ap, sym, subst, ◌∙◌, false, true≢false, arith}
use Rattle.txc_node.specs.declared.op.Op.TheVariants.{Insert}
use Rattle.txc_node.specs.declared.hit.HitValue.{HitValue}
use Rattle.txc_node.specs.declared.reply.Reply.{Reply}
use Rattle.txc_node.specs.declared.reply.Reply.TheVariants as replies
use Rattle.txc_node.specs.declared.record.Record.{Record}
use Rattle.txc_node.specs.Cache.{outcome}
use Rattle.txc_node.specs.Counts.{AreCountsOf}
use Rattle.txc_node.specs.Steps.{function_of}
use Rattle.txc_shared.specs.Histories.{next_record}
use Rattle.txc_shared.specs.Nodes.{start_of, NodeValue, LogValue, after_call, seeing, insertion_of}
use Rattle.txc_shared.specs.LockedNode.{record_in}
use Rattle.txc_shared.proofs.Alike.{counts_alike}
use Rattle.txc_shared.proofs.Nodes.{stepped, broke, may_insert, called}
use Rattle.txc_shared.proofs.stored_node.StoredNode.insert.Goals as goal

pub count_step-requires-clause-room : goal.count_step-requires-clause-room
count_step-requires-clause-room g c =
    let whole : c.self.inside.broken ≡ false = ap (λ (n : NodeValue). n.broken) c.self.view_is ∙ c.in_ok-check_whole.ensures.only_if in
    let all = (c.self.invariant.1 whole).all in
    let same = ap (λ (n : NodeValue). length n.records) c.self.view_is in
    let counted = c.in_ok-check_room.ensures.only_if.counted in
    omega (arith, all, same, counted)

pub invariant_of-self-then-not-append : goal.invariant_of-self-then-not-append
invariant_of-self-then-not-append g c =
    let e = c.args.entry in
    let rs = c.self.inside.log.records in
    let core = c.self.inside.core in
    let seen = c.longer.new.self.history in
    let held = c.nodes_go_on.ensures.sees g.A.App.next c.self.inside.seen.history seen (start_of c.self.inside.settings c.self.inside.from) rs core c.self.inside.broken c.longer.ensures.this c.self.invariant.0 in
    let right = c.true_entries_stay.ensures g.A.App.next c.args.front.now.history seen e c.longer.ensures.that c.requires.is_true in (
      broke g.A.App.next seen (start_of c.self.inside.settings c.self.inside.from) c.nodes_go_on.ensures.breaks rs c.append.new.self.records core c.insert.new.self c.self.inside.broken
          (Insert e) held (may_insert g.A.App.next seen core e c.known-known.ensures.ordered c.bytes-bytes.ensures.bound right)
          (ap (λ (l : LogValue). l.records) (c.if-not-append.ensures.unchanged refl)) c.in_ok-inserted.ensures.after,
      λ whole. absurd (true≢false whole),
    )

pub invariant_of-self-else-not-append : goal.invariant_of-self-else-not-append
invariant_of-self-else-not-append g c =
    let e = c.args.entry in
    let rs = c.self.inside.log.records in
    let core = c.self.inside.core in
    let seen = c.longer.new.self.history in
    let held = c.nodes_go_on.ensures.sees g.A.App.next c.self.inside.seen.history seen (start_of c.self.inside.settings c.self.inside.from) rs core c.self.inside.broken c.longer.ensures.this c.self.invariant.0 in
    let right = c.true_entries_stay.ensures g.A.App.next c.args.front.now.history seen e c.longer.ensures.that c.requires.is_true in
    let whole : c.self.inside.broken ≡ false = ap (λ (n : NodeValue). n.broken) c.self.view_is ∙ c.in_ok-check_whole.ensures.only_if in
    let done : Reply HitValue = replies.Inserted c.in_ok-inserted.inserted in
    let replied : done ≡ replies.Inserted (outcome core e) = ap replies.Inserted c.in_ok-inserted.ensures.answer in
    let record_is = c.answered-next.ensures.answered (next_record c.args.pass rs (Insert e) (replies.Inserted (outcome core e))) c.in_ok-prepared.ensures.awaits replied in
    let records = ap (λ (l : LogValue). l.records) (c.if-not-append.ensures.after refl) in
    let next = record_in c.answered-next.result in
    let of : ◌≡◌ {A = Option ℕ} (Some c.function-function.result) (function_of next.op) = ap Some c.function-function.ensures.answer ∙ sym (ap (λ (r : Record). function_of r.op) record_is) in
    let alike = counts_alike done next.reply (replied ∙ sym (ap (λ (r : Record). r.reply) record_is)) in (
      stepped g.A.App.next seen (start_of c.self.inside.settings c.self.inside.from) c.nodes_go_on.ensures.step rs c.append.new.self.records core c.insert.new.self c.self.inside.broken
          c.args.pass (Insert e) next held whole (may_insert g.A.App.next seen core e c.known-known.ensures.ordered c.bytes-bytes.ensures.bound right)
          record_is records c.in_ok-inserted.ensures.after,
      λ kept. subst (λ (l : List Record). AreCountsOf l c.count_step.new.counts) (sym records) (c.count_step.ensures rs next (c.self.invariant.1 kept) of alike),
    )

pub returns-clause-after : goal.returns-clause-after
returns-clause-after g c =
    let e = c.args.entry in
    let inside = c.self.inside in
    let n : NodeValue = record { settings = inside.settings; from = inside.from; name = inside.log.name; records = inside.log.records; passes = inside.log.passes; cache = inside.core; seen = inside.seen; broken = inside.broken } in
    let record_is = c.answered-next.ensures.answered (next_record c.args.pass n.records (Insert e) (replies.Inserted (outcome n.cache e))) c.in_ok-prepared.ensures.awaits (ap replies.Inserted c.in_ok-inserted.ensures.answer) in
    called n c.longer.new.self c.args.pass (Insert e) (record_in c.answered-next.result) c.append.new.self c.insert.new.self record_is (c.if-not-append.ensures.after refl) c.in_ok-inserted.ensures.after
    ∙ ap (λ (m : NodeValue). after_call (seeing m c.longer.new.self) c.args.pass (Insert e)) c.self.view_is

pub returns-clause-answer : goal.returns-clause-answer
returns-clause-answer g c =
    c.of-insertion.ensures ∙ (ap insertion_of c.in_ok-inserted.ensures.answer ∙ ap (λ (n : NodeValue). insertion_of (outcome n.cache c.args.entry)) c.self.view_is)

pub append-requires-clause-by : goal.append-requires-clause-by
append-requires-clause-by g c =
    ap (λ (r : Record). r.pass) (c.answered-next.ensures.answered (next_record c.args.pass c.self.inside.log.records (Insert c.args.entry) (replies.Inserted (outcome c.self.inside.core c.args.entry)))
    c.in_ok-prepared.ensures.awaits (ap replies.Inserted c.in_ok-inserted.ensures.answer))

pub append-requires-clause-suits : goal.append-requires-clause-suits
append-requires-clause-suits g c = c.answered-next.ensures.suits c.self.inside.log.name c.in_ok-prepared.ensures.suits
