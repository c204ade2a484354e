use Rattle.std.proofs.Common.{◌≡◌, ◌<◌, List, Option, None, ap, length, subst, sym, ◌∙◌}
use Rattle.std.specs.Prelude.{IfSome, slice_set}
use Rattle.std.specs.Result.{result_unwrap_or}
use Rattle.txc_app.specs.Claims.{IsTrueIn, entry_shown}
use Rattle.txc_node.specs.declared.hit.HitValue.{HitValue}
use Rattle.txc_db.specs.declared.answered.Answered.{Answered}
use Rattle.txc_txn_ports.specs.declared.request.PortRequest.{PortRequest}
use Rattle.txc_txn_ports.specs.declared.reply.PortReply.TheVariants as replies
use Rattle.txc_txn_ports.specs.PortRequests.{IsReplyTo, MayAsk}
use Rattle.txc_txn_ports.specs.Exchanges.{IsExchange}
use Rattle.txc_shared.specs.Passes.{PassValue}
use Rattle.txc_shared.proofs.Hits.{found_so}
use Rattle.txc_txn_client.specs.Ports.{HaveGrown, IsCallAt, LookupLeaves, PassesAfter}
use Rattle.txc_txn_client.proofs.Called.{called_at, looked_up, right_hit, row_of_hit}
use Rattle.txc_txn_client.proofs.Grown.{have_grown_self, one_has_grown, settings_stay}
use Rattle.txc_txn_client.proofs.ports.Ports.ask.Goals as goal

pub returns-in-Pin-clause-passes : goal.returns-in-Pin-clause-passes
returns-in-Pin-clause-passes g c = have_grown_self c.args.self.now

pub returns-in-AddPin-clause-passes : goal.returns-in-AddPin-clause-passes
returns-in-AddPin-clause-passes g c = have_grown_self c.args.self.now

pub returns-in-Unpin-clause-passes : goal.returns-in-Unpin-clause-passes
returns-in-Unpin-clause-passes g c = have_grown_self c.args.self.now

pub returns-in-Query-clause-passes : goal.returns-in-Query-clause-passes
returns-in-Query-clause-passes g c = have_grown_self c.args.self.now

-- ---- a lookup

pub invariant_of-self : goal.invariant_of-self
invariant_of-self g c = (
  settings_stay c.self-in-Lookup.inside.passes.items c.in-Lookup.node c.index_mut-pass.result.now c.lookup-found.new.self c.index_mut-pass.ensures.value (ap (λ (w : PassValue). w.settings) c.lookup-found.ensures.longer.is)
      ∙ c.self-in-Lookup.invariant.0,
  c.self-in-Lookup.invariant.1,
)

pub returns-in-Lookup-clause-answer : goal.returns-in-Lookup-clause-answer
returns-in-Lookup-clause-answer g c =
    let P = λ (hit : Answered HitValue). IsTrueIn g.A.App.next hit.front.history (entry_shown c.in-Lookup.key hit.answer) in
    subst (λ (r : PortRequest). IsReplyTo g.A.App.next r (replies.Lookup c.unwrap_or.result)) (sym c.in-Lookup.is)
    (right_hit g.A.App.next c.in-Lookup.node c.in-Lookup.key c.in-Lookup.lo c.in-Lookup.hi c.unwrap_or.result
    (subst (λ (o : Option (Answered HitValue)). IfSome o P) (sym c.unwrap_or.ensures) (found_so P c.lookup-found.result c.lookup-found.ensures.right)))

pub returns-in-Lookup-clause-row : goal.returns-in-Lookup-clause-row
returns-in-Lookup-clause-row g c =
    let P = λ (hit : Answered HitValue). hit.front.events ≡ g.J.Naming.database_history in
    row_of_hit g.J.Naming.database_history c.unwrap_or.result
    (subst (λ (o : Option (Answered HitValue)). IfSome o P) (sym c.unwrap_or.ensures) (found_so P c.lookup-found.result c.lookup-found.ensures.front))

pub returns-in-Lookup-clause-passes : goal.returns-in-Lookup-clause-passes
returns-in-Lookup-clause-passes g c =
    subst (λ (v : List PassValue). HaveGrown v (slice_set c.self-in-Lookup.inside.passes.items c.in-Lookup.node c.lookup-found.new.self)) c.self-in-Lookup.view_is
    (one_has_grown c.self-in-Lookup.inside.passes.items c.in-Lookup.node c.index_mut-pass.result.now c.lookup-found.new.self c.index_mut-pass.ensures.value c.lookup-found.ensures.longer)

pub returns-in-Lookup-clause-left : goal.returns-in-Lookup-clause-left
returns-in-Lookup-clause-left g c =
    let histories = g.J.Naming.node_histories in
    let old = c.index_mut-pass.result.now in
    let new = c.lookup-found.new.self in
    let made = c.lookup-found.ensures in
    let at = c.in-Lookup.node in
    let passes = c.self-in-Lookup.inside.passes.items in
    let leaves = λ (o : Option (Answered HitValue)). LookupLeaves histories c.in-Lookup.key c.in-Lookup.lo c.in-Lookup.hi o in
    let may : at < length c.args.self.now = subst (MayAsk g.A.App.next g.J.Naming.database_history (length c.args.self.now) c.args.seen.now.history) c.in-Lookup.is c.requires.may in
    let within : at < length passes = subst (λ (v : List PassValue). at < length v) (sym c.self-in-Lookup.view_is) may in
    let found = result_unwrap_or c.lookup-found.result None in
    let called = subst (λ (v : List PassValue). IsCallAt at (leaves found) v (slice_set passes at new)) c.self-in-Lookup.view_is
    (called_at passes at (leaves found) old new within c.index_mut-pass.ensures.value made.longer
    (looked_up histories old new c.in-Lookup.key c.in-Lookup.lo c.in-Lookup.hi c.lookup-found.result made.made made.left made.refused)) in
    subst (λ (r : PortRequest). IsExchange (λ x. PassesAfter histories c.args.self.now x (slice_set passes at new)) r (replies.Lookup c.unwrap_or.result)) (sym c.in-Lookup.is)
    (subst (λ (o : Option (Answered HitValue)). IsCallAt at (leaves o) c.args.self.now (slice_set passes at new)) (sym c.unwrap_or.ensures) called)
