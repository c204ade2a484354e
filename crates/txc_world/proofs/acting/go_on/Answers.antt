use Rattle.std.proofs.Common.{◌≡◌, ◌∙◌, length, sym, subst, rules}
use Rattle.txc_db.specs.FrontsAndFeeds.{FrontValue}
use Rattle.txc_txn_ports.specs.PortRequests.{MayAsk}
use Rattle.txc_txn_ports.specs.Fronts.{front_of_reply}
use Rattle.txc_txn_ports.specs.declared.turn.Turn.TheVariants.{Ask}
use Rattle.txc_txn.proofs.Offered.{adds_next, adds_weaker, is_answered, is_right, may_ask}
use Rattle.txc_world.proofs.AskLemmas.{still_asked, told_history}
use Rattle.txc_world.proofs.Turning.{asked_at, counted_in, seen_next}
use Rattle.txc_world.specs.PortRequests.{PortRequestTransition}
use Rattle.txc_world.specs.Parts.{IsPartOf}
use Rattle.txc_world.specs.Ports.{whole_of}
use Rattle.txc_world.specs.Holdings.{account_of_core, HasLost}
use Rattle.txc_world.proofs.Fairness.{fair_gone_on, loss_counted, loss_port}
use Rattle.txc_world.proofs.Losing.{drops_next, reply_lost, told_lost}
use Rattle.txc_world.proofs.acting.go_on.Goals as goal

pub ask-reply-requires : goal.ask-reply-requires
ask-reply-requires g c =
    let whole = whole_of c.args.ports.now in
    let seen : c.seen.result.now ≡ c.args.txn.now.core.seen = search rules in
    let adds = adds_weaker (IsPartOf whole) (λ front. front.events ≡ whole.events) (λ front part. part.row) (Ask c.args.request) c.requires.adds in
    record {
      own = c.requires.own;
      seen = subst (IsPartOf whole) (sym seen) c.requires.seen;
      may = subst (λ (f : FrontValue). MayAsk g.A.App.next whole.events (length c.args.ports.now.nodes) f.history c.args.request) (sym seen)
          (may_ask g.A.App.next whole.events c.args.txn.now c.is_kept.ensures (length c.args.ports.now.nodes) c.requires.nodes c.args.request c.requires.asks adds);
      shown = c.requires.adds;
    }

pub next-turn-requires : goal.next-turn-requires
next-turn-requires g c =
    let asked = still_asked g.A.App.next c.args.pass _ c.args.ports.now c.ask-reply.new.self c.args.request c.ask-reply.result c.told-did.result.1 c.told-did.ensures.same c.ask-reply.ensures in
    record {
      reply = is_answered g.A.App.next c.args.txn.now.core c.args.request c.told-did.result.1 c.requires.asks asked.to;
      row = λ front is. asked.row front is ∙ sym c.requires.seen.row;
      right = is_right g.A.App.next c.args.txn.now c.args.request c.told-did.result.1 c.requires.asks asked.to;
    }

pub returns-clause-asks : goal.returns-clause-asks
returns-clause-asks g c =
    let asked = still_asked g.A.App.next c.args.pass _ c.args.ports.now c.ask-reply.new.self c.args.request c.ask-reply.result c.told-did.result.1 c.told-did.ensures.same c.ask-reply.ensures in
    let seen : c.seen.result.now ≡ c.args.txn.now.core.seen = search rules in
    record {
      reply = c.told-did.result.1;
      port = c.told-did.result.0;
      right = asked.to;
      tells = c.told-did.ensures.tells;
      transition = subst (λ (f : FrontValue). PortRequestTransition c.args.pass f c.args.request c.args.ports.now c.ask-reply.new.self c.told-did.result.1) seen asked.transition;
      counts = search rules;
      went = c.next-turn.ensures;
    }

pub returns-clause-seen : goal.returns-clause-seen
returns-clause-seen g c =
    let asked = still_asked g.A.App.next c.args.pass _ c.args.ports.now c.ask-reply.new.self c.args.request c.ask-reply.result c.told-did.result.1 c.told-did.ensures.same c.ask-reply.ensures in
    seen_next c.args.ports.now c.ask-reply.new.self c.args.txn.now.core.seen c.next-turn.new.self.core.seen (front_of_reply c.told-did.result.1)
    asked.keeps c.requires.seen asked.shown c.next-turn.ensures.one

pub returns-clause-adds : goal.returns-clause-adds
returns-clause-adds g c =
    let asked = still_asked g.A.App.next c.args.pass _ c.args.ports.now c.ask-reply.new.self c.args.request c.ask-reply.result c.told-did.result.1 c.told-did.ensures.same c.ask-reply.ensures in
    adds_next (IsPartOf (whole_of c.ask-reply.new.self)) g.A.App.next c.args.txn.now c.next-turn.new.self c.next-turn.result
    c.told-did.result.1 asked.shown c.next-turn.ensures.adds c.next-turn.ensures.transition

pub returns-clause-history : goal.returns-clause-history
returns-clause-history g c =
    let asked = still_asked g.A.App.next c.args.pass _ c.args.ports.now c.ask-reply.new.self c.args.request c.ask-reply.result c.told-did.result.1 c.told-did.ensures.same c.ask-reply.ensures in
    told_history c.args.ports.now c.ask-reply.new.self c.told-did.result.0 c.args.txn.now.core.bounds.now c.args.pass _ c.args.request c.told-did.result.1 asked.transition c.told-did.ensures.tells
    (asked_at c.args.txn.now.core c.args.request c.requires.asks)
    ∙ sym (rw c.counted-did.ensures (counted_in _ c.told-did.result.0 c.args.txn.now.core.bounds.now c.args.ports.now.database.history))

pub returns-clause-own_only : goal.returns-clause-own_only
returns-clause-own_only g c =
    let asked = still_asked g.A.App.next c.args.pass _ c.args.ports.now c.ask-reply.new.self c.args.request c.ask-reply.result c.told-did.result.1 c.told-did.ensures.same c.ask-reply.ensures in
    fair_gone_on c.args.ports.now c.ask-reply.new.self c.args.txn.now.core c.next-turn.new.self.core c.args.request c.told-did.result.1 c.requires.asks
    asked.counts.own_only c.next-turn.ensures.taken c.next-turn.ensures.left

pub returns-clause-loss : goal.returns-clause-loss
returns-clause-loss g c =
    let asked = still_asked g.A.App.next c.args.pass _ c.args.ports.now c.ask-reply.new.self c.args.request c.ask-reply.result c.told-did.result.1 c.told-did.ensures.same c.ask-reply.ensures in
    let lost = HasLost c.args.ports.now (account_of_core c.args.txn.now.core) in
    rw c.counted-did.ensures
    (loss_counted lost _ c.told-did.result.0
    (told_lost lost c.told-did.result.1 c.told-did.result.0 c.told-did.ensures.tells
    (loss_port g.A.App.next c.args.txn.now.objects c.args.ports.now c.args.txn.now.core c.args.request c.told-did.result.1 c.is_kept.ensures.fits c.requires.asks asked.counts.gone)))

pub returns-clause-lost : goal.returns-clause-lost
returns-clause-lost g c =
    let asked = still_asked g.A.App.next c.args.pass _ c.args.ports.now c.ask-reply.new.self c.args.request c.ask-reply.result c.told-did.result.1 c.told-did.ensures.same c.ask-reply.ensures in
    reply_lost (HasLost c.args.ports.now (account_of_core c.args.txn.now.core)) c.next-turn.new.self.core c.next-turn.new.self.objects c.next-turn.result g.A.App.next
    c.args.txn.now.core c.args.txn.now.objects c.told-did.result.1
    (is_answered g.A.App.next c.args.txn.now.core c.args.request c.told-did.result.1 c.requires.asks asked.to) c.requires.drops
    (loss_port g.A.App.next c.args.txn.now.objects c.args.ports.now c.args.txn.now.core c.args.request c.told-did.result.1 c.is_kept.ensures.fits c.requires.asks asked.counts.gone)
    c.next-turn.ensures.transition

pub returns-clause-drops : goal.returns-clause-drops
returns-clause-drops g c =
    drops_next g.A.App.next c.args.txn.now c.next-turn.new.self c.told-did.result.1 c.next-turn.result
    c.next-turn.ensures.turn_fits c.next-turn.ensures.left c.next-turn.ensures.transition
