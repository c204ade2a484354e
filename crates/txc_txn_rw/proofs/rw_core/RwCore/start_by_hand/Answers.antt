use Rattle.std.proofs.Common.{◌≡◌, Option, Some, None, ap, sym, subst, ◌∙◌}
use Rattle.txc_call.specs.declared.need.Need.{Need}
use Rattle.txc_call.specs.declared.need.Need.TheVariants as needs
use Rattle.txc_call.specs.declared.reply.Reply.TheVariants as replies
use Rattle.txc_call.specs.CallMachine.{started, Calling, CallHolds, IsAtRest}
use Rattle.txc_call.specs.Needs.{NeedFits}
use Rattle.txc_call.specs.CallSteps.{need_after}
use Rattle.txc_txn_rw.specs.RwCore.{query_of_reading, RwHolds, RwValue}
use Rattle.txc_txn_rw.proofs.ByHand.{begun_fits}
use Rattle.txc_txn_rw.proofs.Holding.{holds_moved}
use Rattle.txc_txn_rw.proofs.rw_core.RwCore.start_by_hand.Goals as goal

pub take-requires : goal.take-requires
take-requires c = record { reply = (needs.Lookup c.args.key, ap (λ (v : Calling). v.need) c.start_by_hand.ensures.after, tt) }

pub returns-clause-after : goal.returns-clause-after
returns-clause-after c =
    let was : RwValue = record { base = c.self.inside.base; queried = c.self.inside.queried.items; answers = c.self.inside.answers.items; changes = c.self.inside.changes.items; call = c.self.inside.machine; reading = query_of_reading c.self.inside.reading } in
    let call : c.take.new.self ≡ record (started c.args.key) { need = Some (needs.Begin c.args.key) } =
    c.take.ensures.after (needs.Lookup c.args.key) (ap (λ (v : Calling). v.need) c.start_by_hand.ensures.after)
    ∙ ap (λ (v : Calling). record v { need = Some (need_after v.frames (needs.Lookup c.args.key) replies.Miss) }) c.start_by_hand.ensures.after in
    rw (← c.self.view_is) (ap (λ (v : Calling). record was { call = v }) call)

pub returns-clause-fits : goal.returns-clause-fits
returns-clause-fits c = λ next objects there h.
    let was : RwValue = record { base = c.self.inside.base; queried = c.self.inside.queried.items; answers = c.self.inside.answers.items; changes = c.self.inside.changes.items; call = c.self.inside.machine; reading = query_of_reading c.self.inside.reading } in
    let same : c.args.self.now ≡ was = sym c.self.view_is in
    let call : c.take.new.self ≡ record (started c.args.key) { need = Some (needs.Begin c.args.key) } =
    c.take.ensures.after (needs.Lookup c.args.key) (ap (λ (v : Calling). v.need) c.start_by_hand.ensures.after)
    ∙ ap (λ (v : Calling). record v { need = Some (need_after v.frames (needs.Lookup c.args.key) replies.Miss) }) c.start_by_hand.ensures.after in
    let rest : IsAtRest objects was.call = subst (λ (w : RwValue). IsAtRest objects w.call) same
    (subst (λ (n : Option Need). NeedFits next objects c.args.self.now.call.top n c.args.self.now.call.frames) c.requires.idle.0 h.call) in
    begun_fits next objects (record was { call = c.take.new.self }) c.args.key call
    (c.take.ensures.fits next objects (c.start_by_hand.ensures.fits next objects rest there)) (subst (λ (w : RwValue). w.reading ≡ None) same c.requires.idle.1)

pub returns-clause-holds : goal.returns-clause-holds
returns-clause-holds c = λ next objects L h.
    let was : RwValue = record { base = c.self.inside.base; queried = c.self.inside.queried.items; answers = c.self.inside.answers.items; changes = c.self.inside.changes.items; call = c.self.inside.machine; reading = query_of_reading c.self.inside.reading } in
    let call : c.take.new.self ≡ record (started c.args.key) { need = Some (needs.Begin c.args.key) } =
    c.take.ensures.after (needs.Lookup c.args.key) (ap (λ (v : Calling). v.need) c.start_by_hand.ensures.after)
    ∙ ap (λ (v : Calling). record v { need = Some (need_after v.frames (needs.Lookup c.args.key) replies.Miss) }) c.start_by_hand.ensures.after in
    holds_moved next L objects was (subst (λ (w : RwValue). RwHolds next L objects w) (sym c.self.view_is) h) objects c.take.new.self was.reading
    (λ M hold. subst (λ (v : Calling). CallHolds next M objects v) (sym call) tt)
