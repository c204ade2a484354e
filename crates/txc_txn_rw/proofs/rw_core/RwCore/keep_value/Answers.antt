use Rattle.std.proofs.Common.{◌≡◌, sym, subst, ap, ◌∙◌}
use Rattle.txc_call.specs.CallMachine.{InCall, IsCalling}
use Rattle.txc_txn_rw.specs.RwCore.{query_of_reading, RwHolds, RwValue}
use Rattle.txc_txn_rw.proofs.Holding.{dropped, ended, recorded}
use Rattle.txc_txn_rw.proofs.rw_core.RwCore.keep_value.Goals as goal

pub returns-in_default-copy-clause-holds : goal.returns-in_default-copy-clause-holds
returns-in_default-copy-clause-holds c = λ next objects L calling inside h.
    let was : RwValue = record { base = c.self.inside.base; queried = c.self.inside.queried.items; answers = c.self.inside.answers.items; changes = c.self.inside.changes.items; call = c.self.inside.machine; reading = query_of_reading c.self.inside.reading } in
    let same : c.args.self.now ≡ was = sym c.self.view_is in
    let calling' = subst (λ (w : RwValue). IsCalling next objects w.call) same calling in
    let inside' = subst (λ (w : RwValue). InCall 1 w.call) same inside in
    rw (c.in-Some.ensures.1) (dropped next objects was c.in-Some.outcome c.in-Some.ensures.0 calling' inside' L (subst (λ (w : RwValue). RwHolds next L objects w) same h))

pub returns-in_default-push-clause-holds : goal.returns-in_default-push-clause-holds
returns-in_default-push-clause-holds c = λ next objects L calling inside h.
    let was : RwValue = record { base = c.self.inside.base; queried = c.self.inside.queried.items; answers = c.self.inside.answers.items; changes = c.self.inside.changes.items; call = c.self.inside.machine; reading = query_of_reading c.self.inside.reading } in
    let same : c.args.self.now ≡ was = sym c.self.view_is in
    let calling' = subst (λ (w : RwValue). IsCalling next objects w.call) same calling in
    let inside' = subst (λ (w : RwValue). InCall 1 w.call) same inside in
    rw (c.in-Some.ensures.1, c.in_default-push.ensures.items) (dropped next objects was c.in-Some.outcome c.in-Some.ensures.0 calling' inside' L (subst (λ (w : RwValue). RwHolds next L objects w) same h))

pub returns-clause-holds : goal.returns-clause-holds
returns-clause-holds c = λ next objects L calling inside h.
    let was : RwValue = record { base = c.self.inside.base; queried = c.self.inside.queried.items; answers = c.self.inside.answers.items; changes = c.self.inside.changes.items; call = c.self.inside.machine; reading = query_of_reading c.self.inside.reading } in
    let same : c.args.self.now ≡ was = sym c.self.view_is in
    let calling' = subst (λ (w : RwValue). IsCalling next objects w.call) same calling in
    let inside' = subst (λ (w : RwValue). InCall 1 w.call) same inside in
    rw (c.in-Some.ensures.1, c.in-Ok-push.ensures.items) (recorded next objects was c.in-Some.outcome c.in-Some.ensures.0 calling' inside' L (subst (λ (w : RwValue). RwHolds next L objects w) same h))

pub returns-in_default-push-clause-fits : goal.returns-in_default-push-clause-fits
returns-in_default-push-clause-fits c = λ next objects calling inside.
    let was : RwValue = record { base = c.self.inside.base; queried = c.self.inside.queried.items; answers = c.self.inside.answers.items; changes = c.self.inside.changes.items; call = c.self.inside.machine; reading = query_of_reading c.self.inside.reading } in
    let same : c.args.self.now ≡ was = sym c.self.view_is in
    let calling' = subst (λ (w : RwValue). IsCalling next objects w.call) same calling in
    let inside' = subst (λ (w : RwValue). InCall 1 w.call) same inside in
    rw (c.in-Some.ensures.1) (ended next objects was c.in-Some.outcome c.in-Some.ensures.0 calling' inside' c.push.new.self.items (ap (λ (w : RwValue). w.reading) c.self.view_is ∙ c.requires.none))

pub returns-clause-fits : goal.returns-clause-fits
returns-clause-fits c = λ next objects calling inside.
    let was : RwValue = record { base = c.self.inside.base; queried = c.self.inside.queried.items; answers = c.self.inside.answers.items; changes = c.self.inside.changes.items; call = c.self.inside.machine; reading = query_of_reading c.self.inside.reading } in
    let same : c.args.self.now ≡ was = sym c.self.view_is in
    let calling' = subst (λ (w : RwValue). IsCalling next objects w.call) same calling in
    let inside' = subst (λ (w : RwValue). InCall 1 w.call) same inside in
    rw (c.in-Some.ensures.1) (ended next objects was c.in-Some.outcome c.in-Some.ensures.0 calling' inside' c.push.new.self.items (ap (λ (w : RwValue). w.reading) c.self.view_is ∙ c.requires.none))
