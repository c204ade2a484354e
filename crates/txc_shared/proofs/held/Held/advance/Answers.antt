use Rattle.std.proofs.Common.{◌≡◌, ◌+◌, ℕ, ap, sym, subst, ◌∙◌}
use mathlib.Core.List.{IsPrefix}
use Rattle.txc_stream.proofs.Offered.{prefix_trans}
use Rattle.txc_shared.specs.Nodes.{NodeValue, seeing, HasAdvanced}
use Rattle.txc_shared.specs.Passes.{PassValue}
use Rattle.txc_shared.specs.LockedNode.{IsAdmitted}
use Rattle.txc_shared.proofs.Locking.{has_taken, posted_so}
use Rattle.txc_shared.proofs.held.Held.advance.Goals as goal

pub returns-in-Taken-clause-after : goal.returns-in-Taken-clause-after
returns-in-Taken-clause-after g c =
    let p = c.args.pass.now in
    let own : c.pass.inside.pass ≡ p.pass = ap (λ (x : PassValue). x.pass) c.pass.view_is in
    let same = c.self.view_is ∙ c.in_ok-admit.ensures.unchanged in
    let n = c.self.inside.node in
    let m = c.advance_by.new.self in
    let done = subst (λ k. HasAdvanced (seeing n m.seen) k m c.in-Ok.advanced) own c.in-Ok.ensures.after in
    subst (λ (k : NodeValue). HasAdvanced (seeing k m.seen) p.pass m c.in-Ok.advanced) same done

pub returns-in-Taken-clause-taken : goal.returns-in-Taken-clause-taken
returns-in-Taken-clause-taken g c =
    let p = c.args.pass.now in
    let own : c.pass.inside.pass ≡ p.pass = ap (λ (x : PassValue). x.pass) c.pass.view_is in
    let same = c.self.view_is ∙ c.in_ok-admit.ensures.unchanged in
    let n = c.self.inside.node in
    let m = c.advance_by.new.self in
    let done = subst (λ k. HasAdvanced (seeing n m.seen) k m c.in-Ok.advanced) own c.in-Ok.ensures.after in
    let admitted : IsAdmitted n p = subst (λ (k : NodeValue). IsAdmitted k p) (sym same) c.in_ok-admit.ensures.ok in
    let fed = prefix_trans c.pass.inside.events.history c.longer.new.self.history c.longer-2.new.self.history c.longer.ensures.that c.longer-2.ensures.this in
    let looked = prefix_trans c.pass.inside.events.history c.longer-2.new.self.history c.look.new.self.history fed c.look.ensures.longer in
    let shown : IsPrefix c.pass.inside.events.history c.front.result.now.history = subst (IsPrefix c.pass.inside.events.history) (sym c.front.ensures.history) looked in
    let seen = prefix_trans c.pass.inside.events.history c.front.result.now.history m.seen.history shown c.in-Ok.ensures.seen.second in
    let begins : IsPrefix p.history m.seen.history = subst (λ (x : PassValue). IsPrefix x.history m.seen.history) c.pass.view_is seen in
    has_taken c.legal_histories.ensures.events g.J.Naming.database_history g.A.App.next n m p c.show-in-Ok.new.pass c.in-Ok.advanced c.self.invariant.begun admitted done c.is_sound.ensures begins c.show-in-Ok.ensures

pub returns-in_default-clause-taken : goal.returns-in_default-clause-taken
returns-in_default-clause-taken g c =
    let p = c.args.pass.now in
    let own : c.pass.inside.pass ≡ p.pass = ap (λ (x : PassValue). x.pass) c.pass.view_is in
    let same = c.self.view_is ∙ c.in_ok-admit.ensures.unchanged in
    let n = c.self.inside.node in
    let m = c.advance_by.new.self in
    let done = subst (λ k. HasAdvanced (seeing n m.seen) k m c.in-Ok.advanced) own c.in-Ok.ensures.after in
    let admitted : IsAdmitted n p = subst (λ (k : NodeValue). IsAdmitted k p) (sym same) c.in_ok-admit.ensures.ok in
    let fed = prefix_trans c.pass.inside.events.history c.longer.new.self.history c.longer-2.new.self.history c.longer.ensures.that c.longer-2.ensures.this in
    let looked = prefix_trans c.pass.inside.events.history c.longer-2.new.self.history c.look.new.self.history fed c.look.ensures.longer in
    let shown : IsPrefix c.pass.inside.events.history c.front.result.now.history = subst (IsPrefix c.pass.inside.events.history) (sym c.front.ensures.history) looked in
    let seen = prefix_trans c.pass.inside.events.history c.front.result.now.history m.seen.history shown c.in-Ok.ensures.seen.second in
    let begins : IsPrefix p.history m.seen.history = subst (λ (x : PassValue). IsPrefix x.history m.seen.history) c.pass.view_is seen in
    has_taken c.legal_histories.ensures.events g.J.Naming.database_history g.A.App.next n m p c.show.new.pass c.in-Ok.advanced c.self.invariant.begun admitted done c.is_sound.ensures begins c.show.ensures

pub advance_by-requires-clause-posted : goal.advance_by-requires-clause-posted
advance_by-requires-clause-posted g c =
    let p = c.args.pass.now in
    let same = c.self.view_is ∙ c.in_ok-admit.ensures.unchanged in
    let n = c.self.inside.node in
    let admitted : IsAdmitted n p = subst (λ (k : NodeValue). IsAdmitted k p) (sym same) c.in_ok-admit.ensures.ok in
    let taken : c.look.new.self.taken ≡ n.cache.processed = c.look.ensures.taken ∙ (c.longer-2.ensures.taken ∙ (c.longer.ensures.taken ∙ c.self.invariant.in_step admitted.ahead.whole)) in
    posted_so (λ tags. tags.now) c.next_tags-tags.result c.look.new.self.history c.front.result.now.history c.look.new.self.taken (n.cache.processed + 1) c.front.ensures.history
    (ap (λ (k : ℕ). k + 1) (sym taken)) c.next_tags-tags.ensures.tags
