use Rattle.std.proofs.Common.{◌≡◌, ◌∙◌, true, IsSome, refl, sym, ap, subst}
use Rattle.txc_db.specs.DatabaseValue.{DatabaseValue}
use Rattle.txc_txn_rw.specs.RwCore.{RwHolds, tags_read}
use Rattle.txc_txn_rw.proofs.Holding.{right_at_base}
use Rattle.txc_caller.specs.CallerTxn.{CallerValue}
use Rattle.txc_caller.specs.ComputedFunctions.{top_call}
use Rattle.txc_caller.specs.CallerWrite.{CallerWriting}
use Rattle.txc_caller.proofs.Letting.{grown_then}
use Rattle.txc_caller.proofs.Writers.{closed_call, commit_done, commit_left, commit_refused, committed_so, grown_ports, holds_longer, is_committed, keeps_ports}
use Rattle.txc_caller.proofs.caller_write.CallerWrite.commit.Goals as goal

pub returns-clause-answer : goal.returns-clause-answer
returns-clause-answer g c =
    let w : CallerWriting = c.args.self in
    let d0 : DatabaseValue = c.caller.inside.ports.database in
    let d1 : DatabaseValue = c.commit.new.self.database in
    let d2 : DatabaseValue = c.let_go.new.self.database in
    let done = commit_done d0 d1 d2 c.held_base.result c.base-base.result w.core.base c.in-Ok.stamp c.tags-tags.result.now (tags_read w.core) c.changes-changes.result.now w.core.changes
    (c.base-base.ensures ∙ ap (λ (v : CallerWriting). v.core.base) c.self.view_is) (c.tags-tags.ensures ∙ ap (λ (v : CallerWriting). tags_read v.core) c.self.view_is)
    (c.changes-changes.ensures.answer ∙ ap (λ (v : CallerWriting). v.core.changes) c.self.view_is) c.in-Ok.ensures.after c.in-Ok.ensures.answer (c.in-Ok.ensures.only_if refl) c.let_go.ensures.unpinned in
    let held = subst (λ (v : CallerValue). RwHolds g.A.App.next v.ports.database.history w.objects w.core) (sym c.caller.view_is) c.requires.of_caller in
    is_committed g.A.App.next d2.history w.objects w.core c.in-Ok.stamp
    (holds_longer g.A.App.next d0.history d2.history w.objects w.core (grown_then d0 d1 d2 c.in-Ok.ensures.grown c.let_go.ensures.grown).longer held) done

pub returns-clause-at_base : goal.returns-clause-at_base
returns-clause-at_base g c =
    let w : CallerWriting = c.args.self in
    let d0 : DatabaseValue = c.caller.inside.ports.database in
    let d1 : DatabaseValue = c.commit.new.self.database in
    let d2 : DatabaseValue = c.let_go.new.self.database in
    let held = subst (λ (v : CallerValue). RwHolds g.A.App.next v.ports.database.history w.objects w.core) (sym c.caller.view_is) c.requires.of_caller in
    right_at_base g.A.App.next d2.history w.objects w.core
    (holds_longer g.A.App.next d0.history d2.history w.objects w.core (grown_then d0 d1 d2 c.in-Ok.ensures.grown c.let_go.ensures.grown).longer held)

pub returns-clause-apart : goal.returns-clause-apart
returns-clause-apart g c =
    let w : CallerWriting = c.args.self in
    commit_done c.caller.inside.ports.database c.commit.new.self.database c.let_go.new.self.database c.held_base.result c.base-base.result w.core.base c.in-Ok.stamp c.tags-tags.result.now (tags_read w.core)
    c.changes-changes.result.now w.core.changes (c.base-base.ensures ∙ ap (λ (v : CallerWriting). v.core.base) c.self.view_is) (c.tags-tags.ensures ∙ ap (λ (v : CallerWriting). tags_read v.core) c.self.view_is)
    (c.changes-changes.ensures.answer ∙ ap (λ (v : CallerWriting). v.core.changes) c.self.view_is) c.in-Ok.ensures.after c.in-Ok.ensures.answer (c.in-Ok.ensures.only_if refl) c.let_go.ensures.unpinned

pub returns-clause-committed : goal.returns-clause-committed
returns-clause-committed g c =
    let w : CallerWriting = c.args.self in
    let closed : ¬ (IsSome (top_call w.core.call)) = λ there. let t : c.is_computing.result ≡ true = c.is_computing.ensures.1 there in absurd (cc (t, c.if-is_computing.false)) in
    committed_so c.args.caller.now c.caller.inside.ports c.commit.new.self c.caller.inside.renew_after w c.base-base.result c.tags-tags.result.now c.changes-changes.result.now c.caller.view_is
    (c.base-base.ensures ∙ ap (λ (v : CallerWriting). v.core.base) c.self.view_is) (c.tags-tags.ensures ∙ ap (λ (v : CallerWriting). tags_read v.core) c.self.view_is)
    (c.changes-changes.ensures.answer ∙ ap (λ (v : CallerWriting). v.core.changes) c.self.view_is)
    c.let_go.new.self c.held_base.result c.in-Ok.stamp
    (closed_call w.core.call closed, sym (ap (λ (v : CallerWriting). v.core.reading) c.self.view_is) ∙ c.self.invariant.rests) c.held_base.ensures (c.in-Ok.ensures.only_if refl)
    c.in-Ok.ensures.after c.in-Ok.ensures.answer c.in-Ok.ensures.node c.in-Ok.ensures.same c.let_go.ensures.unpinned c.let_go.ensures.same

pub returns-clause-caller : goal.returns-clause-caller
returns-clause-caller g c =
    keeps_ports c.args.caller.now c.caller.inside.ports c.let_go.new.self c.caller.inside.renew_after c.caller.view_is
    (grown_then c.caller.inside.ports.database c.commit.new.self.database c.let_go.new.self.database c.in-Ok.ensures.grown c.let_go.ensures.grown)

pub returns-clause-grown : goal.returns-clause-grown
returns-clause-grown g c =
    grown_ports c.args.caller.now c.caller.inside.ports c.let_go.new.self c.caller.inside.renew_after c.caller.view_is
    (grown_then c.caller.inside.ports.database c.commit.new.self.database c.let_go.new.self.database c.in-Ok.ensures.grown c.let_go.ensures.grown)

pub returns-in-Err-clause-refused : goal.returns-in-Err-clause-refused
returns-in-Err-clause-refused g c =
    let w : CallerWriting = c.args.self in
    commit_refused c.args.caller.now c.caller.inside.ports c.commit.new.self c.caller.inside.renew_after w c.base-base.result c.tags-tags.result.now c.changes-changes.result.now c.caller.view_is
    (c.base-base.ensures ∙ ap (λ (v : CallerWriting). v.core.base) c.self.view_is) (c.tags-tags.ensures ∙ ap (λ (v : CallerWriting). tags_read v.core) c.self.view_is)
    (c.changes-changes.ensures.answer ∙ ap (λ (v : CallerWriting). v.core.changes) c.self.view_is) c.in-Err.error c.in-Err.ensures.refused

pub returns-in-Err-clause-left : goal.returns-in-Err-clause-left
returns-in-Err-clause-left g c =
    let w : CallerWriting = c.args.self in
    commit_left c.args.caller.now c.caller.inside.ports c.commit.new.self c.caller.inside.renew_after w c.base-base.result c.tags-tags.result.now c.changes-changes.result.now c.caller.view_is
    (c.base-base.ensures ∙ ap (λ (v : CallerWriting). v.core.base) c.self.view_is) (c.tags-tags.ensures ∙ ap (λ (v : CallerWriting). tags_read v.core) c.self.view_is)
    (c.changes-changes.ensures.answer ∙ ap (λ (v : CallerWriting). v.core.changes) c.self.view_is) c.in-Err.error c.in-Err.ensures.left c.in-Err.ensures.unchanged

pub returns-in-Err-clause-caller : goal.returns-in-Err-clause-caller
returns-in-Err-clause-caller g c =
    keeps_ports c.args.caller.now c.caller.inside.ports c.commit.new.self c.caller.inside.renew_after c.caller.view_is c.in-Err.ensures.grown

pub returns-in-Err-clause-grown : goal.returns-in-Err-clause-grown
returns-in-Err-clause-grown g c =
    grown_ports c.args.caller.now c.caller.inside.ports c.commit.new.self c.caller.inside.renew_after c.caller.view_is c.in-Err.ensures.grown
