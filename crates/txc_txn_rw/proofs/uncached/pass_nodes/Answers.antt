use Rattle.std.proofs.Common.{◌≡◌, Option, IsSome, ap, sym, subst, ◌∙◌}
use Rattle.txc_stamp.specs.Interval.{Interval}
use Rattle.txc_call.specs.declared.need.Need.{Need}
use Rattle.txc_call.specs.CallMachine.{Calling}
use Rattle.txc_call.specs.Reaches.{InReach}
use Rattle.txc_txn_rw.specs.RwCore.{needs_no_node}
use Rattle.txc_txn_rw.specs.ByHand.{without_node}
use Rattle.txc_txn_rw.proofs.ByHand.{passed_by, without_is_free, without_is_some}
use Rattle.txc_txn_rw.proofs.Holding.{nothing_handed_in}
use Rattle.txc_txn_rw.proofs.uncached.pass_nodes.Goals as goal

pub returns-in-Some-clause-after : goal.returns-in-Some-clause-after
returns-in-Some-clause-after c =
    let old : Calling = c.args.machine.now in
    let f = c.in-Some.ensures in
    c.take.ensures.after f.0 f.1
    ∙ ap (λ (m : Option Need). record old { need = m }) (passed_by old.frames f.0 c.in-Some.reply f.2 f.3 ∙ ap (λ (m : Option Need). without_node old.frames m) (sym f.1))

pub returns-in-Some-clause-holds : goal.returns-in-Some-clause-holds
returns-in-Some-clause-holds c = λ next objects L calling hold.
    let f = c.in-Some.ensures in
    c.take.ensures.holds next objects L f.0 f.1 calling (nothing_handed_in next L f.0 c.in-Some.reply f.2 f.3) hold

pub returns-in-Some-clause-within : goal.returns-in-Some-clause-within
returns-in-Some-clause-within c = λ t inside. c.take.ensures.within t (subst (λ (r : Option Interval). InReach t r) (sym c.in-Some.ensures.3) tt) inside

pub returns-in-Some-clause-no_node : goal.returns-in-Some-clause-no_node
returns-in-Some-clause-no_node c =
    let old : Calling = c.args.machine.now in
    let f = c.in-Some.ensures in
    let after : c.take.new.self ≡ record old { need = without_node old.frames old.need } =
    c.take.ensures.after f.0 f.1
    ∙ ap (λ (m : Option Need). record old { need = m }) (passed_by old.frames f.0 c.in-Some.reply f.2 f.3 ∙ ap (λ (m : Option Need). without_node old.frames m) (sym f.1)) in
    subst (λ (v : Calling). needs_no_node v.need) (sym after) (without_is_free old.frames old.need)

pub returns-in-Some-clause-some : goal.returns-in-Some-clause-some
returns-in-Some-clause-some c =
    let old : Calling = c.args.machine.now in
    let f = c.in-Some.ensures in
    let after : c.take.new.self ≡ record old { need = without_node old.frames old.need } =
    c.take.ensures.after f.0 f.1
    ∙ ap (λ (m : Option Need). record old { need = m }) (passed_by old.frames f.0 c.in-Some.reply f.2 f.3 ∙ ap (λ (m : Option Need). without_node old.frames m) (sym f.1)) in
    subst (λ (v : Calling). IsSome v.need) (sym after) (without_is_some old.frames old.need c.requires)
