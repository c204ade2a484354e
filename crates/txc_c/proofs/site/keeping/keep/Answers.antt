use Rattle.std.proofs.Common.{◌∙◌, inr, ap, refl}
use Rattle.std.specs.Prelude.{Ok, Err}
use Rattle.txc_caller.specs.Ports.{CallerPorts}
use Rattle.txc_caller.proofs.Letting.{grown_then}
use Rattle.txc_c.proofs.MaintenanceLemmas.{keeps_then, kept_on, vacuumed_on}
use Rattle.txc_c.proofs.site.keeping.keep.Goals as goal

-- ---- what it came to

pub returns-in_default-clause-kept : goal.returns-in_default-clause-kept
returns-in_default-clause-kept c = inr (refl, c.in_default.ensures.unchanged, refl)

pub returns-in-Err-clause-kept : goal.returns-in-Err-clause-kept
returns-in-Err-clause-kept c =
    let mid = c.retire.new.self in
    kept_on c.args.now c.args.age c.args.caller.now mid _ c.in-Ok.retired _ c.args.kept.now _ c.in-Ok.ensures.retired c.retire.ensures.same c.in-Ok.ensures.answer
    (inr (record {
      error = c.in-Err.error;
      number_is = c.database_number.ensures;
      refused = c.in-Err.ensures.refused;
      node = c.vacuum.ensures.node;
      same = c.vacuum.ensures.same ∙ ap (λ (p : CallerPorts). record mid { ports = p }) c.in-Err.ensures.unchanged;
      told = refl;
    }))

pub returns-in-Ok-sweep-clause-kept : goal.returns-in-Ok-sweep-clause-kept
returns-in-Ok-sweep-clause-kept c =
    kept_on c.args.now c.args.age c.args.caller.now c.retire.new.self _ c.in-Ok.retired _ c.args.kept.now _ c.in-Ok.ensures.retired c.retire.ensures.same c.in-Ok.ensures.answer
    (vacuumed_on _ c.vacuum.new.self _ c.in-Ok-vacuum.horizon c.number-kept.result _ _ _ c.in-Ok-vacuum.ensures.after c.vacuum.ensures.same c.in-Ok-vacuum.ensures.answer c.number-kept.ensures.answer
    (record { swept = Ok c.in-Ok-sweep.count; transition = c.in-Ok-sweep.ensures.transition; same = c.sweep.ensures.same; number_is = refl; told = refl }))

pub returns-in-Err-sweep-clause-kept : goal.returns-in-Err-sweep-clause-kept
returns-in-Err-sweep-clause-kept c =
    kept_on c.args.now c.args.age c.args.caller.now c.retire.new.self _ c.in-Ok.retired _ c.args.kept.now _ c.in-Ok.ensures.retired c.retire.ensures.same c.in-Ok.ensures.answer
    (vacuumed_on _ c.vacuum.new.self _ c.in-Ok-vacuum.horizon c.number-kept.result _ _ _ c.in-Ok-vacuum.ensures.after c.vacuum.ensures.same c.in-Ok-vacuum.ensures.answer c.number-kept.ensures.answer
    (record { swept = Err c.in-Err-sweep.error; transition = c.in-Err-sweep.ensures.transition; same = c.sweep.ensures.same; number_is = c.node_number.ensures; told = refl }))

-- ---- what it keeps

pub returns-in-Err-clause-caller : goal.returns-in-Err-clause-caller
returns-in-Err-clause-caller c = keeps_then c.args.caller.now c.retire.new.self c.vacuum.new.self c.retire.ensures.caller c.vacuum.ensures.caller

pub returns-in-Ok-sweep-clause-caller : goal.returns-in-Ok-sweep-clause-caller
returns-in-Ok-sweep-clause-caller c =
    keeps_then c.args.caller.now c.vacuum.new.self c.sweep.new.self (keeps_then c.args.caller.now c.retire.new.self c.vacuum.new.self c.retire.ensures.caller c.vacuum.ensures.caller) c.sweep.ensures.caller

pub returns-in-Err-sweep-clause-caller : goal.returns-in-Err-sweep-clause-caller
returns-in-Err-sweep-clause-caller c =
    keeps_then c.args.caller.now c.vacuum.new.self c.sweep.new.self (keeps_then c.args.caller.now c.retire.new.self c.vacuum.new.self c.retire.ensures.caller c.vacuum.ensures.caller) c.sweep.ensures.caller

pub returns-in-Err-clause-grown : goal.returns-in-Err-clause-grown
returns-in-Err-clause-grown c =
    grown_then c.args.caller.now.ports.database c.retire.new.self.ports.database c.vacuum.new.self.ports.database c.retire.ensures.grown c.vacuum.ensures.grown

pub returns-in-Ok-sweep-clause-grown : goal.returns-in-Ok-sweep-clause-grown
returns-in-Ok-sweep-clause-grown c =
    let two = grown_then c.args.caller.now.ports.database c.retire.new.self.ports.database c.vacuum.new.self.ports.database c.retire.ensures.grown c.vacuum.ensures.grown in
    grown_then c.args.caller.now.ports.database c.vacuum.new.self.ports.database c.sweep.new.self.ports.database two c.sweep.ensures.grown

pub returns-in-Err-sweep-clause-grown : goal.returns-in-Err-sweep-clause-grown
returns-in-Err-sweep-clause-grown c =
    let two = grown_then c.args.caller.now.ports.database c.retire.new.self.ports.database c.vacuum.new.self.ports.database c.retire.ensures.grown c.vacuum.ensures.grown in
    grown_then c.args.caller.now.ports.database c.vacuum.new.self.ports.database c.sweep.new.self.ports.database two c.sweep.ensures.grown
