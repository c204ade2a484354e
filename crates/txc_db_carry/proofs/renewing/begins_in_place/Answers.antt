use Rattle.std.proofs.Common.{◌∙◌, sym}
use Rattle.txc_db_carry.proofs.WentOn.{begun_so, left_so}
use Rattle.txc_db_carry.proofs.renewing.begins_in_place.Goals as goal

pub returns-in-None-clause-begun : goal.returns-in-None-clause-begun
returns-in-None-clause-begun c = λ yes.
    let did = c.begin_anew.ensures in
    begun_so c.args.core.now c.begin_anew.new.self c.new.result.number c.args.room c.in-None.is c.begin_anew.result did.after did.state did.broken (sym c.is_ok.ensures.value ∙ yes)

pub returns-in-None-clause-unchanged : goal.returns-in-None-clause-unchanged
returns-in-None-clause-unchanged c = λ no.
    left_so c.args.core.now c.begin_anew.new.self c.begin_anew.result c.begin_anew.ensures.unchanged (sym c.is_ok.ensures.value ∙ no)
