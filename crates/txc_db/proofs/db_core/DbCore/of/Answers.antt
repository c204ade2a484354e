use Rattle.std.proofs.Common.{inr, arith}
use Rattle.txc_rows.specs.declared.store_error.TheConstants.{MAX_MATCHING}
use Rattle.txc_db.proofs.Sound.{new_sound}
use Rattle.txc_db.proofs.db_core.DbCore.of.Goals as goal

pub invariant_of-result-2 : goal.invariant_of-result-2
invariant_of-result-2 c = (
  let all = c.requires.all in omega (arith, all),
  λ whole. rw (c.requires.none, c.new.ensures.items) (new_sound c.args.told.events c.in_ok-store.store MAX_MATCHING (search arith, search arith) c.in_ok-store.ensures.keeps),
  inr (let all = c.requires.all in omega (arith, all)),
)
