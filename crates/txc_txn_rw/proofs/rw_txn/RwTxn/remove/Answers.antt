use Rattle.std.proofs.Common.{[], ◌∷◌, ◌++◌}
use Rattle.txc_rows.specs.declared.query.Change.TheVariants.{Remove}
use Rattle.txc_txn_rw.proofs.Resting.{written_or_not}
use Rattle.txc_txn_rw.proofs.rw_txn.RwTxn.remove.Goals as goal

pub invariant_of-self : goal.invariant_of-self
invariant_of-self g c = (
  c.self.invariant.0,
  written_or_not c.write.result g.A.App.next c.self.inside.held c.self.inside.core c.write.new.self (c.self.inside.core.changes ++ Remove c.args.table c.args.id ∷ [])
      c.write.ensures.after c.write.ensures.unchanged c.self.invariant.1,
)
