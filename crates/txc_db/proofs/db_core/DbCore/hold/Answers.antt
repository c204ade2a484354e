use Rattle.txc_db.proofs.HeldStamps.{hold_sound}
use Rattle.txc_db.proofs.db_core.DbCore.hold.Goals as goal

pub invariant_of-self-2 : goal.invariant_of-self-2
invariant_of-self-2 c = (
  c.self.invariant.0,
  λ whole. rw (c.in_ok-push.ensures.items, c.newest-newest.ensures) (hold_sound _ (c.self.invariant.1 whole)),
  c.self.invariant.2,
)
