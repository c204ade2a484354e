use Rattle.txc_db.proofs.HeldStamps.{unpin_sound}
use Rattle.txc_db.proofs.db_core.DbCore.unpin.Goals as goal

pub invariant_of-self : goal.invariant_of-self
invariant_of-self c = (
  c.self.invariant.0,
  λ whole. rw (c.remove-hold.ensures.items, ← c.deref.ensures.value, c.in-Some.ensures.place) (rw c.deref.ensures.value (unpin_sound _ c.args.stamp (c.self.invariant.1 whole))),
  c.self.invariant.2,
)
