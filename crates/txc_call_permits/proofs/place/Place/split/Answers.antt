use Rattle.std.proofs.Common.{rules, Bool, false, subst, sym}
use Rattle.atomic_table.specs.Table.{Splits}
use Rattle.txc_call_permits.specs.PermitPool.{IsCounted}
use Rattle.txc_call_permits.proofs.Keeps.{splits}
use Rattle.txc_call_permits.proofs.place.Place.split.Goals as goal

pub split_seat-seat-requires : goal.split_seat-seat-requires
split_seat-seat-requires c = (
  search rules,
  search rules,
  subst (λ (v : Bool). Splits (IsCounted c.args.word.now.shared.key) c.args.self.now.seat.id v false false) (sym c.requires.free) (splits _ _),
)
