use Rattle.txc_db.proofs.HeldStamps.{one_less}
use Rattle.txc_cushion.proofs.Counts.{add_counts, each_once, fresh_counts, give_back_counts, retire_counts}
use Rattle.std.proofs.Common.{◌≡◌, false, subst}
use Rattle.txc_db.specs.DatabaseValue.{IsSound}
use Rattle.txc_cushion.specs.Cushion.{IsCushion}
use Rattle.txc_world.specs.Ports.{PortsValue}
use Rattle.txc_world.proofs.ports.Ports.count_right.Goals as goal

pub returns : goal.returns
returns g c = record {
  sound = subst (λ (p : PortsValue). p.database.broken ≡ false → IsSound p.database) c.self.view_is c.is_sound.ensures;
  cushion = subst (λ (p : PortsValue). IsCushion p.cushion) c.self.view_is c.is_cushion.ensures;
  once = each_once;
  fresh = fresh_counts;
  add = add_counts;
  give_back = give_back_counts;
  retire = retire_counts;
  unpin = one_less;
}
