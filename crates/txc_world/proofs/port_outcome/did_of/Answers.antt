use Rattle.std.proofs.Common.{rules}
use Rattle.txc_world.proofs.port_outcome.did_of.Goals.{in-Pin-Ok, in-Pin-Err, in-AddPin-default-Ok, in-AddPin-default-Err, in-Unpin-Ok, in-Unpin-Err, in-Lookup-Some, in-Lookup-None, in-Query+in_ok-did-in-Query, in-Insert-Some-Stored, in-Insert-Some-Earlier, in-Insert-None}
use Rattle.txc_world.proofs.port_outcome.did_of.Goals as goal

-- by what it is shown of
pub returns-clause-tells : goal.returns-clause-tells
returns-clause-tells c = elim c.match-reply.branch [
  | in-Pin-Ok w ↦ search rules
  | in-Pin-Err w ↦ search rules
  | in-AddPin-default-Ok w ↦ search rules
  | in-AddPin-default-Err w ↦ search rules
  | in-Unpin-Ok w ↦ search rules
  | in-Unpin-Err w ↦ search rules
  | in-Lookup-Some w ↦ search rules
  | in-Lookup-None w ↦ search rules
  | in-Query+in_ok-did-in-Query w ↦ search rules
  | in-Insert-Some-Stored w ↦ search rules
  | in-Insert-Some-Earlier w ↦ search rules
  | in-Insert-None w ↦ search rules
]
