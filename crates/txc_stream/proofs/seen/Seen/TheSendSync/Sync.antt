use denote.RattleType.{RattleType}
use denote.Param.Send.{IsSync, part_keyless}
use Rattle.txc_stream.proofs.seen.Seen.TheSendSync.Send.{send}
use Rattle.txc_stream.specs.contracts.seen.Seen.{the_row}

pub sync : (T : RattleType) → IsSync (the_row T)
sync T = record { shared = λ n b o κ q. part_keyless (the_row T) (send T) q n b o }
