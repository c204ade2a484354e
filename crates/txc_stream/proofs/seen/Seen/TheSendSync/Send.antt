use denote.RattleType.{RattleType}
use denote.Param.Send.{IsSend}
use Rattle.txc_stream.specs.contracts.seen.Seen.{the_row}
use Rattle.txc_stream.proofs.Standing.{begins_keyless}

pub send : (T : RattleType) → IsSend (the_row T)
send T = record { owned = λ s vs. ((λ vss. (tt, ((λ uss. (tt, tt)), tt))), begins_keyless T s.list s.name); leaving = λ k d w. tt }
