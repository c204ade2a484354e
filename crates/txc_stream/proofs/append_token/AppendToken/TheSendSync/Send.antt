use denote.RattleType.{RattleType}
use denote.Param.Send.{IsSend}
use Rattle.txc_stream.specs.contracts.append_token.AppendToken.{the_row}
use Rattle.txc_stream.proofs.Standing.{written_keyless}

pub send : (T : RattleType) → IsSend (the_row T)
send T = record { owned = λ p vs. ((λ vss. (tt, ((λ uss. (tt, tt)), tt))), written_keyless T p.number p.list); leaving = λ k d w. tt }
