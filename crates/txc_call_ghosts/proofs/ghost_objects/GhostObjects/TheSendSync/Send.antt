use denote.Param.Send.{IsSend}
use Rattle.txc_call_ghosts.specs.contracts.ghost_objects.GhostObjects.{the_row}

pub send : IsSend the_row
send = record { owned = λ d vs. ((λ vss. (tt, ((λ uss. (tt, tt)), tt))), tt); leaving = λ k f vs. tt }
