use denote.Param.Send.{IsSync, part_keyless}
use Rattle.txc_call_ghosts.specs.contracts.ghost_objects.GhostObjects.{the_row}
use Rattle.txc_call_ghosts.proofs.ghost_objects.GhostObjects.TheSendSync.Send.{send}

pub sync : IsSync the_row
sync = record { shared = λ d b o κ q. part_keyless the_row send q d b o }
