-- The codes of errors, with their numbers.
use Rattle.std.specs.Prelude.{ℕ, List, ◌++◌, codes}
use Rattle.std.specs.Fmt.{decimal}
use Rattle.txc_db.specs.Codes.{database_code}
use Rattle.txc_cushion.specs.Codes.{add_code}
use Rattle.txc_txn_ports.specs.Codes.{transaction_code}
use Rattle.txc_shared.specs.Codes.{node_code}
use Rattle.txc_world.specs.declared.reply.Refusal.{Refusal}
use Rattle.txc_world.specs.declared.reply.Refusal.TheVariants as refusals

abbrev pub refusal_code : Refusal → List ℕ
refusal_code refusals.NoActor = codes "O1"
refusal_code refusals.NotOpen = codes "O2"
refusal_code refusals.AlreadyOpen = codes "O3"
refusal_code refusals.NoRequest = codes "O4"
refusal_code refusals.MidCall = codes "O5"
refusal_code refusals.NoNode = codes "O6"
refusal_code (refusals.Database cause) = database_code cause
refusal_code (refusals.Pincushion cause) = add_code cause
refusal_code (refusals.GiveBack unknown) = codes "C1 " ++ decimal unknown.stamp
refusal_code (refusals.Node cause) = node_code cause
refusal_code (refusals.Transaction cause) = transaction_code cause
refusal_code refusals.Memory = codes "memory"
