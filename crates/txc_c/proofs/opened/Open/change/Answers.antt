use Rattle.std.proofs.Common.{◌++◌, ◌∷◌, [], List, sym, subst}
use Rattle.std.specs.Prelude.{Result, Ok, Err}
use Rattle.txc_rows.specs.declared.query.Change.{Change}
use Rattle.txc_rows.specs.declared.query.Change.TheVariants.{Put, Remove}
use Rattle.txc_txn_ports.specs.declared.error.TxnError.{TxnError}
use Rattle.txc_caller.specs.CallerTxn.{CallerValue}
use Rattle.txc_caller.specs.CallerWrite.{ChangeLeaves, CallerWriting, IsWriteOf}
use Rattle.txc_c.specs.Opaque.{opaque_next}
use Rattle.txc_c.specs.Opened.{IsOpenOf}
use Rattle.txc_c.specs.declared.opened.Open.{Open}
use Rattle.txc_c.proofs.opened.Open.change.Goals as goal

-- what was answered is right whatever is to be changed
changed_of : (c : CallerValue) (w : CallerWriting) (changes : List Change) → IsWriteOf opaque_next c w → IsWriteOf opaque_next c (record w { core = record w.core { changes = changes } })
changed_of c w changes is = record { within = is.within; answers = is.answers; call = is.call }

left_of : (change : Change) (c : CallerValue) (w w' : CallerWriting) (kept : Result (Unit {0}) TxnError) → ChangeLeaves change w w' kept → IsWriteOf opaque_next c w → IsWriteOf opaque_next c w'
left_of change c w w' (Ok it) leaves is = subst (λ (v : CallerWriting). IsWriteOf opaque_next c v) (sym leaves.1) (changed_of c w (w.core.changes ++ change ∷ []) is)
left_of change c w w' (Err error) leaves is = subst (λ (v : CallerWriting). IsWriteOf opaque_next c v) (sym leaves.0) is

pub returns-in-Put-clause-of_caller : goal.returns-in-Put-clause-of_caller
returns-in-Put-clause-of_caller c = λ caller is.
    left_of (Put c.in-Put.row) caller c.in-Writing.write c.put.new.self c.put.result c.put.ensures (subst (λ (x : Open). IsOpenOf caller x) c.in-Writing.is is)

pub returns-in-Remove-clause-of_caller : goal.returns-in-Remove-clause-of_caller
returns-in-Remove-clause-of_caller c = λ caller is.
    left_of (Remove c.in-Remove.table c.in-Remove.id) caller c.in-Writing.write c.remove.new.self c.remove.result c.remove.ensures (subst (λ (x : Open). IsOpenOf caller x) c.in-Writing.is is)
