use Rattle.std.proofs.Common.{refl}
use Rattle.txc_script_batch.specs.declared.order.Order.TheVariants.{Write, Pin}
use Rattle.txc_script_batch.proofs.Preparing.{not_told, prepared, queued_order}
use Rattle.txc_script_batch.proofs.batch.Batch.run_line.Goals as goal

pub returns-in-Write-clause-after : goal.returns-in-Write-clause-after
returns-in-Write-clause-after g c =
    rw c.in-Write.is (prepared c.args.self.now c.write-written.new.self (Write c.in-Write.change) c.write-written.result c.push_prepared.result c.args.text.now.items c.push_prepared.new.text.items c.write-written.ensures c.push_prepared.ensures.text c.push_prepared.ensures.refusal)

pub returns-in-Write-clause-broke : goal.returns-in-Write-clause-broke
returns-in-Write-clause-broke g c = rw c.in-Write.is (not_told c.args.self.now c.write-written.new.self (Write c.in-Write.change) c.write-written.result c.push_prepared.result c.write-written.ensures)

pub returns-in-Pin-clause-after : goal.returns-in-Pin-clause-after
returns-in-Pin-clause-after g c =
    rw c.in-Pin.is (prepared c.args.self.now c.pin-pinned.new.self (Pin c.in-Pin.now) c.pin-pinned.result c.push_prepared-in-Pin.result c.args.text.now.items c.push_prepared-in-Pin.new.text.items c.pin-pinned.ensures c.push_prepared-in-Pin.ensures.text c.push_prepared-in-Pin.ensures.refusal)

pub returns-in-Pin-clause-broke : goal.returns-in-Pin-clause-broke
returns-in-Pin-clause-broke g c = rw c.in-Pin.is (not_told c.args.self.now c.pin-pinned.new.self (Pin c.in-Pin.now) c.pin-pinned.result c.push_prepared-in-Pin.result c.pin-pinned.ensures)

pub returns-in_ok-queue-in-Run-clause-after : goal.returns-in_ok-queue-in-Run-clause-after
returns-in_ok-queue-in-Run-clause-after g c =
    rw c.in-Run.is (queued_order c.args.self.now c.queue.new.self c.in-Run.queued c.args.text.now.items c.args.text.now.items c.in_ok-queue-in-Run.ensures.after refl)
