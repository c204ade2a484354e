use denote.Param.Send.{sendable}
use Rattle.std.proofs.Common.{IfSome, subst}
use Rattle.std.proofs.lemmas.List.Elements.{All-pop}
use Rattle.txc_db.proofs.Captured.{argument_send}
use Rattle.txc_work.specs.Workers.{IsWorkerOf}
use Rattle.txc_work.proofs.batch.run_workers.Goals as goal

-- what the closure requires, and then what it may send and share
pub scoped-requires : goal.scoped-requires
scoped-requires g c =
    let of = IsWorkerOf c.args.jobs.now c.args.results.now g.B.Batch.functions in
    let taken = All-pop of c.args.workers.items c.pop.new.self.items c.pop.result c.pop.ensures.items c.requires.workers in
    let last : of c.in-Some.last = subst (λ r. IfSome r of) c.in-Some.is taken.1 in
    let b = c.type_bounds in
    let sync_b = b.sync-B in
    let sync_a = b.sync-A in
    let sync_j = b.sync-J in
    let sync_g = b.sync-G in
    let sync_r = b.sync-R in
    record {
      at = λ a. (
        search (sendable, sync_g) depth 20,
        (
          search (sendable, sync_r) depth 20,
          (
            argument_send _ _ _ b.send-C,
            (
              taken.0,
              (
                last,
                (
                  c.requires.meets,
                  (
                    argument_send _ _ _ b.send-A,
                    argument_send _ _ _ b.send-C,
                    argument_send _ _ _ b.send-J,
                    search (sendable, sync_b) depth 20,
                    search (sendable, sync_a) depth 20,
                    search (sendable, sync_j) depth 20,
                    search (sendable, sync_g) depth 20,
                    search (sendable, sync_r) depth 20,
                  ),
                ),
              ),
            ),
          ),
        ),
      );
    }
