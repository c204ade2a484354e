use Rattle.std.proofs.Common.{sym, subst}
use Rattle.std.specs.Prelude.{All}
use Rattle.std.proofs.lemmas.List.Elements.{All-nil}
use Rattle.txc_txn_ports.specs.Answers.{IsFresh}
use Rattle.txcache_functions.specs.Program.{program}
use Rattle.txc_txn_ports.specs.declared.bounds.Bounds.{Bounds}
use Rattle.txc_uses.proofs.transactions.begun.Goals as goal

-- no pin has to be fresh
pub new-requires : goal.new-requires
new-requires c =
    let seen = c.in-Ok.core.seen.history in
    let bounds : Bounds = record { now = 1000; staleness = 500; at_least = 0 } in
    let objects = c.in_ok-registry.registry in
    record {
      fits = c.in-Ok.ensures.fits program objects c.in_ok-registry.ensures.idle;
      holds = c.in-Ok.ensures.holds program seen objects
          (subst (All (IsFresh seen bounds)) (sym c.in_ok-no_pins.ensures) (All-nil (IsFresh seen bounds)));
    }
