use Rattle.std.proofs.Common.{◌≡◌, ◌+◌, ◌≤◌, ◌++◌, ◌∙◌, ℕ, ap, length-append, arith}
use Rattle.txc_shared.specs.declared.advanced.Ended.{Ended}
use Rattle.txc_shared.proofs.Together.{taken_then}
use Rattle.txc_site_keeper.specs.NodeReports.{refusals_after}
use Rattle.txc_site_keeper.proofs.NodesKept.{last_round, paused_round, same_then}
use Rattle.txc_site_keeper.proofs.keeper.advance.Goals as goal

pub loop-preserved : goal.loop-preserved
loop-preserved g c =
    let row = g.J.Naming.database_history in
    let before = c.loop.invariant in
    let done = c.advance_many-more in
    let did = done.ensures.taken in
    let round = paused_round row g.J.Naming.node_histories 64 c.loop.station.pass done.result.0 done.result.1 done.new.self.pass c.in-Paused.is did.took in
    let answered = ap (λ (e : Ended). refusals_after c.loop.station.refusals e) c.in-Paused.is in (
      round.0 ++ before.0,
      taken_then row c.args.station.now.pass c.loop.station.pass done.new.self.pass before.0 round.0 before.1 round.1,
      omega (arith, length-append round.0 before.0, before.2, round.2),
      omega (arith, before.3, round.3),
      did.refusals ∙ (answered ∙ before.4),
      same_then _ _ _ before.5 done.ensures.same,
    )

pub returns-in_default : goal.returns-in_default
returns-in_default g c =
    let row = g.J.Naming.database_history in
    let before = c.loop.invariant in
    let done = c.advance_many-more in
    let did = done.ensures.taken in
    let room : c.loop.taken + 64 ≤ 4096 = omega (arith, before.3) in
    record {
      did = record {
        took =
            last_round row g.J.Naming.node_histories 64 4096 c.args.station.now.pass c.loop.station.pass done.new.self.pass before.0 c.loop.taken done.result.0 done.result.1
            before.1 before.2 room c.in_default.not-Paused did.took;
        refusals = did.refusals ∙ ap (λ (n : ℕ). refusals_after n done.result.1) before.4;
      };
      same = same_then _ _ _ before.5 done.ensures.same;
    }
