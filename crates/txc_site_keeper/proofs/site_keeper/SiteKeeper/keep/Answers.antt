use Rattle.std.proofs.Common.{inl, inr, rules, subst}
use Rattle.txc_site_keeper.specs.KeepReport.{keep_told, IsKeep, IsNoKeep}
use Rattle.txc_site_keeper.specs.SiteKeeper.{OwnKeeperValue}
use Rattle.txc_site_keeper.proofs.Tending.{ok_at, err_at}
use Rattle.txc_site_keeper.proofs.site_keeper.SiteKeeper.keep.Goals as goal

pub returns-in-Ok : goal.returns-in-Ok
returns-in-Ok g c =
    let told = keep_told c.in-Ok._kept in
    let row = g.J.Naming.database_history in
    let histories = g.J.Naming.node_histories in
    let left = c.keep-kept.result.1 in
    inl (
      told,
      subst (λ (own : OwnKeeperValue). IsKeep row histories c.args.now c.args.age own.stations told left) c.self.view_is (ok_at _ _ _ c.in-Ok.is c.keep-kept.ensures.kept),
      search rules,
    )

pub returns-in-Err : goal.returns-in-Err
returns-in-Err g c =
    let row = g.J.Naming.database_history in
    let left = c.keep-kept.result.1 in
    inr (
      c.in-Err.cause,
      subst (λ (own : OwnKeeperValue). IsNoKeep row own.stations c.in-Err.cause left) c.self.view_is (err_at _ _ _ c.in-Err.is c.keep-kept.ensures.refused),
      search rules,
    )
