use Rattle.txc_txn_client.proofs.client.Client.begin_ro.Goals as goal

pub new-requires : goal.new-requires
new-requires g c = record {
  fits = c.in-Ok.ensures.fits g.A.App.next c.self.inside.registry c.self.invariant;
  holds = c.in-Ok.ensures.holds g.A.App.next c.self.inside.registry;
}
