use Rattle.txc_txn_client.proofs.Grown.{have_grown_self}
use Rattle.txc_txn_client.proofs.client.Client.node_counts.Goals as goal

pub returns-then-node-len-clause-passes : goal.returns-then-node-len-clause-passes
returns-then-node-len-clause-passes g c = have_grown_self c.args.self.now.passes
