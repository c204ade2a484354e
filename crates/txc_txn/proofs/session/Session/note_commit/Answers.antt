use Rattle.std.proofs.Common.{ℕ, max, ap, ◌∙◌}
use Rattle.txc_txn.proofs.Sessions.{commit_noted}
use Rattle.txc_txn.proofs.session.Session.note_commit.Goals as goal

pub returns-clause-noted : goal.returns-clause-noted
returns-clause-noted c = λ deeds seen h. commit_noted deeds c.args.stamp seen c.args.self.now _ (c.later-self-inside.ensures ∙ ap (λ (n : ℕ). max n c.args.stamp) c.self.view_is) h
