use Rattle.txc_db.specs.DatabaseReply.{IsSharedCommitRefused}
use Rattle.txc_db.proofs.Committed.{commit_result}
use Rattle.txc_db.proofs.Sharing.{may_refuse}
use Rattle.txc_db.proofs.database.Database.commit.Goals as goal

pub returns-clause-answer : goal.returns-clause-answer
returns-clause-answer g c =
    let done = c.commit.ensures in
    commit_result c.deref_mut.result.now c.commit.new.self c.args.base c.args.read.now c.args.changes.now c.commit.result done.after done.answer done.front done.only_if

pub returns-clause-refused : goal.returns-clause-refused
returns-clause-refused g c =
    may_refuse c.deref_mut.result.now g.J.Naming.database_history (λ d. IsSharedCommitRefused d c.args.base c.args.read.now c.args.changes.now) c.commit.result c.commit.ensures.database c.commit.ensures.refused
