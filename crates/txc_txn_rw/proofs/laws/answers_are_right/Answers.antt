use Rattle.txc_txn_rw.proofs.Commits.{commits_are_right, event_commits_are_right, event_tags_are_sound, quiet_commits_are_right}
use Rattle.txc_txn_rw.proofs.Holding.{right_at_base}
use Rattle.txc_txn_rw.proofs.laws.answers_are_right.Goals as goal

pub returns-clause-base : goal.returns-clause-base
returns-clause-base c = right_at_base

pub returns-clause-quiet : goal.returns-clause-quiet
returns-clause-quiet c = quiet_commits_are_right event_tags_are_sound

pub returns-clause-event : goal.returns-clause-event
returns-clause-event c = event_commits_are_right event_tags_are_sound

pub returns-clause-committed : goal.returns-clause-committed
returns-clause-committed c = commits_are_right event_tags_are_sound
