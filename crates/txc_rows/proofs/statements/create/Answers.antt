use Rattle.std.proofs.Common.{◌≡◌, [], OnOk, subst, rules}
use Rattle.sqlite.proofs.Callers.{memory_is_clean}
use Rattle.txc_rows.specs.LatestTable.{latest_in, IsKept}
use Rattle.txc_rows.proofs.SweepCalls.{made_kept, made_empty}
use Rattle.txc_rows.proofs.statements.create.Goals as goal

pub returns-clause-kept : goal.returns-clause-kept
returns-clause-kept c =
    let mid = c.make_latest.new.tx.conn.now in
    let end = c.commit.new.self.0 in
    let same : end ≡ c.conn-2-1.given.0 = search rules in
    subst (λ h. OnOk c.commit.result (IsKept h)) same (made_kept mid end c.commit.result c.in_ok-make_latest.ensures.step.leaves c.commit.ensures.ended (c.commit.ensures.ok (memory_is_clean end)))

pub returns-clause-empty : goal.returns-clause-empty
returns-clause-empty c =
    let mid = c.make_latest.new.tx.conn.now in
    let end = c.commit.new.self.0 in
    let same : end ≡ c.conn-2-1.given.0 = search rules in
    subst (λ h. OnOk c.commit.result (latest_in h ≡ [])) same (made_empty mid end c.commit.result c.in_ok-make_latest.ensures.step.leaves c.commit.ensures.ended (c.commit.ensures.ok (memory_is_clean end)))
