use Rattle.std.proofs.Common.{◌≡◌, ◌≤◌, ℕ, length, ap, subst, ◌∙◌, List, arith}
use Rattle.txc_rows.specs.declared.version.Versioned.{Versioned}
use Rattle.txc_rows.specs.declared.query.Query.TheVariants.{ById}
use Rattle.txc_rows.specs.States.{answer}
use Rattle.txc_rows.specs.Versions.{shown_at}
use Rattle.txc_rows.specs.KeptStates.{ShowsAnswers}
use Rattle.txc_db.specs.History.{state_at}
use Rattle.txc_db.specs.DatabaseValue.{DatabaseValue, newest_state}
use Rattle.txc_db.specs.Calls.{matching_of}
use Rattle.txc_db.proofs.db_core.DbCore.rows_now.Goals as goal

pub returns-clause-rows : goal.returns-clause-rows
returns-clause-rows c =
    let sound = c.self.invariant.1 (ap (λ (v : DatabaseValue). v.broken) c.self.view_is ∙ c.requires) in
    let last = length c.self.inside.told.history in
    let query = ById c.args.table c.args.id in
    let newest_is : c.newest-newest.result ≡ length c.self.inside.told.history = c.newest-newest.ensures in
    let shows : ShowsAnswers (ById c.args.table c.args.id) (state_at c.self.inside.told.history) (length c.self.inside.told.history) (length c.self.inside.told.history) c.in_ok-versions.versions.items = c.in_ok-versions.ensures.answers (state_at c.self.inside.told.history) c.self.inside.horizon (length c.self.inside.told.history) sound.kept in
    c.in_ok-rows_at.ensures ∙ (ap (λ (n : ℕ). shown_at query n c.deref.result.now) newest_is ∙ (ap (λ (vs : List Versioned). shown_at query last vs) c.deref.ensures.value
    ∙ (shows.answers last (omega arith) (omega arith) ∙ ap (λ (v : DatabaseValue). answer query (newest_state v)) c.self.view_is)))

pub returns-clause-few : goal.returns-clause-few
returns-clause-few c = λ _. subst (λ (v : DatabaseValue). matching_of v (ById c.args.table c.args.id) ≤ v.most) c.self.view_is c.in_ok-versions.ensures.bound
