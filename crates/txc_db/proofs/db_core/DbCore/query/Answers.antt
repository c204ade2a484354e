use Rattle.std.proofs.Common.{◌≡◌, ◌≤◌, ℕ, List, length, sym, subst, ◌∙◌, arith, rules}
use Rattle.txc_rows.specs.declared.version.Versioned.{Versioned}
use Rattle.txc_rows.specs.Versions.{AreVersions, shown_at}
use Rattle.txc_rows.specs.FoundAnswers.{ShowsAround}
use Rattle.txc_validity.specs.Validity.{IsValidity}
use Rattle.txc_validity.specs.Answers.{IsAnswer}
use Rattle.txc_db.specs.History.{state_at}
use Rattle.txc_db.specs.DatabaseValue.{DatabaseValue, newest}
use Rattle.txc_db.specs.Calls.{matching_of}
use Rattle.txc_db.proofs.db_core.DbCore.query.Goals as goal

pub answer_at-requires : goal.answer_at-requires
answer_at-requires c =
    let sound = c.self.invariant.1 c.if-self.false in
    let newest_is : c.newest-newest.result ≡ length c.self.inside.told.history = c.newest-newest.ensures in
    let low : c.self.inside.horizon ≤ c.args.stamp = search (arith, rules) in
    let high : c.args.stamp ≤ length c.self.inside.told.history = search (arith, rules) in
    let shows : ShowsAround c.args.query.now (state_at c.self.inside.told.history) c.self.inside.horizon (length c.self.inside.told.history) c.args.stamp c.in_ok-versions.versions.items
    = c.in_ok-versions.ensures.answers (state_at c.self.inside.told.history) c.self.inside.horizon (length c.self.inside.told.history) sound.kept low high in
    subst AreVersions (sym c.deref.ensures.value) shows.versions

pub returns-in-Ok-clause-answer : goal.returns-in-Ok-clause-answer
returns-in-Ok-clause-answer c =
    let sound = c.self.invariant.1 c.if-self.false in
    let last = length c.self.inside.told.history in
    let newest_is : c.newest-newest.result ≡ length c.self.inside.told.history = c.newest-newest.ensures in
    let low : c.self.inside.horizon ≤ c.args.stamp = search (arith, rules) in
    let high : c.args.stamp ≤ length c.self.inside.told.history = search (arith, rules) in
    let shows : ShowsAround c.args.query.now (state_at c.self.inside.told.history) c.self.inside.horizon (length c.self.inside.told.history) c.args.stamp c.in_ok-versions.versions.items
    = c.in_ok-versions.ensures.answers (state_at c.self.inside.told.history) c.self.inside.horizon (length c.self.inside.told.history) sound.kept low high in
    let valid = subst (λ (n : ℕ). IsValidity (λ s. shown_at c.args.query.now s c.in_ok-versions.versions.items) c.args.stamp c.self.inside.horizon n c.in-Ok.found.reach) newest_is
    (subst (λ (vs : List Versioned). IsValidity (λ s. shown_at c.args.query.now s vs) c.args.stamp c.self.inside.horizon c.newest-newest.result c.in-Ok.found.reach) c.deref.ensures.value c.in-Ok.ensures.validity) in
    let rows : c.in-Ok.found.rows.items ≡ shown_at c.args.query.now c.args.stamp c.in_ok-versions.versions.items = subst (λ (vs : List Versioned). c.in-Ok.found.rows.items ≡ shown_at c.args.query.now c.args.stamp vs) c.deref.ensures.value c.in-Ok.ensures.rows in
    let is : IsAnswer (state_at c.self.inside.told.history) c.args.query.now c.args.stamp c.self.inside.horizon (length c.self.inside.told.history) c.in-Ok.found = record {
      rows = rows ∙ shows.shown;
      validity = c.validity_is_the_largest.ensures.around c.args.query.now (state_at c.self.inside.told.history) c.args.stamp c.self.inside.horizon last c.in_ok-versions.versions.items c.in-Ok.found.reach shows valid;
    } in
    subst (λ (v : DatabaseValue). IsAnswer (state_at v.history) c.args.query.now c.args.stamp v.horizon (newest v) c.in-Ok.found) c.self.view_is is

pub returns-in-Ok-clause-few : goal.returns-in-Ok-clause-few
returns-in-Ok-clause-few c = λ _. subst (λ (v : DatabaseValue). matching_of v c.args.query.now ≤ v.most) c.self.view_is c.in_ok-versions.ensures.bound
