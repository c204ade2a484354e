use Rattle.std.proofs.Common.{rules, ◌≡◌, ℕ, List, IfErr, length, map, sym, ap, subst, ◌∙◌, arith, vec_len}
use Rattle.std.specs.List.{All}
use Rattle.std.proofs.lemmas.List.Elements.{All-weaker}
use Rattle.txc_db.specs.FrontsAndFeeds.{FrontValue}
use Rattle.txc_db.specs.DatabaseValue.{DatabaseValue}
use Rattle.txc_db.proofs.Refusing.{passed_up}
use Rattle.txc_call_registry.specs.Objects.{numbers_of}
use Rattle.txc_shared.specs.Passes.{PassValue}
use Rattle.txc_txn_client.specs.RoTxn.{ClientValue}
use Rattle.txc_work.specs.Batches.{job_numbers, IsResultOf, Meets, NamesOneOf}
use Rattle.txc_work.specs.declared.job.Receipted.{Receipted}
use Rattle.txc_script_batch.specs.BatchStates.{BatchState}
use Rattle.txc_script_batch.specs.WorkerFunctions.{numbers_in}
use Rattle.txc_script_batch.specs.JobResults.{AgreesWith, HaveRun}
use Rattle.txc_script_batch.specs.BatchClients.{AreNodesBy}
use Rattle.txc_script_batch.proofs.JobsRun.{all_of_row, have_run}
use Rattle.txc_script_batch.proofs.NodeRows.{rooms_by}
use Rattle.txc_script_batch.proofs.running.run_over.Goals as goal

pub by_clients-requires : goal.by_clients-requires
by_clients-requires g c = λ κs within.
    let asked = c.requires.1.1.1.1.1.1.1.1.1.1 in
    let inside = c.batch.inside in
    let same = c.batch.view_is in
    let count : vec_len c.args.rows ≡ inside.settings.nodes = asked.1.1.0 ∙ ap (λ (b : BatchState). b.settings.nodes) (sym same) in
    let rooms = subst (λ (b : BatchState). All (λ (row : List ℕ). length row ≡ b.settings.row_cap) c.args.rows.items) (sym same) asked.1.1.1.0 in
    let made = c.in-Ok-nodes.ensures in
    let clients = c.in-Ok-clients in
    let through = λ (client : ClientValue). map (λ (pass : PassValue). pass.settings) client.passes ≡ c.deref.result.now in
    let by = λ (client : ClientValue). AreNodesBy inside.settings (map (λ (pass : PassValue). pass.settings) client.passes) in (
      search rules,
      (
        search rules,
        (
          search rules,
          (
            search rules,
            (
              search rules,
              (
                search rules,
                (
                  search rules,
                  (
                    search rules,
                    (
                      search rules,
                      (
                        search rules,
                        (
                          record {
                            count = omega (arith, clients.ensures.count, c.batch.invariant.count, clients.clients.ok.0, inside.crew.ok.0);
                            nodes = All-weaker through by (λ client h. subst (AreNodesBy inside.settings) (sym (h ∙ c.deref.ensures.value)) made) clients.clients.items clients.ensures.nodes;
                            rooms = rooms_by inside.settings c.args.rows.items g.J.Naming.node_histories asked.1.0 rooms (omega (arith, count, c.args.rows.ok.0));
                            renewal = clients.ensures.renewal;
                          },
                          subst (λ (fs : List ℕ). All (λ (client : ClientValue). numbers_of client.objects ≡ fs) clients.clients.items) (ap (λ (b : BatchState). b.functions) same ∙ asked.1.1.1.1) clients.ensures.functions,
                        ),
                      ),
                    ),
                  ),
                ),
              ),
            ),
          ),
        ),
      ),
    )

pub returns-in_err-ran-clause-named : goal.returns-in_err-ran-clause-named
returns-in_err-ran-clause-named g c =
    subst (λ (b : BatchState). IfErr c.from_residual.result (NamesOneOf (job_numbers b.jobs))) c.batch.view_is
    (passed_up c.from_residual.result c.in_err-ran.field-0.0 (NamesOneOf (job_numbers c.batch.inside.jobs.items)) c.from_residual.ensures.1 c.in_err-ran.ensures.named)

pub results_agree-requires : goal.results_agree-requires
results_agree-requires g c =
    let asked = c.requires.1.1.1.1.1.1.1.1.1.1 in
    let jobs = c.batch.inside.jobs.items in
    let meets = IsResultOf jobs (Meets g.A.App.next g.J.Naming.database_history g.J.Naming.node_histories g.functions) in
    let row : c.in-Ok.told.events ≡ g.J.Naming.database_history = ap (λ (f : FrontValue). f.events) c.in-Ok.ensures ∙ ap (λ (d : DatabaseValue). d.events) c.into_parts-database.ensures.database
    ∙ ap (λ (b : BatchState). b.source.database.events) c.batch.view_is ∙ asked.0 in
    all_of_row g.A.App.next g.J.Naming.database_history c.in-Ok.told.events g.J.Naming.node_histories g.functions jobs c.results.result.now row (subst (All meets) (sym c.results.ensures) c.in_ok-ran.ensures.met)

pub returns-clause-ran : goal.returns-clause-ran
returns-clause-ran g c =
    let asked = c.requires.1.1.1.1.1.1.1.1.1.1 in
    let inside = c.batch.inside in
    let same = c.batch.view_is in
    let s : BatchState = record { settings = inside.settings; source = inside.source; functions = numbers_in inside.crew.items; jobs = inside.jobs.items } in
    let count : vec_len c.args.rows ≡ inside.settings.nodes = asked.1.1.0 ∙ ap (λ (b : BatchState). b.settings.nodes) (sym same) in
    let rooms = subst (λ (b : BatchState). All (λ (row : List ℕ). length row ≡ b.settings.row_cap) c.args.rows.items) (sym same) asked.1.1.1.0 in
    let history = c.in-Ok.told.history in
    let ran = c.in_ok-ran in
    subst (λ (b : BatchState). HaveRun g.A.App.next b ran.ran) same
    (have_run g.A.App.next s ran.ran g.J.Naming.database_history g.J.Naming.node_histories g.functions history (ap (λ (b : BatchState). b.source.database.events) same ∙ asked.0)
    (ap (λ (b : BatchState). b.functions) same ∙ asked.1.1.1.1) (rooms_by inside.settings c.args.rows.items g.J.Naming.node_histories asked.1.0 rooms (omega (arith, count, c.args.rows.ok.0))) ran.ensures.settings
    ran.ensures.once ran.ensures.in_order ran.ensures.met (ap (λ (f : FrontValue). f.history) c.in-Ok.ensures ∙ ap (λ (d : DatabaseValue). d.history) c.into_parts-database.ensures.database)
    (subst (All (λ (told : Receipted). AgreesWith history told.outcome)) c.results.ensures c.results_agree.ensures))
