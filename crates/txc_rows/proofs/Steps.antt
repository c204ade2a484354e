-- What the statements on the tables do: the table that is written gets its rows, and the other keeps its own.
use Rattle.std.proofs.Common.{◌≡◌, ◌⊎◌, inl, inr, ℕ, ℤ, pos, List, [], ◌∷◌, length, Bool, true, false, cond, None, Some, Option, Ok, Err, Result, refl, sym, ap, subst, ◌∙◌}
use Rattle.sqlite.specs.declared.types.Value.{Value}
use Rattle.sqlite.specs.declared.types.Value.TheVariants.{Null, Int}
use Rattle.sqlite.specs.Order.{Row}
use Rattle.sqlite.specs.Ops.{unary}
use Rattle.sqlite.specs.Kind.TheVariants.{Integer}
use Rattle.sqlite.specs.Source.{Source}
use Rattle.sqlite.specs.Command.TheVariants.{Insert, Update, CreateTable}
use Rattle.sqlite_schema.specs.declared.program.Program.{Program}
use Rattle.sqlite_schema.specs.declared.schema.Table.{Table}
use Rattle.sqlite_schema.specs.declared.schema.Schema.{Schema}
use Rattle.sqlite.specs.Compile.{table_defined_by}
use Rattle.sqlite.specs.Cast.{cast}
use Rattle.sqlite.specs.Edit.{edit_of, edited, next_rowid}
use Rattle.sqlite_rules.specs.Calls.{ids_of}
use Rattle.sqlite_rules.specs.Edit.{Applies}
use Rattle.sqlite.specs.Rowids.TheVariants.{Chosen, Given}
use Rattle.sqlite.specs.Change.{created, next_tree, KeepsRows}
use Rattle.sqlite.specs.Does.{Tally, OnRows, lacks_sequence}
use Rattle.sqlite.specs.Rows.{Written, Task, stamped}
use Rattle.sqlite.specs.Tree.{Trees, put_row}
use Rattle.sqlite.specs.declared.run.Mode.{Mode}
use Rattle.sqlite.specs.Listing.{understood}
use Rattle.sqlite.specs.Effect.{Database, Answers, IsSource}
use Rattle.sqlite.specs.State.{State, Writes, Executes}
use Rattle.sqlite.proofs.Callers.{command_of, statement_of, runs_as, one_step, IsPlain}
use Rattle.txc_rows.specs.declared.placed.Placed.{Placed}
use Rattle.txc_rows.specs.Texts.{latest_table, latest_schema}
use Rattle.txc_rows.specs.StoredVersion.{stored, cells_of}

either : (b : Bool) (x : Value) → cond b x x ≡ x
either true x = refl
either false x = refl

pub cast_null : cast Integer Null ≡ Null
unfolding unary
cast_null = either _ Null

pub cast_int : (n : ℤ) → cast Integer (Int n) ≡ Int n
unfolding unary
cast_int n = either _ (Int n)

-- a part that gave a value did not stop on the way
pub went : {B E R : Type 0} {b : B} {Stops : E → Type 0} → ((stop : E) × Stops stop × (Ok b ≡ Err stop)) ⊎ R → R
went (inl stopped) = absurd (let e = stopped.2 in cc)
went (inr on) = on

pub same_value : {B E : Type 0} {a b : B} → ◌≡◌ {A = Result B E} (Ok a) (Ok b) → a ≡ b
same_value e = cc

-- ---- tables come and go

module _ (schema : Schema) (text : List ℕ) (table : Table) (is : command_of (understood schema text) ≡ CreateTable) (whole : statement_of text (understood schema text) ≡ text) (plain : IsPlain (understood schema text))
    (defines : table_defined_by text ≡ Ok table) (lacks : lacks_sequence (created schema table) ≡ false) where
  pub creates : (old new : State) (count : ℕ) → old.now.schema ≡ schema → Executes text [] old new (Ok count)
      → (new.now.schema ≡ created schema table) × (new.now.trees (next_tree schema) ≡ []) × KeepsRows schema.tables old.now.trees new.now.trees
  creates old new count has h =
      let w = subst (λ t. Writes old new None CreateTable t [] count) whole (runs_as text [] old new schema has CreateTable is plain count h) in
      let all = went w.changed in
      let first = went all.1 in
      let made = first.1 in
      let both : Ok made.table ≡ Ok table = sym made.defined ∙ defines in
      let same : made.table ≡ table = cc in
      let after : first.0.schema ≡ created schema table = made.is ∙ ap (λ s. created s made.table) has ∙ ap (created schema) same in
      let none : lacks_sequence first.0.schema ≡ false = ap lacks_sequence after ∙ lacks in
      let now : new.now ≡ first.0 = ap (λ (p : Tally × Database). p.1) (same_value all.2) ∙ same_value (rw none at first.2) in (
        ap (λ (d : Database). d.schema) now ∙ after,
        ap (λ (d : Database). d.trees (next_tree schema)) now ∙ subst (λ s. first.0.trees (next_tree s) ≡ []) has made.empty,
        subst (λ (d : Database). KeepsRows schema.tables old.now.trees d.trees) (sym now) (subst (λ s. KeepsRows s.tables old.now.trees first.0.trees) has made.others),
      )

-- ---- rows come and change

module _ (limit : Option ℕ) (mode : Mode) (params : Row) (db : Trees) where
  abbrev task : Task
  task = record { limit = limit; keys = mode.keys; schema = latest_schema; table = latest_table; params = params }

  pub inserts_rows : (at : ℕ) (from : Source) (tally : Tally) (after : Database) → OnRows task mode None (Insert at from) db (Ok (tally, after))
      → (given : List Row) × IsSource (record { schema = latest_schema; trees = db }) (stamped latest_table params) from given
      × (after.schema ≡ latest_schema) × (tally.rows ≡ Some (length (edit_of db latest_table [] Chosen 0 given).news)) × Applies latest_schema mode.keys db (edit_of db latest_table [] Chosen 0 given) after.trees
  inserts_rows at from tally after h =
      let done = went h in
      let said = same_value (went (went done.2).2).2 in
      let given = went done.1 in
      let written = went (went given.2).2 in
      let counted = went written.2 in
      let is = same_value counted.2 in
      let trees : done.0.trees ≡ written.0 = ap (λ (it : Written). it.trees) is ∙ same_value counted.1 in
      let step = one_step latest_schema mode.keys db written.0 (edit_of db latest_table [] Chosen 0 given.0) refl written.1 in (
        given.0,
        given.1,
        ap (λ (p : Tally × Database). p.1.schema) said,
        ap (λ (p : Tally × Database). p.0.rows) said ∙ ap (λ (it : Written). Some (length it.rows)) is,
        subst (Applies latest_schema mode.keys db (edit_of db latest_table [] Chosen 0 given.0)) (sym (ap (λ (p : Tally × Database). p.1.trees) said ∙ trees)) step,
      )

  pub updates_rows : (at : ℕ) (q : Program) (tally : Tally) (after : Database) → OnRows task mode None (Update at q) db (Ok (tally, after))
      → (given : List Row) × Answers (record { schema = latest_schema; trees = db }) q params given
      × (after.schema ≡ latest_schema) × Applies latest_schema mode.keys db (edit_of db latest_table (ids_of given) Given 1 given) after.trees
  updates_rows at q tally after h =
      let done = went h in
      let said = same_value (went (went done.2).2).2 in
      let given = went done.1 in
      let written = went given.2 in
      let trees : done.0.trees ≡ written.0 = ap (λ (it : Written). it.trees) (same_value written.2) in
      let step = one_step latest_schema mode.keys db written.0 (edit_of db latest_table (ids_of given.0) Given 1 given.0) refl written.1 in (
        given.0,
        given.1,
        ap (λ (p : Tally × Database). p.1.schema) said,
        subst (Applies latest_schema mode.keys db (edit_of db latest_table (ids_of given.0) Given 1 given.0)) (sym (ap (λ (p : Tally × Database). p.1.trees) said ∙ trees)) step,
      )

  -- one row is added at the end
  pub one_more : (x : Placed) → edited db (edit_of db latest_table [] Chosen 0 ((Null ∷ cells_of x) ∷ [])) ≡ put_row (stored (next_rowid (db 0)) x) (db 0)
  one_more x = go x.version.died refl
    where
      go : (d : Option ℕ) → x.version.died ≡ d → edited db (edit_of db latest_table [] Chosen 0 ((Null ∷ cells_of x) ∷ [])) ≡ put_row (stored (next_rowid (db 0)) x) (db 0)
      go None e = rw (e, cast_null, cast_int (pos x.place), cast_int (pos x.version.row.table), cast_int (pos x.version.row.id), cast_int (pos x.version.born), cast_int (pos x.version.row.group)) refl
      go (Some d) e = rw (e, cast_null, cast_int (pos d), cast_int (pos x.place), cast_int (pos x.version.row.table), cast_int (pos x.version.row.id), cast_int (pos x.version.born), cast_int (pos x.version.row.group)) refl
