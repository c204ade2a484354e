-- What the texts of the statements mean, which the resolver's definition computes.
use Rattle.std.proofs.Common.{◌≡◌, List, [], ◌∷◌, ℕ, pos, negsuc, false, codes, refl, Ok, None}
use Rattle.sqlite.specs.Compile.{table_defined_by}
use Rattle.sqlite.specs.declared.types.Value.TheVariants.{Null, Int}
use Rattle.sqlite.specs.Term.{Term, lit, col, op2}
use Rattle.sqlite.specs.Query.{Query, inner, end}
use Rattle.sqlite.specs.Source.TheVariants.{Values}
use Rattle.sqlite_schema.specs.declared.program.Program.{Program}
use Rattle.sqlite.specs.Command.{Command}
use Rattle.sqlite.specs.Schema.{Schema}
use Rattle.sqlite.specs.Command.TheVariants.{Insert, Select, Update, CreateTable, DropTable}
use Rattle.sqlite_sql.specs.declared.ops.BinaryOp.TheVariants.{Compare, Is, Or}
use Rattle.sqlite_sql.specs.declared.ops.CompareOp.TheVariants.{Eq, Ge, Le}
use Rattle.sqlite.specs.Collation.TheVariants.{Binary}
use Rattle.sqlite_tied.specs.Compute.{everything}
use Rattle.sqlite.specs.Listing.{understood, reads_listing}
use Rattle.sqlite.proofs.Callers.{command_of, statement_of, IsPlain}
use Rattle.txc_rows.specs.declared.texts.TheConstants.{MAKE_LATEST, DROP_LATEST, ADD_LATEST, END_VERSION, RENEW_LATEST, READ_LAST, READ_PLACED, READ_LEFT, READ_TABLE, READ_ROW, READ_GROUP, READ_RANGE}
use Rattle.txc_rows.specs.Texts.{no_schema, latest_table, latest_schema}

-- a text is this command
pub record Means (schema : Schema) (text : List ℕ) (it : Command) : Type 0 where
  pub command : command_of (understood schema text) ≡ it
  pub plain : IsPlain (understood schema text)

-- ---- rows that are given

abbrev pub terms : List Term
terms = lit Null ∷ col 0 0 ∷ col 0 1 ∷ col 0 2 ∷ col 0 3 ∷ col 0 4 ∷ col 0 5 ∷ col 0 6 ∷ []

pub add_latest_is : Means latest_schema ADD_LATEST.now (Insert 0 (Values terms 8))
unfolding understood everything
add_latest_is = record { command = refl; plain = (refl, refl) }

-- ---- rows that are changed or read

-- no limit
abbrev pub endless : Term
endless = lit (Int (negsuc 0))

-- all rows of the table that pass
abbrev pub whole : List Term → List Term → Query
whole filter project = record {
  from = inner 0 end;
  filter = filter;
  group = None;
  project = project;
  distinct = false;
  collations = [];
  order = [];
  limit = endless;
  offset = lit (Int (pos 0));
}

abbrev pub alone : Query → Program
alone q = record { lets = []; body = q }

abbrev pub close_filter : List Term
close_filter = op2 (Compare Eq Binary) (col 1 2) (col 0 0) ∷ op2 (Compare Eq Binary) (col 1 3) (col 0 1) ∷ op2 (Is Binary) (col 1 7) (lit Null) ∷ []

abbrev pub close_project : List Term
close_project = col 1 0 ∷ col 1 0 ∷ col 1 1 ∷ col 1 2 ∷ col 1 3 ∷ col 1 4 ∷ col 1 5 ∷ col 1 6 ∷ col 0 2 ∷ []

pub close_is : Means latest_schema END_VERSION.now (Update 0 (alone (whole close_filter close_project)))
unfolding understood everything
close_is = record { command = refl; plain = (refl, refl) }

abbrev pub key_filter : List Term
key_filter = op2 (Compare Eq Binary) (col 1 2) (col 0 0) ∷ op2 (Compare Eq Binary) (col 1 3) (col 0 1) ∷ op2 (Compare Eq Binary) (col 1 5) (col 0 2) ∷ []

abbrev pub cells_project : List Term
cells_project = col 1 1 ∷ col 1 2 ∷ col 1 3 ∷ col 1 4 ∷ col 1 5 ∷ col 1 6 ∷ col 1 7 ∷ []

abbrev pub renew_project : List Term
renew_project = col 1 0 ∷ col 1 0 ∷ col 0 3 ∷ col 1 2 ∷ col 1 3 ∷ col 0 4 ∷ col 1 5 ∷ col 0 5 ∷ lit Null ∷ []

pub renew_is : Means latest_schema RENEW_LATEST.now (Update 0 (alone (whole key_filter renew_project)))
unfolding understood everything
renew_is = record { command = refl; plain = (refl, refl) }

abbrev pub cells_names : List (List ℕ)
cells_names = codes "place" ∷ codes "table_number" ∷ codes "id" ∷ codes "born" ∷ codes "group_number" ∷ codes "body" ∷ codes "died" ∷ []

abbrev pub left_filter : List Term
left_filter = op2 Or (op2 (Is Binary) (col 1 7) (lit Null)) (op2 (Compare Ge Binary) (col 1 7) (col 0 0)) ∷ []

abbrev pub touched_filter : List Term
touched_filter = op2 (Compare Eq Binary) (col 1 2) (col 0 0) ∷ op2 (Compare Eq Binary) (col 1 3) (col 0 1)
    ∷ op2 Or (op2 (Is Binary) (col 1 7) (lit Null)) (op2 (Compare Eq Binary) (col 1 5) (col 0 2)) ∷ []

-- ---- what the statements that read share

abbrev pub shown_columns : List Term
shown_columns = col 1 3 ∷ col 1 5 ∷ col 1 6 ∷ col 1 4 ∷ col 1 7 ∷ []

abbrev pub most_shown : Term
most_shown = col 0 1

-- the versions that pass, at most so many
abbrev pub listed : List Term → Query
listed filter = record (whole filter shown_columns) { limit = most_shown }

abbrev pub shown_names : List (List ℕ)
shown_names = codes "id" ∷ codes "group_number" ∷ codes "body" ∷ codes "born" ∷ codes "died" ∷ []

-- the text lists the versions that pass
pub record IsListingOf (filter : List Term) (text : List ℕ) : Type 0 where
  pub command : command_of (understood latest_schema text) ≡ Select (alone (listed filter)) shown_names
  pub rows : reads_listing latest_schema text ≡ false
  pub plain : IsPlain (understood latest_schema text)

-- ---- the test of each

abbrev pub left_test : Term
left_test = op2 Or (op2 (Is Binary) (col 1 7) (lit Null)) (op2 (Compare Ge Binary) (col 1 7) (col 0 2))

abbrev pub table_filter : List Term
table_filter = op2 (Compare Eq Binary) (col 1 2) (col 0 0) ∷ left_test ∷ []

abbrev pub row_filter : List Term
row_filter = op2 (Compare Eq Binary) (col 1 2) (col 0 0) ∷ op2 (Compare Eq Binary) (col 1 3) (col 0 3) ∷ left_test ∷ []

abbrev pub group_filter : List Term
group_filter = op2 (Compare Eq Binary) (col 1 2) (col 0 0) ∷ op2 (Compare Eq Binary) (col 1 5) (col 0 3) ∷ left_test ∷ []

abbrev pub range_filter : List Term
range_filter = op2 (Compare Eq Binary) (col 1 2) (col 0 0) ∷ op2 (Compare Ge Binary) (col 1 3) (col 0 3) ∷ op2 (Compare Le Binary) (col 1 3) (col 0 4) ∷ left_test ∷ []

pub table_is : IsListingOf table_filter READ_TABLE.now
unfolding understood everything
table_is = record { command = refl; rows = refl; plain = (refl, refl) }

pub row_is : IsListingOf row_filter READ_ROW.now
unfolding understood everything
row_is = record { command = refl; rows = refl; plain = (refl, refl) }

pub group_is : IsListingOf group_filter READ_GROUP.now
unfolding understood everything
group_is = record { command = refl; rows = refl; plain = (refl, refl) }

pub range_is : IsListingOf range_filter READ_RANGE.now
unfolding understood everything
range_is = record { command = refl; rows = refl; plain = (refl, refl) }

-- ---- what is read with its place

-- the text lists the versions that pass, with their places
pub record AreCellsOf (filter : List Term) (text : List ℕ) : Type 0 where
  pub command : command_of (understood latest_schema text) ≡ Select (alone (whole filter cells_project)) cells_names
  pub rows : reads_listing latest_schema text ≡ false
  pub plain : IsPlain (understood latest_schema text)

pub left_is : AreCellsOf left_filter READ_LEFT.now
unfolding understood everything
left_is = record { command = refl; rows = refl; plain = (refl, refl) }

pub touched_is : AreCellsOf touched_filter READ_LAST.now
unfolding understood everything
touched_is = record { command = refl; rows = refl; plain = (refl, refl) }

abbrev pub placed_filter : List Term
placed_filter = op2 (Compare Eq Binary) (col 1 2) (col 0 0) ∷ op2 (Compare Eq Binary) (col 1 3) (col 0 1) ∷ left_test ∷ []

pub placed_is : AreCellsOf placed_filter READ_PLACED.now
unfolding understood everything
placed_is = record { command = refl; rows = refl; plain = (refl, refl) }

-- ---- the table

pub make_latest_is : Means no_schema MAKE_LATEST.now CreateTable × (statement_of MAKE_LATEST.now (understood no_schema MAKE_LATEST.now) ≡ MAKE_LATEST.now) × (table_defined_by MAKE_LATEST.now ≡ Ok latest_table)
unfolding understood everything
make_latest_is = (record { command = refl; plain = (refl, refl) }, refl, refl)

pub drop_latest_is : Means latest_schema DROP_LATEST.now (DropTable 0)
unfolding understood everything
drop_latest_is = record { command = refl; plain = (refl, refl) }
