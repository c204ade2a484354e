-- The lemmas that the crates above may use.
pub use Rattle.txc_rows.proofs.Members.{bool_cases, both_true, and_true, IsIn, is_in, contains_it, any_there, any_found, in_filter, from_filter, in_left, in_right}
pub use Rattle.txc_rows.proofs.RowTests.{same_row_is, row_itself, same_row_decides}
pub use Rattle.txc_rows.proofs.Rising.{same_rows, filter_state}
pub use Rattle.txc_rows.proofs.PutStates.{puts_append}
