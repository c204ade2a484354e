-- The lemmas that the crates above may use.
pub use Rattle.txc_tags.proofs.Lists.{bool_cases, both_true, and_true, IsIn, any_there, any_found, in_filter, from_filter, in_left, in_right, in_either}
pub use Rattle.txc_tags.proofs.Calls.{same_call_itself, same_call_is, same_call_iff}
pub use Rattle.txc_tags.proofs.Covering.{all_keep, all_covered, covered_match}
pub use Rattle.txc_tags.proofs.TextKeys.{same_key_text}
pub use Rattle.txc_tags.proofs.TextSets.{same_spelt_text}
