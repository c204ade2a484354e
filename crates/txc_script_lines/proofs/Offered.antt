-- The lemmas that the crates above may use.
pub use Rattle.txc_script_lines.proofs.Names.{apart, first_is, others_are, same_name}
pub use Rattle.txc_script_lines.proofs.Meant.{HasChange, HasQuery, HaveBodies, bodies, change_bodies, change_there, has_change, has_query, none_after, none_mapped, none_some, own_change}
