-- The lemmas that the crates above may use.
pub use Rattle.txc_script_batch.proofs.Crews.{crew_made, crew_of}
