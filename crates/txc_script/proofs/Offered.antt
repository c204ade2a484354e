-- What crates above may use of the proofs: texts that are compared, the words of a text, what words say, the lines of a
-- table of forms, and runs that read nothing.
pub use Rattle.txc_script.proofs.Texts.{other_text, same_text}
pub use Rattle.txc_script.proofs.Blanks.{some_word}
pub use Rattle.txc_script.proofs.Forms.{asks_one, fault_asks_none, not_quiet}
pub use Rattle.txc_script.proofs.Meanings.{AreSmall}
pub use Rattle.txc_script.proofs.Answering.{is_nothing, not_nothing}
pub use Rattle.txc_script.proofs.Turning.{run_out_of_memory}
pub use Rattle.txc_script.proofs.SaidKinds.{all_said_by, meant, none_wrong, said_by, said_of, wrong_as, wrong_in, wrong_of}
pub use Rattle.txc_script.proofs.WordFaults.{same_kinds}
