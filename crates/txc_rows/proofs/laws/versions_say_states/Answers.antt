use Rattle.txc_rows.proofs.SaysLemmas
use Rattle.txc_rows.proofs.Writable
use Rattle.txc_rows.proofs.laws.versions_say_states.Goals as goal

pub returns : goal.returns
returns c = record {
  nothing = SaysLemmas.says_nothing;
  agree = SaysLemmas.says_agree;
  writable = Writable.net_is_writable;
  written = SaysLemmas.says_written;
  quiet = SaysLemmas.says_quiet;
  purged = SaysLemmas.says_purged;
  answer = SaysLemmas.says_answer;
}
