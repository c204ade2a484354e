use Rattle.txc_app.proofs.Claims
use Rattle.txc_app.proofs.laws.found_rows_give_true_entries.Goals as goal

pub returns : goal.returns
returns c = record { rows = Claims.found_rows_hold; entry = Claims.done_after_is_true }
