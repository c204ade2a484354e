-- Every state of a history is one that some changes lead to.
use Rattle.std.proofs.Common.{◌≡◌, ℕ, List, [], ◌∷◌, ◌++◌, take, fold, refl, sym, ap, ◌∙◌}
use Rattle.txc_rows.specs.declared.query.Change.{Change}
use Rattle.txc_rows.specs.States.{State, after_changes}
use Rattle.txc_rows.proofs.ChangeLemmas.{changes_then}
use Rattle.txc_db.specs.Facts.{Fact, commit, pin, net_of}
use Rattle.txc_db.specs.History.{History, after_fact, state_after_event, state_at}
use Rattle.txc_txn_rw.specs.Answers.{state_of}

-- all changes of the events
abbrev pub changes_of : History → List Change
changes_of [] = []
changes_of (e ∷ es) = net_of e.fact ++ changes_of es

fact_changes : (f : Fact) (s : State) → after_changes (net_of f) s ≡ after_fact f s
fact_changes (commit net) s = refl
fact_changes (pin moment) s = refl

events_change : (es : History) (s : State) → fold state_after_event s es ≡ after_changes (changes_of es) s
events_change [] s = refl
events_change (e ∷ es) s =
    events_change es (state_after_event s e)
    ∙ ap (λ (t : State). after_changes (changes_of es) t) (sym (fact_changes e.fact s))
    ∙ sym (changes_then (net_of e.fact) (changes_of es) s)

pub reached : (L : History) (t : ℕ) → state_at L t ≡ state_of (changes_of (take t L))
reached L t = events_change (take t L) []
