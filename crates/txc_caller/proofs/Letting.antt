-- Pins that are given back, and holds that are taken away one after another.
use Rattle.std.proofs.Common.{◌≡◌, ◌∙◌, ℕ, ◌+◌, ◌<◌, List, ◌∷◌, length, drop, get_or, Option, None, Some, inl, inr, refl, ap, sym, subst}
use Rattle.std.specs.Prelude.{Result, Ok, Err, IfErr, OnErr, OnOk}
use Rattle.std.proofs.lemmas.List.{at_drop_more}
use Rattle.txc_db.specs.Calls.{IsUnpinRefused}
use Rattle.txc_db.specs.DatabaseValue.{DatabaseValue, after_unpin}
use Rattle.txc_db.specs.declared.error.DbError.{DbError}
use Rattle.txc_cushion.specs.Cushion.{CushionValue, after_give_back}
use Rattle.txc_cushion.specs.Refusals.{IsFirstUnused}
use Rattle.txc_cushion.specs.declared.error.UnknownPin.{UnknownPin}
use mathlib.Core.List.{IsPrefix}
use Rattle.txc_db.specs.History.{History}
use Rattle.txc_stream.proofs.Offered.{prefix_self, prefix_trans}
use Rattle.txc_caller.specs.Ports.{AreGivenBack, AreLetGo, HasGrownDatabase, IsLetGo}

-- one more
pub unpinned_more : (stamps : List ℕ) (i d stamp : ℕ) (old mid last : DatabaseValue) → i < length stamps → stamp ≡ get_or stamps i d → IsLetGo (Some stamp) old mid
    → AreLetGo (drop (i + 1) stamps) mid last → AreLetGo (drop i stamps) old last
unpinned_more stamps i d stamp old mid last low is gone rest =
    let at : drop i stamps ≡ stamp ∷ drop (i + 1) stamps = at_drop_more (λ (xs : List ℕ). xs) stamps i d low ∙ ap (λ (s : ℕ). s ∷ drop (i + 1) stamps) (sym is) in
    subst (λ (xs : List ℕ). AreLetGo xs old last) (sym at) (mid, gone, rest)

pub given_back : {A : Type 0} (stamps : List ℕ) (old new : CushionValue) (result : Result A UnknownPin) → OnOk result (new ≡ after_give_back old stamps) → OnErr result (new ≡ old)
    → IfErr result (λ (unknown : UnknownPin). IsFirstUnused old.entries stamps unknown.stamp) → AreGivenBack stamps old new
given_back stamps old new (Ok it) after unchanged refused = inl after
given_back stamps old new (Err unknown) after unchanged refused = inr (unchanged, (unknown.stamp, refused))

-- a hold is taken away, or the database refused
pub let_go_so : {A : Type 0} (stamp : ℕ) (old new : DatabaseValue) (result : Result A DbError) → OnOk result (new ≡ after_unpin old stamp) → OnErr result (new ≡ old)
    → IfErr result (IsUnpinRefused old stamp) → IsLetGo (Some stamp) old new
let_go_so stamp old new (Ok it) after unchanged refused = inl after
let_go_so stamp old new (Err error) after unchanged refused = inr (unchanged, (error, refused))

-- either leaves the history and its row
pub let_go_history : (unpin : Option ℕ) (old new : DatabaseValue) → IsLetGo unpin old new → new.history ≡ old.history
let_go_history None old new same = ap (λ (d : DatabaseValue). d.history) same
let_go_history (Some stamp) old new (inl after) = ap (λ (d : DatabaseValue). d.history) after
let_go_history (Some stamp) old new (inr left) = ap (λ (d : DatabaseValue). d.history) left.0

pub let_go_events : (unpin : Option ℕ) (old new : DatabaseValue) → IsLetGo unpin old new → new.events ≡ old.events
let_go_events None old new same = ap (λ (d : DatabaseValue). d.events) same
let_go_events (Some stamp) old new (inl after) = ap (λ (d : DatabaseValue). d.events) after
let_go_events (Some stamp) old new (inr left) = ap (λ (d : DatabaseValue). d.events) left.0

-- ---- histories that only grow

pub grown_by : (old new : DatabaseValue) → new.events ≡ old.events → new.history ≡ old.history → HasGrownDatabase old new
grown_by old new events history = record { events = events; longer = subst (λ (L : History). IsPrefix old.history L) (sym history) (prefix_self old.history) }

pub grown_same : (old new : DatabaseValue) → new ≡ old → HasGrownDatabase old new
grown_same old new is = grown_by old new (ap (λ (d : DatabaseValue). d.events) is) (ap (λ (d : DatabaseValue). d.history) is)

pub grown_self : (d : DatabaseValue) → HasGrownDatabase d d
grown_self d = record { events = refl; longer = prefix_self d.history }

pub grown_then : (a b c : DatabaseValue) → HasGrownDatabase a b → HasGrownDatabase b c → HasGrownDatabase a c
grown_then a b c one two = record { events = two.events ∙ one.events; longer = prefix_trans a.history b.history c.history one.longer two.longer }

pub let_go_grown : (unpin : Option ℕ) (old new : DatabaseValue) → IsLetGo unpin old new → HasGrownDatabase old new
let_go_grown unpin old new is = grown_by old new (let_go_events unpin old new is) (let_go_history unpin old new is)
