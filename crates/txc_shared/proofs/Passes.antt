-- What passes show.
use Rattle.std.proofs.Common.{◌≡◌, ◌⊎◌, inl, inr, ℕ, ◌+◌, ◌≤◌, List, [], length, length-append, refl, ap, sym, subst, ◌∙◌, arith}
use mathlib.Core.List.{IsPrefix}
use Rattle.txc_stream.proofs.Offered.{longer_is}
use Rattle.txc_stream.specs.Names.{Name, stored, unstored}
use Rattle.txc_db.specs.History.{History}
use Rattle.txc_db.specs.FrontsAndFeeds.{taken_at_start}
use Rattle.txc_node.specs.Cache.{Cache}
use Rattle.txc_node.specs.declared.record.Record.{Record}
use Rattle.txc_shared.specs.declared.settings.NodeSettings.{NodeSettings}
use Rattle.txc_shared.specs.Histories.{IsLegal, events_of}
use Rattle.txc_shared.specs.Nodes.{start_of}
use Rattle.txc_shared.specs.Passes.{PassValue, IsLegalOver, HasNoneLeft}
use Rattle.txc_shared.specs.Laws.{LegalInLonger, NoRecordIsLegal}

-- what a front shows that took over a longer one, where both are known by other names
pub taken_over : {A : Type 0} (was other now old all : List A) → was ≡ old → other ≡ all → IsPrefix old all → (now ≡ was) ⊎ (now ≡ other) → IsPrefix other now → now ≡ all
taken_over {A} was other now old all was_is other_is begins one that =
    longer_is was other now (subst (λ (l : List A). IsPrefix l other) (sym was_is) (subst (IsPrefix old) (sym other_is) begins)) one that ∙ other_is

pub legal_as : (L M : History) (start begin : Cache) (rs all : List Record) → L ≡ M → start ≡ begin → rs ≡ all → IsLegal M begin all → IsLegal L start rs
legal_as L M start begin rs all a b c legal =
    subst (λ (l : History). IsLegal l start rs) (sym a) (subst (λ (s : Cache). IsLegal M s rs) (sym b) (subst (IsLegal M begin) (sym c) legal))

-- ---- where a node began

-- a legal history of a node that began where a feed does
pub legal_over : (row : Name) (L : History) (settings : NodeSettings) (rs : List Record) (from : ℕ) → from ≡ taken_at_start row from → from ≤ length L
    → IsLegal L (start_of settings from) rs → IsLegalOver row L settings rs
legal_over (stored cells) L settings rs from begun low legal = subst (λ (n : ℕ). IsLegal L (start_of settings n) rs) begun legal
legal_over (unstored number) L settings rs from begun low legal = (from, low, legal)

-- no record is a legal history of a node, wherever it began
pub none_over : NoRecordIsLegal → (row : Name) (L : History) (settings : NodeSettings) → IsLegalOver row L settings []
none_over none (stored cells) L settings = none L (start_of settings 0)
none_over none (unstored number) L settings = (0, omega arith, none L (start_of settings 0))

-- a node that began where a feed does, and took each event that was seen
pub none_left : (row : Name) (p : PassValue) (from : ℕ) → from ≡ taken_at_start row from → from + events_of p.records ≡ length p.history
    → IsLegal p.history (start_of p.settings from) p.records → HasNoneLeft row p
none_left (stored cells) p from begun count legal = let none : from ≡ 0 = begun in omega (arith, none, count)
none_left (unstored number) p from begun count legal = (from, count, legal)

-- what begins at a feed's beginning begins where a feed does
pub begun_with : (row : Name) (events taken from : ℕ) → taken ≡ taken_at_start row events → from ≡ taken → from ≡ taken_at_start row from
begun_with (stored cells) events taken from is same = same ∙ is
begun_with (unstored number) events taken from is same = refl

pub over_longer : LegalInLonger → (row : Name) (L M : History) (settings : NodeSettings) (rs : List Record) → IsPrefix L M → IsLegalOver row L settings rs
    → IsLegalOver row M settings rs
over_longer longer (stored cells) L M settings rs begins h = longer L M (start_of settings 0) rs begins h
over_longer longer (unstored number) L M settings rs begins h =
    let low = h.1 in
    let long = length-append L begins.0 in
    let all = ap (λ (l : History). length l) begins.1 in
    let within : h.0 ≤ length M = omega (arith, low, long, all) in
    (h.0, within, longer L M (start_of settings h.0) rs begins h.2)

pub over_as : (row : Name) (L M : History) (a b : NodeSettings) (rs all : List Record) → L ≡ M → a ≡ b → rs ≡ all → IsLegalOver row M b all → IsLegalOver row L a rs
over_as row L M a b rs all p q r legal =
    subst (λ (l : History). IsLegalOver row l a rs) (sym p) (subst (λ (s : NodeSettings). IsLegalOver row M s rs) (sym q) (subst (IsLegalOver row M b) (sym r) legal))

-- the longer of two legal histories is legal in what both have seen
pub met_legal : LegalInLonger → (row : Name) (L K M : History) (settings : NodeSettings) (one other all : List Record) → IsPrefix L M → IsPrefix K M
    → IsLegalOver row L settings one → IsLegalOver row K settings other → (all ≡ one) ⊎ (all ≡ other) → IsLegalOver row M settings all
met_legal longer row L K M settings one other all begins begins_too h k either = elim either [
  | inl is ↦ subst (IsLegalOver row M settings) (sym is) (over_longer longer row L M settings one begins h)
  | inr is ↦ subst (IsLegalOver row M settings) (sym is) (over_longer longer row K M settings other begins_too k)
]
