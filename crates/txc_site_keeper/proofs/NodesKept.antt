-- What a keeper did with one node more.
use Rattle.std.proofs.Common.{◌≡◌, ◌≢◌, ◌∙◌, ℕ, ◌+◌, ◌<◌, ◌≤◌, List, [], ◌∷◌, ◌++◌, Option, map, length, length-append, get_or, take, refl, sym, ap, subst, rules, arith}
use Rattle.std.proofs.lemmas.List.{append_assoc, map-append, take_more}
use Rattle.std.proofs.lemmas.List.Elements.{All-append}
use Rattle.std.specs.Prelude.{All, Result}
use Rattle.txc_stream.specs.Names.{Name}
use Rattle.txc_shared.specs.declared.advanced.Ended.{Ended}
use Rattle.txc_shared.specs.declared.advanced.Ended.TheVariants.{Idle, Paused, Refused}
use Rattle.txc_shared.specs.declared.error.NodeError.{NodeError}
use Rattle.txc_shared.specs.declared.settings.NodeSettings.{NodeSettings}
use Rattle.txc_shared.specs.Passes.{PassValue, HasGrown, HasTakenEach}
use Rattle.txc_shared.specs.EventBatch.{HasStopped, HasTakenMany}
use Rattle.txc_shared.proofs.Together.{grown_self, taken_then}
use Rattle.txc_site_keeper.specs.NodeReports.{HasKeptNode, HasTrimmed, HaveKept}
use Rattle.txc_site_keeper.specs.KeeperNodes.{KeeperNodeValue, IsSamePass}
use Rattle.txc_site_keeper.specs.declared.keeper.NodeReport.{NodeReport}

-- a pass that has grown is the same pass
pub same_settings : (old new : PassValue) → HasGrown old new → new.settings ≡ old.settings
same_settings old new grown = ap (λ (p : PassValue). p.settings) grown.is

pub same_number : (old new : PassValue) → HasGrown old new → new.pass ≡ old.pass
same_number old new grown = ap (λ (p : PassValue). p.pass) grown.is

pub same_pass : (old new : KeeperNodeValue) → HasGrown old.pass new.pass → new.budget ≡ old.budget → IsSamePass old new
same_pass old new grown budget =
    record { settings = same_settings old.pass new.pass grown; pass = same_number old.pass new.pass grown; budget = budget }

pub same_then : (old mid new : KeeperNodeValue) → IsSamePass old mid → IsSamePass mid new → IsSamePass old new
same_then old mid new a b = record { settings = b.settings ∙ a.settings; pass = b.pass ∙ a.pass; budget = b.budget ∙ a.budget }

-- a trim to the budget of a station is one to that of the station before, which is the same
pub trimmed_at : (histories : ℕ → Name) (old after new : KeeperNodeValue) (trimmed : Option (Result ℕ NodeError)) → IsSamePass old after
    → HasTrimmed histories after after.budget trimmed new → HasTrimmed histories after old.budget trimmed new
trimmed_at histories old after new trimmed same h = subst (λ (budget : Option ℕ). HasTrimmed histories after budget trimmed new) same.budget h

-- a node took as many as it may together
pub paused_round : (row : Name) (histories : ℕ → Name) (most : ℕ) (old : PassValue) (taken : ℕ) (ended : Ended) (new : PassValue) → ended ≡ Paused
    → HasTakenMany row histories most old taken ended new
    → (stamps : List ℕ) × HasTakenEach row old stamps new × (taken ≡ length stamps) × (taken ≡ most)
paused_round row histories most old taken ended new is many =
    let end : (new ≡ many.last) × (taken ≡ most) = subst (λ (e : Ended). HasStopped row histories most many.last taken e new) is many.end in
    (many.stamps, subst (HasTakenEach row old many.stamps) (sym end.0) many.took, many.counted, end.1)

-- how a round ended, if it did not pause, is how all ended
stopped_so : (row : Name) (histories : ℕ → Name) (most all : ℕ) (last : PassValue) (taken total : ℕ) (ended : Ended) (new : PassValue) → ended ≢ Paused
    → HasStopped row histories most last taken ended new → HasStopped row histories all last total ended new
stopped_so row histories most all last taken total Idle new going end = end
stopped_so row histories most all last taken total Paused new going end = absurd (going refl)
stopped_so row histories most all last taken total (Refused error) new going end = end

-- a round that did not pause, after others
pub last_round : (row : Name) (histories : ℕ → Name) (most all : ℕ) (old mid new : PassValue) (stamps : List ℕ) (taken more : ℕ) (ended : Ended)
    → HasTakenEach row old stamps mid → taken ≡ length stamps → taken + most ≤ all → ended ≢ Paused → HasTakenMany row histories most mid more ended new
    → HasTakenMany row histories all old (taken + more) ended new
last_round row histories most all old mid new stamps taken more ended before counted room going many = record {
  stamps = many.stamps ++ stamps;
  last = many.last;
  took = taken_then row old mid many.last stamps many.stamps before many.took;
  counted = let long = length-append many.stamps stamps in let own = many.counted in omega (arith, long, own, counted);
  few = let own = many.few in omega (arith, own, room);
  grown = many.grown;
  end = stopped_so row histories most all many.last more (taken + more) ended new going many.end;
}

-- all rounds paused
pub all_paused : (row : Name) (histories : ℕ → Name) (all : ℕ) (old new : PassValue) (stamps : List ℕ) (taken : ℕ)
    → HasTakenEach row old stamps new → taken ≡ length stamps → taken ≡ all → HasTakenMany row histories all old taken Paused new
all_paused row histories all old new stamps taken took counted is = record {
  stamps = stamps;
  last = new;
  took = took;
  counted = counted;
  few = omega (arith, is);
  grown = grown_self new;
  end = (refl, is);
}

one_kept_more : (row : Name) (histories : ℕ → Name) (h : Option ℕ) (olds : List KeeperNodeValue) (all : List NodeReport) (news : List KeeperNodeValue)
    (old : KeeperNodeValue) (kept : NodeReport) (new : KeeperNodeValue) → HaveKept row histories h olds all news → HasKeptNode row histories h old kept new
    → HaveKept row histories h (olds ++ old ∷ []) (all ++ kept ∷ []) (news ++ new ∷ [])
one_kept_more row histories h [] [] [] old kept new before one = (one, tt)
one_kept_more row histories h (o ∷ olds) (k ∷ all) (n ∷ news) old kept new before one =
    (before.0, one_kept_more row histories h olds all news old kept new before.1 one)
one_kept_more row histories h [] [] (n ∷ news) old kept new before one = absurd before
one_kept_more row histories h [] (k ∷ all) news old kept new before one = absurd before
one_kept_more row histories h (o ∷ olds) [] news old kept new before one = absurd before
one_kept_more row histories h (o ∷ olds) (k ∷ all) [] old kept new before one = absurd before

-- none was kept
pub none_kept : (row : Name) (histories : ℕ → Name) (h : Option ℕ) (nodes : List NodeReport) (left : List KeeperNodeValue) → nodes ≡ [] → left ≡ []
    → HaveKept row histories h [] nodes left
none_kept row histories h nodes left no_node none =
    subst (λ (all : List NodeReport). HaveKept row histories h [] all left) (sym no_node)
    (subst (λ (xs : List KeeperNodeValue). HaveKept row histories h [] [] xs) (sym none) tt)

-- one station more was kept, and is left with those that were
pub one_left_more : (row : Name) (histories : ℕ → Name) (h : Option ℕ) (olds : List KeeperNodeValue) (nodes more : List NodeReport)
    (left others : List KeeperNodeValue) (kept : NodeReport) (station after : KeeperNodeValue)
    → HaveKept row histories h olds nodes left → HasKeptNode row histories h station kept after
    → more ≡ nodes ++ kept ∷ [] → others ≡ left ++ after ∷ []
    → HaveKept row histories h (olds ++ station ∷ []) more others
one_left_more row histories h olds nodes more left others kept station after before one is added =
    subst (λ (all : List NodeReport). HaveKept row histories h (olds ++ station ∷ []) all others) (sym is)
    (subst (λ (xs : List KeeperNodeValue). HaveKept row histories h (olds ++ station ∷ []) (nodes ++ kept ∷ []) xs) (sym added)
    (one_kept_more row histories h olds nodes left station kept after before one))

-- the stations that were kept and those that are not are all
pub one_station_less : (olds all : List KeeperNodeValue) (station : KeeperNodeValue) (rest before : List KeeperNodeValue)
    → olds ++ before ≡ all → before ≡ station ∷ rest → (olds ++ station ∷ []) ++ rest ≡ all
one_station_less olds all station rest before so_far step =
    append_assoc olds (station ∷ []) rest ∙ sym (ap (λ (xs : List KeeperNodeValue). olds ++ xs) step) ∙ so_far

-- one station more has a new pass
module _ (stations more : List KeeperNodeValue) (s : KeeperNodeValue) (added : more ≡ stations ++ s ∷ []) where
  abbrev settings_of : KeeperNodeValue → NodeSettings
  settings_of x = x.pass.settings

  pub one_station_more : (nodes : List NodeSettings) (i : ℕ) (node : NodeSettings) → i < length nodes
      → map (λ x. x.pass.settings) stations ≡ take i nodes → s.pass.settings ≡ node → node ≡ get_or nodes i node
      → map (λ x. x.pass.settings) more ≡ take (i + 1) nodes
  one_station_more nodes i node within before own at =
      ap (map settings_of) added
      ∙ map-append settings_of stations (s ∷ [])
      ∙ ap (λ (l : List NodeSettings). l ++ s.pass.settings ∷ []) before
      ∙ ap (λ (n : NodeSettings). take i nodes ++ n ∷ []) (own ∙ at)
      ∙ sym (take_more nodes i node within)

  pub all_have_budget : (budget : Option ℕ) → All (λ x. x.budget ≡ budget) stations → s.budget ≡ budget → All (λ x. x.budget ≡ budget) more
  all_have_budget budget before own =
      subst (All (λ x. x.budget ≡ budget)) (sym added)
      (All-append (λ x. x.budget ≡ budget) stations (s ∷ []) before (λ k d within. search rules))

  pub none_has_seen : All (λ x. x.pass.records ≡ []) stations → s.pass.records ≡ [] → All (λ x. x.pass.records ≡ []) more
  none_has_seen before own =
      subst (All (λ x. x.pass.records ≡ [])) (sym added)
      (All-append (λ x. x.pass.records ≡ []) stations (s ∷ []) before (λ k d within. search rules))
