-- A site in which one transaction made an act.
use Rattle.std.proofs.Common.{◌≡◌, ◌≢◌, ◌∙◌, ℕ, ◌%◌, Option, Some, refl, ap, sym, subst, arith}
use Rattle.std.specs.Prelude.{IsSome}
use Rattle.slab.specs.Slab.{get, with_value, Updates}
use Rattle.slab.proofs.SlabLemmas.{Updates-with_value}
use Rattle.txc_caller.specs.Ports.{HasGrownDatabase}
use Rattle.txc_caller.specs.CallerTxn.{CallerValue, KeepsCaller}
use Rattle.txc_c.specs.Opened.{IsOpenOf, OpenStays}
use Rattle.txc_c.specs.Sites.{ForOpen, OneHasActed, IsSite, OfNumber, SiteValue}
use Rattle.txc_c.specs.declared.opened.Open.{Open}
use Rattle.txc_c.specs.declared.opened.Opened.{Opened}
use Rattle.txc_c.specs.declared.opened.TheConstants.{MAX_OPEN}
use Rattle.txc_c.proofs.Places.{found, one_named, others, placed_on, placed_with}

-- ---- one made an act

module _ (stay : OpenStays) (s : SiteValue) (site : IsSite s) (n place : ℕ) (place_is : place ≡ n % MAX_OPEN) (o : Opened) (there : get s.opened place ≡ Some o) (same : o.number ≡ n)
    (c' : CallerValue) (keeps : KeepsCaller s.caller c') (grown : HasGrownDatabase s.caller.ports.database c'.ports.database) (x' : Open) (is_of : IsOpenOf c' x') where
  abbrev o' : Opened
  o' = record { number = o.number; txn = x' }

  abbrev pub after_act : SiteValue
  after_act = record { caller = c'; opened = with_value s.opened place (record { number = o.number; txn = x' }); begun = s.begun }

  updates : Updates s.opened after_act.opened place (Some o')
  updates = Updates-with_value s.opened place o' (subst (λ (y : Option Opened). IsSome y) (sym there) refl)

  pub acted_site : IsSite after_act
  acted_site =
      let was = site.placed place o there in
      record {
        placed = placed_with c' s.begun s.opened after_act.opened place o' updates
            (record { count = was.count; numbered = was.numbered; given = was.given; of_caller = is_of })
            (placed_on stay s.caller c' s.begun s.begun s.opened keeps grown (omega arith) site.placed);
        few = site.few;
      }

  pub acted : (act : CallerValue → Open → ℕ → CallerValue → Open → Type 0) (unwritten : Type 0) (number : ℕ) → act s.caller o.txn number c' x'
      → OfNumber (OneHasActed act n) unwritten n s number after_act
  acted act unwritten number is =
      subst (λ (x : Option Open). ForOpen (OneHasActed act n) unwritten x s number after_act) (sym (found n o (get s.opened (n % MAX_OPEN)) (ap (get s.opened) (sym place_is) ∙ there) same)) (record {
        is = x';
        here = found n o' (get after_act.opened (n % MAX_OPEN)) (ap (get after_act.opened) (sym place_is) ∙ updates.changed) same;
        others = record {
          others = others s.opened after_act.opened n place (Some o') updates (one_named n o' (Some o') refl same) (one_named n o (get s.opened place) there same);
          begun = refl;
        };
        acted = is;
      })
