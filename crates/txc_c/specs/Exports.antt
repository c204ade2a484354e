-- The effect of the calls of a handle, which may have a site.
use Rattle.std.specs.Prelude.{◌≡◌, ℕ, if◌then◌else◌, Option, Some, None}
use Rattle.std.specs.Option.{ForSome}
use Rattle.txc_app.specs.declared.ask.Ask.{Ask}
use Rattle.txc_c_types.specs.declared.numbers.TheConstants.{ALREADY_OPEN, BAD_ARGUMENT, CLOSED, DONE}
use Rattle.txc_c.specs.Opened.{OpenAsksNext}
use Rattle.txc_c.specs.Settings.{are_settings}
use Rattle.txc_c.specs.Sites.{open_at, IsNewSite, SiteValue}
use Rattle.txc_c.specs.declared.site_settings.TxcSiteSettings.{TxcSiteSettings}

-- the number of an opening, if memory is at hand
abbrev pub open_site_number : Option SiteValue → TxcSiteSettings → ℕ
open_site_number (Some s) settings = ALREADY_OPEN
open_site_number None settings = if are_settings settings then DONE else BAD_ARGUMENT

-- the handle has such a site
abbrev pub HasNewSite : TxcSiteSettings → Option SiteValue → Type 0
HasNewSite settings (Some s) = IsNewSite settings s
HasNewSite settings None = ⊥

-- the caller's obligation: the function that is computed in the transaction of that number, if one is, makes
-- this ask next
abbrev pub SiteAsksNext : Ask → ℕ → SiteValue → Type 0
SiteAsksNext ask n s = ForSome (open_at s n) (OpenAsksNext ask)

-- the same of the site of a handle, if it has one
abbrev pub HeldAsksNext : Ask → ℕ → Option SiteValue → Type 0
HeldAsksNext ask n held = ForSome held (SiteAsksNext ask n)

-- The effect of a call of a handle: without a site, nothing is written; with one, this.
abbrev pub SiteTransition : (SiteValue → ℕ → SiteValue → Type 0) → Type 0 → Option SiteValue → ℕ → Option SiteValue → Type 0
SiteTransition does unwritten None number new = (number ≡ CLOSED) × (new ≡ None) × unwritten
SiteTransition does unwritten (Some old) number (Some new) = does old number new
SiteTransition does unwritten (Some old) number None = ⊥

-- the same of one that changes nothing
abbrev pub Shows : (SiteValue → ℕ → Type 0) → Type 0 → Option SiteValue → ℕ → Option SiteValue → Type 0
Shows shows unwritten None number new = (number ≡ CLOSED) × (new ≡ None) × unwritten
Shows shows unwritten (Some s) number new = shows s number × (new ≡ Some s)
