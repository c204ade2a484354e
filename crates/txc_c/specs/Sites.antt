-- Sites: a caller, and the transactions that are open at it, each with its number.
use Rattle.std.specs.Prelude.{◌≡◌, ◌≢◌, ◌⊎◌, ◌==◌, ◌+◌, ◌*◌, ◌%◌, ◌<◌, ◌≤◌, ◌&&◌, ℕ, [], Bool, true, false, nat_le, nat_lt, if◌then◌else◌, Option, Some, None}
use Rattle.std.specs.Option.{ForSome}
use Rattle.slab.specs.Slab.{Slab, get, slab_len, HasRoomFor, Updates}
use Rattle.txc_shared.specs.Nodes.{start_of}
use Rattle.txc_caller.specs.Ports.{HasEventRoom, IsNewDatabase}
use Rattle.txc_caller.specs.CallerTxn.{CallerValue}
use Rattle.txc_c_types.specs.declared.numbers.TheConstants.{NO_MEMORY, NOT_OPEN, REFUSED}
use Rattle.txc_c.specs.Opened.{IsOpenOf}
use Rattle.txc_c.specs.Settings.{budget_of, site_node_of, renew_after_of, room_of}
use Rattle.txc_c.specs.declared.opened.Open.{Open}
use Rattle.txc_c.specs.declared.opened.Opened.{Opened}
use Rattle.txc_c.specs.declared.opened.TheConstants.{MAX_OPEN, MOST_BEGUN}
use Rattle.txc_c.specs.declared.site_settings.TxcSiteSettings.{TxcSiteSettings}

-- the site's caller, the open transaction at each place, and the number of transactions that have begun
pub record SiteValue : Type 0 where
  pub caller : CallerValue
  pub opened : Slab Opened
  pub begun : ℕ

abbrev pub of_number : ℕ → Option Opened → Option Open
of_number n None = None
of_number n (Some o) = if o.number == n then Some o.txn else None

-- the transaction of that number, if it is open
abbrev pub open_at : SiteValue → ℕ → Option Open
open_at s n = of_number n (get s.opened (n % MAX_OPEN))

-- ---- the invariant of a site

-- A number is a place and, above it, the count of those that had begun as it began, itself among them. So no
-- two are equal, and a later one is greater.
pub record IsNumberOf (place count n : ℕ) : Type 0 where
  pub number : n ≡ place + MAX_OPEN * count
  pub place_fits : place < MAX_OPEN
  pub counted : 1 ≤ count

-- the transaction at that place has a number that was given, and is one of the caller
pub record IsPlaced (c : CallerValue) (begun place : ℕ) (o : Opened) : Type 0 where
  pub count : ℕ
  pub numbered : IsNumberOf place count o.number
  pub given : count ≤ begun
  pub of_caller : IsOpenOf c o.txn

abbrev pub AreAtPlaces : CallerValue → ℕ → Slab Opened → Type 0
AreAtPlaces c begun opened = (place : ℕ) → ForSome (get opened place) (IsPlaced c begun place)

pub record IsSite (s : SiteValue) : Type 0 where
  pub placed : AreAtPlaces s.caller s.begun s.opened
  pub few : s.begun ≤ MOST_BEGUN

-- there is such room, nothing has happened, and none has begun
pub record IsNewSite (settings : TxcSiteSettings) (s : SiteValue) : Type 0 where
  pub room : HasEventRoom (room_of settings) s.caller.ports.database.events
  pub database : IsNewDatabase s.caller.ports.database
  pub cushion : s.caller.ports.cushion.entries ≡ []
  pub node : s.caller.ports.node.cache ≡ start_of (site_node_of settings) 0
  pub budget : s.caller.ports.budget ≡ budget_of settings
  pub renew_after : s.caller.renew_after ≡ renew_after_of settings
  pub none : s.opened.slots ≡ []
  pub first_place : s.opened.vacant_key ≡ 0
  pub begun : s.begun ≡ 0

-- one more may begin: fewer are open than may be, and there is a number for it
abbrev pub may_begin : SiteValue → Bool
may_begin s = nat_lt (slab_len s.opened) MAX_OPEN && nat_lt s.begun MOST_BEGUN

-- ---- the effect of a call

-- the call was refused with this number, and the site is unchanged
abbrev pub Stays : ℕ → SiteValue → ℕ → SiteValue → Type 0
Stays wanted old number new = (number ≡ wanted) × (new ≡ old)

-- each transaction is as it was, and none has begun
pub record KeepsOpen (old new : SiteValue) : Type 0 where
  pub all : (n : ℕ) → open_at new n ≡ open_at old n
  pub begun : new.begun ≡ old.begun

-- each but the one of this number is as it was, and none has begun
pub record KeepsOtherTransactions (n : ℕ) (old new : SiteValue) : Type 0 where
  pub others : (m : ℕ) → m ≢ n → open_at new m ≡ open_at old m
  pub begun : new.begun ≡ old.begun

-- the one of this number, which was so, made this act; every other is as it was
pub record OneHasActed (act : CallerValue → Open → ℕ → CallerValue → Open → Type 0) (n : ℕ) (was : Open) (old : SiteValue) (number : ℕ)
    (new : SiteValue) : Type 0 where
  pub is : Open
  pub here : open_at new n ≡ Some is
  pub others : KeepsOtherTransactions n old new
  pub acted : act old.caller was number new.caller is

-- the one of this number has ended so; every other is as it was
pub record HasEndedAt (end_is : CallerValue → CallerValue → Type 0) (n : ℕ) (old new : SiteValue) : Type 0 where
  pub gone : open_at new n ≡ None
  pub others : KeepsOtherTransactions n old new
  pub ended : end_is old.caller new.caller

-- One has begun so, with this number, which none had before; every other is as it was.
pub record HasBegunAt (begin_is : CallerValue → CallerValue → Open → Type 0) (n : ℕ) (old new : SiteValue) : Type 0 where
  pub is : Open
  pub vacant : open_at old n ≡ None
  pub here : open_at new n ≡ Some is
  pub others : (m : ℕ) → m ≢ n → open_at new m ≡ open_at old m
  pub begun : new.begun ≡ old.begun + 1
  pub place : ℕ
  pub numbered : IsNumberOf place new.begun n
  pub as_begun : begin_is old.caller new.caller is

-- ---- places

-- there is room for one more, at the place that was the next one
pub record HasMadeRoom (old new : SiteValue) : Type 0 where
  pub may : may_begin old ≡ true
  pub place : old.opened.vacant_key < MAX_OPEN
  pub room : HasRoomFor new.opened 1
  pub same : new ≡ record old { opened = record old.opened { capacity = new.opened.capacity } }

-- memory is wanting for the place of one more, and each is as it was
pub record HasNoMemory (old : SiteValue) (number : ℕ) (new : SiteValue) : Type 0 where
  pub may : may_begin old ≡ true
  pub number_is : number ≡ NO_MEMORY
  pub same : new ≡ record old { opened = record old.opened { capacity = new.opened.capacity } }

-- as many are open as may be, or there is no number for one more; or memory is wanting
abbrev pub IsNoRoom : SiteValue → ℕ → SiteValue → Type 0
IsNoRoom old number new = ((may_begin old ≡ false) × Stays REFUSED old number new) ⊎ HasNoMemory old number new

-- a transaction was put at a place, and has a number of it
pub record HasPutAtPlace (txn : Open) (old : Slab Opened) (begun : ℕ) (new : Slab Opened) (begun' n : ℕ) : Type 0 where
  pub one_more : begun' ≡ begun + 1
  pub place : ℕ
  pub numbered : IsNumberOf place begun' n
  pub vacant : get old place ≡ None
  pub updates : Updates old new place (Some (record { number = n; txn = txn }))

-- the one of this number was taken out, and its place is the next one
pub record HasTakenOut (n : ℕ) (o : Opened) (old new : SiteValue) : Type 0 where
  pub there : get old.opened (n % MAX_OPEN) ≡ Some o
  pub number_is : o.number ≡ n
  pub updates : Updates old.opened new.opened (n % MAX_OPEN) None
  pub next_place : new.opened.vacant_key ≡ n % MAX_OPEN
  pub room : HasRoomFor new.opened 1
  pub placed : IsPlaced new.caller new.begun (n % MAX_OPEN) o
  pub same : new ≡ record old { opened = new.opened }

abbrev pub IsTakenOut : ℕ → SiteValue → SiteValue → Option Opened → Type 0
IsTakenOut n old new (Some o) = HasTakenOut n o old new
IsTakenOut n old new None = (open_at old n ≡ None) × (new ≡ old)

-- it is at the place that was the next one
pub record IsPutBack (o : Opened) (old new : SiteValue) : Type 0 where
  pub updates : Updates old.opened new.opened old.opened.vacant_key (Some o)
  pub same : new ≡ record old { opened = new.opened }

-- ---- a call about the transaction of a number

abbrev pub ForOpen : (Open → SiteValue → ℕ → SiteValue → Type 0) → Type 0 → Option Open → SiteValue → ℕ → SiteValue → Type 0
ForOpen does unwritten (Some was) old number new = does was old number new
ForOpen does unwritten None old number new = Stays NOT_OPEN old number new × unwritten

-- the transaction is open, and this is the effect; or none of that number is open, and all is unchanged, also
-- the outputs
abbrev pub OfNumber : (Open → SiteValue → ℕ → SiteValue → Type 0) → Type 0 → ℕ → SiteValue → ℕ → SiteValue → Type 0
OfNumber does unwritten n old number new = ForOpen does unwritten (open_at old n) old number new
