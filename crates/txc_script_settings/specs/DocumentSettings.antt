-- The settings of a text.
use Rattle.std.specs.Prelude.{◌≡◌, ℕ, List, Some, None, codes, string_bytes}
use Rattle.toml.specs.Data.{Members}
use Rattle.toml.specs.Parse.{parse_document}
use Rattle.txc_script_settings.specs.Keys.{IsLeastFault, first_fault, setting}
use Rattle.txc_script_settings.specs.declared.settings.Settings.{Settings}
use Rattle.txc_script_settings.specs.declared.error.SettingsError.{SettingsError}
use Rattle.txc_script_settings.specs.declared.error.SettingsError.TheVariants.{Key, NotToml, Memory}

-- each setting is the value of its key in the document, or its default
pub record AreSettingsOf (document : Members) (s : Settings) : Type 0 where
  pub capacity : s.capacity ≡ setting document (codes "capacity") 1024
  pub nodes : s.nodes ≡ setting document (codes "nodes") 1
  pub permits : s.permits ≡ setting document (codes "permits") 64
  pub recent : s.recent ≡ setting document (codes "recent") 64
  pub renew_after : s.renew_after ≡ setting document (codes "renew_after") 5000
  pub row_cap : s.row_cap ≡ setting document (codes "row_cap") 4096
  pub workers : s.workers ≡ setting document (codes "workers") 2

-- the text is a document all of whose keys are allowed, and these are its settings
abbrev pub AreSettingsIn : List ℕ → Settings → Type 0
AreSettingsIn text s =
    (document : Members) × (parse_document text ≡ Some document) × (first_fault document ≡ None)
    × AreSettingsOf document s

-- the text is a document, and this is the least of its keys that are not allowed; or the text is not a
-- document; or there is no memory
abbrev pub IsSettingsRefusal : List ℕ → SettingsError → Type 0
IsSettingsRefusal text (Key key) =
    (document : Members) × (parse_document text ≡ Some document)
    × (first_fault document ≡ Some (string_bytes key)) × IsLeastFault document (string_bytes key)
IsSettingsRefusal text NotToml = parse_document text ≡ None
IsSettingsRefusal text Memory = Unit {0}
