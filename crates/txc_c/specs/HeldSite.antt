-- The site of a handle.
use Rattle.std.specs.Prelude.{Option, Some, None, if◌then◌else◌}
use Rattle.txc_c.specs.Sites.{SiteValue}
use Rattle.txc_c.specs.declared.site_handle.TxcSite.{TxcSite}

-- the site that an open handle has
abbrev pub site_held : TxcSite → Option SiteValue
site_held handle = if handle.is_open then Some handle.slot.value else None
