-- The value of a hit.
use Rattle.txc_stamp.specs.Interval.{Interval}
use Rattle.txc_node.specs.declared.hit.Hit.{Hit}
use Rattle.txc_node.specs.declared.hit.HitValue.{HitValue}

-- the reach that is stored, known up to the last stamp of its span
abbrev pub hit_reach : Hit → Interval
hit_reach h = record h.stored.now { known = h.last }

-- the copy of a hit
abbrev pub seen : Hit → HitValue
seen h = record { reach = hit_reach h; value = h.value.now; tags = h.tags.now }
