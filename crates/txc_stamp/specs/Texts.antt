-- The texts of spans and reaches, as replies show them.
use Rattle.std.specs.Prelude.{ℕ, ◌+◌, List, ◌++◌, codes, if◌then◌else◌}
use Rattle.std.specs.Fmt.{decimal}
use Rattle.txc_stamp.specs.Interval.{Interval, Bounds}

-- `[lo,end)`
abbrev pub span_text : Bounds → List ℕ
span_text span = codes "[" ++ (decimal span.lo ++ (codes "," ++ (decimal span.end ++ codes ")")))

-- the stamps at which the result is known to hold, a blank, and `still` or `closed`
abbrev pub reach_text : Interval → List ℕ
reach_text reach =
    span_text (record { lo = reach.lo; end = reach.known + 1 })
    ++ (if reach.still then codes " still" else codes " closed")
