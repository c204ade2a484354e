-- The names of lines.
use Rattle.std.specs.Prelude.{ℕ, List, codes}
use Rattle.txc_script_lines.specs.declared.name.LineName.{LineName}
use Rattle.txc_script_lines.specs.declared.name.LineName.TheVariants as names

-- the first word of a line
abbrev pub name_text : LineName → List ℕ
name_text names.Put = codes "put"
name_text names.Remove = codes "remove"
name_text names.Pin = codes "pin"
name_text names.Query = codes "query"
name_text names.Ro = codes "ro"
name_text names.Rw = codes "rw"
name_text names.Session = codes "session"
name_text names.Call = codes "call"
name_text names.Step = codes "step"
name_text names.Finish = codes "finish"
name_text names.Ask = codes "ask"
name_text names.Write = codes "write"
name_text names.Pins = codes "pins"
name_text names.Commit = codes "commit"
name_text names.Abort = codes "abort"
name_text names.Advance = codes "advance"
name_text names.Sweep = codes "sweep"
name_text names.Tidy = codes "tidy"
name_text names.Counts = codes "counts"
