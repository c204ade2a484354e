-- Entries of calls of the program's functions, worked by hand over the worked history: which are true there.
use Rattle.std.specs.Prelude.{true, false, [], ◌∷◌}
use Rattle.txc_tags.specs.Tags.{id_tag}
use Rattle.txc_db.specs.WorkedHistory.{worked}
use Rattle.txc_node.specs.declared.entry.Entry.{Entry}
use Rattle.txc_app.specs.Claims.{IsTrueIn}
use Rattle.txcache_functions.specs.Program.{program, call_of}

-- no row has the id 9, from the first stamp to the newest, and still
abbrev pub absent : Entry
absent = record {
  key = call_of 0 (9 ∷ []);
  value = [];
  reach = record { lo = 0; known = 4; still = true };
  tags = id_tag 1 9 ∷ [];
}

-- the body at the id 7 is, too soon, an a from the first stamp on
abbrev pub too_soon : Entry
too_soon = record {
  key = call_of 0 (7 ∷ []);
  value = 97 ∷ [];
  reach = record { lo = 0; known = 4; still = false };
  tags = [];
}

-- there it is true only without the stamp 0
abbrev pub in_time : Entry
in_time = record too_soon { reach = record { lo = 1; known = 4; still = false } }

-- the true ones among the entries
pub record WorkedEntries : Type 0 where
  pub absent : IsTrueIn program worked absent
  pub too_soon : ¬ (IsTrueIn program worked too_soon)
  pub in_time : IsTrueIn program worked in_time
