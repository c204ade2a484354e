-- The table of the forms of a node's script.
use Rattle.std.specs.Prelude.{ℕ, Bool, List, [], ◌∷◌, codes}
use Rattle.txc_tags.specs.Keys.{Call}
use Rattle.txc_tags.specs.declared.tag.Tag.{Tag}
use Rattle.txc_node.specs.declared.op.Op.{Op}
use Rattle.txc_node.specs.declared.op.Op.TheVariants.{Insert, Lookup, Event, Sweep}
use Rattle.txc_script.specs.LineForms.{AsksBy, LineForm}
use Rattle.txc_script.specs.Lines.{IsPlain}
use Rattle.txc_script.specs.declared.line_fault.WordKind.TheVariants.{Key, Stamp, Reach, Tags, Bytes}

-- the insertion of an entry of these parts
abbrev pub insertion_said : Call → List ℕ → ℕ → ℕ → Bool → List Tag → Op
insertion_said key value lo known still tags =
    Insert (record { key = key; value = value; reach = record { lo = lo; known = known; still = still }; tags = tags })

-- KEY LO KNOWN still TAGS HEX: the value of a call is known to hold from LO to KNOWN, and still holds or does not
abbrev pub insert_form : LineForm Op
insert_form = record {
  name = codes "insert";
  kinds = Key ∷ Stamp ∷ Stamp ∷ Reach ∷ Tags ∷ Bytes ∷ [];
  asks = λ said. insertion_said said.0 said.1.1.1.1.1.0 said.1.0 said.1.1.0 said.1.1.1.0 said.1.1.1.1.0;
}

-- KEY LO HI: a call, and the first and the last stamp that will do
abbrev pub lookup_form : LineForm Op
lookup_form = record {
  name = codes "lookup";
  kinds = Key ∷ Stamp ∷ Stamp ∷ [];
  asks = λ said. Lookup said.0 said.1.0 said.1.1.0;
}

-- STAMP TAGS
abbrev pub event_form : LineForm Op
event_form = record {
  name = codes "event";
  kinds = Stamp ∷ Tags ∷ [];
  asks = λ said. Event said.0 said.1.0;
}

-- HORIZON: a stamp
abbrev pub sweep_form : LineForm Op
sweep_form = record { name = codes "sweep"; kinds = Stamp ∷ []; asks = λ said. Sweep said.0 }

abbrev pub node_forms : List (LineForm Op)
node_forms = insert_form ∷ lookup_form ∷ event_form ∷ sweep_form ∷ []

-- the line is of one of these forms, and asks for this step
abbrev pub Spells : List ℕ → Op → Type 0
Spells line op = AsksBy node_forms line op

-- a line that names a step
abbrev pub IsStepLine : List ℕ → Op → Type 0
IsStepLine line op = IsPlain line × Spells line op
