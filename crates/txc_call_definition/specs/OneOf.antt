-- Properties of one of two definitions.
use Rattle.txc_call_definition.specs.declared.one_of.OneOf.{OneOf}
use Rattle.txc_call_definition.specs.declared.one_of.OneOf.TheVariants.{One, Other}

-- the property of the definition that it is
abbrev pub either : {D E X : Type 0} → (D → X) → (E → X) → OneOf D E → X
either one other (One f) = one f
either one other (Other f) = other f
