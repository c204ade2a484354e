-- The pool of an object's permits.
use Rattle.txc_call_permits.specs.PermitPool.{Pool}
use Rattle.txc_call_definition.specs.declared.definition.Definition.{Ghosts}
use Rattle.txc_call_definition.specs.declared.function.Function.{Function}

-- the pool of the object's permits
abbrev pub pool_of : {D : Type 0} {d : Ghosts D} → Function D d → Pool
pool_of o = o.pool
