-- The value of a call at its end, over all the replies that lead it there.
use Rattle.std.specs.Prelude.{◌≡◌, ℕ, List, [], ◌∷◌, Some, IsSome, Ok}
use Rattle.txc_tags.specs.Keys.{Call}
use Rattle.txc_db.specs.History.{History}
use Rattle.txc_node.specs.declared.entry.Entry.{Entry}
use Rattle.txc_app.specs.Eval.{Next}
use Rattle.txc_app.specs.Claims.{IsTrueIn, ValueHolds}
use Rattle.txc_call_registry.specs.Objects.{Objects, activity_of, AllIdle}
use Rattle.txc_call.specs.declared.need.Need.{Need}
use Rattle.txc_call.specs.declared.need.Need.TheVariants as needs
use Rattle.txc_call.specs.declared.need.Outcome.{Outcome}
use Rattle.txc_call.specs.declared.reply.Reply.{Reply}
use Rattle.txc_call.specs.Reaches.{InReach}
use Rattle.txc_call.specs.Needs.{reply_reach, InNeed, ReplyHolds}
use Rattle.txc_call.specs.MachineTurn.{Standing, AfterReply}

-- a reply to what the call needs, which is right in the history, and holds together with what the call was
-- given before, leads it on
pub record IsLedBy (next : Next) (L : History) (s : Standing) (reply : Reply) (after : Standing) : Type 0 where
  pub need : Need
  pub needed : s.need ≡ Some need
  pub right : ReplyHolds next L need reply
  pub common : (t : ℕ) × InReach t (reply_reach reply) × InNeed t s.need s.frames
  pub transition : AfterReply next s.frames s.asked s.objects need reply (Ok after)

-- such replies lead it on, one after the other
abbrev pub IsAfterReplies : Next → History → Standing → List Reply → Standing → Type 0
IsAfterReplies next L s [] end = end ≡ s
IsAfterReplies next L s (reply ∷ replies) end =
    (after : Standing) × IsLedBy next L s reply after × IsAfterReplies next L after replies end

-- a call that was just started
abbrev pub at_start : Call → Objects → Standing
at_start k objects = record { frames = []; asked = 0; need = Some (needs.Lookup k); objects = objects }

-- the call was started when all objects were idle, and correct replies led it here
pub record IsLedFrom (next : Next) (L : History) (k : Call) (objects : Objects) (replies : List Reply) (s : Standing) :
    Type 0 where
  pub all_idle : AllIdle objects
  pub there : IsSome (activity_of objects k.function)
  pub led : IsAfterReplies next L (at_start k objects) replies s

-- The value of the call at its end holds: it is the call's uncached value at each stamp of its reach, or
-- everywhere, if it has no reach. And all objects are idle again.
pub record IsRightEnd (next : Next) (L : History) (k : Call) (s : Standing) (o : Outcome) : Type 0 where
  pub of_call : o.key ≡ k
  pub holds : ValueHolds next L k o.value o.reach o.tags
  pub all_idle : AllIdle s.objects

-- a call that right replies led to its end has its value
abbrev pub CallsComeToTheirValues : Type 0
CallsComeToTheirValues = (next : Next) (L : History) (k : Call) (objects : Objects) (replies : List Reply)
    (s : Standing) (o : Outcome) → IsLedFrom next L k objects replies s → s.need ≡ Some (needs.Value o)
    → IsRightEnd next L k s o

-- the entries that such a call inserts are true
abbrev pub InsertionsAreTrue : Type 0
InsertionsAreTrue = (next : Next) (L : History) (k : Call) (objects : Objects) (replies : List Reply)
    (s : Standing) (e : Entry) → IsLedFrom next L k objects replies s → s.need ≡ Some (needs.Insert e)
    → IsTrueIn next L e
