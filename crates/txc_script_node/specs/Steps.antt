-- Only private functions need this file: steps that are made, and their replies, which are taken.
use Rattle.std.specs.Prelude.{◌≡◌, ℕ, Bool, false, Option, Some, None, List, ⊤}
use Rattle.txc_node.specs.declared.value.TheConstants.{MAX_VALUE_LEN}
use Rattle.txc_node.specs.declared.hit.HitValue.{HitValue}
use Rattle.txc_node.specs.declared.op.Op.{Op}
use Rattle.txc_node.specs.declared.reply.Reply.{Reply}
use Rattle.txc_node.specs.Cache.{Cache}
use Rattle.txc_node.specs.Steps.{is_refusal, function_of, MayReply}
use Rattle.txc_script.specs.LineForms.{IsOfForm, LineForm}
use Rattle.txc_script.specs.LineFaults.{IsCommandFault, IsKindsFault}
use Rattle.txc_script.specs.Words.{words_of}
use Rattle.txc_script.specs.declared.line_fault.CommandFault.{CommandFault}
use Rattle.txc_script.specs.declared.unread.LineError.{LineError}
use Rattle.txc_script.specs.declared.unread.LineError.TheVariants.{Wrong, Memory}
use Rattle.txc_script_node.specs.Lines.{Spells, node_forms}

-- the reply is to that function's step, unless it is a refusal
abbrev pub IsFor : Option ℕ → Op → Reply HitValue → Type 0
IsFor function op reply = is_refusal reply ≡ false → function ≡ function_of op

-- a relation for the taking of replies: the sink before, the step, its reply, and the sink after
abbrev pub Taking : Type 0 → Type 1
Taking T = T → Op → Reply HitValue → T → Type 0

-- Such a step was made: its reply was taken, is a refusal or not, and left that cache. Or there is no reply,
-- for one of two causes: this fault, and nothing changed; or no memory.
abbrev pub MakesStep : {T F : Type 0} → Taking T → (Op → Type 0) → (CommandFault F → Type 0) → Cache → Cache → T → T
    → Option Bool → LineError F → Type 0
MakesStep takes Is IsFault c next old new (Some refused) why = (op : Op) × Is op × (reply : Reply HitValue)
    × MayReply MAX_VALUE_LEN c op reply next × takes old op reply new × (refused ≡ is_refusal reply)
MakesStep takes Is IsFault c next old new None (Wrong fault) = IsFault fault × (next ≡ c) × (new ≡ old)
MakesStep takes Is IsFault c next old new None Memory = ⊤

-- that, of a step of this form, by the words after its name
abbrev pub MakesForm : {T F : Type 0} → Taking T → LineForm Op → List (List ℕ) → Cache → Cache → T → T
    → Option Bool → LineError F → Type 0
MakesForm takes form words = MakesStep takes (IsOfForm form words) (IsKindsFault form.kinds words)

-- that, of the step that a line names
abbrev pub MakesLine : {T F : Type 0} → Taking T → List ℕ → Cache → Cache → T → T → Option Bool → LineError F → Type 0
MakesLine takes line = MakesStep takes (Spells line) (IsCommandFault node_forms (words_of line))
