-- Changes and pins of a batch's script, and jobs that are put behind the others.
use Rattle.std.proofs.Common.{◌≡◌, ℕ, Bool, List, ◌∷◌, [], ◌++◌, Some, Result, Ok, Err, IfOk, OnOk, OnErr, None, false, refl, sym, ◌∙◌, inr, append-nil}
use Rattle.std.specs.declared.alloc.AllocError.{AllocError}
use Rattle.txc_script_batch.specs.BatchScripts.{DoesOrder, Queues}
use Rattle.txc_script_batch.specs.BatchStates.{BatchState}
use Rattle.txc_script_batch.specs.PreparedTexts.{prepared_text, is_refused_preparing}
use Rattle.txc_script_batch.specs.OrderEffects.{IsBrokenOff, IsObeyed}
use Rattle.txc_script_batch.specs.QueuedJobs.{QueuedValue}
use Rattle.txc_script_batch.specs.declared.order.Order.{Order}
use Rattle.txc_script_batch.specs.declared.order.Order.TheVariants.{Run}
use Rattle.txc_script_batch.specs.declared.prepared.PrepareError.{PrepareError}

-- a change or a pin was made or refused, and its text put after the others
pub prepared : (s end : BatchState) (order : Order) (told : Result ℕ PrepareError) (r : Result Bool AllocError) (old new : List ℕ) → DoesOrder s order (Some told) end
    → OnOk r (new ≡ old ++ (prepared_text told ++ 10 ∷ [])) → IfOk r (λ refused. refused ≡ is_refused_preparing told) → IfOk r (IsObeyed s order end old new)
prepared s end order told (Ok refused) old new does text is = record { reply = Some told; does = does; text = text; is_refused = is }
prepared s end order told (Err e) old new does text is = tt

-- there was no memory for its text
pub not_told : (s end : BatchState) (order : Order) (told : Result ℕ PrepareError) (r : Result Bool AllocError) → DoesOrder s order (Some told) end → OnErr r (IsBrokenOff s order end)
not_told s end order told (Ok refused) does = tt
not_told s end order told (Err e) does = inr (told, does)

pub queued_order : (s end : BatchState) (q : QueuedValue) (old new : List ℕ) → Queues q s end → new ≡ old → IsObeyed s (Run q) end old new false
queued_order s end q old new h same = record { reply = None; does = (refl, h); text = same ∙ sym (append-nil old); is_refused = refl }
