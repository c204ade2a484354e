-- What is written of the lines of a world's script is said by the replies to their steps, or by a pin set.
use Rattle.std.proofs.Common.{◌≡◌, ◌≢◌, ℕ, Bool, true, false, List, [], ◌∷◌, ◌++◌, map, length, Option, Some, None, refl, sym, ap, subst, ◌∙◌}
use Rattle.std.specs.Prelude.{if◌then◌else◌, codes, slice_get, MatchBool, MatchOption}
use Rattle.txc_app.specs.Eval.{Next}
use Rattle.txc_cushion.specs.declared.pin.Pin.{Pin}
use Rattle.txc_node.specs.declared.record.Record.{Record}
use Rattle.txc_script.specs.FunctionLines.{counts_in}
use Rattle.txc_shared.specs.Nodes.{NodeValue}
use Rattle.txc_world.specs.declared.step.ActorStep.{ActorStep}
use Rattle.txc_world.specs.declared.step.ActorStep.TheVariants as acts
use Rattle.txc_world.specs.declared.step.Step.{Step}
use Rattle.txc_world.specs.declared.reply.Reply.{Reply}
use Rattle.txc_world.specs.declared.reply.Reply.TheVariants as replies
use Rattle.txc_world.specs.declared.reply.Refusal.TheVariants.{NoNode}
use Rattle.txc_world.specs.ActorValues.{reads, ReadingValue}
use Rattle.txc_world.specs.Worlds.{WorldValue}
use Rattle.txc_script_world.specs.TaskSteps.{AreShown, Does, DoesCounts, DoesEnd, DoesFinish, DoesPin, DoesTidy, DoesUnpin, ShowsMembers, ending_of, is_unpinned, taken_out}
use Rattle.txc_script_world.specs.TaskTexts.{printed_text, stamps_text}
use Rattle.txc_script_world.specs.declared.printed.Printed.{Printed}
use Rattle.txc_script_world.specs.declared.printed.Printed.TheVariants.{Replied, Members, Counted}
use Rattle.txc_script_world.specs.declared.task.Task.{Task}
use Rattle.txc_script_world.specs.declared.task.Task.TheVariants as tasks

-- ---- the last reply

abbrev last_of : Reply → List Reply → Reply
last_of first [] = first
last_of first (r ∷ rs) = last_of r rs

last_is : (first last : Reply) (before : List Reply) → last_of first (before ++ last ∷ []) ≡ last
last_is first last [] = refl
last_is first last (r ∷ before) = last_is r last before

same_last : (replied before other : List Reply) (last end : Reply) → replied ≡ before ++ last ∷ [] → replied ≡ other ++ end ∷ [] → last ≡ end
same_last replied before other last end e d = sym (last_is last last before) ∙ ap (last_of last) (sym e ∙ d) ∙ last_is last end other

abbrev printed_or : Printed → Option Printed → Printed
printed_or p None = p
printed_or p (Some q) = q

-- ---- lines that take steps

pin_way : (now : ℕ) (s t : List Step) (replied : List Reply) (a b : Printed) → DoesPin now s replied a → DoesPin now t replied b → a ≡ b
pin_way now s t [] a b h k = absurd h
pin_way now s t (x ∷ []) a b h k = h.2 ∙ sym k.2
pin_way now s t (x ∷ y ∷ []) a b h k = absurd h
pin_way now s t (x ∷ y ∷ z ∷ []) a b h k = h.3 ∙ sym k.3
pin_way now s t (x ∷ y ∷ z ∷ w ∷ r) a b h k = absurd h

finish_way : (actor : ℕ) (s t : List Step) (replied : List Reply) (a b : Printed) → DoesFinish actor s replied a → DoesFinish actor t replied b → a ≡ b
finish_way actor s t replied a b h k =
    let same : h.last ≡ k.last = same_last replied h.before k.before h.last k.last h.replied_are k.replied_are in
    ap (printed_or a) (sym h.ends ∙ ap ending_of same ∙ k.ends)

end_way : (actor : ℕ) (act : ActorStep) (s t : List Step) (replied : List Reply) (a b : Printed) → DoesEnd actor act s replied a → DoesEnd actor act t replied b → a ≡ b
end_way actor act s t [] a b h k = absurd h
end_way actor act s t (x ∷ []) a b h k = h.2 ∙ sym k.2
end_way actor act s t (x ∷ y ∷ []) a b h k = h.2 ∙ sym k.2
end_way actor act s t (x ∷ y ∷ z ∷ r) a b h k = absurd h

-- where the hold was taken away the others follow, else this reply is written
unpin_next : (is : Bool) (P Q : Printed → Type 0) (a b p : Printed) → (P a → Q b → a ≡ b) → (R S T U : Type 0) → MatchBool is (P a) (R × S × (a ≡ p)) → MatchBool is (Q b) (T × U × (b ≡ p)) → a ≡ b
unpin_next true P Q a b p others R S T U h k = others h k
unpin_next false P Q a b p others R S T U h k = h.2 ∙ sym k.2

unpin_way : (stamps : List ℕ) (count : ℕ) (s t : List Step) (replied : List Reply) (a b : Printed) → DoesUnpin stamps count s replied a → DoesUnpin stamps count t replied b → a ≡ b
unpin_way [] count s t [] a b h k = absurd h
unpin_way [] count s t (x ∷ []) a b h k = h.1 ∙ sym k.1
unpin_way [] count s t (x ∷ y ∷ r) a b h k = absurd h
unpin_way (stamp ∷ stamps) count [] t replied a b h k = absurd h
unpin_way (stamp ∷ stamps) count (x ∷ s) [] replied a b h k = absurd k
unpin_way (stamp ∷ stamps) count (x ∷ s) (y ∷ t) [] a b h k = absurd h
unpin_way (stamp ∷ stamps) count (x ∷ s) (y ∷ t) (r ∷ replied) a b h k =
    unpin_next (is_unpinned r) (λ p. DoesUnpin stamps count s replied p) (λ p. DoesUnpin stamps count t replied p) a b (Replied r)
    (unpin_way stamps count s t replied a b) (s ≡ []) (replied ≡ []) (t ≡ []) (replied ≡ []) h.1 k.1

-- where pins were taken out their holds are taken away, else this reply is written
tidy_next : (out : Option (List ℕ)) (P Q : List ℕ → Type 0) (a b p : Printed) → ((stamps : List ℕ) → P stamps → Q stamps → a ≡ b) → (R S T U : Type 0)
    → MatchOption out (R × S × (a ≡ p)) P → MatchOption out (T × U × (b ≡ p)) Q → a ≡ b
tidy_next None P Q a b p others R S T U h k = h.2 ∙ sym k.2
tidy_next (Some stamps) P Q a b p others R S T U h k = others stamps h k

tidy_way : (now age : ℕ) (s t : List Step) (replied : List Reply) (a b : Printed) → DoesTidy now age s replied a → DoesTidy now age t replied b → a ≡ b
tidy_way now age [] t replied a b h k = absurd h
tidy_way now age (x ∷ s) [] replied a b h k = absurd k
tidy_way now age (x ∷ s) (y ∷ t) [] a b h k = absurd h
tidy_way now age (x ∷ s) (y ∷ t) (r ∷ replied) a b h k =
    tidy_next (taken_out r) (λ stamps. DoesUnpin stamps (length stamps) s replied a) (λ stamps. DoesUnpin stamps (length stamps) t replied b) a b (Replied r)
    (λ stamps. unpin_way stamps (length stamps) s t replied a b) (s ≡ []) (replied ≡ []) (t ≡ []) (replied ≡ []) h.1 k.1

pub written_by_replies : (next other : Next) (world elsewhere : WorldValue) (task : Task) (steps others : List Step) (replied : List Reply) (a b : Printed)
    → ((actor : ℕ) → task ≢ tasks.Pins actor) → ((node function : ℕ) → task ≢ tasks.Counts node function)
    → Does next world task steps replied a → Does other elsewhere task others replied b → a ≡ b
written_by_replies next other world elsewhere (tasks.One step) s t replied a b takes counts h k =
    h.3 ∙ ap Replied (ap (last_of h.0) (sym h.2 ∙ k.2)) ∙ sym k.3
written_by_replies next other world elsewhere (tasks.Pin now) s t replied a b takes counts h k = pin_way now s t replied a b h k
written_by_replies next other world elsewhere (tasks.Finish actor) s t replied a b takes counts h k = finish_way actor s t replied a b h k
written_by_replies next other world elsewhere (tasks.Pins actor) s t replied a b takes counts h k = absurd (takes actor refl)
written_by_replies next other world elsewhere (tasks.Commit actor) s t replied a b takes counts h k = end_way actor acts.Commit s t replied a b h k
written_by_replies next other world elsewhere (tasks.Abort actor) s t replied a b takes counts h k = end_way actor acts.Abort s t replied a b h k
written_by_replies next other world elsewhere (tasks.Tidy now age) s t replied a b takes counts h k = tidy_way now age s t replied a b h k
written_by_replies next other world elsewhere (tasks.Counts node function) s t replied a b takes counts h k = absurd (counts node function refl)

-- ---- pins

abbrev shown_text : Bool → List ℕ → List ℕ
shown_text has_present stamps = codes "pins" ++ ((if has_present then codes " *" else []) ++ stamps_text stamps)

members_way : (next other : Next) (world elsewhere : WorldValue) (actor : ℕ) (r : ReadingValue) (p q : Bool) (s t : List ℕ) → slice_get world.actors actor ≡ Some (reads r)
    → slice_get elsewhere.actors actor ≡ Some (reads r) → AreShown next world actor p s → AreShown other elsewhere actor q t → shown_text p s ≡ shown_text q t
members_way next other world elsewhere actor r p q s t is js h k =
    let same = sym (h.pin_set r is) ∙ k.pin_set r js in
    let present : p ≡ q = ap (λ m. m.has_present) same in
    let pins : h.pins ≡ k.pins = ap (λ m. m.members) same in
    let stamps : s ≡ t = h.stamps_are ∙ ap (map (λ (m : Pin). m.stamp)) pins ∙ sym k.stamps_are in
    ap (λ (b : Bool). shown_text b s) present ∙ ap (shown_text q) stamps

pub written_by_pin_set : (next other : Next) (world elsewhere : WorldValue) (actor : ℕ) (r : ReadingValue) (a b : Printed) → slice_get world.actors actor ≡ Some (reads r)
    → slice_get elsewhere.actors actor ≡ Some (reads r) → ShowsMembers next world actor a → ShowsMembers other elsewhere actor b → printed_text a ≡ printed_text b
written_by_pin_set next other world elsewhere actor r (Members p s) (Members q t) is js h k = members_way next other world elsewhere actor r p q s.items t.items is js h k
written_by_pin_set next other world elsewhere actor r (Members p s) b is js h k = absurd k
written_by_pin_set next other world elsewhere actor r a b is js h k = absurd h

-- ---- counts

counts_way : (function : ℕ) (n : Option NodeValue) (node : NodeValue) (p : Printed) → n ≡ Some node
    → MatchOption n (p ≡ Replied (replies.Refused NoNode)) (λ m. p ≡ Counted (record { function = function; counts = counts_in m.records function }))
    → p ≡ Counted (record { function = function; counts = counts_in node.records function })
counts_way function None node p is h = cc
counts_way function (Some m) node p is h = let same : m ≡ node = cc in subst (λ (x : NodeValue). p ≡ Counted (record { function = function; counts = counts_in x.records function })) same h

pub written_by_records : (world elsewhere : WorldValue) (at function : ℕ) (n other : NodeValue) (a b : Printed) → slice_get world.ports.nodes at ≡ Some n → slice_get elsewhere.ports.nodes at ≡ Some other
    → n.records ≡ other.records → DoesCounts world at function a → DoesCounts elsewhere at function b → a ≡ b
written_by_records world elsewhere at function n other a b is js same h k =
    counts_way function (slice_get world.ports.nodes at) n a is h
    ∙ ap (λ (records : List Record). Counted (record { function = function; counts = counts_in records function })) same
    ∙ sym (counts_way function (slice_get elsewhere.ports.nodes at) other b js k)
