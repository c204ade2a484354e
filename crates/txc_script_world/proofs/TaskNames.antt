-- What the words of the lines of a world's script ask for.
use Rattle.std.proofs.Common.{◌≡◌, ℕ, List, [], ◌∷◌, Some, None, refl, sym, ap, subst, ◌∙◌}
use Rattle.std.proofs.lemmas.Option.{same_Some}
use Rattle.txc_script.specs.ParsedWords.{AllSaidOf, SayAll}
use Rattle.txc_script.specs.declared.line_fault.WordKind.{WordKind}
use Rattle.txc_script.specs.declared.line_fault.WordKind.TheVariants.{Function, Key, Stamp}
use Rattle.txc_script.specs.declared.parsed_word.ChangeName.{ChangeName}
use Rattle.txc_script.specs.declared.parsed_word.ChangeName.TheVariants as changes
use Rattle.txc_script.specs.declared.parsed_word.ParsedWord.{ParsedWord}
use Rattle.txc_script.proofs.Offered.{all_said_by, said_of}
use Rattle.txc_script_lines.specs.Faults.{kinds_of_change, kinds_after_name, moment, place, second_of}
use Rattle.txc_script_lines.specs.LineWords.{AreBodies, SaysAfter, change_said, query_said}
use Rattle.txc_script_lines.specs.declared.name.LineName.{LineName}
use Rattle.txc_script_lines.specs.declared.name.LineName.TheVariants as names
use Rattle.txc_script_lines.proofs.Offered.{HasChange, HasQuery, HaveBodies, bodies, change_bodies, change_there, has_change, has_query, none_mapped, none_some, own_change}
use Rattle.txc_script_world.specs.Tasks.{keeper_change, task_said}
use Rattle.txc_script_world.specs.declared.task.Task.TheVariants as tasks
use Rattle.txc_rows.specs.declared.query.Change.{Change}
use Rattle.txc_rows.specs.declared.query.Query.{Query}
use Rattle.txc_world.specs.declared.step.ActorStep.TheVariants as acts
use Rattle.txc_world.specs.declared.step.KeeperStep.TheVariants as keeps
use Rattle.txc_world.specs.declared.step.Step.TheVariants.{Actor, Keeper}

-- ---- words that say what they are to say ask for something

pub record AsksSome (name : LineName) (values : List ParsedWord) : Type 0 where
  pub bodies : AreBodies values
  pub some : task_said name values ≡ None → ⊥

asks_by : (name : LineName) (words : List (List ℕ)) (values : List ParsedWord) (kinds : List WordKind) → SaysAfter name words values → kinds_after_name name (second_of words) ≡ Some kinds → HaveBodies kinds
    → ((all : AllSaidOf kinds) → task_said name (all_said_by kinds all) ≡ None → ⊥) → AsksSome name values
asks_by name words values kinds h known texts some =
    let say = subst (λ (ks : List WordKind). SayAll ks words values) (same_Some h.kinds kinds (sym h.known ∙ known)) h.say in
    let by = said_of kinds words values say in
    record { bodies = bodies kinds words values texts say; some = λ none. some by.0 (ap (task_said name) (sym by.2) ∙ none) }

keeps_some : (name : ChangeName) (values : List ParsedWord) → (change_said name values ≡ None → ⊥) → keeper_change name values ≡ None → ⊥
keeps_some name values some none = some (none_mapped (λ (change : Change). tasks.One (Keeper (keeps.Write change))) (change_said name values) none)

own : (line : LineName) (name : ChangeName) (words : List (List ℕ)) (values : List ParsedWord) → kinds_after_name line (second_of words) ≡ Some (kinds_of_change name) → SaysAfter line words values
    → AreBodies values × (keeper_change name values ≡ None → ⊥)
own line name words values known h =
    let say = own_change line name words values known h in
    (bodies (kinds_of_change name) words values (change_bodies name) say, keeps_some name values (change_there name words values say))

by_change : (values : List ParsedWord) → HasChange values → AsksSome names.Write values
by_change values h = subst (AsksSome names.Write) (sym h.are) (record {
  bodies = bodies (kinds_of_change h.name) h.words h.rest (change_bodies h.name) h.say;
  some = λ none. change_there h.name h.words h.rest h.say (none_mapped (λ (change : Change). tasks.One (Actor h.actor (acts.Write change))) (change_said h.name h.rest) none);
})

by_keeper_query : (values : List ParsedWord) → HasQuery Stamp values → AsksSome names.Query values
by_keeper_query values h = subst (AsksSome names.Query) (sym h.are) (record { bodies = h.bodies; some = λ none. h.some (none_mapped (λ (query : Query). tasks.One (Keeper (keeps.Query h.head query))) (query_said h.rest) none) })

by_actor_query : (values : List ParsedWord) → HasQuery place values → AsksSome names.Ask values
by_actor_query values h = subst (AsksSome names.Ask) (sym h.are) (record { bodies = h.bodies; some = λ none. h.some (none_mapped (λ (query : Query). tasks.One (Actor h.head (acts.Ask query))) (query_said h.rest) none) })

pub asks_some : (name : LineName) (words : List (List ℕ)) (values : List ParsedWord) → SaysAfter name words values → AsksSome name values
asks_some names.Put words values h = let o = own names.Put changes.Put words values refl h in record { bodies = o.0; some = o.1 }
asks_some names.Remove words values h = let o = own names.Remove changes.Remove words values refl h in record { bodies = o.0; some = o.1 }
asks_some names.Write words values h = by_change values (has_change words values h.kinds h.known h.say)
asks_some names.Query words values h = by_keeper_query values (has_query Stamp words values h.kinds h.known h.say)
asks_some names.Ask words values h = by_actor_query values (has_query place words values h.kinds h.known h.say)
asks_some names.Pin words values h = asks_by names.Pin words values (moment ∷ []) h refl tt (λ all e. none_some _ e)
asks_some names.Ro words values h = asks_by names.Ro words values (place ∷ moment ∷ moment ∷ Stamp ∷ []) h refl tt (λ all e. none_some _ e)
asks_some names.Session words values h = asks_by names.Session words values (place ∷ moment ∷ moment ∷ []) h refl tt (λ all e. none_some _ e)
asks_some names.Call words values h = asks_by names.Call words values (place ∷ Key ∷ []) h refl tt (λ all e. none_some _ e)
asks_some names.Sweep words values h = asks_by names.Sweep words values (place ∷ Stamp ∷ []) h refl tt (λ all e. none_some _ e)
asks_some names.Tidy words values h = asks_by names.Tidy words values (moment ∷ moment ∷ []) h refl tt (λ all e. none_some _ e)
asks_some names.Counts words values h = asks_by names.Counts words values (place ∷ Function ∷ []) h refl tt (λ all e. none_some _ e)
asks_some names.Rw words values h = asks_by names.Rw words values (place ∷ []) h refl tt (λ all e. none_some _ e)
asks_some names.Step words values h = asks_by names.Step words values (place ∷ []) h refl tt (λ all e. none_some _ e)
asks_some names.Finish words values h = asks_by names.Finish words values (place ∷ []) h refl tt (λ all e. none_some _ e)
asks_some names.Pins words values h = asks_by names.Pins words values (place ∷ []) h refl tt (λ all e. none_some _ e)
asks_some names.Commit words values h = asks_by names.Commit words values (place ∷ []) h refl tt (λ all e. none_some _ e)
asks_some names.Abort words values h = asks_by names.Abort words values (place ∷ []) h refl tt (λ all e. none_some _ e)
asks_some names.Advance words values h = asks_by names.Advance words values (place ∷ []) h refl tt (λ all e. none_some _ e)
