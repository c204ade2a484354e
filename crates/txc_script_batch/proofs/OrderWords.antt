-- What the lines of a batch's script ask for, by their first word.
use Rattle.std.proofs.Common.{◌≡◌, ℕ, List, [], ◌∷◌, Some, None, refl, sym, ap, subst, inl, inr, ◌∙◌}
use Rattle.std.specs.Prelude.{codes, option_map}
use Rattle.std.proofs.lemmas.Option.{same_Some}
use Rattle.txc_script.specs.ParsedWords.{SayAll}
use Rattle.txc_script.specs.Words.{words_of}
use Rattle.txc_script.specs.declared.line_fault.WordKind.{WordKind}
use Rattle.txc_script.specs.declared.parsed_word.ChangeName.{ChangeName}
use Rattle.txc_script.specs.declared.parsed_word.ChangeName.TheVariants as changes
use Rattle.txc_script.specs.declared.parsed_word.ParsedWord.{ParsedWord}
use Rattle.txc_script.proofs.Offered.{said_of}
use Rattle.txc_script_lines.specs.Faults.{kinds_of_change, kinds_after_name, moment, second_of}
use Rattle.txc_script_lines.specs.Names.{name_text}
use Rattle.txc_script_lines.specs.LineWords.{AreBodies, SaysAfter, change_said}
use Rattle.txc_script_lines.specs.declared.name.LineName.{LineName}
use Rattle.txc_script_lines.specs.declared.name.LineName.TheVariants as names
use Rattle.txc_script_lines.proofs.Offered.{apart, bodies, change_bodies, change_there, first_is, none_mapped, none_some, others_are, own_change, same_name}
use Rattle.txc_work.specs.declared.job.Job.{Job}
use Rattle.txc_script_batch.specs.Orders.{AreJobWords, AsksFor, IsPreparing, Prepares, SpellsPreparing, order_said}
use Rattle.txc_script_batch.specs.QueuedJobs.{QueuedValue}
use Rattle.txc_script_batch.specs.declared.order.Order.{Order}
use Rattle.txc_script_batch.specs.declared.order.Order.TheVariants.{Write}

-- no change and no pin is called so
no_job_name : (name : LineName) → IsPreparing name → name_text name ≡ codes "job" → ⊥
no_job_name names.Put is e = apart (codes "put") (codes "job") refl e
no_job_name names.Remove is e = apart (codes "remove") (codes "job") refl e
no_job_name names.Pin is e = apart (codes "pin") (codes "job") refl e
no_job_name name is e = absurd is

is_preparing : (name : LineName) (words : List (List ℕ)) (order : Order) → Prepares name words order → IsPreparing name
is_preparing names.Put words order h = tt
is_preparing names.Remove words order h = tt
is_preparing names.Pin words order h = tt
is_preparing name words order h = absurd (none_some order (sym h.asks))

-- what a line of this name asks for
prepares_of : (line : List ℕ) (name : LineName) (words : List (List ℕ)) (order : Order) → words_of line ≡ name_text name ∷ words → SpellsPreparing line order → Prepares name words order
prepares_of line name words order e s =
    let both : name_text name ∷ words ≡ name_text s.0 ∷ s.1 = sym e ∙ s.2 in
    let same : name ≡ s.0 = same_name name s.0 cc in
    let others : words ≡ s.1 = cc in
    subst (λ (n : LineName). Prepares n words order) (sym same) (subst (λ (ws : List (List ℕ)). Prepares s.0 ws order) (sym others) s.3)

-- ---- what a line asks for, by its first word

-- a job
pub job_asked : (jobs : List Job) (line : List ℕ) (words : List (List ℕ)) (order : Order) → words_of line ≡ codes "job" ∷ words → AsksFor jobs line order → (q : QueuedValue) × AreJobWords words q
job_asked jobs line words order e (inl (q, run, h)) = (q, subst (λ (ws : List (List ℕ)). AreJobWords ws q) (others_are (codes "job") (codes "job") h.words words (sym h.line_is ∙ e)) h.says)
job_asked jobs line words order e (inr (early, (name, others, is, says))) =
    absurd (no_job_name name (is_preparing name others order says) (first_is (name_text name) (codes "job") others words (sym is ∙ e)))

-- a change or a pin, before the first job
pub order_asked : (jobs : List Job) (line : List ℕ) (name : LineName) (words : List (List ℕ)) (order : Order) → IsPreparing name → words_of line ≡ name_text name ∷ words → AsksFor jobs line order → (jobs ≡ []) × Prepares name words order
order_asked jobs line name words order is e (inl (q, run, h)) = absurd (no_job_name name is (first_is (name_text name) (codes "job") words h.words (sym e ∙ h.line_is)))
order_asked jobs line name words order is e (inr (early, spells)) = (early, prepares_of line name words order e spells)

-- nothing, where it is no name
pub no_name : (jobs : List Job) (line word : List ℕ) (words : List (List ℕ)) (order : Order) → words_of line ≡ word ∷ words → (word ≡ codes "job" → ⊥)
    → ((name : LineName) → IsPreparing name → word ≡ name_text name → ⊥) → AsksFor jobs line order → ⊥
no_name jobs line word words order e other none (inl (q, run, h)) = other (first_is word (codes "job") words h.words (sym e ∙ h.line_is))
no_name jobs line word words order e other none (inr (early, (name, others, is, says))) = none name (is_preparing name others order says) (first_is word (name_text name) words others (sym e ∙ is))

-- words that say what they are to say ask for something
own : (line : LineName) (name : ChangeName) (words : List (List ℕ)) (values : List ParsedWord) → kinds_after_name line (second_of words) ≡ Some (kinds_of_change name) → order_said line values ≡ option_map Write (change_said name values)
    → SaysAfter line words values → AreBodies values × (order_said line values ≡ None → ⊥)
own line name words values known orders h =
    let say = own_change line name words values known h in
    (bodies (kinds_of_change name) words values (change_bodies name) say, (λ none. change_there name words values say (none_mapped Write (change_said name values) (sym orders ∙ none))))

pub asks_some : (name : LineName) (words : List (List ℕ)) (values : List ParsedWord) → IsPreparing name → SaysAfter name words values → AreBodies values × (order_said name values ≡ None → ⊥)
asks_some names.Put words values is h = own names.Put changes.Put words values refl refl h
asks_some names.Remove words values is h = own names.Remove changes.Remove words values refl refl h
asks_some names.Pin words values is h =
    let say = subst (λ (ks : List WordKind). SayAll ks words values) (same_Some h.kinds (moment ∷ []) (sym h.known)) h.say in
    let by = said_of (moment ∷ []) words values say in
    (bodies (moment ∷ []) words values tt say, (λ none. none_some _ (ap (order_said names.Pin) (sym by.2) ∙ none)))
asks_some name words values is h = absurd is
