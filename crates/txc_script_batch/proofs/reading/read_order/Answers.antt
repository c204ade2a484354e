use Rattle.std.proofs.Common.{◌≡◌, ◌∷◌, ℕ, List, length, ap, refl, subst, sym, arith, inl, inr, ◌∙◌}
use Rattle.std.specs.Prelude.{codes}
use Rattle.std.proofs.lemmas.List.Splits.{length-slice_split}
use Rattle.txc_script.specs.Words.{is_blank, words_left, words_of}
use Rattle.txc_script.specs.declared.line_fault.CommandFault.TheVariants.{Unknown}
use Rattle.txc_script.proofs.Offered.{is_nothing, not_nothing, other_text, same_text, wrong_as}
use Rattle.txc_script_lines.specs.Faults.{IsFaultAfter}
use Rattle.txc_script_lines.specs.Names.{name_text}
use Rattle.txc_script_lines.specs.LineWords.{AreBodies}
use Rattle.txc_work.specs.declared.job.Job.{Job}
use Rattle.txc_script_batch.specs.BatchFaults.{IsBatchFault, IsJobFault, IsPreparingFault}
use Rattle.txc_script_batch.specs.Orders.{order_said}
use Rattle.txc_script_batch.proofs.JobFaults.{after_some}
use Rattle.txc_script_batch.proofs.OrderWords.{asks_some}
use Rattle.txc_script_batch.proofs.reading.read_order.Goals as goal

pub next-word-requires : goal.next-word-requires
next-word-requires c = omega (arith, ap length c.all_words-words.ensures, length-slice_split is_blank c.args.line.now)

pub returns-in_err-read_queued-clause-refused : goal.returns-in_err-read_queued-clause-refused
returns-in_err-read_queued-clause-refused c =
    let words = words_left c.next-word.new.self in
    let is_job = same_text c.next-word.result.now c.as_slice.result.now (codes "job") c.eq.result c.as_slice.ensures c.eq.ensures c.if-eq.true in
    let cut : words_of c.args.line.now ≡ codes "job" ∷ words = sym c.all_words-words.ensures ∙ c.next-word.ensures ∙ ap (λ (w : List ℕ). w ∷ words) is_job in
    wrong_as _ c.in_err-read_queued.field-0.0 (IsJobFault words) (IsBatchFault c.args.jobs.now (words_of c.args.line.now)) c.from_residual.ensures c.in_err-read_queued.ensures.refused
    (λ fault h. inr (inl (words, cut, h)))

pub returns-then-eq-clause-answer : goal.returns-then-eq-clause-answer
returns-then-eq-clause-answer c =
    let words = words_left c.next-word.new.self in
    let cut : words_of c.args.line.now ≡ c.next-word.result.now ∷ words = sym c.all_words-words.ensures ∙ c.next-word.ensures in
    let is_job = same_text c.next-word.result.now c.as_slice.result.now (codes "job") c.eq.result c.as_slice.ensures c.eq.ensures c.if-eq.true in
    inl (_, refl, record { words = words; line_is = cut ∙ ap (λ (w : List ℕ). w ∷ words) is_job; says = c.in_ok-read_queued.ensures.answer })

pub returns-in_default-clause-refused : goal.returns-in_default-clause-refused
returns-in_default-clause-refused c =
    let other = other_text c.next-word.result.now c.as_slice.result.now (codes "job") c.eq.result c.as_slice.ensures c.eq.ensures c.if-eq.false in
    inl (c.next-word.result.now, words_left c.next-word.new.self, sym c.all_words-words.ensures ∙ c.next-word.ensures, other, c.in_default.ensures.refused, ap Unknown c.new.ensures)

pub returns-then-not-is_empty-clause-refused : goal.returns-then-not-is_empty-clause-refused
returns-then-not-is_empty-clause-refused c =
    let words = words_left c.next-word.new.self in
    let cut : words_of c.args.line.now ≡ name_text c.in-Some.name ∷ words = sym c.all_words-words.ensures ∙ c.next-word.ensures ∙ ap (λ (w : List ℕ). w ∷ words) c.in-Some.ensures.answer in
    inr (inr (c.in-Some.name, words, c.in-Some.ensures.preparing, cut, after_some c.args.jobs.now c.in-Some.name words _ (not_nothing c.args.jobs.now (sym c.is_empty.ensures ∙ c.if-not-is_empty.true)) refl))

pub returns-in_err-said-clause-refused : goal.returns-in_err-said-clause-refused
returns-in_err-said-clause-refused c =
    let words = words_left c.next-word.new.self in
    let cut : words_of c.args.line.now ≡ name_text c.in-Some.name ∷ words = sym c.all_words-words.ensures ∙ c.next-word.ensures ∙ ap (λ (w : List ℕ). w ∷ words) c.in-Some.ensures.answer in
    let none = is_nothing c.args.jobs.now (sym c.is_empty.ensures ∙ c.if-not-is_empty.false) in
    wrong_as _ c.in_err-said.field-0.0 (IsFaultAfter c.in-Some.name words) (IsBatchFault c.args.jobs.now (words_of c.args.line.now)) c.from_residual-in_err-said.ensures c.in_err-said.ensures.refused
    (λ fault h. inr (inr (c.in-Some.name, words, c.in-Some.ensures.preparing, cut, subst (λ (js : List Job). IsPreparingFault js c.in-Some.name words fault) (sym none) h)))

pub order_of-requires : goal.order_of-requires
order_of-requires c =
    subst AreBodies (sym c.as_slice-2.ensures.value) (asks_some c.in-Some.name (words_left c.next-word.new.self) c.in_ok-said.said.items c.in-Some.ensures.preparing c.in_ok-said.ensures.answer).0

pub unreachable-requires : goal.unreachable-requires
unreachable-requires c =
    (asks_some c.in-Some.name (words_left c.next-word.new.self) c.in_ok-said.said.items c.in-Some.ensures.preparing c.in_ok-said.ensures.answer).1
    (ap (order_said c.in-Some.name) (sym c.as_slice-2.ensures.value) ∙ sym c.in_ok-order.ensures ∙ c.in-None.is)

pub returns-clause-answer : goal.returns-clause-answer
returns-clause-answer c =
    let words = words_left c.next-word.new.self in
    let cut : words_of c.args.line.now ≡ name_text c.in-Some.name ∷ words = sym c.all_words-words.ensures ∙ c.next-word.ensures ∙ ap (λ (w : List ℕ). w ∷ words) c.in-Some.ensures.answer in
    let none = is_nothing c.args.jobs.now (sym c.is_empty.ensures ∙ c.if-not-is_empty.false) in
    let asks = ap (order_said c.in-Some.name) (sym c.as_slice-2.ensures.value) ∙ sym c.in_ok-order.ensures ∙ c.in-Some-2.is in
    inr (none, (c.in-Some.name, words, cut, record { values = c.in_ok-said.said.items; say = c.in_ok-said.ensures.answer; asks = asks }))
