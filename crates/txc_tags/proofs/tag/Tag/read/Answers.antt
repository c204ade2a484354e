use Rattle.std.proofs.Common.{Ok, refl, sym, ap, ◌∙◌}
use Rattle.txc_tags.specs.declared.tag.Tag.{Tag}
use Rattle.txc_tags.specs.declared.text.tag.Spelling.TheVariants.{Usual}
use Rattle.txc_tags.specs.TextTag.{SpeltTag, spelt_text, IsSpeltInRange}
use Rattle.txc_tags.proofs.TextReading.{longest}
use Rattle.txc_tags.proofs.TextTags.{same_spelt}
use Rattle.txc_tags.proofs.tag.Tag.read.Goals as goal

pub returns-in-Ok-clause-read_back : goal.returns-in-Ok-clause-read_back
returns-in-Ok-clause-read_back c tag t = ap Ok (ap (λ (s : SpeltTag). s.tag) (same_spelt (record { spelling = c.in-Ok.ensures.answer.0; tag = c.in-Ok.tag }) (record { spelling = Usual; tag = tag }) c.in-Ok.ensures.answer.1.0 t.0 (sym c.in-Ok.ensures.answer.1.1 ∙ t.1)))

pub returns-in-Err-clause-refused : goal.returns-in-Err-clause-refused
returns-in-Err-clause-refused c = longest IsSpeltInRange spelt_text c.args.text.now c.in-Err.rest.now c.in-Err.ensures.refused

pub returns-in-Ok-clause-only_if : goal.returns-in-Ok-clause-only_if
returns-in-Ok-clause-only_if c = (λ _. (record { spelling = c.in-Ok.ensures.answer.0; tag = c.in-Ok.tag }, c.in-Ok.ensures.answer.1), λ _. refl)

pub returns-in-Err-clause-read_back : goal.returns-in-Err-clause-read_back
returns-in-Err-clause-read_back c tag t = absurd (c.in-Err.ensures.refused.none (record { spelling = Usual; tag = tag }, t))
