use Rattle.std.proofs.Common.{List, ◌∙◌, sym, ap}
use Rattle.txc_tags.specs.Tags.{set_of}
use Rattle.txc_tags.specs.TextTag.{SpeltTag}
use Rattle.txc_tags.specs.TextSet.{tags_spelt}
use Rattle.txc_tags.proofs.TextTags.{same_spelt}
use Rattle.txc_tags.proofs.TextSets.{same_spelt_text}
use Rattle.txc_tags.proofs.laws.a_text_names_one_tag.Goals as goal

pub returns-clause-tag : goal.returns-clause-tag
returns-clause-tag c = λ text a b h k. ap (λ (s : SpeltTag). s.tag) (same_spelt (record { spelling = h.0; tag = a }) (record { spelling = k.0; tag = b }) h.1.0 k.1.0 (sym h.1.1 ∙ k.1.1))

pub returns-clause-set : goal.returns-clause-set
returns-clause-set c = λ text a b h k. h.2 ∙ ap (λ (ts : List SpeltTag). set_of (tags_spelt ts)) (same_spelt_text h.0 k.0 h.1.0 k.1.0 (sym h.1.1 ∙ k.1.1)) ∙ sym k.2
