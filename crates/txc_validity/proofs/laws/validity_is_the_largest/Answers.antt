use Rattle.txc_validity.proofs.ValidityLemmas
use Rattle.txc_validity.proofs.laws.validity_is_the_largest.Goals as goal

pub returns : goal.returns
returns c = record {
  within = ValidityLemmas.same_within;
  below = ValidityLemmas.differs_below;
  above = ValidityLemmas.differs_above;
  one = ValidityLemmas.one_validity;
  kept = ValidityLemmas.kept_answers_decide;
  around = ValidityLemmas.around_is_valid;
}
