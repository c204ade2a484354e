use Rattle.txc_app.proofs.Offered.{each_none}
use Rattle.txc_shared.specs.Histories.{IsNext}
use Rattle.txc_shared.proofs.Histories
use Rattle.txc_shared.proofs.laws.legal_histories.Goals as goal

pub returns : goal.returns
returns c = record {
  longer = Histories.legal_in_longer c.states_stay.ensures.tags;
  none = λ L start. record { each = each_none (IsNext L start) };
  beginning = Histories.beginning_is_legal;
  events = Histories.events_are_taken;
}
