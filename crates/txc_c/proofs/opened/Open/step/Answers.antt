use Rattle.std.proofs.Common.{ℕ, List, sym, subst}
use Rattle.txc_app.specs.declared.ask.Ask.{Ask}
use Rattle.txc_app.specs.declared.ask.Ask.TheVariants as asks
use Rattle.txc_c.specs.Opened.{OpenAsksNext}
use Rattle.txc_c.specs.declared.opened.Open.{Open}
use Rattle.txc_c.specs.declared.opened.Open.TheVariants.{Reading, Writing}
use Rattle.txc_c.proofs.opened.Open.step.Goals as goal

-- ---- in one that only reads

pub call-requires-clause-asks : goal.call-requires-clause-asks
call-requires-clause-asks c =
    subst (λ (a : Ask). OpenAsksNext a (Reading c.in-Reading.txn)) c.in-Call.is (subst (λ (o : Open). OpenAsksNext c.args.ask o) c.in-Reading.is c.requires.asks)

pub query-requires-clause-asks : goal.query-requires-clause-asks
query-requires-clause-asks c =
    subst (λ (a : Ask). OpenAsksNext a (Reading c.in-Reading.txn)) c.in-Query.is (subst (λ (o : Open). OpenAsksNext c.args.ask o) c.in-Reading.is c.requires.asks)

pub finish-requires-clause-asks : goal.finish-requires-clause-asks
finish-requires-clause-asks c =
    subst (λ (bytes : List ℕ). OpenAsksNext (asks.Done bytes) (Reading c.in-Reading.txn)) (sym c.into_vec.ensures)
    (subst (λ (a : Ask). OpenAsksNext a (Reading c.in-Reading.txn)) c.in-Done.is (subst (λ (o : Open). OpenAsksNext c.args.ask o) c.in-Reading.is c.requires.asks))

-- ---- in one that writes

pub call-requires-in-Call-ask-clause-asks : goal.call-requires-in-Call-ask-clause-asks
call-requires-in-Call-ask-clause-asks c =
    subst (λ (a : Ask). OpenAsksNext a (Writing c.in-Writing.write)) c.in-Call-ask.is (subst (λ (o : Open). OpenAsksNext c.args.ask o) c.in-Writing.is c.requires.asks)

pub query-requires-in-Query-ask-clause-asks : goal.query-requires-in-Query-ask-clause-asks
query-requires-in-Query-ask-clause-asks c =
    subst (λ (a : Ask). OpenAsksNext a (Writing c.in-Writing.write)) c.in-Query-ask.is (subst (λ (o : Open). OpenAsksNext c.args.ask o) c.in-Writing.is c.requires.asks)

pub finish-requires-in-Done-ask-clause-asks : goal.finish-requires-in-Done-ask-clause-asks
finish-requires-in-Done-ask-clause-asks c =
    subst (λ (bytes : List ℕ). OpenAsksNext (asks.Done bytes) (Writing c.in-Writing.write)) (sym c.into_vec-in-Done-ask.ensures)
    (subst (λ (a : Ask). OpenAsksNext a (Writing c.in-Writing.write)) c.in-Done-ask.is (subst (λ (o : Open). OpenAsksNext c.args.ask o) c.in-Writing.is c.requires.asks))
