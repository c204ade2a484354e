use Rattle.std.proofs.Common.{◌≤◌, ap, sym, ◌∙◌, arith}
use Rattle.txc_tags.specs.Tags.{sets_match}
use Rattle.txc_db.proofs.Tagged.{none_more}
use Rattle.txc_db.proofs.db_core.commit.first_conflict.Goals as goal

pub returns-then-matches-clause-some : goal.returns-then-matches-clause-some
returns-then-matches-clause-some c =
    record {
      after = let low = c.loop-at.auto.at in omega (arith, low);
      within = omega (arith, c.loop-at-test.true, c.len-at-end.ensures.shown);
      matches = ap (λ ts. sets_match ts c.args.read.now) (sym c.tags_of.ensures) ∙ (sym c.matches.ensures ∙ c.if-matches.true);
      earliest = λ e low high. let up : e ≤ c.loop-at.at = omega (arith, high) in c.loop-at.invariant e low up;
    }

pub loop-at-preserved : goal.loop-at-preserved
loop-at-preserved c =
    none_more c.args.told.now.history c.args.base c.loop-at.at c.args.read.now c.loop-at.invariant (ap (λ ts. sets_match ts c.args.read.now) (sym c.tags_of.ensures) ∙ (sym c.matches.ensures ∙ c.if-matches.false))
