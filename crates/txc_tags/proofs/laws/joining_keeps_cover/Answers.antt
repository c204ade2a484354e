use Rattle.txc_tags.proofs.Covering.{all_keep, all_cover}
use Rattle.txc_tags.proofs.laws.joining_keeps_cover.Goals as goal

pub returns-clause-first : goal.returns-clause-first
returns-clause-first c = λ tags set other e. all_keep tags other set e

pub returns-clause-second : goal.returns-clause-second
returns-clause-second c = all_cover
