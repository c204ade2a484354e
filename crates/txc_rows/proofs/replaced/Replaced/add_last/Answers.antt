use Rattle.std.proofs.lemmas.Result.{on_ok_weaker}
use Rattle.std.specs.Map.Iter.{deref}
use Rattle.txc_rows.proofs.NearLemmas.{last_adds}
use Rattle.txc_rows.proofs.replaced.Replaced.add_last.Goals as goal

pub returns : goal.returns
returns c =
    on_ok_weaker c.add_found.result
    (last_adds deref c.args.at c.args.self.now c.requires.each c.requires.ended c.args.query.now c.args.from c.last_dead-last.result c.last_dead-last.ensures c.args.found.now.items c.add_found.new.found.items)
    c.add_found.ensures
