use Rattle.std.proofs.Common.{◌∙◌}
use Rattle.txc_stream.proofs.Offered.{longer_is}
use Rattle.txc_db.proofs.Tagged.{front_is}
use Rattle.txc_db.proofs.history_front.HistoryFront.lengthen.Goals as goal

pub returns : goal.returns
returns c =
    let was = c.args.self.now.history in
    let whole = c.args.whole.now in
    front_is c.longer.new.self c.args.whole.now.events c.args.whole.now.history (c.longer.ensures.events ∙ c.requires.events)
    (longer_is was c.args.whole.now.history c.longer.new.self.history c.requires.begins c.longer.ensures.one c.longer.ensures.that)
