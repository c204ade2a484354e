use Rattle.std.proofs.Common.{◌≡◌, ◌<◌, length, get_or, ap, arith}
use Rattle.std.proofs.lemmas.List.{get_or_read}
use Rattle.txc_shared.specs.Histories.{records_of}
use Rattle.txc_shared.specs.Nodes.{LogValue}
use Rattle.txc_shared.proofs.Turns.{records_within}
use Rattle.txc_shared.proofs.log.Log.append.Goals as goal

pub overflow_add-turn : goal.overflow_add-turn
overflow_add-turn c =
    let ts = c.self.inside.turns.items in
    let own = c.args.pass in
    let passes : length ts ≡ c.args.self.now.passes = ap (λ (l : LogValue). l.passes) c.self.view_is in
    let mine = c.requires.own in
    let low : own < length ts = omega (arith, passes, mine) in
    let at : c.index-turn.result.now ≡ get_or ts own c.index-turn.result.now = c.index-turn.ensures in
    let is = get_or_read ts own c.index-turn.result.now low at 0 in
    let all = c.args.self.now.records in
    let count = records_within own all in
    let turn = c.self.invariant own in
    let same = ap (λ (l : LogValue). records_of own l.records) c.self.view_is in
    let counted = c.requires.room.counted in
    omega (arith, is, count, turn, same, counted)
