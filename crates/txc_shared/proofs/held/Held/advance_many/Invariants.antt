use Rattle.std.proofs.Common.{◌≡◌, ℕ, List, length}
use Rattle.txc_shared.specs.Passes.{HasGrown, HasTakenEach}
use Rattle.txc_shared.proofs.Together.{EndsWithOwn}
use Rattle.txc_shared.proofs.held.Held.advance_many.Given as goal

-- the stamps of the events that were taken, the latest first
abbrev pub invariant-loop : goal.invariant-loop
invariant-loop g l = (stamps : List ℕ)
    × HasTakenEach g.J.Naming.database_history l.fn.pass stamps l.pass
    × (l.taken ≡ length stamps)
    × (l.taken ≡ l.counter)
    × HasGrown l.fn.pass l.pass
    × EndsWithOwn l.fn.pass l.pass l.self l.taken
