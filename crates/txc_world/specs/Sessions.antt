-- The stamps shown to actors of transactions that begin in their sessions.
use Rattle.std.specs.Prelude.{◌≡◌, ℕ, ◌≤◌, List, [], ◌∷◌, ◌++◌, Some}
use Rattle.std.specs.List.{AllByRecursion}
use Rattle.txc_cushion.specs.declared.pin.Pin.{Pin}
use Rattle.txc_world.specs.declared.step.ActorStep.TheVariants.{Commit}
use Rattle.txc_world.specs.declared.step.Step.{Step}
use Rattle.txc_world.specs.declared.step.Step.TheVariants.{Actor, BeginIn}
use Rattle.txc_world.specs.declared.reply.Reply.{Reply}
use Rattle.txc_world.specs.declared.reply.Reply.TheVariants.{Begun, Receipt, At}

-- each step with its reply
abbrev pub replied : List Step → List Reply → List (Step × Reply)
replied [] replies = []
replied (step ∷ steps) [] = []
replied (step ∷ steps) (reply ∷ replies) = (step, reply) ∷ replied steps replies

-- no read-only transaction of the actor of that number began so
abbrev pub BeganNone : ℕ → Step → Reply → Type 0
BeganNone number (Actor at act) Begun = ¬ (at ≡ number)
BeganNone number (BeginIn at now staleness) Begun = ¬ (at ≡ number)
BeganNone number step reply = Unit {0}

abbrev pub HaveBegunNone : ℕ → List (Step × Reply) → Type 0
HaveBegunNone number happened = AllByRecursion (λ x. BeganNone number x.0 x.1) happened

-- if the actor of that number was shown a stamp so, of a receipt or of the commit of a read-write transaction,
-- that is at most this
abbrev pub ToldAtMost : ℕ → ℕ → Step → Reply → Type 0
ToldAtMost number most (Actor at Commit) (Receipt (Some pin)) = at ≡ number → pin.stamp ≤ most
ToldAtMost number most (Actor at Commit) (At stamp) = at ≡ number → stamp ≤ most
ToldAtMost number most step reply = Unit {0}

abbrev pub HaveToldAtMost : ℕ → ℕ → List (Step × Reply) → Type 0
HaveToldAtMost number most happened = AllByRecursion (λ x. ToldAtMost number most x.0 x.1) happened

-- No session goes back. Let an actor begin a transaction in its session and commit it, with no other begun in
-- between. Then the stamp of its receipt is not below any that the actor was shown before: that of a receipt,
-- or of the commit of a read-write transaction, in the session or not.
abbrev pub ActorSessionsAreMonotonic : List Step → List Reply → Type 0
ActorSessionsAreMonotonic steps replies =
    (number now staleness : ℕ) (pin : Pin) (before between after : List (Step × Reply))
    → replied steps replies ≡ before ++ ((BeginIn number now staleness, Begun) ∷ (between
    ++ ((Actor number Commit, Receipt (Some pin)) ∷ after)))
    → HaveBegunNone number between → HaveToldAtMost number pin.stamp (before ++ between)
