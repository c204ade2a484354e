use Rattle.std.proofs.Common.{◌≡◌, Some, refl, sym, ap, subst, ◌∙◌}
use Rattle.txc_tags.specs.Keys.{Call}
use Rattle.txc_call.specs.CallMachine.{Calling}
use Rattle.txc_call.specs.Needs.{reply_reach}
use Rattle.txc_txn.specs.TxnCore.{value_of}
use Rattle.txc_txn.specs.ByHand.{standing_of, recorded_by_hand, HandTransition}
use Rattle.txc_call.specs.declared.need.Need.TheVariants as needs
use Rattle.txc_txn.proofs.ByHand.{served}
use Rattle.txc_txn.proofs.Cores.{core_went_on, holds_went_on}
use Rattle.txc_txn.proofs.txn_core.TxnCore.take.Goals as goal

pub asks-requires-clause-fits : goal.asks-requires-clause-fits
asks-requires-clause-fits c = (
  c.requires.fits.0,
  c.requires.fits.1,
  core_went_on c.requires.fits.0 c.requires.fits.1 (value_of c.args.self.now) (reply_reach c.args.reply) c.requires.within c.requires.fits.1 c.take.new.self
      c.take.ensures.within c.requires.present c.take.ensures.unreached c.requires.none c.requires.reply.0 c.requires.reply.1 (c.take.ensures.fits c.requires.fits.0 c.requires.fits.1 c.requires.fits.2.call) c.requires.fits.2,
)

pub asks-requires-clause-calling : goal.asks-requires-clause-calling
asks-requires-clause-calling c = let after = c.take.ensures.after c.requires.reply.0 c.requires.reply.1 in rw after refl

pub returns-clause-fits : goal.returns-clause-fits
returns-clause-fits c = λ next objects after left h.
    c.asks.ensures.fits next objects after left
    (core_went_on next objects (value_of c.args.self.now) (reply_reach c.args.reply) c.requires.within objects c.take.new.self
    c.take.ensures.within c.requires.present c.take.ensures.unreached c.requires.none c.requires.reply.0 c.requires.reply.1 (c.take.ensures.fits next objects h.call) h)

pub returns-clause-holds : goal.returns-clause-holds
returns-clause-holds c = λ next objects after L left right h holds.
    let n = c.requires.reply.0 in
    let is = c.requires.reply.1 in
    c.asks.ensures.holds next objects after L left
    (core_went_on next objects (value_of c.args.self.now) (reply_reach c.args.reply) c.requires.within objects c.take.new.self
    c.take.ensures.within c.requires.present c.take.ensures.unreached c.requires.none n is (c.take.ensures.fits next objects h.call) h)
    (holds_went_on next objects (value_of c.args.self.now) (reply_reach c.args.reply) c.requires.within objects c.take.new.self
    c.take.ensures.within c.requires.present c.take.ensures.unreached L (c.take.ensures.holds next objects L n is h.call (right n is) holds.valid.right) holds)

pub returns-clause-recorded : goal.returns-clause-recorded
returns-clause-recorded c =
    let top : c.take.new.self.top ≡ c.args.self.now.machine.top = ap (λ (v : Calling). v.top) (c.take.ensures.after c.requires.reply.0 c.requires.reply.1) in
    subst (λ (k : Call). c.asks.new.self.recorded.items ≡ recorded_by_hand c.args.self.now.recorded.items c.asks.result (Some k)) top c.asks.ensures.recorded

pub returns-clause-goes_on : goal.returns-clause-goes_on
returns-clause-goes_on c = λ unended.
    c.asks.ensures.goes_on unended ∙ ap (λ (v : Calling). Some v.top) (c.take.ensures.after c.requires.reply.0 c.requires.reply.1)

pub returns-clause-transition : goal.returns-clause-transition
returns-clause-transition c = λ need is objects.
    subst (λ (v : Calling). HandTransition (standing_of v objects) (value_of c.asks.new.self) c.asks.result) (c.take.ensures.after need is) (c.asks.ensures.transition objects)

pub returns-clause-rests : goal.returns-clause-rests
returns-clause-rests c =
    let r = c.requires.reply in
    let after = ap (λ (v : Calling). v.need) (c.take.ensures.after r.0 r.1) in
    c.asks.ensures.rests
    (λ k is. let one = sym after ∙ is in served c.args.self.now.machine.frames r.0 c.args.reply (needs.Lookup k) r.2 tt (cc one))
    (λ q is. let one = sym after ∙ is in served c.args.self.now.machine.frames r.0 c.args.reply (needs.Query q) r.2 tt (cc one))
    (λ e is. let one = sym after ∙ is in served c.args.self.now.machine.frames r.0 c.args.reply (needs.Insert e) r.2 tt (cc one))
