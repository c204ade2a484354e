use Rattle.std.proofs.Common.{rules, ◌≡◌, None}
use Rattle.txc_app.specs.Eval.{Next}
use Rattle.txc_call_registry.specs.Objects.{Objects}
use Rattle.txc_cushion.specs.Pin.{pin_of}
use Rattle.txc_txn_ports.specs.Answers.{IsFresh}
use Rattle.txc_txn.specs.TxnCore.{IsCore, value_of}
use Rattle.txc_txn.proofs.txn_core.TxnCore.hear_add.Goals as goal

pub returns-in-Some-first : goal.returns-in-Some-first
returns-in-Some-first c = record {
  fits = search rules;
  holds = search rules;
  turn_fits = search rules;
  transition = search rules;
  rests = tt;
  adds = search rules;
  pins = search rules;
  taken = search rules;
  left = search rules;
  recorded = search rules;
  goes_on = search rules;
  same = search rules;
}

pub returns-in-None : goal.returns-in-None
returns-in-None c =
    let none : c.replace.new.dest ≡ None = search rules in
    let free = λ (next : Next) (objects : Objects) (h : IsCore next objects (value_of c.args.self.now)).
    c.join_pin.ensures.fits next objects none (record {
      set = h.set;
      call = h.call;
      within = h.within;
      unreached = h.unreached;
      pinning = rw none tt;
      member = h.member;
      answered = h.answered;
      taken = h.taken;
      nodes = h.nodes;
    }) in
    record {
      fits = λ next objects after there left h. c.asks.ensures.fits next objects after left (free next objects h);
      holds = λ next objects after L left right h holds.
          let fresh : IsFresh L c.args.self.now.bounds (pin_of c.args.pinned.now) = search rules in
          c.asks.ensures.holds next objects after L left (free next objects h)
          (c.join_pin.ensures.holds next objects L fresh (record { valid = holds.valid; coming = rw none tt }));
      turn_fits = search rules;
      transition = search rules;
      rests = tt;
      adds = search rules;
      pins = search rules;
      taken = search rules;
      left = search rules;
      recorded = search rules;
      goes_on = search rules;
      same = search rules;
    }
