use Rattle.std.proofs.Common.{◌≡◌, Bool, sym, subst}
use Rattle.std.specs.Bool.{MatchBool}
use Rattle.slab.specs.Slab.{with_value}
use Rattle.txc_c_types.specs.declared.numbers.TheConstants.{BAD_ARGUMENT}
use Rattle.txc_rows.specs.declared.query.Query.{Query}
use Rattle.txc_c.specs.Calls.{ActsAs, QueryAct}
use Rattle.txc_c.specs.Receipts.{query_of}
use Rattle.txc_c.specs.Sites.{SiteValue, Stays}
use Rattle.txc_c.proofs.Acting.{acted, acted_site}
use Rattle.txc_c.proofs.site.Site.query.Goals as goal

pub query-requires-2-clause-of_caller : goal.query-requires-2-clause-of_caller
query-requires-2-clause-of_caller c = (c.self.invariant.placed c.place_of.result c.in-Some-get_mut.it.now (sym c.in-Some-get_mut.ensures.value)).of_caller

pub invariant_of-self-2 : goal.invariant_of-self-2
invariant_of-self-2 c =
    let s : SiteValue = record { caller = c.self.inside.caller; opened = c.self.inside.opened; begun = c.self.inside.begun } in
    acted_site c.acts_leave_others.ensures s c.self.invariant c.args.txn c.place_of.result c.place_of.ensures c.in-Some-get_mut.it.now (sym c.in-Some-get_mut.ensures.value) c.if-it-txn.false
    c.query-2.new.caller c.query-2.ensures.caller c.query-2.ensures.grown c.query-2.new.self c.query-2.ensures.of_caller

pub returns : goal.returns
returns c =
    let s : SiteValue = record { caller = c.self.inside.caller; opened = c.self.inside.opened; begun = c.self.inside.begun } in
    let it = c.in-Some-get_mut.it.now in let count = c.args.count.now in let count' = c.query-2.new.count in
    let s' : SiteValue = record { caller = c.query-2.new.caller; opened = with_value s.opened c.place_of.result (record { number = it.number; txn = c.query-2.new.self }); begun = s.begun } in
    let query = query_of c.args.query.now in
    let act = subst (λ (q : Query). QueryAct q count count' s.caller it.txn c.query-2.result c.query-2.new.caller c.query-2.new.self) c.in-Some.ensures.asked c.query-2.ensures.act in
    let done = subst (λ (old : SiteValue). ActsAs (QueryAct query count count') (count' ≡ count) c.args.txn old c.query-2.result s') c.self.view_is
    (acted c.acts_leave_others.ensures s c.self.invariant c.args.txn c.place_of.result c.place_of.ensures it (sym c.in-Some-get_mut.ensures.value) c.if-it-txn.false
    c.query-2.new.caller c.query-2.ensures.caller c.query-2.ensures.grown c.query-2.new.self c.query-2.ensures.of_caller (QueryAct query count count') (count' ≡ count) c.query-2.result act) in
    subst (λ (b : Bool). MatchBool b (ActsAs (QueryAct query count count') (count' ≡ count) c.args.txn c.args.self.now c.query-2.result s')
    (Stays BAD_ARGUMENT c.args.self.now c.query-2.result s' × (count' ≡ count))) c.in-Some.ensures.there done
