use Rattle.std.proofs.Common.{◌≡◌, Some, sym, ap, ◌∙◌, subst}
use Rattle.std.proofs.lemmas.Result.{IfOk-weaker, IfErr-weaker}
use Rattle.txc_call_registry.specs.Activity.{Says, idle, running, begun, next_of}
use Rattle.txc_call_registry.proofs.Places.{no_position, meaning_here, changed, means_here, stays, unchanged}
use Rattle.txc_call_registry.proofs.registry.Registry.begin.Goals as goal

pub unreachable-requires : goal.unreachable-requires
unreachable-requires g c = no_position g.C.Cacheable.number g.C.Cacheable.activity c.self.inside.objects.items c.args.f idle (rw c.self.view_is c.requires.idle) (sym c.place.ensures ∙ c.in_default.is)

pub begin-requires : goal.begin-requires
begin-requires g c = record { idle = meaning_here g.C.Cacheable.number g.C.Cacheable.activity c.self.inside.objects.items c.args.f c.in-Some.at c.index_mut-object.result.now (sym c.place.ensures ∙ c.in-Some.is) c.index_mut-object.ensures.value idle (rw c.self.view_is c.requires.idle) }

pub invariant_of-self : goal.invariant_of-self
invariant_of-self g c = stays g.C.Cacheable.number g.C.Cacheable.activity c.self.inside.objects.items c.args.f c.in-Some.at c.index_mut-object.result.now (sym c.place.ensures ∙ c.in-Some.is) c.index_mut-object.ensures.value g.C.Cacheable.says g.A.App.next.says c.begin.new.self c.begin.ensures.same_number c.begin.ensures.same_meaning c.self.invariant

pub returns-clause-answer : goal.returns-clause-answer
returns-clause-answer g c =
    let at = sym c.place.ensures ∙ c.in-Some.is in
    IfOk-weaker c.begin.result _ _ (λ ask h.
    subst (λ (s : Says). next_of s (begun c.args.args.now) ≡ Some ask) (means_here g.C.Cacheable.number g.C.Cacheable.activity c.self.inside.objects.items c.args.f c.in-Some.at c.index_mut-object.result.now at c.index_mut-object.ensures.value g.C.Cacheable.says g.A.App.next.says c.self.invariant.0) h)
    c.begin.ensures.answer

pub returns-clause-after : goal.returns-clause-after
returns-clause-after g c =
    let at = sym c.place.ensures ∙ c.in-Some.is in
    IfOk-weaker c.begin.result _ _ (λ ask h.
    rw (← c.self.view_is) (changed g.C.Cacheable.number g.C.Cacheable.activity c.self.inside.objects.items c.args.f c.in-Some.at c.index_mut-object.result.now at c.index_mut-object.ensures.value c.begin.new.self (running (begun c.args.args.now)) c.begin.ensures.same_number h))
    c.begin.ensures.after

pub returns-clause-unchanged : goal.returns-clause-unchanged
returns-clause-unchanged g c =
    let at = sym c.place.ensures ∙ c.in-Some.is in
    IfErr-weaker c.begin.result _ _ (λ fault h. rw (← c.self.view_is) (unchanged g.C.Cacheable.number g.C.Cacheable.activity c.self.inside.objects.items c.args.f c.in-Some.at c.index_mut-object.result.now at c.index_mut-object.ensures.value c.begin.new.self c.begin.ensures.same_number h)) c.begin.ensures.unchanged

pub returns-clause-refused : goal.returns-clause-refused
returns-clause-refused g c =
    let at = sym c.place.ensures ∙ c.in-Some.is in
    let means = means_here g.C.Cacheable.number g.C.Cacheable.activity c.self.inside.objects.items c.args.f c.in-Some.at c.index_mut-object.result.now at c.index_mut-object.ensures.value g.C.Cacheable.says g.A.App.next.says c.self.invariant.0 in
    let says : next_of (g.C.Cacheable.says c.index_mut-object.result.now) (begun c.args.args.now) ≡ next_of (g.A.App.next.says c.args.f) (begun c.args.args.now) = ap (λ (s : Says). next_of s (begun c.args.args.now)) means in (
      (λ e. sym says ∙ c.begin.ensures.refused.0 e),
      (λ e. c.begin.ensures.refused.1 (says ∙ e)),
    )
