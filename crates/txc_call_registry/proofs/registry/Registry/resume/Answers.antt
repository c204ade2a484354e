use Rattle.std.proofs.Common.{map, sym, ◌∙◌}
use Rattle.std.proofs.lemmas.Result.{IfOk-weaker, IfErr-weaker}
use Rattle.txc_call_registry.specs.Activity.{running, answered}
use Rattle.txc_call_registry.specs.Objects.{activation_of}
use Rattle.txc_call_registry.proofs.Activities.{asking, asked, went_on}
use Rattle.txc_call_registry.proofs.Places.{entry, no_position, meaning_here, changed, unchanged, means_here, stays}
use Rattle.txc_call_registry.proofs.registry.Registry.resume.Goals as goal

pub unreachable-requires : goal.unreachable-requires
unreachable-requires g c = no_position g.C.Cacheable.number g.C.Cacheable.activity c.self.inside.objects.items c.args.f (running (activation_of c.args.self.now c.args.f)) (rw c.self.view_is c.requires.asking.0) (sym c.place.ensures ∙ c.in_default.is)

pub resume-requires : goal.resume-requires
resume-requires g c =
    let at = sym c.place.ensures ∙ c.in-Some.is in
    let a = activation_of c.args.self.now c.args.f in
    let here = meaning_here g.C.Cacheable.number g.C.Cacheable.activity c.self.inside.objects.items c.args.f c.in-Some.at c.index_mut-object.result.now at c.index_mut-object.ensures.value (running a) (rw c.self.view_is c.requires.asking.0) in
    let means = means_here g.C.Cacheable.number g.C.Cacheable.activity c.self.inside.objects.items c.args.f c.in-Some.at c.index_mut-object.result.now at c.index_mut-object.ensures.value g.C.Cacheable.says g.A.App.next.says c.self.invariant.0 in
    record { asking = asking _ _ _ a here means c.requires.asking.1 }

pub invariant_of-self : goal.invariant_of-self
invariant_of-self g c = stays g.C.Cacheable.number g.C.Cacheable.activity c.self.inside.objects.items c.args.f c.in-Some.at c.index_mut-object.result.now (sym c.place.ensures ∙ c.in-Some.is) c.index_mut-object.ensures.value g.C.Cacheable.says g.A.App.next.says c.resume.new.self c.resume.ensures.same_number c.resume.ensures.same_meaning c.self.invariant

pub returns-clause-answer : goal.returns-clause-answer
returns-clause-answer g c =
    let at = sym c.place.ensures ∙ c.in-Some.is in
    let a = activation_of c.args.self.now c.args.f in
    let here = meaning_here g.C.Cacheable.number g.C.Cacheable.activity c.self.inside.objects.items c.args.f c.in-Some.at c.index_mut-object.result.now at c.index_mut-object.ensures.value (running a) (rw c.self.view_is c.requires.asking.0) in
    let means = means_here g.C.Cacheable.number g.C.Cacheable.activity c.self.inside.objects.items c.args.f c.in-Some.at c.index_mut-object.result.now at c.index_mut-object.ensures.value g.C.Cacheable.says g.A.App.next.says c.self.invariant.0 in
    IfOk-weaker c.resume.result _ _ (λ ask h. asked _ _ _ a here means c.args.answer ask h) c.resume.ensures.answer

pub returns-clause-after : goal.returns-clause-after
returns-clause-after g c =
    let at = sym c.place.ensures ∙ c.in-Some.is in
    let a = activation_of (map (entry g.C.Cacheable.number g.C.Cacheable.activity) c.self.inside.objects.items) c.args.f in
    let here = meaning_here g.C.Cacheable.number g.C.Cacheable.activity c.self.inside.objects.items c.args.f c.in-Some.at c.index_mut-object.result.now at c.index_mut-object.ensures.value (running a) (rw c.self.view_is c.requires.asking.0) in
    IfOk-weaker c.resume.result _ _ (λ ask h. rw (← c.self.view_is) (changed g.C.Cacheable.number g.C.Cacheable.activity c.self.inside.objects.items c.args.f c.in-Some.at c.index_mut-object.result.now at c.index_mut-object.ensures.value c.resume.new.self (running (answered a c.args.answer)) c.resume.ensures.same_number (went_on (g.C.Cacheable.says c.index_mut-object.result.now) (g.A.App.next.says c.args.f) _ a here c.args.answer _ h))) c.resume.ensures.after

pub returns-clause-unchanged : goal.returns-clause-unchanged
returns-clause-unchanged g c =
    IfErr-weaker c.resume.result _ _ (λ fault h. rw (← c.self.view_is) (unchanged g.C.Cacheable.number g.C.Cacheable.activity c.self.inside.objects.items c.args.f c.in-Some.at c.index_mut-object.result.now (sym c.place.ensures ∙ c.in-Some.is) c.index_mut-object.ensures.value c.resume.new.self c.resume.ensures.same_number h)) c.resume.ensures.unchanged
