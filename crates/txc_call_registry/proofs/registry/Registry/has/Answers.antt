use Rattle.std.proofs.Common.{◌≡◌, sym, ap, ◌∙◌}
use Rattle.std.specs.Option.{is_some}
use Rattle.txc_call_registry.specs.Objects.{activity_of}
use Rattle.txc_call_registry.proofs.Places.{has_position}
use Rattle.txc_call_registry.proofs.registry.Registry.has.Goals as goal

pub returns : goal.returns
returns g c =
    let same : is_some c.place.result ≡ is_some (activity_of c.args.self.now c.args.f) = ap is_some c.place.ensures ∙ rw (← c.self.view_is) (has_position g.C.Cacheable.number g.C.Cacheable.activity c.args.f c.self.inside.objects.items) in
    let is = c.is_some.ensures in (
      (λ h. sym same ∙ sym is ∙ h),
      (λ h. is ∙ same ∙ h),
    )
