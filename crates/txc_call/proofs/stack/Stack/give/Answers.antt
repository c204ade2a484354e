use Rattle.std.proofs.Common.{◌≡◌, ◌+◌, ◌-◌, ◌∷◌, length, refl, ap, ◌∙◌, arith}
use Rattle.std.specs.Prelude.{reverse}
use Rattle.txc_call.specs.declared.frame.Frame.{Frame}
use Rattle.txc_call.specs.Frames.{given}
use Rattle.txc_call.proofs.Stacks.{first_of, first_set}
use Rattle.txc_call.proofs.stack.Stack.give.Goals as goal

pub returns-clause-after : goal.returns-clause-after
returns-clause-after c = λ frame rest is.
    let items = c.self.inside.frames.items in
    let old = c.index_mut-frame.result.now in
    let last : c.len-last.result - 1 ≡ length items - 1 = omega arith in
    let at : reverse items ≡ frame ∷ rest = c.self.view_is ∙ is in
    let first : old ≡ frame = c.index_mut-frame.ensures.value ∙ first_of items frame rest old (c.len-last.result - 1) last at in
    let now : Frame = record { key = old.key; answers = old.answers + 1; reach = c.meet-frame.result; tags = c.join.new.self } in
    let new : now ≡ given frame c.args.reach c.args.tags.now = rw (c.meet-frame.ensures, c.in_ok-join.ensures.after, first) refl in
    first_set items frame rest now (c.len-last.result - 1) last at ∙ ap (λ (f : Frame). f ∷ rest) new
