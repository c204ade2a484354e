use Rattle.std.proofs.Common.{refl, subst, ◌∙◌}
use Rattle.txc_script_batch.specs.PlainDatabase.{HasPinnedPresent, HasUnpinnedPresent, SourceValue}
use Rattle.txc_script_batch.proofs.Pinning.{pinned_present, unpinned_present}
use Rattle.txc_script_batch.proofs.plain_database.PlainDatabase.pin.Goals as goal

pub returns-in-Ok-add_unused : goal.returns-in-Ok-add_unused
returns-in-Ok-add_unused c =
    let inside = c.self.inside in
    let s : SourceValue = record { database = inside.database; cushion = inside.cushion } in
    let made = c.in-Ok.ensures in
    subst (λ (x : SourceValue). HasPinnedPresent c.args.now x c.in-Ok.pinned.stamp c.add_unused.new.self) c.self.view_is
    (pinned_present c.args.now s c.add_unused.new.self c.pin.new.self c.in-Ok.pinned made.after made.answer made.moment made.front (made.only_if refl) c.in-Ok-add_unused.ensures.0 c.in-Ok-add_unused.ensures.1)

pub returns : goal.returns
returns c =
    let inside = c.self.inside in
    let s : SourceValue = record { database = inside.database; cushion = inside.cushion } in
    let left : SourceValue = record { database = c.self-2.inside.database; cushion = c.self-2.inside.cushion } in
    let end : SourceValue = record { database = c.unpin.new.self; cushion = c.self-2.inside.cushion } in
    let made = c.in-Ok.ensures in
    subst (λ (x : SourceValue). HasUnpinnedPresent c.args.now x c.in-Err-add_unused.refusal end) c.self.view_is
    (unpinned_present c.args.now s left c.pin.new.self c.unpin.new.self c.in-Ok.pinned c.in-Err-add_unused.refusal c.unpin.result made.after made.answer made.moment made.front (made.only_if refl)
    (c.self-2.view_is ∙ c.in-Err-add_unused.ensures.0) c.in-Err-add_unused.ensures.1 c.unpin.ensures.after c.unpin.ensures.refused)
