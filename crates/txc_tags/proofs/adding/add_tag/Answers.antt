use Rattle.std.proofs.Common.{◌≡◌, false, List, length, ap, sym, ◌∙◌, arith}
use Rattle.txc_tags.specs.declared.tag.Tag.{Tag}
use Rattle.txc_tags.specs.Tags.{covers}
use Rattle.txc_tags.proofs.Canonical.{absent, swallows, with_put}
use Rattle.txc_tags.proofs.Counting.{put_longer}
use Rattle.txc_tags.proofs.adding.add_tag.Goals as goal

pub returns-clause-no_memory : goal.returns-clause-no_memory
returns-clause-no_memory c = λ shorter.
    let open_tag : covers c.args.tags.now.items c.args.tag ≡ false = ap (λ (ts : List Tag). covers ts c.args.tag) (sym c.deref.ensures.value) ∙ sym c.if-covers_tag.ensures in
    let alone : swallows c.args.tag c.args.tags.now.items ≡ false = ap (λ (ts : List Tag). swallows c.args.tag ts) (sym c.deref-2.ensures.value) ∙ sym c.if-becomes_wildcard.ensures in
    absurd (omega (arith, shorter, ap length (with_put c.args.tag c.args.tags.now.items open_tag alone), put_longer c.args.tag c.args.tags.now.items (absent c.args.tags.now.items c.args.tag open_tag)))
