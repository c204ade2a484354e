use Rattle.std.proofs.Common.{◌≡◌, ◌∙◌, ap, sym, length}
use Rattle.std.proofs.lemmas.List.{length-map}
use Rattle.txc_cushion.proofs.HandingOut.{whole_again}
use Rattle.txc_cushion.proofs.handing.hand_out.Goals as goal

pub returns-clause-users : goal.returns-clause-users
returns-clause-users c =
    let users = rw c.deref_mut.ensures.value at c.hand_out_each.ensures.users in
    let all : length c.args.entries.now.items ≡ c.args.entries.now.len = ap length (sym c.deref_mut.ensures.value) ∙ c.deref_mut.ensures.len in
    let long : length c.hand_out_each.new.entries ≡ c.args.entries.now.len = ap length users ∙ length-map c.args.entries.now.items _ ∙ all in
    whole_again c.args.entries.now.len c.args.entries.now.items c.hand_out_each.new.entries long all ∙ users
