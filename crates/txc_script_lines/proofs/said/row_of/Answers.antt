use Rattle.std.proofs.Common.{sym, subst, ◌∙◌}
use Rattle.txc_rows.specs.Values.{IsBody}
use Rattle.txc_script_lines.proofs.Meant.{last_body}
use Rattle.txc_script_lines.proofs.said.row_of.Goals as goal

pub unreachable-requires : goal.unreachable-requires
unreachable-requires c =
    let text = c.in-Table-Id-Id-Text.text in
    let body = last_body c.args.said.now _ text c.in-len4.len_at_least (sym c.body-item.is ∙ c.in-Table-Id-Id-Text.is-3) c.requires in
    let items = c.in_ok-body-in-Table-Id-Id-Text.ensures.items ∙ c.bytes.ensures in
    let bad = c.in-Err.ensures.only_if.1 (subst IsBody (sym items) body) in
    cc
