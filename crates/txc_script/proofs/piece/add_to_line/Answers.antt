use Rattle.std.proofs.Common.{arith, ◌∙◌}
use Rattle.txc_script.specs.declared.piece.TheConstants.{MAX_KEPT}
use Rattle.txc_script.proofs.Cuts.{kept_all, kept_prefix, on_ok}
use Rattle.txc_script.proofs.piece.add_to_line.Goals as goal

pub returns-then-bytes-room-clause-after : goal.returns-then-bytes-room-clause-after
returns-then-bytes-room-clause-after c = on_ok c.extend_from_slice.result _ _ _ _ c.extend_from_slice.ensures.items (kept_all MAX_KEPT c.args.line.now.items c.args.bytes.now (omega arith))

pub returns-else-bytes-room-clause-after : goal.returns-else-bytes-room-clause-after
returns-else-bytes-room-clause-after c =
    on_ok c.extend_from_slice-else-bytes-room.result _ _ _ _ c.extend_from_slice-else-bytes-room.ensures.items
    (kept_prefix MAX_KEPT _ c.args.line.now.items c.args.bytes.now (omega (arith, c.args.line.now.ok.0)) (c.len-room.ensures ∙ c.args.line.now.ok.0))
