use Rattle.std.proofs.Common.{◌∙◌, ℕ, ◌%◌, [], ◌∷◌, ◌++◌, refl, sym, ap}
use Rattle.txc_site.specs.Values.{RowValue}
use Rattle.txc_site.specs.Change.TheVariants.{Put}
use Rattle.txc_site.specs.RwTxn.{RwTxnValue}
use Rattle.example_shop.specs.Shop.{piece_row}
use Rattle.example_shop.specs.declared.TheConstants.{PRODUCTS}
use Rattle.example_shop.proofs.Pieces.{no_pieces, one_more_piece}
use Rattle.example_shop.proofs.TradeChangeShopTurn.make.Goals as goal

pub loop-id-init : goal.loop-id-init
loop-id-init g c = record { functions = refl; written = c.requires.changes ∙ sym no_pieces }

pub loop-id-preserved : goal.loop-id-preserved
loop-id-preserved g c =
    let id = c.loop-id.id in
    let before = c.loop-id.txn.core.changes in
    let row =
    c.in_ok-piece.ensures ∙ ap (λ (table : ℕ). piece_row table id (id % PRODUCTS)) c.table.ensures in
    let more =
    ap (λ (t : RwTxnValue). t.core.changes) c.in_ok-put.ensures.after
    ∙ ap (λ (r : RowValue). before ++ Put r ∷ []) row in
    record {
      functions = ap (λ (t : RwTxnValue). t.objects) c.in_ok-put.ensures.after ∙ c.loop-id.invariant.functions;
      written = one_more_piece before _ id c.loop-id.invariant.written more;
    }
