use Rattle.std.proofs.Common.{◌≡◌, ◌-◌, ◌<◌, ◌≤◌, length, IfSome, slice_get, sym, subst, arith}
use Rattle.txc_stream.specs.Windows.{WindowValue}
use Rattle.txc_stream.proofs.Noting.{kept_length, kept_at}
use Rattle.txc_stream.proofs.window.Window.get.Goals as goal

pub index-requires : goal.index-requires
index-requires g c =
    let w = c.self.inside in
    let many : length w.notes.items ≡ length w.front.list - w.first = kept_length g.M.Witnessed.notes w.front.list w.first w.notes.items c.self.invariant.noted in
    let low : w.first ≤ c.args.at = subst (λ (v : WindowValue g.row.T.Denot). v.first ≤ c.args.at) (sym c.self.view_is) c.requires.kept in
    let high : c.args.at < length w.front.list = subst (λ (v : WindowValue g.row.T.Denot). c.args.at < length v.list) (sym c.self.view_is) c.requires.shown in
    omega (arith, many, w.notes.ok.0, low, high)

pub returns : goal.returns
returns g c =
    let w = c.self.inside in
    let low : w.first ≤ c.args.at = subst (λ (v : WindowValue g.row.T.Denot). v.first ≤ c.args.at) (sym c.self.view_is) c.requires.kept in
    let high : c.args.at < length w.front.list = subst (λ (v : WindowValue g.row.T.Denot). c.args.at < length v.list) (sym c.self.view_is) c.requires.shown in
    subst (λ (v : WindowValue g.row.T.Denot). IfSome (slice_get v.list c.args.at) (λ x. g.M.Witnessed.notes x c.index.result.now)) c.self.view_is
    (kept_at g.M.Witnessed.notes w.front.list w.first c.args.at w.notes.items c.index.result.now c.self.invariant.noted low high c.index.ensures)
