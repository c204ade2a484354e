use Rattle.std.proofs.Common.{drop, sym, ap, ◌∙◌}
use Rattle.std.proofs.lemmas.List.{drop-drop}
use Rattle.txc_rows.proofs.replaced.Replaced.let_go.Goals as goal

pub returns-then-self-len : goal.returns-then-self-len
returns-then-self-len c = sym (drop-drop 1 c.self.inside.gone c.self.inside.versions.items) ∙ ap (drop 1) c.self.view_is
