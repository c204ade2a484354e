use Rattle.std.proofs.Common.{◌≡◌, ◌∷◌, [], ◌∙◌, ap, sym, subst}
use Rattle.txc_stream.specs.FrontValue.{Shown}
use Rattle.txc_db.specs.Facts.{EventValue}
use Rattle.txc_db.specs.History.{AreTagged}
use Rattle.txc_db.proofs.Begun.{tagged_one}
use Rattle.txc_db.proofs.history.History.begun.Goals as goal

pub unstored-requires-clause-tagged : goal.unstored-requires-clause-tagged
unstored-requires-clause-tagged c =
    let list : c.again.result.list ≡ c.args.draft.value ∷ [] = ap (λ (s : Shown EventValue). s.list) (c.again.ensures ∙ c.front.ensures) ∙ c.begun-window.ensures.list in
    subst AreTagged (sym list) (tagged_one c.args.draft.value c.requires.tagged)
