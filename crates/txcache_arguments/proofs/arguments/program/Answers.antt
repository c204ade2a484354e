use Rattle.std.proofs.Common.{rules, ◌∙◌, ◌≡◌, ap, ap₂, codes}
use Rattle.clap.specs.Words.{app_of, new_app, with_rule}
use Rattle.clap.specs.Simple.{app_of_fields}
use Rattle.txcache_arguments.proofs.Modes.{asks}
use Rattle.txcache_arguments.proofs.arguments.program.Goals as goal

pub returns-clause-shape : goal.returns-clause-shape
returns-clause-shape c =
    let mode = c.mode_argument.ensures in
    let settings = c.settings_argument.ensures in
    let empty_is : app_of c.about.result ≡ new_app (codes "txcache") = ap app_of_fields c.about.ensures ∙ ap app_of_fields c.in_ok-bin_name.ensures.0 ∙ c.new.ensures.app in
    let first_is = c.in_ok-arg.ensures.shape mode.local ∙ ap₂ with_rule empty_is mode.rule in
    (c.mode_argument.result.value_parser, mode.reads, c.in_ok-arg-2.ensures.shape settings.local ∙ ap₂ with_rule first_is settings.rule)

pub returns-clause-asks : goal.returns-clause-asks
returns-clause-asks c =
    asks c.about.result _ _ c.mode_argument.result c.settings_argument.result c.in_ok-arg.ensures c.in_ok-arg-2.ensures
    (search rules) (search rules) (search rules) (search rules) c.mode_argument.ensures c.settings_argument.ensures
