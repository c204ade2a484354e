use Rattle.std.proofs.Common.{◌∙◌, ap, sym, inl, Some, codes, map, option_map, string_bytes}
use Rattle.clap.specs.Words.{app_of, first_of, found_of, is_simple, matches_of}
use Rattle.clap.proofs.WalkLemmas.{first_value-rows}
use Rattle.txcache_arguments.specs.Program.{IsRefusedAs}
use Rattle.txcache_arguments.proofs.Modes.{has_mode, is_mode}
use Rattle.txcache_arguments.proofs.Refusals.{passed_on, of_kind}
use Rattle.txcache_arguments.proofs.arguments.read_arguments.Goals as goal

pub returns-clause-mode : goal.returns-clause-mode
returns-clause-mode c =
    let shape = c.in_ok-command.ensures.shape in
    let rows = (c.in_ok-matches.ensures.matches (ap is_simple shape.2)).0 ∙ ap (λ a. matches_of a (map string_bytes c.args.words.now)) shape.2 in (
      shape.0,
      shape.1,
      sym (ap (first_of (codes "mode")) rows) ∙ sym (first_value-rows (found_of c.in_ok-matches.matches) (codes "mode"))
          ∙ sym c.get_str-mode.ensures ∙ ap (option_map (λ s. s.now)) c.in-Some.is ∙ ap Some c.in-Some-mode_named.ensures.answer,
    )

pub returns-clause-settings : goal.returns-clause-settings
returns-clause-settings c =
    let shape = c.in_ok-command.ensures.shape in
    let rows = (c.in_ok-matches.ensures.matches (ap is_simple shape.2)).0 ∙ ap (λ a. matches_of a (map string_bytes c.args.words.now)) shape.2 in (
      shape.0,
      shape.1,
      sym (ap (first_of (codes "settings")) rows) ∙ sym (first_value-rows (found_of c.in_ok-matches.matches) (codes "settings")) ∙ sym c.get_str-settings.ensures,
    )

pub returns-in_err-command-clause-refused : goal.returns-in_err-command-clause-refused
returns-in_err-command-clause-refused c = passed_on c.from_residual.result c.in_err-command.field-0.0 _ c.from_residual.ensures.1 (inl c.in_err-command.ensures.refused)

pub returns-in_err-matches-clause-refused : goal.returns-in_err-matches-clause-refused
returns-in_err-matches-clause-refused c =
    let shape = c.in_ok-command.ensures.shape in
    let words = map string_bytes c.args.words.now in
    passed_on c.from_residual-in_err-matches.result c.in_err-matches.field-0.0 (IsRefusedAs words) c.from_residual-in_err-matches.ensures.1
    (of_kind (app_of c.in_ok-command.command) shape.0 words c.in_err-matches.field-0.0 shape.2 shape.1 c.in_err-matches.ensures.kinds)

pub unreachable-requires : goal.unreachable-requires
unreachable-requires c =
    has_mode c.in_ok-command.command c.in_ok-matches.matches c.get_str-mode.result c.in_ok-command.ensures.asks c.in_ok-matches.ensures.parsed c.get_str-mode.ensures c.in_default.is

pub unreachable-requires-in-None : goal.unreachable-requires-in-None
unreachable-requires-in-None c =
    is_mode c.in_ok-command.command c.in_ok-matches.matches c.get_str-mode.result c.in-Some.name c.in_ok-command.ensures.asks c.in_ok-matches.ensures.parsed c.get_str-mode.ensures c.in-Some.is c.in-None.ensures.refused
