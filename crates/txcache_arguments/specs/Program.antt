-- The command line of the program, as `clap` reads it.
use Rattle.std.specs.Prelude.{◌≡◌, ◌⊎◌, ◌≤◌, List, [], ◌∷◌, Option, Some, None, codes, true, false, map}
use Rattle.std.specs.Borrow.{Bor}
use Rattle.clap.specs.Built.{IsPlain, IsPlainArg}
use Rattle.clap.specs.Facts.{args_of, least_values}
use Rattle.clap.specs.Words.{App, Rule, Text, IsAmong, fault_of, kind_of, first_of, matches_of, new_app, new_rule, rule_of, with_rule}
use Rattle.clap.specs.declared.builder.action.ArgAction.TheVariants.{Set}
use Rattle.clap.specs.declared.builder.arg.Arg.{Arg}
use Rattle.clap.specs.declared.builder.command.Command.{Command}
use Rattle.clap.specs.declared.builder.command.Command.TheViews.{out-Command}
use Rattle.clap.specs.declared.builder.value_parser.ValueParser.{ValueParser}
use Rattle.clap.specs.declared.builder.value_parser.ValueParser.TheVariants.{Names}
use Rattle.clap.specs.declared.error.Error.{Error}
use Rattle.clap.specs.declared.error.kind.ErrorKind.TheVariants.{OutOfMemory}
use Rattle.txc_script_settings.specs.declared.mode.Mode.TheVariants as modes
use Rattle.txc_script_settings.specs.declared.script.Script.{Script}
use Rattle.txc_script_settings.specs.declared.script.Script.TheVariants.{Node, World, Batch}

-- the word of a mode, by the script that it runs
abbrev pub mode_text : Script → Text
mode_text (Node modes.Node) = codes "node"
mode_text (Node modes.Report) = codes "report"
mode_text World = codes "world"
mode_text Batch = codes "batch"

-- a value is the word of a mode
abbrev pub ReadsModes : Option ValueParser → Type 0
ReadsModes parser =
    (names : Bor (List (Bor Text))) × (parser ≡ Some (Names names))
    × (map (λ name. name.now) names.now
    ≡ mode_text (Node modes.Node) ∷ mode_text (Node modes.Report) ∷ mode_text World ∷ mode_text Batch ∷ [])

-- the mode, which has to be there
abbrev pub mode_rule : Option ValueParser → Rule
mode_rule modes =
    record (new_rule (codes "mode")) { required = true; action = Some Set; value_names = 1; parser = modes }

-- `--settings` with a text
abbrev pub settings_rule : Rule
settings_rule = record (new_rule (codes "settings")) { long = Some (codes "settings"); value_names = 1 }

-- a mode, and at most once the settings
abbrev pub command_line : Option ValueParser → App
command_line modes = with_rule (with_rule (new_app (codes "txcache")) (mode_rule modes)) settings_rule

-- the mode of the words is this script
abbrev pub HasMode : List Text → Script → Type 0
HasMode words script =
    (modes : Option ValueParser) × ReadsModes modes
    × (first_of (codes "mode") (matches_of (command_line modes) words) ≡ Some (mode_text script))

-- the settings of the words are this text, or none
abbrev pub HasSettings : List Text → Option Text → Type 0
HasSettings words settings =
    (modes : Option ValueParser) × ReadsModes modes
    × (first_of (codes "settings") (matches_of (command_line modes) words) ≡ settings)

-- there is no memory, or the words are no valid command line, and the error is of the kind that they have
abbrev pub IsRefusedAs : List Text → Error → Type 0
IsRefusedAs words error =
    (kind_of error ≡ OutOfMemory)
    ⊎ ((modes : Option ValueParser) × ReadsModes modes
    × IsAmong (kind_of error) (fault_of (command_line modes) words))

-- ---- only private functions need this

-- the argument of the mode: it has to be there, takes one of the words of modes, and excludes nothing
pub record IsModeArg (a : Arg) : Type 0 where
  pub plain : IsPlainArg a
  pub local : a.global ≡ false
  pub id : a.id.now ≡ codes "mode"
  pub required : a.required ≡ true
  pub set : a.action ≡ Some Set
  pub delim : a.val_delim ≡ None
  pub least : 1 ≤ least_values a
  pub exact : a.ignore_case ≡ false
  pub reads : ReadsModes a.value_parser
  pub rule : rule_of a ≡ mode_rule a.value_parser

-- the argument of the settings: it excludes nothing
pub record IsSettingsArg (a : Arg) : Type 0 where
  pub plain : IsPlainArg a
  pub local : a.global ≡ false
  pub id : a.id.now ≡ codes "settings"
  pub rule : rule_of a ≡ settings_rule

-- of two arguments the first is that of the mode, and neither excludes the other
pub record AsksForMode (c : Command) : Type 0 where
  pub mode : Arg
  pub other : Arg
  pub args : args_of c ≡ mode ∷ other ∷ []
  pub plain : IsPlain c
  pub globals : (out-Command c).has_globals ≡ false
  pub negates : (out-Command c).subcommand_negates_reqs ≡ false
  pub mode_id : mode.id.now ≡ codes "mode"
  pub other_id : other.id.now ≡ codes "settings"
  pub required : mode.required ≡ true
  pub set : mode.action ≡ Some Set
  pub delim : mode.val_delim ≡ None
  pub least : 1 ≤ least_values mode
  pub exact : mode.ignore_case ≡ false
  pub reads : ReadsModes mode.value_parser
