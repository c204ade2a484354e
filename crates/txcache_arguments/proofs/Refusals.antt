-- Errors that are passed on.
use Rattle.std.proofs.Common.{◌≡◌, List, Option, Result, Ok, Err, IfErr, refl, sym, subst, inl, inr}
use Rattle.std.specs.Prelude.{true, IsErrAnd}
use Rattle.clap.specs.Words.{App, Text, HasKind, fault_of, is_simple_and_free}
use Rattle.clap.specs.declared.builder.value_parser.ValueParser.{ValueParser}
use Rattle.clap.specs.declared.error.Error.{Error}
use Rattle.txcache_arguments.specs.Program.{IsRefusedAs, ReadsModes, command_line}

pub passed_on : {T E : Type 0} (r : Result T E) (e : E) (P : E → Type 0) → IsErrAnd r (λ x. x ≡ e) → P e → IfErr r P
passed_on (Ok x) e P h k = tt
passed_on (Err x) e P h k = subst P (sym h) k

pub of_kind : (app : App) (modes : Option ValueParser) (words : List Text) (e : Error) → app ≡ command_line modes → ReadsModes modes
    → (is_simple_and_free app ≡ true → HasKind (fault_of app words) e) → IsRefusedAs words e
of_kind app modes words e same reads kinds =
    let kind : HasKind (fault_of (command_line modes) words) e = subst (λ (a : App). is_simple_and_free a ≡ true → HasKind (fault_of a words) e) same kinds refl in
    elim kind [
      | inl h ↦ inl h
      | inr h ↦ inr (modes, reads, h)
    ]
