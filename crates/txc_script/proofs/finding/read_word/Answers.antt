use Rattle.std.proofs.Common.{◌≡◌, ℕ, List, None, Result, Ok, Err, refl, subst, sym}
use Rattle.std.specs.Prelude.{IsErr, IsErrAnd}
use Rattle.txc_script.specs.LineFaults.{IsUnsaid, IsWordRead, StopsAt}
use Rattle.txc_script.specs.Lines.{IsTextWord}
use Rattle.txc_script.specs.ParsedWords.{IsOfKind}
use Rattle.txc_script.specs.declared.line_fault.WordKind.{WordKind}
use Rattle.txc_script.specs.declared.line_fault.WordKind.TheVariants.{Tags, Text}
use Rattle.txc_script.specs.declared.parsed_word.ParsedWord.{ParsedWord}
use Rattle.txc_script.specs.declared.unread.WordError.{WordError}
use Rattle.txc_script.proofs.finding.read_word.Goals as goal

passed_on : (kind k : WordKind) (word : List ℕ) (r : Result ParsedWord WordError) (e : WordError) → kind ≡ k → IsErr r × IsErrAnd r (λ x. x ≡ e) → IsUnsaid k word e → IsWordRead kind word r
passed_on kind k word (Ok said) e is h unsaid = absurd h.1
passed_on kind k word (Err x) e is h unsaid = subst (IsUnsaid kind word) (sym h.1) (subst (λ (j : WordKind). IsUnsaid j word e) (sym is) unsaid)

pub returns-in_err-_tags-in-Tags : goal.returns-in_err-_tags-in-Tags
returns-in_err-_tags-in-Tags c = passed_on c.args.kind Tags c.args.word.now c.from_residual-in_err-_tags-in-Tags.result c.in_err-_tags-in-Tags.field-0.0 c.in-Tags.is c.from_residual-in_err-_tags-in-Tags.ensures c.in_err-_tags-in-Tags.ensures.refused

pub returns-in-Text-2 : goal.returns-in-Text-2
returns-in-Text-2 c =
    let word = c.args.word.now in
    subst (λ (kind : WordKind). (IsOfKind kind word → ⊥) × StopsAt kind word None) (sym c.in-Text.is)
    ((λ h. let yes = c.is_text.ensures.1 (subst (IsTextWord c.in-Text.most) (sym h.1.1) h.1.0) in let no = c.if-is_text.false in cc), refl)
