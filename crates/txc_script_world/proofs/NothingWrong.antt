-- Nothing is wrong with the words of a line that asks for something.
use Rattle.std.proofs.Common.{◌≡◌, ℕ, List, ◌∷◌, sym, subst, ◌∙◌, inl, inr}
use Rattle.txc_script.specs.Words.{words_of}
use Rattle.txc_script_lines.specs.declared.name.LineName.{LineName}
use Rattle.txc_script_lines.specs.Names.{name_text}
use Rattle.txc_script_lines.specs.Faults.{IsFaultAfter, WordsFault}
use Rattle.txc_script_world.specs.Tasks.{SpellsTask}
use Rattle.txc_script_world.specs.WorldFaults.{IsWorldFault}
use Rattle.txc_script_world.specs.declared.task.Task.{Task}
use Rattle.txc_script_lines.proofs.Offered.{first_is, none_after, others_are, same_name}

pub nothing_wrong : (line : List ℕ) (task : Task) (fault : WordsFault) → SpellsTask line task → IsWorldFault (words_of line) fault → ⊥
nothing_wrong line task fault (name, words, is, asks) (inl (word, others, e, none, unknown)) = none name (first_is word (name_text name) others words (sym e ∙ is))
nothing_wrong line task fault (name, words, is, asks) (inr (other, others, e, wrong)) =
    let both : name_text other ∷ others ≡ name_text name ∷ words = sym e ∙ is in
    let same : other ≡ name = same_name other name (first_is (name_text other) (name_text name) others words both) in
    let rest : others ≡ words = others_are (name_text other) (name_text name) others words both in
    none_after name words fault asks.values (subst (λ (ws : List (List ℕ)). IsFaultAfter name ws fault) rest (subst (λ (n : LineName). IsFaultAfter n others fault) same wrong)) asks.say
