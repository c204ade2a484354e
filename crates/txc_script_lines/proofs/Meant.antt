-- Words that are of the kinds that a line's name wants say what they are to say.
use Rattle.std.proofs.Common.{◌≡◌, ℕ, List, [], ◌∷◌, Option, Some, None, get_or, length, take, ◌≤◌, arith, refl, sym, ap, subst, ◌∙◌}
use Rattle.std.specs.Prelude.{option_map, MatchOption}
use Rattle.std.proofs.lemmas.Option.{same_Some}
use Rattle.txc_rows.specs.Values.{IsBody}
use Rattle.txc_rows.specs.declared.row.TheConstants.{MAX_BODY_LEN}
use Rattle.txc_script.specs.Lines.{change_named, query_named}
use Rattle.txc_script.specs.LineFaults.{IsKindsFault}
use Rattle.txc_script.specs.ParsedWords.{AllSaidOf, Mean, SaidOf, SayAll, SaysWord}
use Rattle.txc_script.specs.declared.line_fault.WordKind.{WordKind}
use Rattle.txc_script.specs.declared.line_fault.WordKind.TheVariants as word_kinds
use Rattle.txc_script.specs.declared.parsed_word.ChangeName.{ChangeName}
use Rattle.txc_script.specs.declared.parsed_word.ChangeName.TheVariants.{Put, Remove}
use Rattle.txc_script.specs.declared.parsed_word.QueryName.{QueryName}
use Rattle.txc_script.specs.declared.parsed_word.QueryName.TheVariants.{ById, ByGroup, All, Range}
use Rattle.txc_script.specs.declared.parsed_word.ParsedWord.{ParsedWord}
use Rattle.txc_script.specs.declared.parsed_word.ParsedWord.TheVariants as said
use Rattle.txc_script.proofs.Offered.{all_said_by, meant, none_wrong, said_by, said_of}
use Rattle.txc_script_lines.specs.Faults.{IsFaultAfter, IsUnkindFault, WordsFault, first_kinds, kinds_of_change, kinds_of_query, change_line, kinds_after_name, place, query_line, second_of}
use Rattle.txc_script_lines.specs.LineWords.{AreBodies, SaysAfter, change_said, query_said}
use Rattle.txc_script_lines.specs.declared.name.LineName.{LineName}
use Rattle.txc_script_lines.specs.declared.name.LineName.TheVariants as names

pub none_some : {X : Type 0} (x : X) → Some x ≡ None → ⊥
none_some x e = cc

pub none_mapped : {X Y : Type 0} (f : X → Y) (o : Option X) → option_map f o ≡ None → o ≡ None
none_mapped f None e = refl
none_mapped f (Some x) e = absurd (none_some (f x) e)

-- nothing is wrong with words that say what they are to say
pub none_after : (name : LineName) (words : List (List ℕ)) (fault : WordsFault) (values : List ParsedWord) → IsFaultAfter name words fault → SaysAfter name words values → ⊥
none_after name words fault values h k =
    none_wrong k.kinds words fault values (subst (λ (o : Option (List WordKind)). MatchOption o (IsUnkindFault name words fault) (λ kinds. IsKindsFault kinds words fault)) k.known h) k.say

-- ---- a second word that names no query and no change

no_query : (first : WordKind) (words : List (List ℕ)) (all : AllSaidOf (first ∷ word_kinds.QueryName ∷ [])) → query_line first (second_of words) ≡ None → Mean (first ∷ word_kinds.QueryName ∷ []) (take 2 words) all → ⊥
no_query first [] all none h = h
no_query first (a ∷ []) all none h = h.1
no_query first (a ∷ b ∷ words) all none h = none_some all.1.0 (sym h.1.0 ∙ none_mapped (λ name. first ∷ word_kinds.QueryName ∷ kinds_of_query name) (query_named b) none)

no_change : (words : List (List ℕ)) (all : AllSaidOf (place ∷ word_kinds.ChangeName ∷ [])) → change_line (second_of words) ≡ None → Mean (place ∷ word_kinds.ChangeName ∷ []) (take 2 words) all → ⊥
no_change [] all none h = h
no_change (a ∷ []) all none h = h.1
no_change (a ∷ b ∷ words) all none h = none_some all.1.0 (sym h.1.0 ∙ none_mapped (λ name. place ∷ word_kinds.ChangeName ∷ kinds_of_change name) (change_named b) none)

pub none_unkind : (name : LineName) (words : List (List ℕ)) (all : AllSaidOf (first_kinds name)) → kinds_after_name name (second_of words) ≡ None → Mean (first_kinds name) (take 2 words) all → ⊥
none_unkind names.Query words all none h = no_query word_kinds.Stamp words all none h
none_unkind names.Ask words all none h = no_query place words all none h
none_unkind names.Write words all none h = no_change words all none h
none_unkind name words all none h = none_some _ none

-- ---- texts

-- texts of these kinds may be bodies
abbrev pub HaveBodies : List WordKind → Type 0
HaveBodies [] = Unit {0}
HaveBodies (word_kinds.Text most ∷ kinds) = (most ≡ MAX_BODY_LEN) × HaveBodies kinds
HaveBodies (kind ∷ kinds) = HaveBodies kinds

bodies_by : (kind : WordKind) (kinds : List WordKind) (word : List ℕ) (value : ParsedWord) (values : List ParsedWord) → HaveBodies (kind ∷ kinds) → SaysWord kind word value → (HaveBodies kinds → AreBodies values) → AreBodies (value ∷ values)
bodies_by (word_kinds.Text most) kinds word (said.Text text) values h says rest = ((subst (λ (n : ℕ). SaysWord (word_kinds.Text n) word (said.Text text)) h.0 says).0, rest h.1)
bodies_by word_kinds.Key kinds word (said.Key key) values h says rest = rest h
bodies_by word_kinds.Stamp kinds word (said.Stamp stamp) values h says rest = rest h
bodies_by word_kinds.Table kinds word (said.Table table) values h says rest = rest h
bodies_by word_kinds.Id kinds word (said.Id id) values h says rest = rest h
bodies_by word_kinds.Function kinds word (said.Function function) values h says rest = rest h
bodies_by (word_kinds.Number most) kinds word (said.Number number) values h says rest = rest h
bodies_by word_kinds.QueryName kinds word (said.Query name) values h says rest = rest h
bodies_by word_kinds.ChangeName kinds word (said.Change name) values h says rest = rest h
bodies_by word_kinds.Reach kinds word said.Other values h says rest = rest h
bodies_by word_kinds.Tags kinds word said.Other values h says rest = rest h
bodies_by word_kinds.Bytes kinds word said.Other values h says rest = rest h
bodies_by kind kinds word value values h says rest = absurd says

pub bodies : (kinds : List WordKind) (words : List (List ℕ)) (values : List ParsedWord) → HaveBodies kinds → SayAll kinds words values → AreBodies values
bodies [] [] [] h says = tt
bodies (kind ∷ kinds) (word ∷ words) (value ∷ values) h says = bodies_by kind kinds word value values h says.0 (λ k. bodies kinds words values k says.1)
bodies kinds words values h says = absurd says

rest_bodies : (value : ParsedWord) (values : List ParsedWord) → AreBodies (value ∷ values) → AreBodies values
rest_bodies (said.Text text) values h = h.1
rest_bodies value values h = h

-- the last of four
pub last_body : (values : List ParsedWord) (d : ParsedWord) (body : List ℕ) → 4 ≤ length values → get_or values 3 d ≡ said.Text body → AreBodies values → IsBody body
last_body [] d body some e h = absurd (omega arith)
last_body (a ∷ []) d body some e h = absurd (omega arith)
last_body (a ∷ b ∷ []) d body some e h = absurd (omega arith)
last_body (a ∷ b ∷ c ∷ []) d body some e h = absurd (omega arith)
last_body (a ∷ b ∷ c ∷ x ∷ values) d body some e h =
    let here : AreBodies (said.Text body ∷ values) = subst (λ (v : ParsedWord). AreBodies (v ∷ values)) e (rest_bodies c (x ∷ values) (rest_bodies b (c ∷ x ∷ values) (rest_bodies a (b ∷ c ∷ x ∷ values) h))) in
    record { some = here.0.some; most = here.0.most; each = here.0.each }

-- ---- changes

pub change_bodies : (name : ChangeName) → HaveBodies (kinds_of_change name)
change_bodies Put = (refl, tt)
change_bodies Remove = tt

change_by : (name : ChangeName) (all : AllSaidOf (kinds_of_change name)) → change_said name (all_said_by (kinds_of_change name) all) ≡ None → ⊥
change_by Put all e = none_some _ e
change_by Remove all e = none_some _ e

pub change_there : (name : ChangeName) (words : List (List ℕ)) (values : List ParsedWord) → SayAll (kinds_of_change name) words values → change_said name values ≡ None → ⊥
change_there name words values h none =
    let by = said_of (kinds_of_change name) words values h in
    change_by name by.0 (ap (change_said name) (sym by.2) ∙ none)

-- the change of a line of one's own
pub own_change : (line : LineName) (name : ChangeName) (words : List (List ℕ)) (values : List ParsedWord) → kinds_after_name line (second_of words) ≡ Some (kinds_of_change name) → SaysAfter line words values → SayAll (kinds_of_change name) words values
own_change line name words values known h = subst (λ (ks : List WordKind). SayAll ks words values) (same_Some h.kinds (kinds_of_change name) (sym h.known ∙ known)) h.say

-- the words of this name have one name, and others
change_is : (word : List ℕ) (value : ParsedWord) (name : ChangeName) → SaysWord word_kinds.ChangeName word value → change_named word ≡ Some name → value ≡ said.Change name
change_is word (said.Change n) name h e = ap said.Change (same_Some n name (sym h ∙ e))
change_is word value name h e = absurd h

-- an actor and a change
pub record HasChange (values : List ParsedWord) : Type 0 where
  pub actor : ℕ
  pub name : ChangeName
  pub words : List (List ℕ)
  pub rest : List ParsedWord
  pub are : values ≡ said.Number actor ∷ said.Change name ∷ rest
  pub say : SayAll (kinds_of_change name) words rest

named_kinds : {N : Type 0} (f : N → List WordKind) (o : Option N) (kinds : List WordKind) → option_map f o ≡ Some kinds → (n : N) × (o ≡ Some n) × (f n ≡ kinds)
named_kinds f None kinds e = absurd (none_some kinds (sym e))
named_kinds f (Some n) kinds e = (n, refl, same_Some (f n) kinds e)

pair_are : (a b c d : ParsedWord) (rest : List ParsedWord) → a ≡ c → b ≡ d → a ∷ b ∷ rest ≡ c ∷ d ∷ rest
pair_are a b c d rest e f = ap (λ (x : ParsedWord). x ∷ b ∷ rest) e ∙ ap (λ (x : ParsedWord). c ∷ x ∷ rest) f

change_in : (name : ChangeName) (words : List (List ℕ)) (values : List ParsedWord) → change_named (second_of words) ≡ Some name → SayAll (place ∷ word_kinds.ChangeName ∷ kinds_of_change name) words values → HasChange values
change_in name [] values e h = absurd (none_some name (sym e))
change_in name (a ∷ []) values e h = absurd (none_some name (sym e))
change_in name (a ∷ b ∷ words) [] e h = absurd h
change_in name (a ∷ b ∷ words) (x ∷ []) e h = absurd h.1
change_in name (a ∷ b ∷ words) (x ∷ y ∷ rest) e h =
    let first = meant place a x h.0 in
    record { actor = first.0; name = name; words = words; rest = rest; are = pair_are x y (said.Number first.0) (said.Change name) rest first.2 (change_is b y name h.1.0 e); say = h.1.1 }

pub has_change : (words : List (List ℕ)) (values : List ParsedWord) (kinds : List WordKind) → change_line (second_of words) ≡ Some kinds → SayAll kinds words values → HasChange values
has_change words values kinds e h =
    let by = named_kinds (λ name. place ∷ word_kinds.ChangeName ∷ kinds_of_change name) (change_named (second_of words)) kinds e in
    change_in by.0 words values by.1 (subst (λ (ks : List WordKind). SayAll ks words values) (sym by.2) h)

-- ---- a word of this kind, and a query

query_is : (word : List ℕ) (value : ParsedWord) (name : QueryName) → SaysWord word_kinds.QueryName word value → query_named word ≡ Some name → value ≡ said.Query name
query_is word (said.Query n) name h e = ap said.Query (same_Some n name (sym h ∙ e))
query_is word value name h e = absurd h

query_by : (name : QueryName) (all : AllSaidOf (kinds_of_query name)) → query_said (said.Query name ∷ all_said_by (kinds_of_query name) all) ≡ None → ⊥
query_by ById all e = none_some _ e
query_by ByGroup all e = none_some _ e
query_by All all e = none_some _ e
query_by Range all e = none_some _ e

query_bodies : (name : QueryName) (all : AllSaidOf (kinds_of_query name)) → AreBodies (said.Query name ∷ all_said_by (kinds_of_query name) all)
query_bodies ById all = tt
query_bodies ByGroup all = tt
query_bodies All all = tt
query_bodies Range all = tt

pub record HasQuery (first : WordKind) (values : List ParsedWord) : Type 0 where
  pub head : SaidOf first
  pub rest : List ParsedWord
  pub are : values ≡ said_by first head ∷ rest
  pub bodies : AreBodies rest
  pub some : query_said rest ≡ None → ⊥

query_rest : (first : WordKind) (head : SaidOf first) (name : QueryName) (words : List (List ℕ)) (x y : ParsedWord) (rest : List ParsedWord) → x ≡ said_by first head → y ≡ said.Query name → SayAll (kinds_of_query name) words rest → HasQuery first (x ∷ y ∷ rest)
query_rest first head name words x y rest e f h =
    let by = said_of (kinds_of_query name) words rest h in
    let tail : y ∷ rest ≡ said.Query name ∷ all_said_by (kinds_of_query name) by.0 = ap (λ (v : ParsedWord). v ∷ rest) f ∙ ap (λ (vs : List ParsedWord). said.Query name ∷ vs) by.2 in
    record {
      head = head;
      rest = said.Query name ∷ all_said_by (kinds_of_query name) by.0;
      are = ap (λ (v : ParsedWord). v ∷ y ∷ rest) e ∙ ap (λ (vs : List ParsedWord). said_by first head ∷ vs) tail;
      bodies = query_bodies name by.0;
      some = query_by name by.0;
    }

query_in : (first : WordKind) (name : QueryName) (words : List (List ℕ)) (values : List ParsedWord) → query_named (second_of words) ≡ Some name → SayAll (first ∷ word_kinds.QueryName ∷ kinds_of_query name) words values → HasQuery first values
query_in first name [] values e h = absurd (none_some name (sym e))
query_in first name (a ∷ []) values e h = absurd (none_some name (sym e))
query_in first name (a ∷ b ∷ words) [] e h = absurd h
query_in first name (a ∷ b ∷ words) (x ∷ []) e h = absurd h.1
query_in first name (a ∷ b ∷ words) (x ∷ y ∷ rest) e h =
    let head = meant first a x h.0 in
    query_rest first head.0 name words x y rest head.2 (query_is b y name h.1.0 e) h.1.1

pub has_query : (first : WordKind) (words : List (List ℕ)) (values : List ParsedWord) (kinds : List WordKind) → query_line first (second_of words) ≡ Some kinds → SayAll kinds words values → HasQuery first values
has_query first words values kinds e h =
    let by = named_kinds (λ name. first ∷ word_kinds.QueryName ∷ kinds_of_query name) (query_named (second_of words)) kinds e in
    query_in first by.0 words values by.1 (subst (λ (ks : List WordKind). SayAll ks words values) (sym by.2) h)
