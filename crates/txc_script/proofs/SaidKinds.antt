-- Words that are read one after the other, and what they say.
use Rattle.std.proofs.Common.{◌≡◌, ◌≤◌, ℕ, ◌+◌, suc, List, [], ◌∷◌, ◌++◌, Result, Ok, Err, IfErr, length, refl, sym, ap, subst, append_assoc, append-nil, ◌∙◌, arith}
use Rattle.std.specs.Prelude.{IsErr, IsErrAnd}
use Rattle.std.proofs.lemmas.List.{length-append}
use Rattle.txc_script.specs.Excerpts.{excerpt_of}
use Rattle.txc_script.specs.LineFaults.{AreOfKinds, IsBadWord, IsKindsFault, IsWrong, StopsAt}
use Rattle.txc_script.specs.ParsedWords.{AllSaidOf, IsOfKind, Mean, Means, SaidOf, SayAll, SaysWord}
use Rattle.txc_script.specs.declared.line_fault.CommandFault.{CommandFault}
use Rattle.txc_script.specs.declared.line_fault.CommandFault.TheVariants as faults
use Rattle.txc_script.specs.declared.line_fault.WordFault.{WordFault}
use Rattle.txc_script.specs.declared.line_fault.WordKind.{WordKind}
use Rattle.txc_script.specs.declared.line_fault.WordKind.TheVariants as kinds
use Rattle.txc_script.specs.declared.parsed_word.ParsedWord.{ParsedWord}
use Rattle.txc_script.specs.declared.parsed_word.ParsedWord.TheVariants as said
use Rattle.txc_script.specs.declared.unread.LineError.{LineError}
use Rattle.txc_script.specs.declared.unread.LineError.TheVariants.{Wrong, Memory}

-- ---- what is said, by the kinds alone

-- how a reader gives it
abbrev pub said_by : (kind : WordKind) → SaidOf kind → ParsedWord
said_by kinds.Key = said.Key
said_by kinds.Stamp = said.Stamp
said_by kinds.Reach = λ still. said.Other
said_by kinds.Tags = λ tags. said.Other
said_by kinds.Bytes = λ bytes. said.Other
said_by kinds.Table = said.Table
said_by kinds.Id = said.Id
said_by kinds.Function = said.Function
said_by (kinds.Number most) = said.Number
said_by (kinds.Text most) = said.Text
said_by kinds.QueryName = said.Query
said_by kinds.ChangeName = said.Change

pub meant : (kind : WordKind) (word : List ℕ) (given : ParsedWord) → SaysWord kind word given → (value : SaidOf kind) × Means kind word value × (given ≡ said_by kind value)
meant kinds.Key word (said.Key key) h = (key, h, refl)
meant kinds.Stamp word (said.Stamp stamp) h = (stamp, h, refl)
meant kinds.Table word (said.Table table) h = (table, h, refl)
meant kinds.Id word (said.Id id) h = (id, h, refl)
meant kinds.Function word (said.Function function) h = (function, h, refl)
meant (kinds.Number most) word (said.Number number) h = (number, h, refl)
meant (kinds.Text most) word (said.Text text) h = (text, h, refl)
meant kinds.QueryName word (said.Query name) h = (name, h, refl)
meant kinds.ChangeName word (said.Change name) h = (name, h, refl)
meant kinds.Reach word said.Other h = (h.0, h.1, refl)
meant kinds.Tags word said.Other h = (h.0, h.1, refl)
meant kinds.Bytes word said.Other h = (h.0, h.1, refl)
meant kind word given h = absurd h

abbrev pub all_said_by : (kinds : List WordKind) → AllSaidOf kinds → List ParsedWord
all_said_by [] values = []
all_said_by (kind ∷ kinds) values = said_by kind values.0 ∷ all_said_by kinds values.1

pub said_of : (kinds : List WordKind) (words : List (List ℕ)) (values : List ParsedWord) → SayAll kinds words values → (all : AllSaidOf kinds) × Mean kinds words all × (values ≡ all_said_by kinds all)
said_of [] [] [] h = (tt, tt, refl)
said_of (kind ∷ kinds) (word ∷ words) (value ∷ values) h =
    let first = meant kind word value h.0 in
    let rest = said_of kinds words values h.1 in
    ((first.0, rest.0), (first.1, rest.1), ap (λ (v : ParsedWord). v ∷ values) first.2 ∙ ap (λ (vs : List ParsedWord). said_by kind first.0 ∷ vs) rest.2)
said_of kinds words values h = absurd h

-- ---- words that say something are of their kinds, and nothing is wrong with them

are_of_kinds : (kinds : List WordKind) (words : List (List ℕ)) (values : List ParsedWord) → SayAll kinds words values → AreOfKinds kinds words
are_of_kinds [] [] [] h = tt
are_of_kinds (kind ∷ kinds) (word ∷ words) (value ∷ values) h = let first = meant kind word value h.0 in ((first.0, first.1), are_of_kinds kinds words values h.1)
are_of_kinds kinds words values h = absurd h

pub mean_kinds : (kinds : List WordKind) (words : List (List ℕ)) (values : AllSaidOf kinds) → Mean kinds words values → AreOfKinds kinds words
mean_kinds [] [] values h = tt
mean_kinds [] (word ∷ words) values h = absurd h
mean_kinds (kind ∷ kinds) [] values h = absurd h
mean_kinds (kind ∷ kinds) (word ∷ words) values h = ((values.0, h.0), mean_kinds kinds words values.1 h.1)

are_as_many : (kinds : List WordKind) (words : List (List ℕ)) → AreOfKinds kinds words → length words ≡ length kinds
are_as_many [] [] h = refl
are_as_many [] (word ∷ words) h = absurd h
are_as_many (kind ∷ kinds) [] h = absurd h
are_as_many (kind ∷ kinds) (word ∷ words) h = ap suc (are_as_many kinds words h.1)

word_at : (before : List WordKind) (good : List (List ℕ)) (kind : WordKind) (word : List ℕ) (kinds : List WordKind) (words : List (List ℕ)) → AreOfKinds before good
    → AreOfKinds (before ++ kind ∷ kinds) (good ++ word ∷ words) → IsOfKind kind word
word_at [] [] kind word kinds words h all = all.0
word_at [] (g ∷ good) kind word kinds words h all = absurd h
word_at (b ∷ before) [] kind word kinds words h all = absurd h
word_at (b ∷ before) (g ∷ good) kind word kinds words h all = word_at before good kind word kinds words h.1 all.1

none_bad : (kinds : List WordKind) (words : List (List ℕ)) (fault : WordFault) → IsBadWord kinds words fault → AreOfKinds kinds words → ⊥
none_bad kinds words fault b all =
    let here = subst (λ (ks : List WordKind). AreOfKinds ks words) b.kinds_are all in
    let there = subst (λ (ws : List (List ℕ)). AreOfKinds (b.good_kinds ++ fault.kind ∷ b.other_kinds) ws) b.words_are here in
    b.is_bad (word_at b.good_kinds b.good fault.kind b.word b.other_kinds b.others b.are_good there)

pub not_wrong : {F : Type 0} (kinds : List WordKind) (words : List (List ℕ)) (fault : CommandFault F) → IsKindsFault kinds words fault → AreOfKinds kinds words → ⊥
not_wrong kinds words (faults.Count wanted given) h all = h.2 (h.1 ∙ are_as_many kinds words all ∙ sym h.0)
not_wrong kinds words (faults.Word fault) h all = none_bad kinds words fault h.1 all
not_wrong kinds words fault h all = absurd h

pub none_wrong : {F : Type 0} (kinds : List WordKind) (words : List (List ℕ)) (fault : CommandFault F) (values : List ParsedWord) → IsKindsFault kinds words fault → SayAll kinds words values → ⊥
none_wrong kinds words fault values h say = not_wrong kinds words fault h (are_of_kinds kinds words values say)

-- ---- words that are read each as what it says

pub first_bad : (kind : WordKind) (kinds : List WordKind) (word : List ℕ) (words : List (List ℕ)) (fault : WordFault) → fault.number ≡ 1 → fault.kind ≡ kind → fault.text ≡ excerpt_of word → (IsOfKind kind word → ⊥) → StopsAt kind word fault.at
    → IsBadWord (kind ∷ kinds) (word ∷ words) fault
first_bad kind kinds word words fault first same text bad stops = record {
  good_kinds = [];
  good = [];
  word = word;
  other_kinds = kinds;
  others = words;
  kinds_are = ap (λ (k : WordKind). k ∷ kinds) (sym same);
  words_are = refl;
  are_good = tt;
  is_bad = subst (λ (k : WordKind). IsOfKind k word → ⊥) (sym same) bad;
  number = first;
  text = text;
  stops = subst (λ (k : WordKind). StopsAt k word fault.at) (sym same) stops;
}

pub later_bad : (kind : WordKind) (kinds : List WordKind) (word : List ℕ) (words : List (List ℕ)) (fault later : WordFault) → IsOfKind kind word → IsBadWord kinds words fault
    → later.number ≡ fault.number + 1 → later.kind ≡ fault.kind → later.at ≡ fault.at → later.text ≡ fault.text → IsBadWord (kind ∷ kinds) (word ∷ words) later
later_bad kind kinds word words fault later is b more same at text = record {
  good_kinds = kind ∷ b.good_kinds;
  good = word ∷ b.good;
  word = b.word;
  other_kinds = b.other_kinds;
  others = b.others;
  kinds_are = ap (λ (ks : List WordKind). kind ∷ ks) b.kinds_are ∙ ap (λ (k : WordKind). kind ∷ (b.good_kinds ++ k ∷ b.other_kinds)) (sym same);
  words_are = ap (λ (ws : List (List ℕ)). word ∷ ws) b.words_are;
  are_good = (is, b.are_good);
  is_bad = subst (λ (k : WordKind). IsOfKind k b.word → ⊥) (sym same) b.is_bad;
  number = omega (arith, more, b.number);
  text = text ∙ b.text;
  stops = subst (λ (k : WordKind). StopsAt k b.word later.at) (sym same) (subst (StopsAt fault.kind b.word) (sym at) b.stops);
}

-- fewer stand before it than there are
pub bad_within : (kinds : List WordKind) (words : List (List ℕ)) (fault : WordFault) → IsBadWord kinds words fault → fault.number ≤ length words
bad_within kinds words fault b = omega (arith, b.number, ap length b.words_are, length-append b.good (b.word ∷ b.others))

-- ---- words that are read one after the other

-- the words before these are so many, and say this
pub record HasRead (kinds : List WordKind) (words : List (List ℕ)) (rest : List WordKind) (left : List (List ℕ)) (values : List ParsedWord) (number : ℕ) : Type 0 where
  pub good_kinds : List WordKind
  pub good : List (List ℕ)
  pub kinds_are : kinds ≡ good_kinds ++ rest
  pub words_are : words ≡ good ++ left
  pub say : SayAll good_kinds good values
  pub counted : number ≡ length good

pub none_read : (kinds : List WordKind) (words : List (List ℕ)) (values : List ParsedWord) → values ≡ [] → HasRead kinds words kinds words values 0
none_read kinds words values none = record { good_kinds = []; good = []; kinds_are = refl; words_are = refl; say = subst (SayAll [] []) (sym none) tt; counted = refl }

say_more : (ks : List WordKind) (ws : List (List ℕ)) (vs : List ParsedWord) (k : WordKind) (w : List ℕ) (v : ParsedWord) → SayAll ks ws vs → SaysWord k w v → SayAll (ks ++ k ∷ []) (ws ++ w ∷ []) (vs ++ v ∷ [])
say_more [] [] [] k w v h is = (is, tt)
say_more (j ∷ ks) (x ∷ ws) (y ∷ vs) k w v h is = (h.0, say_more ks ws vs k w v h.1 is)
say_more ks ws vs k w v h is = absurd h

pub one_more_read : (kinds : List WordKind) (words : List (List ℕ)) (kind : WordKind) (rest others : List WordKind) (word : List ℕ) (left after : List (List ℕ)) (values more : List ParsedWord) (value : ParsedWord) (number : ℕ)
    → HasRead kinds words rest left values number → rest ≡ kind ∷ others → left ≡ word ∷ after → SaysWord kind word value → more ≡ values ++ value ∷ [] → HasRead kinds words others after more (number + 1)
one_more_read kinds words kind rest others word left after values more value number h k e is longer = record {
  good_kinds = h.good_kinds ++ kind ∷ [];
  good = h.good ++ word ∷ [];
  kinds_are = h.kinds_are ∙ ap (λ (ks : List WordKind). h.good_kinds ++ ks) k ∙ sym (append_assoc h.good_kinds (kind ∷ []) others);
  words_are = h.words_are ∙ ap (λ (ws : List (List ℕ)). h.good ++ ws) e ∙ sym (append_assoc h.good (word ∷ []) after);
  say = subst (SayAll (h.good_kinds ++ kind ∷ []) (h.good ++ word ∷ [])) (sym longer) (say_more h.good_kinds h.good values kind word value h.say is);
  counted = omega (arith, h.counted, length-append h.good (word ∷ []));
}

pub bad_read : (kinds : List WordKind) (words : List (List ℕ)) (rest others : List WordKind) (word : List ℕ) (left after : List (List ℕ)) (values : List ParsedWord) (number : ℕ) (fault : WordFault)
    → HasRead kinds words rest left values number → rest ≡ fault.kind ∷ others → left ≡ word ∷ after → fault.number ≡ number + 1 → (IsOfKind fault.kind word → ⊥)
    → fault.text ≡ excerpt_of word → StopsAt fault.kind word fault.at → IsBadWord kinds words fault
bad_read kinds words rest others word left after values number fault h k e next bad text stops = record {
  good_kinds = h.good_kinds;
  good = h.good;
  word = word;
  other_kinds = others;
  others = after;
  kinds_are = h.kinds_are ∙ ap (λ (ks : List WordKind). h.good_kinds ++ ks) k;
  words_are = h.words_are ∙ ap (λ (ws : List (List ℕ)). h.good ++ ws) e;
  are_good = are_of_kinds h.good_kinds h.good values h.say;
  is_bad = bad;
  number = next ∙ ap (λ n. n + 1) h.counted;
  text = text;
  stops = stops;
}

pub all_read : (kinds : List WordKind) (words : List (List ℕ)) (rest : List WordKind) (left : List (List ℕ)) (values : List ParsedWord) (number : ℕ) → HasRead kinds words rest left values number → rest ≡ [] → left ≡ []
    → SayAll kinds words values
all_read kinds words rest left values number h none empty =
    let ks : h.good_kinds ≡ kinds = sym (h.kinds_are ∙ ap (λ (ks : List WordKind). h.good_kinds ++ ks) none ∙ append-nil h.good_kinds) in
    let ws : h.good ≡ words = sym (h.words_are ∙ ap (λ (vs : List (List ℕ)). h.good ++ vs) empty ∙ append-nil h.good) in
    subst (λ (v : List (List ℕ)). SayAll kinds v values) ws (subst (λ (v : List WordKind). SayAll v h.good values) ks h.say)

-- ---- what is wrong is wrong in other words

pub wrong_in : {F : Type 0} (e : LineError F) (Is Js : CommandFault F → Type 0) → IsWrong Is e → ((fault : CommandFault F) → Is fault → Js fault) → IsWrong Js e
wrong_in (Wrong fault) Is Js wrong there = there fault wrong
wrong_in Memory Is Js wrong there = tt

pub wrong_of : {T F : Type 0} (r : Result T (LineError F)) (Is Js : CommandFault F → Type 0) → IfErr r (IsWrong Is) → ((fault : CommandFault F) → Is fault → Js fault) → IfErr r (IsWrong Js)
wrong_of (Ok x) Is Js wrong there = tt
wrong_of (Err e) Is Js wrong there = wrong_in e Is Js wrong there

pub wrong_as : {T F : Type 0} (r : Result T (LineError F)) (e : LineError F) (Is Js : CommandFault F → Type 0) → IsErr r × IsErrAnd r (λ x. x ≡ e) → IsWrong Is e → ((fault : CommandFault F) → Is fault → Js fault) → IfErr r (IsWrong Js)
wrong_as (Ok x) e Is Js h wrong there = tt
wrong_as (Err x) e Is Js h wrong there = subst (IsWrong Js) (sym h.1) (wrong_in e Is Js wrong there)
