-- A parse that succeeds has a mode, and it is one of those listed.
use Rattle.std.proofs.Common.{◌≡◌, ◌⊎◌, ◌∙◌, ◌<◌, ◌≤◌, ◌||◌, ℕ, zero, suc, Bool, true, false, List, [], ◌∷◌, ◌++◌, Option, Some, None, is_some, length, map, codes, refl, sym, ap, subst, inl, inr, arith}
use Rattle.std.specs.Prelude.{option_and_then, option_map, slice_get, slice_index}
use Rattle.std.specs.Borrow.{Bor}
use Rattle.std.specs.List.{All, list_any, slice_index_or}
use Rattle.std.specs.Str.{bytes_eq}
use Rattle.std.proofs.lemmas.List.Elements.{All-get_or, All-nil}
use Rattle.std.proofs.lemmas.Slice.Eq.{bytes_eq-Decides}
use Rattle.clap.proofs.CallerLemmas.{added_plain, entry_by_id, required_has_value, same_rules_by_id}
use Rattle.clap.specs.Built.{AddsArg, IsAuto, IsParsedFrom, IsPlain, IsPlainArg, SameRules}
use Rattle.clap.specs.Facts.{Entry, EntryPasses, PassesArg, ValuesPass, args_of, groups_of, least_values, parser_of, parser_of_value}
use Rattle.clap.specs.Matches.{first_value, found_of, matched_of}
use Rattle.clap.specs.Values.{Accepts, same_text}
use Rattle.clap.specs.declared.builder.action.ArgAction.TheVariants.{Set}
use Rattle.clap.specs.declared.builder.arg.Arg.{Arg}
use Rattle.clap.specs.declared.builder.command.Command.{Command}
use Rattle.clap.specs.declared.builder.command.Command.TheViews.{out-Command}
use Rattle.clap.specs.declared.builder.value_parser.ValueParser.{ValueParser}
use Rattle.clap.specs.declared.builder.value_parser.ValueParser.TheVariants.{Names}
use Rattle.clap.specs.declared.parser.matches.ArgMatches.{ArgMatches}
use Rattle.clap.specs.declared.parser.matches.Found.{Found}
use Rattle.clap.specs.declared.parser.matches.MatchedArg.{MatchedArg}
use Rattle.txc_script_settings.specs.declared.mode.Mode.TheVariants as modes
use Rattle.txc_script_settings.specs.declared.script.Script.{Script}
use Rattle.txc_script_settings.specs.declared.script.Script.TheVariants.{Node, World, Batch}
use Rattle.txcache_arguments.specs.Program.{AsksForMode, IsModeArg, IsSettingsArg, mode_text}

-- ---- the program asks for it

pub asks : (start one new : Command) (a b : Arg) → AddsArg start a one → AddsArg one b new → args_of start ≡ [] → groups_of start ≡ []
    → (out-Command start).has_globals ≡ false → (out-Command start).subcommand_negates_reqs ≡ false → IsModeArg a → IsSettingsArg b → AsksForMode new
asks start one new a b first second args groups globals negates mode settings =
    let plain : IsPlain start = (subst (All IsPlainArg) (sym args) (All-nil IsPlainArg), groups) in
    let one_globals : (out-Command one).has_globals ≡ false = first.globals ∙ (ap (λ (x : Bool). x || a.global) globals ∙ mode.local) in
    record {
      mode = first.arg;
      other = second.arg;
      args = second.args ∙ ap (λ (l : List Arg). l ++ second.arg ∷ []) (first.args ∙ ap (λ (l : List Arg). l ++ first.arg ∷ []) args);
      plain = added_plain one new b second (added_plain start one a first plain mode.plain) settings.plain;
      globals = second.globals ∙ (ap (λ (x : Bool). x || b.global) one_globals ∙ settings.local);
      negates = second.negates ∙ (first.negates ∙ negates);
      mode_id = ap (λ (x : Bor (List ℕ)). x.now) first.rules.id ∙ mode.id;
      other_id = ap (λ (x : Bor (List ℕ)). x.now) second.rules.id ∙ settings.id;
      required = first.rules.required ∙ mode.required;
      set = first.rules.action Set mode.set;
      delim = first.rules.val_delim ∙ mode.delim;
      least = first.rules.least mode.set mode.least;
      exact = first.rules.ignore_case ∙ mode.exact;
      reads = (mode.reads.0, first.rules.parser (Names mode.reads.0) mode.reads.1, mode.reads.2);
    }

-- ---- the first value of an argument passed its parser

accepts_of : (a y : Arg) (q : ValueParser) (t : List ℕ) → SameRules a y → a.value_parser ≡ Some q → Accepts y.ignore_case (parser_of y) t → Accepts a.ignore_case q t
accepts_of a y q t s parser read =
    let is_q : parser_of y ≡ q = ap parser_of_value (s.parser q parser) in
    let as_q : Accepts y.ignore_case q t = subst (λ (w : ValueParser). Accepts y.ignore_case w t) is_q read in
    subst (λ (b : Bool). Accepts b q t) s.ignore_case as_q

first_of_all : (P : Bor (List ℕ) → Type 0) (vs : List (Bor (List ℕ))) → All P vs → is_some (option_map (λ s. s.now) (slice_get vs 0)) ≡ true
    → (v : Bor (List ℕ)) × (option_map (λ s. s.now) (slice_get vs 0) ≡ Some v.now) × P v
first_of_all P [] h some = cc
first_of_all P (v ∷ vs) h some = (v, refl, All-get_or P (v ∷ vs) 0 v (omega arith) h)

first_value_at : (f : Found) (id : List ℕ) (x : MatchedArg) (t : List ℕ) → matched_of f id ≡ Some x → option_map (λ s. s.now) (slice_get x.vals.items 0) ≡ Some t → first_value f id ≡ Some t
first_value_at f id x t found first =
    ap (λ (o : Option MatchedArg). option_and_then (λ a. option_map (λ s. s.now) (slice_get a.vals.items 0)) o) found ∙ first

entry_first : (c : Command) (f : Found) (id : List ℕ) (Q : List ℕ → Type 0) (x : MatchedArg) (e : Entry) → groups_of c ≡ [] → (id ≡ [] → ⊥)
    → ((v : Bor (List ℕ)) → PassesArg c id v.now → Q v.now) → matched_of f id ≡ Some x → is_some (option_map (λ s. s.now) (slice_get x.vals.items 0)) ≡ true
    → e.1 ≡ x → e.0.now ≡ id → EntryPasses c e → (t : List ℕ) × (first_value f id ≡ Some t) × Q t
entry_first c f id Q x e no_groups named read found some same_x key_id pass =
    let no_group : e.1.is_group ≡ true → ⊥ = λ g. elim (pass.3 g) [
      | inl empty ↦ named (sym key_id ∙ empty)
      | inr lots ↦
          let bad : 0 < 0 = rw no_groups at lots in
          absurd (omega arith)
    ] in
    let all : All (λ v. PassesArg c id v.now) x.vals.items = elim pass.0 [
      | inl g ↦ absurd (no_group g)
      | inr vals ↦ subst (λ (w : List ℕ). All (λ v. PassesArg c w v.now) x.vals.items) key_id (rw same_x at vals)
    ] in
    let got = first_of_all (λ v. PassesArg c id v.now) x.vals.items all some in
    (got.0.now, first_value_at f id x got.0.now found got.1, read got.0 got.2)

values_first : (c : Command) (f : Found) (id : List ℕ) (Q : List ℕ → Type 0) → ValuesPass c f → groups_of c ≡ [] → (id ≡ [] → ⊥) → is_some (first_value f id) ≡ true
    → ((v : Bor (List ℕ)) → PassesArg c id v.now → Q v.now) → (t : List ℕ) × (first_value f id ≡ Some t) × Q t
values_first c f id Q values no_groups named has read = go (matched_of f id) refl has
  where
    step : (x : MatchedArg) → matched_of f id ≡ Some x → is_some (option_map (λ s. s.now) (slice_get x.vals.items 0)) ≡ true
        → ((e : Entry) × (e.1 ≡ x) × (bytes_eq e.0.now id ≡ true) × EntryPasses c e) → (t : List ℕ) × (first_value f id ≡ Some t) × Q t
    step x found some got = entry_first c f id Q x got.0 no_groups named read found some got.1 ((bytes_eq-Decides got.0.0.now id).0 got.2) got.3

    go : (o : Option MatchedArg) → matched_of f id ≡ o → is_some (first_value f id) ≡ true → (t : List ℕ) × (first_value f id ≡ Some t) × Q t
    go None e h =
        let bad : false ≡ true = rw e at h in
        cc
    go (Some x) e h = step x e (rw e at h) (entry_by_id (EntryPasses c) f.entries.items id x values e)

-- ---- the mode

moved : (xs ys : List Arg) (P : List Arg → Type 0) → xs ≡ ys → P ys → P xs
moved xs ys P e h = subst P (sym e) h

only_first : (x y : Arg) (j : ℕ) (e : Arg) → bytes_eq y.id.now x.id.now ≡ false → j < 2 → bytes_eq (slice_index_or (x ∷ y ∷ []) j e).id.now x.id.now ≡ true → j ≡ 0
only_first x y zero e other lt same = refl
only_first x y (suc zero) e other lt same =
    let bad : true ≡ false = sym same ∙ other in
    cc
only_first x y (suc (suc n)) e other lt same = absurd (omega arith)

first_byte : (t : List ℕ) → codes "mode" ≡ t → slice_index t 0 ≡ 109
first_byte t e = rw (← e) refl

apart : (n j k : ℕ) → n ≡ j → n ≡ k → j < k → ⊥
apart n j k e f lt = omega (arith, e, f, lt)

not_auto : (id : List ℕ) → id ≡ codes "mode" → (id ≡ codes "help") ⊎ (id ≡ codes "version") → ⊥
not_auto id is (inl h) = apart (slice_index (codes "help") 0) 104 109 refl (first_byte (codes "help") (sym is ∙ h)) (omega arith)
not_auto id is (inr h) = apart (slice_index (codes "version") 0) 109 118 (first_byte (codes "version") (sym is ∙ h)) refl (omega arith)

has_name : (id : List ℕ) → id ≡ codes "mode" → id ≡ [] → ⊥
has_name id is none = apart (slice_index [] 0) 0 109 refl (first_byte [] (sym is ∙ none)) (omega arith)

one_true : (x y z w : Bool) → (x || (y || (z || (w || false)))) ≡ true → (x ≡ true) ⊎ ((y ≡ true) ⊎ ((z ≡ true) ⊎ (w ≡ true)))
one_true true y z w h = inl refl
one_true false true z w h = inr (inl refl)
one_true false false true w h = inr (inr (inl refl))
one_true false false false true h = inr (inr (inr refl))
one_true false false false false h = cc

by_each : {P Q R S T : Type 0} → (P → T) → (Q → T) → (R → T) → (S → T) → P ⊎ (Q ⊎ (R ⊎ S)) → T
by_each f g h k (inl p) = f p
by_each f g h k (inr (inl q)) = g q
by_each f g h k (inr (inr (inl r))) = h r
by_each f g h k (inr (inr (inr s))) = k s

-- the text is the word of a mode
abbrev IsMode : List ℕ → Type 0
IsMode t = (t ≡ mode_text (Node modes.Node)) ⊎ ((t ≡ mode_text (Node modes.Report)) ⊎ ((t ≡ mode_text World) ⊎ (t ≡ mode_text Batch)))

listed : (names : List (Bor (List ℕ))) (t : List ℕ) → map (λ name. name.now) names ≡ mode_text (Node modes.Node) ∷ mode_text (Node modes.Report) ∷ mode_text World ∷ mode_text Batch ∷ []
    → list_any (λ name. same_text false name.now t) names ≡ true → IsMode t
listed [] t e h = cc
listed (a ∷ []) t e h = cc
listed (a ∷ b ∷ []) t e h = cc
listed (a ∷ b ∷ d ∷ []) t e h = cc
listed (a ∷ b ∷ d ∷ c ∷ []) t e h =
    let node : a.now ≡ mode_text (Node modes.Node) = cc in
    let report : b.now ≡ mode_text (Node modes.Report) = cc in
    let world : d.now ≡ mode_text World = cc in
    let batch : c.now ≡ mode_text Batch = cc in
    by_each (λ k. inl (sym ((bytes_eq-Decides a.now t).0 k) ∙ node)) (λ k. inr (inl (sym ((bytes_eq-Decides b.now t).0 k) ∙ report))) (λ k. inr (inr (inl (sym ((bytes_eq-Decides d.now t).0 k) ∙ world))))
    (λ k. inr (inr (inr (sym ((bytes_eq-Decides c.now t).0 k) ∙ batch))))
    (one_true (bytes_eq a.now t) (bytes_eq b.now t) (bytes_eq d.now t) (bytes_eq c.now t) h)
listed (a ∷ b ∷ d ∷ c ∷ x ∷ more) t e h = cc

pub mode_given : (cmd : Command) (m : ArgMatches) → AsksForMode cmd → IsParsedFrom cmd m
    → (t : List ℕ) × (first_value (found_of m) (codes "mode") ≡ Some t) × IsMode t
mode_given cmd m a p =
    let xs = a.mode ∷ a.other ∷ [] in
    let d = a.mode in
    let here = slice_index_or (args_of cmd) 0 d in
    let elem : here ≡ a.mode = ap (λ (l : List Arg). slice_index_or l 0 d) a.args in
    let same_id : here.id.now ≡ codes "mode" = ap (λ (x : Arg). x.id.now) elem ∙ a.mode_id in
    let lt : 0 < length (args_of cmd) = moved (args_of cmd) xs (λ l. 0 < length l) a.args (omega arith) in
    let differ : bytes_eq a.other.id.now a.mode.id.now ≡ false = rw (a.other_id, a.mode_id) refl in
    let unique : (j : ℕ) (e : Arg) → j < length (args_of cmd) → bytes_eq (slice_index_or (args_of cmd) j e).id.now here.id.now ≡ true → j ≡ 0 =
    moved (args_of cmd) xs (λ l. (j : ℕ) (e : Arg) → j < length l → bytes_eq (slice_index_or l j e).id.now (slice_index_or l 0 d).id.now ≡ true → j ≡ 0) a.args
    (λ j e low same. only_first a.mode a.other j e differ low same) in
    let required : here.required ≡ true = ap (λ (x : Arg). x.required) elem ∙ a.required in
    let set : here.action ≡ Some Set = ap (λ (x : Arg). x.action) elem ∙ a.set in
    let delim : here.val_delim ≡ None = ap (λ (x : Arg). x.val_delim) elem ∙ a.delim in
    let least : 1 ≤ least_values here = subst (λ (x : Arg). 1 ≤ least_values x) (sym elem) a.least in
    let q = Names a.reads.0 in
    let parser : here.value_parser ≡ Some q = ap (λ (x : Arg). x.value_parser) elem ∙ a.reads.1 in
    let own : IsAuto here → ⊥ = not_auto here.id.now same_id in
    let named : here.id.now ≡ [] → ⊥ = has_name here.id.now same_id in
    let has = required_has_value cmd m p a.plain a.globals a.negates 0 d lt required set delim least unique named own in
    let read : (v : Bor (List ℕ)) → PassesArg p.built here.id.now v.now → Accepts here.ignore_case q v.now =
    λ v pass. accepts_of here pass.1 q v.now (same_rules_by_id cmd m p 0 d lt unique own pass.0 pass.1 pass.2 pass.3 pass.4.0) parser pass.4.1 in
    let parsed = p.parsed (p.from.globals ∙ a.globals) in
    let got = values_first p.built (found_of m) here.id.now (λ (t : List ℕ). Accepts here.ignore_case q t) parsed.values (p.from.plain a.plain).1 named has read in
    let passed : Accepts false q got.0 = subst (λ (b : Bool). Accepts b q got.0) (ap (λ (x : Arg). x.ignore_case) elem ∙ a.exact) got.2 in
    (got.0, subst (λ (w : List ℕ). first_value (found_of m) w ≡ Some got.0) same_id got.1, listed a.reads.0.now got.0 a.reads.2 passed)

-- so what is got of it is a word of a mode
pub has_mode : (cmd : Command) (m : ArgMatches) (got : Option (Bor (List ℕ))) → AsksForMode cmd → IsParsedFrom cmd m → option_map (λ s. s.now) got ≡ first_value (found_of m) (codes "mode") → got ≡ None → ⊥
has_mode cmd m got a p is none =
    let given = mode_given cmd m a p in
    let bad : None ≡ Some given.0 = sym (ap (option_map (λ (s : Bor (List ℕ)). s.now)) none) ∙ is ∙ given.1 in
    cc

pub is_mode : (cmd : Command) (m : ArgMatches) (got : Option (Bor (List ℕ))) (name : Bor (List ℕ)) → AsksForMode cmd → IsParsedFrom cmd m → option_map (λ s. s.now) got ≡ first_value (found_of m) (codes "mode") → got ≡ Some name
    → ((script : Script) → name.now ≡ mode_text script → ⊥) → ⊥
is_mode cmd m got name a p is some none =
    let given = mode_given cmd m a p in
    let same : Some name.now ≡ Some given.0 = sym (ap (option_map (λ (s : Bor (List ℕ)). s.now)) some) ∙ is ∙ given.1 in
    let text : name.now ≡ given.0 = cc in
    by_each (λ h. none (Node modes.Node) (text ∙ h)) (λ h. none (Node modes.Report) (text ∙ h)) (λ h. none World (text ∙ h)) (λ h. none Batch (text ∙ h)) given.2
