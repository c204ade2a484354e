-- The ports of a new world.
use Rattle.std.proofs.Common.{◌≡◌, ℕ, zero, suc, ◌+◌, List, [], ◌∷◌, ◌++◌, length, get_or, slice_get, Some, All, Ok, Err, ap, sym, subst, arith}
use Rattle.std.specs.Prelude.{IfErr, IsErrAnd, Result}
use Rattle.std.proofs.lemmas.Option.{slice_get-get_or}
use Rattle.txc_db.specs.declared.error.DbError.{DbError}
use Rattle.txc_db.specs.declared.error.DbError.TheVariants.{Memory}
use Rattle.txc_db.specs.declared.pinned.Pinned.{Pinned}
use Rattle.txc_db.specs.DatabaseValue.{DatabaseValue, front_of}
use Rattle.txc_db.specs.Refusals.{IsWant}
use Rattle.txc_db.specs.FrontsAndFeeds.{FrontValue}
use Rattle.txc_cushion.specs.Cushion.{CushionValue, empty_cushion}
use Rattle.txc_cushion.specs.Cushion.{cushion_front}
use Rattle.txc_shared.specs.Nodes.{NodeValue}
use Rattle.txc_shared.specs.declared.settings.NodeSettings.{NodeSettings}
use Rattle.txc_world.specs.declared.settings.WorldSettings.{WorldSettings}
use Rattle.txc_world.specs.Parts.{IsPartOf}
use Rattle.txc_stream.specs.Names.{HasRow}
use Rattle.txc_world.specs.Ports.{ArePorts, IsNodeOf}
use Rattle.txc_app.specs.Eval.{Next}
use Rattle.txc_shared.proofs.Runs.{node_begins}
use Rattle.txc_world.specs.NewWorld.{node_settings, AreNewNodes, IsNewNode}
use Rattle.txc_world.proofs.PartLemmas.{part_itself}

-- what ended out of memory ended for want of it
pub memory_is_wanting : {T : Type 0} (r : Result T DbError) → IsErrAnd r (λ e. e ≡ Memory) → IfErr r IsWant
memory_is_wanting (Ok x) h = tt
memory_is_wanting (Err e) h = rw h tt

-- what holds of each item by its place holds with one item more
each_push : {X : Type 0} (P : ℕ → X → Type 0) (xs : List X) (y : X) → ((i : ℕ) (x : X) → slice_get xs i ≡ Some x → P i x) → P (length xs) y
    → (i : ℕ) (x : X) → slice_get (xs ++ y ∷ []) i ≡ Some x → P i x
each_push P [] y h last zero x is = let same : y ≡ x = cc in subst (P 0) same last
each_push P [] y h last (suc i) x is = cc is
each_push P (z ∷ zs) y h last zero x is = h zero x is
each_push P (z ∷ zs) y h last (suc i) x is = each_push (λ k. P (suc k)) zs y (λ k w at. h (suc k) w at) last i x is

pub new_nodes_push : (settings : WorldSettings) (passes : ℕ) (seen : FrontValue) (nodes : List NodeValue) (n : NodeValue) (number : ℕ)
    → length nodes ≡ number → AreNewNodes settings passes seen nodes → IsNewNode (node_settings settings number) settings.row_cap passes seen n
    → AreNewNodes settings passes seen (nodes ++ n ∷ [])
new_nodes_push settings passes seen nodes n number is are new =
    each_push (λ k m. IsNewNode (node_settings settings k) settings.row_cap passes seen m) nodes n are
    (subst (λ (k : ℕ). IsNewNode (node_settings settings k) settings.row_cap passes seen n) (sym is) new)

new_node_is : (next : Next) (settings : NodeSettings) (row_cap actors : ℕ) (whole : FrontValue) (n : NodeValue) → IsNewNode settings row_cap (actors + 1) whole n
    → IsNodeOf next whole actors n
new_node_is next settings row_cap actors whole n new = record {
  kind = subst HasRow (sym new.name) tt;
  begun = new.begun;
  row = ap (λ (f : FrontValue). f.events) new.seen_is;
  seen = λ w. subst (IsPartOf whole) (sym new.seen_is) (part_itself whole);
  passes = new.passes_are;
  sound = rw (new.begun, new.settings_are, new.records, new.cache, new.whole) (node_begins next n.seen.history settings.capacity settings.recent 0 (omega arith));
}

pub new_ports : (next : Next) (settings : WorldSettings) (d : DatabaseValue) (front : FrontValue) (cushion : CushionValue) (nodes : List NodeValue) (spare : List Pinned) (actors : ℕ)
    → front ≡ front_of d → cushion ≡ empty_cushion front → AreNewNodes settings (actors + 1) (front_of d) nodes → spare ≡ []
    → ArePorts next (record { database = d; cushion = cushion; nodes = nodes; spare = spare; actors = actors })
new_ports next settings d front cushion nodes spare actors front_is cushion_is new none = record {
  cushion = subst (λ (c : CushionValue). IsPartOf (front_of d) (cushion_front c)) (sym cushion_is) (subst (IsPartOf (front_of d)) (sym front_is) (part_itself (front_of d)));
  nodes = λ i n within. new_node_is next (node_settings settings i) settings.row_cap actors (front_of d) (get_or nodes i n) (new i (get_or nodes i n) (slice_get-get_or nodes i n within));
  spare = subst (All (λ pinned. IsPartOf (front_of d) pinned.front)) (sym none) (λ i n within. absurd (omega (arith, within)));
}
