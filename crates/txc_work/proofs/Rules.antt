-- A rule that each item is of some kind is kept by a push of such an item and by a pop.
use Rattle.std.proofs.Common.{ℕ, All}
use Rattle.std.specs.Prelude.{⊤}
use Rattle.std.proofs.lemmas.List.Elements.{All-head, All-tail, All-push}
use Rattle.crossbeam_queue.specs.Fifo.{Pushes, Pops, Learns}

module _ {T V : Type 0} (P : T → Type 0) where
  pub each_pushes : (n pass : ℕ) (v : V) (x : T) → P x → Pushes (λ items views. All P items) n pass v x (λ w. ⊤)
  each_pushes n pass v x is items views room all at = (v, All-push P items x all is, tt)

  pub each_pops : (pass : ℕ) (v : V) → Pops (λ items views. All P items) pass v (λ x w. P x)
  each_pops pass v x items views all at = (v, All-tail P x items all, All-head P x items all)

  pub learns_nothing : (pass : ℕ) (v : V) → Learns (λ items views. All P items) pass v (λ items. ⊤)
  learns_nothing pass v items views all at = tt
