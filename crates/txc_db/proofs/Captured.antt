-- A closure that is handed to another thread may be sent where each of its captures may: a lemma for each number of
-- captures, in the order in which the body first uses them. `search` finds no way into a closure that owns a value whose
-- last state is not seen.
use mathlib.Core.List.{List, [], ◌∷◌}
use Prim.Native.Nat.{ℕ}
use mir.Syntax.{Sym, Ty}
use denote.RattleType.{RattleType}
use denote.Exit.{no}
use denote.Param.{param, arg}
use denote.Param.Send.{IsSend, AllSend, param_send, arg_send}
use denote.Param.SendFields.{FieldsHave, declared_send, as_row_send}
use denote.Struct.Field.{row_field}
use denote.Struct.Tuple.{TupleAt, type_at, parts}

parts_send : (Ts : List RattleType) → AllSend Ts → FieldsHave IsSend (parts Ts)
parts_send [] s = tt
parts_send (T ∷ Ts) s = (as_row_send (row_field T) s.0, parts_send Ts s.1)

closure_send : (i : ℕ) (δ : Ty) (name : Sym) (Ts : List RattleType) → AllSend Ts → IsSend (param i (arg δ no (TupleAt name Ts)))
closure_send i δ name Ts s = param_send i _ (arg_send δ no _ (declared_send (type_at name Ts) (parts_send Ts s)))

module _ (i : ℕ) (δ : Ty) (name : Sym) where
  pub closure1_send : (A : RattleType) → IsSend A → IsSend (param i (arg δ no (TupleAt name (A ∷ []))))
  closure1_send A a = closure_send i δ name (A ∷ []) (a, tt)

  pub closure2_send : (A B : RattleType) → IsSend A → IsSend B → IsSend (param i (arg δ no (TupleAt name (A ∷ B ∷ []))))
  closure2_send A B a b = closure_send i δ name (A ∷ B ∷ []) (a, (b, tt))

  pub closure3_send : (A B C : RattleType) → IsSend A → IsSend B → IsSend C → IsSend (param i (arg δ no (TupleAt name (A ∷ B ∷ C ∷ []))))
  closure3_send A B C a b c = closure_send i δ name (A ∷ B ∷ C ∷ []) (a, (b, (c, tt)))

  pub closure4_send : (A B C D : RattleType) → IsSend A → IsSend B → IsSend C → IsSend D → IsSend (param i (arg δ no (TupleAt name (A ∷ B ∷ C ∷ D ∷ []))))
  closure4_send A B C D a b c d = closure_send i δ name (A ∷ B ∷ C ∷ D ∷ []) (a, (b, (c, (d, tt))))

  pub closure5_send : (A B C D E : RattleType) → IsSend A → IsSend B → IsSend C → IsSend D → IsSend E
      → IsSend (param i (arg δ no (TupleAt name (A ∷ B ∷ C ∷ D ∷ E ∷ []))))
  closure5_send A B C D E a b c d e = closure_send i δ name (A ∷ B ∷ C ∷ D ∷ E ∷ []) (a, (b, (c, (d, (e, tt)))))

  pub closure6_send : (A B C D E F : RattleType) → IsSend A → IsSend B → IsSend C → IsSend D → IsSend E → IsSend F
      → IsSend (param i (arg δ no (TupleAt name (A ∷ B ∷ C ∷ D ∷ E ∷ F ∷ []))))
  closure6_send A B C D E F a b c d e f = closure_send i δ name (A ∷ B ∷ C ∷ D ∷ E ∷ F ∷ []) (a, (b, (c, (d, (e, (f, tt))))))

-- a value of a type parameter
pub argument_send : (i : ℕ) (δ : Ty) (R : RattleType) → IsSend R → IsSend (param i (arg δ no R))
argument_send i δ R s = param_send i _ (arg_send δ no R s)
