-- The node worked by hand.
use Rattle.std.proofs.Common.{refl, arith, List, [], ◌∷◌, ◌++◌}
use Rattle.txc_db.specs.WorkedHistory.{worked}
use Rattle.txc_node.specs.declared.record.Record.{Record}
use Rattle.txc_shared.specs.Histories.{IsNext, IsLegal}
use Rattle.txc_shared.specs.WorkedNode.{three_steps, start, WorkedHistories}
use Rattle.txc_app.proofs.Offered.{each_none, each_push}

-- one legal record more
one_more : (rs : List Record) (r : Record) → IsNext worked start rs r → IsLegal worked start rs → IsLegal worked start (rs ++ r ∷ [])
one_more rs r follows h = record { each = each_push (IsNext worked start) rs r h.each follows }

first_legal : IsLegal worked start three_steps
first_legal =
    one_more _ _ (record { possible = refl; reply = refl; event = (omega arith, refl); turn = refl })
    (one_more _ _ (record { possible = refl; reply = refl; event = tt; turn = refl })
    (one_more [] _ (record { possible = refl; reply = refl; event = tt; turn = refl }) (record { each = each_none (IsNext worked start) })))

-- the last of four records may follow the others
last_is : (r : Record) → IsLegal worked start (three_steps ++ r ∷ []) → IsNext worked start three_steps r
last_is r h = h.each 3 r refl

pub worked_histories : WorkedHistories
worked_histories = record {
  hit = one_more three_steps _ (record { possible = refl; reply = refl; event = tt; turn = refl }) first_legal;
  miss = λ h. absurd (cc (last_is _ h).reply);
  first_turn = λ h. absurd (cc (last_is _ h).turn);
  event = one_more three_steps _ (record { possible = refl; reply = refl; event = (omega arith, refl); turn = refl }) first_legal;
  skipped_event = λ h. absurd (cc (last_is _ h).possible);
  other_tags = λ h. absurd (cc (last_is _ h).event.1);
}
