use Rattle.std.proofs.Common.{◌≡◌, ◌⊎◌, [], sym, ap, subst, ◌∙◌, true, true≢false, arith}
use Rattle.txc_db.specs.DatabaseValue.{DatabaseValue, newest_state, after_vacuum}
use Rattle.txc_db_carry.proofs.WentOn.{renewed_room}
use Rattle.txc_db_carry.proofs.renewing.renew.Goals as goal

pub returns-then-begins_in_place-clause-state : goal.returns-then-begins_in_place-clause-state
returns-then-begins_in_place-clause-state c = (c.begins_in_place.ensures.begun c.if-begins_in_place.true).state

pub returns-then-begins_in_place-clause-limit : goal.returns-then-begins_in_place-clause-limit
returns-then-begins_in_place-clause-limit c = (c.begins_in_place.ensures.begun c.if-begins_in_place.true).limit

pub returns-then-begins_in_place-clause-room : goal.returns-then-begins_in_place-clause-room
returns-then-begins_in_place-clause-room c = renewed_room c.args.room c.args.core.now c.begins_in_place.new.core (c.begins_in_place.ensures.begun c.if-begins_in_place.true)

pub returns-then-begins_in_place-clause-kept : goal.returns-then-begins_in_place-clause-kept
returns-then-begins_in_place-clause-kept c = let is = (c.begins_in_place.ensures.begun c.if-begins_in_place.true).horizon in omega (arith, is)

pub returns-then-begins_in_place-clause-few : goal.returns-then-begins_in_place-clause-few
returns-then-begins_in_place-clause-few c = let is = (c.begins_in_place.ensures.begun c.if-begins_in_place.true).one in omega (arith, is)

pub returns-then-begins_in_place-clause-broken : goal.returns-then-begins_in_place-clause-broken
returns-then-begins_in_place-clause-broken c = λ broken. absurd (true≢false (sym broken ∙ (c.begins_in_place.ensures.begun c.if-begins_in_place.true).was))

pub returns-in-Ok-clause-state : goal.returns-in-Ok-clause-state
returns-in-Ok-clause-state c = c.in-Ok.ensures.state ∙ ap newest_state (c.begins_in_place.ensures.unchanged c.if-begins_in_place.false)

pub returns-in-Ok-clause-limit : goal.returns-in-Ok-clause-limit
returns-in-Ok-clause-limit c = c.in-Ok.ensures.limit ∙ ap (λ (d : DatabaseValue). d.most) (c.begins_in_place.ensures.unchanged c.if-begins_in_place.false)

pub returns-in-Ok-clause-broken : goal.returns-in-Ok-clause-broken
returns-in-Ok-clause-broken c = λ broken.
    let same = c.begins_in_place.ensures.unchanged c.if-begins_in_place.false in
    absurd (let e = c.in-Ok.ensures.broken (subst (λ (d : DatabaseValue). d.broken ≡ true) (sym same) broken) in cc)

pub returns-in-Err-clause-left : goal.returns-in-Err-clause-left
returns-in-Err-clause-left c =
    let same = c.begins_in_place.ensures.unchanged c.if-begins_in_place.false in
    subst (λ (d : DatabaseValue). (c.carry.new.old ≡ d) ⊎ (c.carry.new.old ≡ after_vacuum d)) same c.in-Err.ensures.left

pub returns-in-Err-clause-broken : goal.returns-in-Err-clause-broken
returns-in-Err-clause-broken c = λ broken.
    let same = c.begins_in_place.ensures.unchanged c.if-begins_in_place.false in
    let is = c.in-Err.ensures.broken (subst (λ (d : DatabaseValue). d.broken ≡ true) (sym same) broken) in
    cc

pub returns-in-Err-clause-one : goal.returns-in-Err-clause-one
returns-in-Err-clause-one c = λ none.
    let same = c.begins_in_place.ensures.unchanged c.if-begins_in_place.false in
    c.in-Err.ensures.one (subst (λ (d : DatabaseValue). d.holds ≡ []) (sym same) none)
