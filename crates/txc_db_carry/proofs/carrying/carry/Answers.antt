use Rattle.std.proofs.Common.{◌≡◌, ℕ, false, ap, sym, subst, ◌∙◌}
use Rattle.txc_db.specs.DatabaseValue.{DatabaseValue, newest_state, IsSound}
use Rattle.txc_db.specs.Room.{events_room}
use Rattle.txc_db_carry.specs.Carry.{HasCarried, IsCarryRefused, IsCarryStepRefused}
use Rattle.txc_db_carry.specs.Rooms.{IsHistoryFor, room_for}
use Rattle.txc_db_carry.proofs.Refusing.{not_broken, refused_by}
use Rattle.txc_db_carry.proofs.Steps.{start_carried, all_carried, room_of}
use Rattle.txc_db_carry.proofs.Versions.{vacuumed_few}
use Rattle.txc_db_carry.proofs.carrying.carry.Goals.{In-Ok-new_database}
use Rattle.txc_db_carry.proofs.carrying.carry.Goals as goal

-- the old database is whole after the vacuum
old_whole : (c : In-Ok-new_database) → c.vacuum.new.self.broken ≡ false
old_whole c = ap (λ (v : DatabaseValue). v.broken) c.in_default.ensures.after ∙ not_broken c.args.old.now c.vacuum.result c.in_default.field-0 c.vacuum.ensures.broken c.in_default.is

old_sound : (c : In-Ok-new_database) → IsSound c.vacuum.new.self
old_sound c = c.is_sound.ensures (old_whole c)

pub allow-requires-clause-least : goal.allow-requires-clause-least
allow-requires-clause-least c = rw c.allowed.ensures (old_sound (goal.at.allow-requires-clause-least c).In-Ok-new_database).limit.0

pub allow-requires-clause-most : goal.allow-requires-clause-most
allow-requires-clause-most c = rw c.allowed.ensures (old_sound (goal.at.allow-requires-clause-most c).In-Ok-new_database).limit.1

pub carry_tables-requires-clause-whole : goal.carry_tables-requires-clause-whole
carry_tables-requires-clause-whole c = old_whole (goal.at.carry_tables-requires-clause-whole c).In-Ok-new_database

pub carry_tables-requires-clause-carried : goal.carry_tables-requires-clause-carried
carry_tables-requires-clause-carried c =
    let made = c.in-Ok-new_database.new in
    let now : DatabaseValue = record made { most = c.allowed.result } in
    let was = c.in-Ok-new_database.ensures in
    subst (λ (d : DatabaseValue). HasCarried c.vacuum.new.self d.events 0 0 d) (sym c.allow.ensures) (start_carried c.vacuum.new.self now was.holds.1 was.holds.0 was.history was.kept.0 was.kept.1 c.allowed.ensures)

pub returns-in-Ok-carry_tables-clause-state : goal.returns-in-Ok-carry_tables-clause-state
returns-in-Ok-carry_tables-clause-state c =
    all_carried c.vacuum.new.self c.carry_tables.new.new c.allow.new.self.events (old_sound (goal.at.returns-in-Ok-carry_tables-clause-state c).In-Ok-new_database) c.in-Ok-carry_tables.ensures.carried
    ∙ ap newest_state c.in_default.ensures.after

pub returns-in-Ok-carry_tables-clause-limit : goal.returns-in-Ok-carry_tables-clause-limit
returns-in-Ok-carry_tables-clause-limit c = c.in-Ok-carry_tables.ensures.carried.limit ∙ ap (λ (d : DatabaseValue). d.most) c.in_default.ensures.after

pub returns-in-Err-carry_tables-clause-one : goal.returns-in-Err-carry_tables-clause-one
returns-in-Err-carry_tables-clause-one c = λ none.
    vacuumed_few c.args.old.now c.vacuum.new.self (events_room c.allow.new.self.events) none c.in_default.ensures.after (old_sound (goal.at.returns-in-Err-carry_tables-clause-one c).In-Ok-new_database) c.in-Err-carry_tables.refusal c.in-Err-carry_tables.ensures.refused

-- the history of the new database is as it was made
same_history : (d made : DatabaseValue) (most : ℕ) → d ≡ record made { most = most } → d.events ≡ made.events
same_history d made most is = ap (λ (v : DatabaseValue). v.events) is

pub returns-in-Err-carry_tables-clause-refused : goal.returns-in-Err-carry_tables-clause-refused
returns-in-Err-carry_tables-clause-refused c =
    let whole = old_whole (goal.at.returns-in-Err-carry_tables-clause-refused c).In-Ok-new_database in
    let same : c.allow.new.self.events ≡ c.in-Ok-new_database.new.events = same_history c.allow.new.self c.in-Ok-new_database.new c.allowed.result c.allow.ensures in
    let room = ap events_room same ∙ room_of c.args.room c.in-Ok-new_database.new.events c.in-Ok-new_database.ensures.room in
    let step = subst (λ (n : ℕ). IsCarryStepRefused c.vacuum.new.self n c.in-Err-carry_tables.refusal) room c.in-Err-carry_tables.ensures.refused in
    subst (λ (d : DatabaseValue). IsCarryRefused d (room_for c.args.room) c.in-Err-carry_tables.refusal) (sym c.carry_tables.ensures.same) (refused_by c.vacuum.new.self (room_for c.args.room) c.in-Err-carry_tables.refusal whole step)

pub returns-in-Ok-carry_tables-clause-room : goal.returns-in-Ok-carry_tables-clause-room
returns-in-Ok-carry_tables-clause-room c =
    let same : c.allow.new.self.events ≡ c.in-Ok-new_database.new.events = same_history c.allow.new.self c.in-Ok-new_database.new c.allowed.result c.allow.ensures in
    subst (IsHistoryFor c.args.room) (sym (c.in-Ok-carry_tables.ensures.carried.named ∙ same)) c.in-Ok-new_database.ensures.room
