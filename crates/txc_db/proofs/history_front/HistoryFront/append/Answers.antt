use Rattle.std.proofs.Common.{◌≡◌, ◌+◌, ◌<◌, ◌∙◌, ap, sym, subst, length, arith}
use Rattle.std.specs.Prelude.{MatchOption}
use Rattle.std.specs.Arc.{arc_value}
use Rattle.std.proofs.lemmas.List.{length_push}
use Rattle.txc_stream.specs.Names.{Name, stored, HasRow}
use Rattle.txc_rows.specs.RowTags.{tags_between}
use Rattle.txc_db.specs.History.{AreTagged, state_after_event, state_at}
use Rattle.txc_db.specs.Room.{events_room}
use Rattle.txc_db.specs.FrontsAndFeeds.{FrontValue}
use Rattle.txc_db.proofs.Histories.{tagged_pushed}
use Rattle.txc_db.proofs.history_front.HistoryFront.append.Goals.{in-Ok, in-Err}
use Rattle.txc_db.proofs.history_front.HistoryFront.append.Goals as goal

pub invariant_of-self : goal.invariant_of-self
invariant_of-self c =
    let e = c.args.event.value in
    let old = c.self.inside.front.list in
    let beside = subst (λ (v : FrontValue). e.tags ≡ tags_between (state_at v.history (length v.history)) (state_after_event (state_at v.history (length v.history)) e)) (sym c.self.view_is) c.requires.tagged in
    let room : length c.self.inside.front.list < events_room c.self.inside.front.name = subst (λ (v : FrontValue). length v.history < events_room v.events) (sym c.self.view_is) c.requires.room in
    let same : events_room c.append.new.front.name ≡ events_room c.self.inside.front.name = ap events_room c.append.ensures.name in (
      subst (λ (n : Name). MatchOption c.self.inside.row (¬ (HasRow n)) (λ row. n ≡ stored (arc_value row))) (sym c.append.ensures.name) c.self.invariant.0,
      elim c.match-append.branch [
        | in-Ok w ↦ subst AreTagged (sym w.in-Ok.ensures.after) (tagged_pushed old e c.self.invariant.1 beside)
        | in-Err w ↦ subst AreTagged (sym w.in-Err.ensures.unchanged) c.self.invariant.1
      ],
      elim c.match-append.branch [
        | in-Ok w ↦
            let more : length c.append.new.front.list ≡ length c.self.inside.front.list + 1 = ap (λ l. length l) w.in-Ok.ensures.after ∙ length_push old e in
            omega (arith, more, room, same)
        | in-Err w ↦
            let kept : length c.append.new.front.list ≡ length c.self.inside.front.list = ap (λ l. length l) w.in-Err.ensures.unchanged in
            omega (arith, kept, room, same)
      ],
    )
