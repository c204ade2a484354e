-- A database, its feeds and its fronts may be sent to threads and shared between them, whatever names their rows. The terms
-- are written out, one proof for each field.
use denote.RattleType.{RattleType}
use denote.Param.Send.{IsSend, IsSync, plain_send, view_send, view_sync}
use denote.Param.SendFields.{declared_send, declared_sync}
use Rattle.std.proofs.Crossing.{Arc-send, Arc-sync}
use Rattle.std.proofs.option.Option.TheSendSync as option
use Rattle.std.proofs.sync.Mutex.TheSendSync as mutex
use Rattle.txc_stream.proofs.row.EventRow.TheSendSync as row
use Rattle.txc_stream.proofs.row.Front.TheSendSync as front
use Rattle.txc_stream.proofs.cursor.Cursor.TheSendSync as walker
use Rattle.txc_stream.proofs.publisher.Publisher.TheSendSync as poster
use Rattle.txc_stream.specs.contracts.row.EventRow as EventRow
use Rattle.txc_tags.specs.contracts.set.TagSet as TagSet
use Rattle.txc_tags.proofs.set.TagSet.TheSendSync as tag_set
use Rattle.txc_db.specs.declared.naming.Naming.{Ghosts}
use Rattle.txc_db.specs.contracts.event.Event as Event
use Rattle.txc_db.specs.contracts.event.PostedTags as PostedTags
use Rattle.txc_db.specs.contracts.history_front.HistoryFront as HistoryFront
use Rattle.txc_db.specs.contracts.history_front.HistoryFront.TheInside as front_inside
use Rattle.txc_db.specs.contracts.feed.Feed as Feed
use Rattle.txc_db.specs.contracts.feed.Feed.TheInside as feed_inside
use Rattle.txc_db.specs.contracts.locked.Locked as Locked
use Rattle.txc_db.specs.contracts.locked.Locked.TheInside as locked_inside
use Rattle.txc_db.specs.contracts.database.Database as Database
use Rattle.txc_db.proofs.event.Event.TheSendSync as event
use Rattle.txc_db.proofs.history_front.HistoryFront.TheSendSync as history_front
use Rattle.txc_db.proofs.db_core.DbCore.TheSendSync as core

-- ---- events and fronts

pub events_send : IsSend (EventRow.the_row Event.the_row)
events_send = row.the_send Event.the_row event.the_send

pub events_sync : IsSync (EventRow.the_row Event.the_row)
events_sync = row.the_sync Event.the_row event.the_send event.the_sync

pub history_front_send : IsSend HistoryFront.the_row
history_front_send = history_front.the_send

pub history_front_sync : IsSync HistoryFront.the_row
history_front_sync =
    view_sync front_inside.the_row _ _ _ _ (declared_sync front_inside.the_type (option.the_sync _ (Arc-sync (EventRow.the_row Event.the_row) events_send events_sync), (front.the_sync Event.the_row, tt)))

-- ---- what is named

module _ (J : RattleType) (g : Ghosts J.Denot) where
  pub feed_send : IsSend (Feed.the_row J g)
  feed_send = view_send (feed_inside.the_row J g) _ _ _ _ (declared_send (feed_inside.the_type J g) (
    history_front_send,
    (walker.the_send Event.the_row _ (PostedTags.the_row J) _ (option.the_send _ (Arc-send TagSet.the_row tag_set.the_send tag_set.the_sync)) (option.the_sync _ (Arc-sync TagSet.the_row tag_set.the_send tag_set.the_sync)), (plain_send _ _ _ _ _, tt)),
  ))

  locked_send : IsSend (Locked.the_row J g)
  locked_send = view_send (locked_inside.the_row J g) _ _ _ _ (declared_send (locked_inside.the_type J g) (
    core.the_send,
    (poster.the_send Event.the_row _ (PostedTags.the_row J) _ (option.the_send _ (Arc-send TagSet.the_row tag_set.the_send tag_set.the_sync)) (option.the_sync _ (Arc-sync TagSet.the_row tag_set.the_send tag_set.the_sync)), tt),
  ))

  pub database_send : IsSend (Database.the_row J g)
  database_send = declared_send (Database.the_type J g) (history_front_send, (mutex.the_send (Locked.the_row J g) locked_send, tt))

  pub database_sync : IsSync (Database.the_row J g)
  database_sync = declared_sync (Database.the_type J g) (history_front_sync, (mutex.the_sync (Locked.the_row J g) locked_send, tt))
