-- What the crates above may cite.

-- ---- lists

-- items and owners by their places, and what holds of all items
pub use Rattle.audit.proofs.broker.Lawful.{all_from_get, all_get, get_map, map_get}
pub use Rattle.audit.proofs.broker.Ledger.{all_on, push_get}
-- ---- one history

-- histories that go on, and the entry of a call in one of them
pub use Rattle.audit.proofs.broker.Growth.{Longer, IsWhole, IsSized, longer_self, longer_on, event_of, entered_events, entered_followers, entered_longer, entered_whole, entered_length, before_kept, at_kept, put_batches, looked_state, looked_moment}
-- what every account shows of it whose part of that number goes on from there
pub use Rattle.audit.proofs.broker.Entries.{ShowsEntry, shows_entry, event_owner, is_entry, ShowsStep, part_shows}
-- ---- all histories

-- decisions that ask only logs that are there, and what they leave
pub use Rattle.audit.proofs.broker.Entries.{IsWithin, IsFairOutcome, IsFair, AllWhole, Follows, the_owner, accepted_longer, accepted_size, accepted_followers, ShowsAccepted, accepted_shows, set_whole, set_same}
-- what is decided of a request is such
pub use Rattle.audit.proofs.broker.Fair.{parts_size, followers_size, part_within, produce_fair, fetch_fair, decides_fair}
-- what holds in every account that goes on
pub use Rattle.audit.proofs.broker.Going.{AllLonger, HaveGrown, GoesOn, Carried, all_longer_self, all_longer_on, set_longer, grown_self, grown_parts, grown_clock, goes_back, carried_on, clock_point, clock_looked, clock_moment}
-- the histories of the configuration, as decisions are carried out and the clock is looked at
pub use Rattle.audit.proofs.broker.Acts.{histories_on, ticks_looked}
pub use Rattle.audit.proofs.broker.Playing.{ticks_rise}
-- what an account shows of histories that its parts are read off
pub use Rattle.audit.proofs.broker.Lawful.{flat_points, followers_map, last_shown, owned_here, whole_logs}
-- who left the entries, as one more comes, or all of a request
pub use Rattle.audit.proofs.broker.Ledger.{IsKept, put, put_same, put_other, HasNobodysMore, kept_grown, kept_entry, kept_begun, kept_alike}
pub use Rattle.audit.proofs.broker.Accepting.{owners_clock, owners_part, kept_part, kept_look, kept_accepted, accepted_within, look_decisions, look_points, looked, looks_points, looks_parts, looks_fair, looks_states, shown_in, shown_alike, looks_look, looks_shown}
-- what a pass's entries have to do with the clock: entry by entry, and as histories and the clock go on by others' entries, by those of
-- its calls at the clock's moment, by a look, a tick, or leaves at a moment that was told
pub use Rattle.audit.proofs.broker.Timely.{AreSeen, FollowsBelow, IsTimelyEvent, NewEvents, entry_timely, event_on, events_of_part, events_there, follows_below, moment_before, moment_grows, moment_told, none_later, others_timely, owner_there, rows_seen, set_new, tick_stays, tick_told, ticks_append, timely_begun, timely_clock, timely_event, timely_events, timely_more, timely_others, timely_rows, timely_shrunk, told_stays, was_there}
pub use Rattle.audit.proofs.broker.NewEntries.{IsLeft, LeavesOnly, accepted_new, accepted_timely, looks_timely}
-- whoever was taken out lagged then, as histories go on
pub use Rattle.audit.proofs.broker.Late.{AllLate, TakesNobody, entry_takes, late_more}
-- all who lagged left
pub use Rattle.audit.proofs.broker.Playing.{shrunk_longer, shrunk_new, shrunk_whole}
-- ---- calls

-- accepted and answered at once, waiting, satisfied and expired
pub use Rattle.audit.proofs.broker.Calls.{acceptance, completes, done_at_once, waits_on, left_on, done_satisfied, done_expired}
-- ---- boards

-- what holds of a waiting call holds on, and at first nobody left an entry
pub use Rattle.audit.proofs.broker.Boards.{waiting_on}
pub use Rattle.audit.proofs.broker.Playing.{nobodys}
-- what holds of a board stays as one session changes
pub use Rattle.audit.proofs.broker.Boards.{AreSound, IsSound, session_on, sound_alike, seat_changed, waits_more, waits_else, waits_no_more, waits_still, none_waits, find_is, finished}
-- each step keeps it: a line, a waiting request that is asked, a scan, and what a session does
pub use Rattle.audit.proofs.broker.Boards.{waits_last, waits_there}
pub use Rattle.audit.proofs.broker.Acts.{handled_sound, ended_sound}
pub use Rattle.audit.proofs.broker.Answering.{completed_sound}
pub use Rattle.audit.proofs.broker.Playing.{opening_sound, brought_sound, answered_sound, scanned_sound, acts_sound}
-- a scan changes no state, and asks every session
pub use Rattle.audit.proofs.broker.Resting.{IsUnmoved, unmoved_answerable, scanned_still}
-- its account is lawful where nothing that waits is answerable
pub use Rattle.audit.proofs.broker.Lawful.{Still, account_goes, board_lawful}
-- how much is left to do on a board, and whose turn it is
pub use Rattle.audit.proofs.broker.Work.{AreSeats, IsOpen, work_of, work_on, seats_set, inbox_bytes, opening_seats, scanned_as_much, scanned_seats, acts_less, acts_seats, open_work, its_turn}
-- ---- plays

-- lines that are played, one more at a time
pub use Rattle.audit.proofs.broker.LineByLine.{plays_keep, plays_on}
-- lines play to something, and to one thing at most
pub use Rattle.audit.proofs.broker.PlaySome.{lines_play, input_bytes, trace_plays}
pub use Rattle.audit.proofs.broker.PlayOnce.{play_is_one, front_of_play}
-- the topics of a trace, and what its play is
pub use Rattle.audit.proofs.broker.RunOfLines.{trace_declared, play_is_run}
-- a board between two lines is sound and at rest, and its account is lawful
pub use Rattle.audit.proofs.broker.Resting.{IsSettled, opening_settled, rests_settled, plays_settled, settled_rests, play_rests, play_is_lawful}
