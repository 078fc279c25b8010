-- `room_for`: each need by its law.
use borrow.Author.Rules.{rules}
use Rattle.room.proofs.Rooms.{rooms}
use Rattle.room.proofs.room_for.Goals as goal

pub overflow_sub-t : goal.overflow_sub-t
overflow_sub-t c = search (rules, rooms)

pub returns : goal.returns
returns c = search (rules, rooms)
