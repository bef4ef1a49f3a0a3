-- What is kept of a topic, and of two runs, while the documents of many lists are counted.
use Rattle.std.specs.Prelude.{◌≡◌, ℕ, List, length}
use Rattle.desk_model.specs.declared.types.Mark.{Mark}
use Rattle.measure_core.specs.Ranks.{AreRanksIn, AreTopicCounts}
use Rattle.measure_core.specs.declared.list_room.ListRoom.{ListRoom}

-- a rank for each document in either run, and the counts of all documents
pub record IsTopicRoom (marks : List Mark) (room : ListRoom) : Type 0 where
  pub first : length room.first.items ≡ length marks
  pub second : length room.second.items ≡ length marks
  pub all : AreTopicCounts marks room.all

-- those of the first run are its ranks
pub record IsRoomFor (marks : List Mark) (run : List ℕ) (room : ListRoom) : Type 0 where
  pub topic : IsTopicRoom marks room
  pub ranks : AreRanksIn marks run room.first.items
