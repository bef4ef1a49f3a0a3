-- Refusals and stops of the program, as the definitions have them.
use Rattle.std.specs.Prelude.{Result, Ok, Err}
use Rattle.desk_files.specs.declared.stop.Refusal.{Refusal as KeptRefusal}
use Rattle.desk_files.specs.declared.stop.Refusal.TheVariants as kept
use Rattle.desk_files.specs.declared.stop.Stop.{Stop as KeptStop}
use Rattle.desk_files.specs.declared.stop.Stop.TheVariants as kept_stops
use Rattle.desk_files.specs.Files.{Refusal, FileTooLong, Line, NoTopics, NoTag, BadLine, SameName, TooManyCells, SheetLine, TooManyEntries, UnknownTopic, UnknownDocument, Stop, Outside, Memory, Refused}

abbrev pub refusal_of : KeptRefusal → Refusal
refusal_of (kept.FileTooLong path) = FileTooLong path.now
refusal_of (kept.Line path line fault) = Line path.now line fault
refusal_of (kept.NoTopics path) = NoTopics path.now
refusal_of (kept.NoTag path) = NoTag path.now
refusal_of (kept.BadLine path line) = BadLine path.now line
refusal_of (kept.SameName name) = SameName name.items
refusal_of (kept.TooManyCells cells) = TooManyCells cells
refusal_of (kept.SheetLine path line fault) = SheetLine path.now line fault
refusal_of (kept.TooManyEntries path) = TooManyEntries path.now
refusal_of (kept.UnknownTopic path topic) = UnknownTopic path.now topic.items
refusal_of (kept.UnknownDocument path topic document) = UnknownDocument path.now topic.items document.items

abbrev pub stop_of : KeptStop → Stop
stop_of (kept_stops.Refused refusal) = Refused (refusal_of refusal)
stop_of kept_stops.Outside = Outside
stop_of kept_stops.Memory = Memory

abbrev pub answer_of : {X : Type 0} → Result X KeptStop → Result X Stop
answer_of (Ok x) = Ok x
answer_of (Err stop) = Err (stop_of stop)
