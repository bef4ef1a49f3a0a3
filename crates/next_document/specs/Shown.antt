-- How runs stand, by what the code holds of it.
use Rattle.std.specs.Prelude.{List, [], slice_index_or}
use Rattle.desk_model.specs.declared.types.Mark.{Mark}
use Rattle.desk_model.specs.declared.types.MeasureName.{MeasureName}
use Rattle.next_document.specs.Proposal as told
use Rattle.next_document.specs.declared.standing.Standing.{Standing}
use Rattle.next_document.specs.declared.standing.TopicStanding.{TopicStanding}

-- the measure's name, the desk, the marks and the verdicts
abbrev pub shown : {M : Type 0} → (M → MeasureName) → Standing M → told.Standing
shown measured s = record { measure = measured s.measure.now; desk = s.on.desk.now; marks = s.on.marks.now; verdicts = s.verdicts.now }

-- the same of what one topic is held with
abbrev pub shown_at : {M : Type 0} → (M → MeasureName) → TopicStanding M → told.Standing
shown_at measured topic = shown measured topic.standing

-- the marks of the topic
abbrev pub marks_at : {M : Type 0} → TopicStanding M → List Mark
marks_at topic = slice_index_or topic.standing.on.marks.now topic.number []
