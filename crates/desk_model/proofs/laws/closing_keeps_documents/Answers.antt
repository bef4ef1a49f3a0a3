use Rattle.desk_model.proofs.Closing.{length-closed, docs-closed, marks-closed}
use Rattle.desk_model.proofs.laws.closing_keeps_documents.Goals as goal

pub returns-clause-topics : goal.returns-clause-topics
returns-clause-topics c = length-closed

pub returns-clause-docs : goal.returns-clause-docs
returns-clause-docs c = docs-closed

pub returns-clause-marks : goal.returns-clause-marks
returns-clause-marks c = marks-closed
