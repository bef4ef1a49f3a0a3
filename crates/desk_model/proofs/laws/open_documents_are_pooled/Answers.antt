use Rattle.desk_model.proofs.Closing.{open-pooled}
use Rattle.desk_model.proofs.laws.open_documents_are_pooled.Goals as goal

pub returns : goal.returns
returns c = open-pooled
