use Rattle.desk_model.proofs.Decimals.{unique}
use Rattle.desk_model.proofs.measure_text.measure_of_text_is_unique.Goals as goal

pub returns : goal.returns
returns c = unique
