-- How a topic keeps the names of its documents.
use Rattle.std.specs.Prelude.{ℕ, List}
use Rattle.desk_model.specs.declared.document_names.KeptNames.{KeptNames}
use Rattle.desk_model.specs.declared.document_names.KeptNames.TheVariants.{Each, InBlocks}

-- the names, each in room of its own or all in blocks
abbrev pub kept_names : KeptNames → List (List ℕ)
kept_names (Each names) = names.items
kept_names (InBlocks names) = names
