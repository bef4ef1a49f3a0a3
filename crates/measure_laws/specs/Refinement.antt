-- Refined marks: more documents are judged than before, and nothing else changed.
use Rattle.std.specs.Prelude.{◌≡◌, ℕ, List}
use Rattle.std.specs.List.{AllZip}
use Rattle.desk_model.specs.Order.{Topic}
use Rattle.desk_model.specs.declared.types.Mark.{Mark}
use Rattle.desk_model.specs.declared.types.Mark.TheVariants.{Unjudged, Relevant, Other}

-- the mark of a document after more judging: any where it was unjudged, and else the same
abbrev pub MayBecome : Mark → Mark → Type 0
MayBecome Unjudged later = Unit {0}
MayBecome Relevant later = later ≡ Relevant
MayBecome Other later = later ≡ Other

-- the marks of a topic's documents before and after more judging
abbrev pub AreRefinedBy : List Mark → List Mark → Type 0
AreRefinedBy marks later = AllZip MayBecome marks later

-- a topic before and after: its marks are refined, and its rankings are the same
pub record IsRefinedBy (topic later : Topic) : Type 0 where
  pub marks : AreRefinedBy topic.marks later.marks
  pub rankings : (run : ℕ) → later.ranking run ≡ topic.ranking run

abbrev pub AreTopicsRefinedBy : List Topic → List Topic → Type 0
AreTopicsRefinedBy topics later = AllZip IsRefinedBy topics later
