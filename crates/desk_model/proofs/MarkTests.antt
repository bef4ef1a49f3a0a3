-- What a test of a mark says.
use Rattle.std.proofs.Common.{◌≡◌, true, refl}
use Rattle.desk_model.specs.Mark.{is_unjudged}
use Rattle.desk_model.specs.declared.types.Mark.{Mark}
use Rattle.desk_model.specs.declared.types.Mark.TheVariants.{Unjudged, Relevant, Other}

pub unjudged_is : (m : Mark) → is_unjudged m ≡ true → m ≡ Unjudged
unjudged_is Unjudged h = refl
unjudged_is Relevant h = absurd (cc)
unjudged_is Other h = absurd (cc)
