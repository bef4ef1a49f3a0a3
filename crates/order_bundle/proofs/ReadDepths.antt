-- What follows the level is read with the line of a depth, where one may come and is there.
use Rattle.std.proofs.Common.{◌≡◌, ℕ, Bool, true, false, List, ap, subst}
use Rattle.std.specs.Prelude.{Option, Some, None, Result}
use Rattle.desk_model.specs.declared.types.MeasureName.{MeasureName}
use Rattle.line_forms.specs.declared.lines.FormFault.{FormFault}
use Rattle.line_forms.specs.Reading.{IsReading, Left}
use Rattle.line_forms.proofs.OrLine.{line_reads, other_reads}
use Rattle.order_bundle.specs.Depths.{IsDepth, IsDepthTaken, depth_line}
use Rattle.order_bundle.specs.Places.{after_depth, after_level}
use Rattle.order_bundle.specs.declared.any_certificate.Version.{Version}
use Rattle.order_bundle.specs.declared.scoped.Scoped.{Scoped}
use Rattle.order_bundle.proofs.Either.{after_level_plain, asks_line}

module _ (v : Version) (measure : MeasureName) (level : ℕ) (old mid left : Left) (r : Result Scoped FormFault) where
  -- where nothing was taken
  untaken : mid ≡ old → IsReading (after_depth v measure level None) mid.rest r left → IsReading (after_depth v measure level None) old.rest r left
  untaken same h = subst (λ (l : Left). IsReading (after_depth v measure level None) l.rest r left) same h

  pub level_reads : (depths : Bool) (depth : Option ℕ) → IsDepthTaken depths old depth mid → IsReading (after_depth v measure level depth) mid.rest r left → IsReading (after_level depths v measure level) old.rest r left
  level_reads false None same h = untaken same h
  level_reads false (Some d) never h = absurd never
  level_reads true None taken h = other_reads depth_line IsDepth (λ d. after_depth v measure level (Some d)) (after_depth v measure level None) old.rest left r taken.0 (untaken taken.1 h)
  level_reads true (Some d) taken h =
      line_reads depth_line IsDepth (λ d. after_depth v measure level (Some d)) (after_depth v measure level None) old.rest mid.rest d left r (asks_line v measure level) (after_level_plain true v measure level) taken.0 taken.1 h
