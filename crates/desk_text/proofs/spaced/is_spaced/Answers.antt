use Rattle.std.proofs.Common.{◌-◌, arith, length}
use Rattle.std.proofs.lemmas.Bool.{eqb-true, eq-eqb}
use Rattle.desk_text.proofs.FieldBits.{spaced_good, all_spaced}
use Rattle.desk_text.proofs.spaced.is_spaced.Goals as goal

pub returns : goal.returns
returns c = (
  λ none. record {
    least = omega arith;
    most = omega arith;
    each = spaced_good c.args.line.now (length c.args.line.now - 16) c.min.result c.min-2.result c.others.result c.others-2.result c.others-3.result c.others-4.result
        (omega arith) (omega arith) (omega (arith, c.min.ensures)) (omega (arith, c.min-2.ensures)) c.others.ensures.bits c.others-2.ensures.bits c.others-3.ensures.bits c.others-4.ensures.bits (eqb-true _ _ none);
  },
  λ h. eq-eqb _ _ (all_spaced c.args.line.now (length c.args.line.now - 16) c.min.result c.min-2.result c.others.result c.others-2.result c.others-3.result c.others-4.result
      (omega arith) (omega (arith, c.min.ensures)) (omega (arith, c.min-2.ensures)) h (c.others.ensures.few, c.others-2.ensures.few, c.others-3.ensures.few, c.others-4.ensures.few)
      c.others.ensures.bits c.others-2.ensures.bits c.others-3.ensures.bits c.others-4.ensures.bits),
)
