use Rattle.std.proofs.Common.{length, ltb, subst, sym, IsTrue, rules}
use Rattle.desk_text.specs.Text.{HasParts}
use Rattle.std.specs.Char.{IsAsciiDigit}
use Rattle.std.proofs.lemmas.List.Elements.{recursion_from_All}
use Rattle.desk_text.specs.Spelling.{AreDigitParts}
use Rattle.desk_text.proofs.Spellings.{digits_from_all, digit_text_by_steps, spelled_from_digits, cut_from_spelled}
use Rattle.desk_text.proofs.spelling.spelling_of.Goals as goal

pub returns-then-not-are_parts-clause-none : goal.returns-then-not-are_parts-clause-none
returns-then-not-are_parts-clause-none c spelled =
    let steps = digit_text_by_steps c.args.text.now _ _ _ _ _ _ _ _ (record {
      is_negative = c.cut_sign-is_negative.ensures.negative;
      is_unsigned = c.cut_sign-is_negative.ensures.rest;
      is_mantissa = c.cut_at.ensures.prefix;
      is_power = c.cut_at.ensures.rest;
      is_whole = c.cut_at-2.ensures.prefix;
      is_fraction = c.cut_at-2.ensures.rest;
      is_negative_exponent = c.cut_sign-has_negative_exponent.ensures.negative;
      is_exponent = c.cut_sign-has_negative_exponent.ensures.rest;
    }) in
    let yes : IsTrue c.are_parts.result = c.are_parts.ensures.1 (steps.0.1 (cut_from_spelled _ spelled.0 spelled.1).digits) in
    cc

pub returns-clause-some : goal.returns-clause-some
returns-clause-some c =
    let steps = digit_text_by_steps c.args.text.now _ _ _ _ _ _ _ _ (record {
      is_negative = c.cut_sign-is_negative.ensures.negative;
      is_unsigned = c.cut_sign-is_negative.ensures.rest;
      is_mantissa = c.cut_at.ensures.prefix;
      is_power = c.cut_at.ensures.rest;
      is_whole = c.cut_at-2.ensures.prefix;
      is_fraction = c.cut_at-2.ensures.rest;
      is_negative_exponent = c.cut_sign-has_negative_exponent.ensures.negative;
      is_exponent = c.cut_sign-has_negative_exponent.ensures.rest;
    }) in
    subst (HasParts c.args.text.now) (sym steps.1) (spelled_from_digits _ (steps.0.0 (c.are_parts.ensures.0 (search rules))))

pub returns-clause-exponent : goal.returns-clause-exponent
returns-clause-exponent c =
    let are : AreDigitParts c.cut_at-2.result.0.now c.cut_at-2.result.1.now c.cut_sign-has_negative_exponent.result.1.now (ltb (length c.cut_at.result.0.now) (length c.cut_sign-is_negative.result.1.now)) = c.are_parts.ensures.0 (search rules) in
    digits_from_all _ (recursion_from_All IsAsciiDigit _ are.2)
