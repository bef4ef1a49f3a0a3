-- Texts of scores, and their values in units of ten to the power of -999.
use Rattle.std.proofs.Common.{◌≡◌, ℕ, ◌*◌, ◌^◌, true, false, List, [], refl, pos, negsuc, neg_ℤ, arith, inl, inr, lit<, lit≤}
use Rattle.std.proofs.lemmas.Int.{ints}
use Rattle.std.specs.Prelude.{codes, ◌<ℤ◌, Ok, Err}
use Rattle.desk_text.specs.Text.{IsScoreText, ScoreParts}
use Rattle.desk_text.specs.Value.{StandsForDigits, scaled, ReadsAs}
use Rattle.desk_text.specs.Reading.{score_of}
use Rattle.desk_text.specs.declared.score.ScoreFault.TheVariants.{BadScore, ScoreTooLong, ScoreExponent}
use Rattle.desk_text.proofs.Answer.{reads_as-score_of}

-- the parts of a text with no sign and no exponent
abbrev plain_parts : List ℕ → List ℕ → ScoreParts
plain_parts whole fraction = record { is_negative = false; whole = whole; fraction = fraction; exponent = pos 0 }

-- ---- digits on one side of the point are enough
pub point_before_the_digits : IsScoreText (codes ".5")
point_before_the_digits = (
  plain_parts [] (codes "5"),
  record {
    sign = [];
    mantissa = codes ".5";
    power = [];
    joined = refl;
    is_sign = inl refl;
    is_mantissa = inl refl;
    is_exponent = inr (refl, refl);
    whole_digits = tt;
    fraction_digits = (lit< tt, tt);
    some_digit = lit< tt;
  },
)

pub point_after_the_digits : IsScoreText (codes "+5.")
point_after_the_digits = (
  plain_parts (codes "5") [],
  record {
    sign = codes "+";
    mantissa = codes "5.";
    power = [];
    joined = refl;
    is_sign = inr refl;
    is_mantissa = inl refl;
    is_exponent = inr (refl, refl);
    whole_digits = (lit< tt, tt);
    fraction_digits = tt;
    some_digit = lit< tt;
  },
)

-- ---- 1.0, 1.00, 1 and 10e-1 are 1 * 10^0
pub one : StandsForDigits (codes "1") false 1 (pos 0)
one = record {
  parts = plain_parts (codes "1") [];
  zeros = 0;
  written = record {
    sign = [];
    mantissa = codes "1";
    power = [];
    joined = refl;
    is_sign = inl refl;
    is_mantissa = inr (refl, refl);
    is_exponent = inr (refl, refl);
    whole_digits = (lit< tt, tt);
    fraction_digits = tt;
    some_digit = lit< tt;
  };
  sign = refl;
  number = refl;
  last = λ e. absurd (omega arith);
  point = refl;
}

pub one_with_two_zeros : StandsForDigits (codes "1.00") false 1 (pos 0)
one_with_two_zeros = record {
  parts = plain_parts (codes "1") (codes "00");
  zeros = 2;
  written = record {
    sign = [];
    mantissa = codes "1.00";
    power = [];
    joined = refl;
    is_sign = inl refl;
    is_mantissa = inl refl;
    is_exponent = inr (refl, refl);
    whole_digits = (lit< tt, tt);
    fraction_digits = (lit< tt, (lit< tt, tt));
    some_digit = lit< tt;
  };
  sign = refl;
  number = refl;
  last = λ e. absurd (omega arith);
  point = refl;
}

pub ten_tenths : StandsForDigits (codes "10e-1") false 1 (pos 0)
ten_tenths = record {
  parts = record { is_negative = false; whole = codes "10"; fraction = []; exponent = negsuc 0 };
  zeros = 1;
  written = record {
    sign = [];
    mantissa = codes "10";
    power = codes "e-1";
    joined = refl;
    is_sign = inl refl;
    is_mantissa = inr (refl, refl);
    is_exponent = inl (record {
      is_negative = true;
      letter = codes "e";
      sign = codes "-";
      digits = codes "1";
      joined = refl;
      is_letter = inl refl;
      is_sign = refl;
      all_digits = (lit< tt, tt);
      some_digit = lit< tt;
      value = refl;
    });
    whole_digits = (lit< tt, (lit< tt, tt));
    fraction_digits = tt;
    some_digit = lit< tt;
  };
  sign = refl;
  number = refl;
  last = λ e. absurd (omega arith);
  point = refl;
}

pub value_of_one : ReadsAs (codes "1") (Ok (pos (10 ^ 999)))
value_of_one = inr (record { is_negative = false; digits = 1; place = pos 0; stands = one; short = lit< tt; near = (omega (arith, ints), omega (arith, ints)); is_value = refl })

pub value_of_one_with_two_zeros : ReadsAs (codes "1.00") (Ok (pos (10 ^ 999)))
value_of_one_with_two_zeros = inr (record { is_negative = false; digits = 1; place = pos 0; stands = one_with_two_zeros; short = lit< tt; near = (omega (arith, ints), omega (arith, ints)); is_value = refl })

pub value_of_ten_tenths : ReadsAs (codes "10e-1") (Ok (pos (10 ^ 999)))
value_of_ten_tenths = inr (record { is_negative = false; digits = 1; place = pos 0; stands = ten_tenths; short = lit< tt; near = (omega (arith, ints), omega (arith, ints)); is_value = refl })

-- ---- values: digits * 10^(place + 999) with the sign
pub value_of_minus_a_half : scaled true 5 (negsuc 0) ≡ neg_ℤ (pos (5 * 10 ^ 998))
value_of_minus_a_half = refl

pub least_positive_value : scaled false 1 (neg_ℤ (pos 999)) ≡ pos 1
least_positive_value = refl

pub value_at_the_greatest_place : scaled false 7 (pos 999) ≡ pos (7 * 10 ^ 1998)
value_at_the_greatest_place = refl

-- 0.30000000000000000001 is greater than 0.3
pub digits_beyond_a_floating_point_number : scaled false 3 (negsuc 0) <ℤ scaled false 30000000000000000001 (neg_ℤ (pos 20))
digits_beyond_a_floating_point_number = omega (arith, ints)

-- ---- zero, whatever its sign and exponent
pub minus_zero : ReadsAs (codes "-0") (Ok (pos 0))
minus_zero = inl (
  (
    record { is_negative = true; whole = codes "0"; fraction = []; exponent = pos 0 },
    record {
      sign = codes "-";
      mantissa = codes "0";
      power = [];
      joined = refl;
      is_sign = refl;
      is_mantissa = inr (refl, refl);
      is_exponent = inr (refl, refl);
      whole_digits = (lit< tt, tt);
      fraction_digits = tt;
      some_digit = lit< tt;
    },
    refl,
  ),
  refl,
)

pub zero_with_a_large_exponent : ReadsAs (codes "0e99999") (Ok (pos 0))
zero_with_a_large_exponent = inl (
  (
    record { is_negative = false; whole = codes "0"; fraction = []; exponent = pos 99999 },
    record {
      sign = [];
      mantissa = codes "0";
      power = codes "e99999";
      joined = refl;
      is_sign = inl refl;
      is_mantissa = inr (refl, refl);
      is_exponent = inl (record {
        is_negative = false;
        letter = codes "e";
        sign = [];
        digits = codes "99999";
        joined = refl;
        is_letter = inl refl;
        is_sign = inl refl;
        all_digits = (lit< tt, (lit< tt, (lit< tt, (lit< tt, (lit< tt, tt)))));
        some_digit = lit< tt;
        value = refl;
      });
      whole_digits = (lit< tt, tt);
      fraction_digits = tt;
      some_digit = lit< tt;
    },
    refl,
  ),
  refl,
)

-- ---- faults
pub infinity_is_no_score : ReadsAs (codes "inf") (Err BadScore)
unfolding score_of
infinity_is_no_score = reads_as-score_of (codes "inf")

pub empty_text_is_no_score : ReadsAs [] (Err BadScore)
unfolding score_of
empty_text_is_no_score = reads_as-score_of []

pub point_without_digits : ReadsAs (codes ".") (Err BadScore)
unfolding score_of
point_without_digits = reads_as-score_of (codes ".")

pub exponent_without_digits : ReadsAs (codes "1e") (Err BadScore)
unfolding score_of
exponent_without_digits = reads_as-score_of (codes "1e")

pub two_points : ReadsAs (codes "1.2.3") (Err BadScore)
unfolding score_of
two_points = reads_as-score_of (codes "1.2.3")

-- a 1 with 29 zeros and a 1 after it
pub thirty_one_digits : ReadsAs (codes "1000000000000000000000000000001") (Err ScoreTooLong)
thirty_one_digits = (
  false,
  (
    1000000000000000000000000000001,
    (
      pos 0,
      (
        record {
          parts = plain_parts (codes "1000000000000000000000000000001") [];
          zeros = 0;
          written = record {
            sign = [];
            mantissa = codes "1000000000000000000000000000001";
            power = [];
            joined = refl;
            is_sign = inl refl;
            is_mantissa = inr (refl, refl);
            is_exponent = inr (refl, refl);
            whole_digits = (lit< tt, (lit< tt, (lit< tt, (lit< tt, (lit< tt, (lit< tt, (lit< tt, (lit< tt, (lit< tt, (lit< tt, (lit< tt, (lit< tt, (lit< tt, (lit< tt, (lit< tt, (lit< tt, (lit< tt, (lit< tt, (lit< tt, (lit< tt, (lit< tt, (lit< tt, (lit< tt, (lit< tt, (lit< tt, (lit< tt, (lit< tt, (lit< tt, (lit< tt, (lit< tt, (lit< tt, tt)))))))))))))))))))))))))))))));
            fraction_digits = tt;
            some_digit = lit< tt;
          };
          sign = refl;
          number = refl;
          last = λ e. absurd (omega arith);
          point = refl;
        },
        lit≤ tt,
      ),
    ),
  ),
)

-- 1 * 10^1000
pub exponent_of_a_thousand : ReadsAs (codes "1e1000") (Err ScoreExponent)
exponent_of_a_thousand = (
  false,
  (
    1,
    (
      pos 1000,
      (
        record {
          parts = record { is_negative = false; whole = codes "1"; fraction = []; exponent = pos 1000 };
          zeros = 0;
          written = record {
            sign = [];
            mantissa = codes "1";
            power = codes "e1000";
            joined = refl;
            is_sign = inl refl;
            is_mantissa = inr (refl, refl);
            is_exponent = inl (record {
              is_negative = false;
              letter = codes "e";
              sign = [];
              digits = codes "1000";
              joined = refl;
              is_letter = inl refl;
              is_sign = inl refl;
              all_digits = (lit< tt, (lit< tt, (lit< tt, (lit< tt, tt))));
              some_digit = lit< tt;
              value = refl;
            });
            whole_digits = (lit< tt, tt);
            fraction_digits = tt;
            some_digit = lit< tt;
          };
          sign = refl;
          number = refl;
          last = λ e. absurd (omega arith);
          point = refl;
        },
        lit< tt,
        λ near. let e = near.1 in absurd (omega (arith, ints)),
      ),
    ),
  ),
)
