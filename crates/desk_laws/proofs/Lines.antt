-- Lines and fields of a text, and numbers in digits.
use Rattle.std.proofs.Common.{◌≡◌, true, false, [], ◌∷◌, ◌++◌, replicate, refl, Some, None, pos, negsuc, neg_ℤ}
use Rattle.std.specs.Prelude.{codes}
use Rattle.desk_text.specs.Lines.{lines, is_separator, is_bad, is_blank, fields_of}
use Rattle.desk_text.specs.Numbers.{plain_of, whole_of}

-- ---- lines: `a b`, line feed, line feed, `c`
pub three_lines : lines (codes "a b" ++ 10 ∷ 10 ∷ codes "c") ≡ codes "a b" ∷ [] ∷ codes "c" ∷ []
three_lines = refl

-- nothing is left after the last line feed
pub line_that_is_ended : lines (97 ∷ 10 ∷ []) ≡ codes "a" ∷ []
line_that_is_ended = refl

pub line_feed_alone : lines (10 ∷ []) ≡ [] ∷ []
line_feed_alone = refl

pub no_line_of_an_empty_text : lines [] ≡ []
no_line_of_an_empty_text = refl

-- a carriage return ends no line
pub carriage_return_in_a_line : lines (97 ∷ 13 ∷ 98 ∷ []) ≡ (97 ∷ 13 ∷ 98 ∷ []) ∷ []
carriage_return_in_a_line = refl

-- ---- separators and bad bytes: tab is 9, line feed 10, carriage return 13, space 32
pub space_separates : is_separator 32 ≡ true
space_separates = refl

pub tab_separates : is_separator 9 ≡ true
tab_separates = refl

pub line_feed_is_no_separator : is_separator 10 ≡ false
line_feed_is_no_separator = refl

pub null_is_bad : is_bad 0 ≡ true
null_is_bad = refl

pub vertical_tab_is_bad : is_bad 11 ≡ true
vertical_tab_is_bad = refl

pub delete_is_bad : is_bad 127 ≡ true
delete_is_bad = refl

pub carriage_return_is_not_bad : is_bad 13 ≡ false
carriage_return_is_not_bad = refl

pub exclamation_mark_is_not_bad : is_bad 33 ≡ false
exclamation_mark_is_not_bad = refl

pub high_byte_is_not_bad : is_bad 255 ≡ false
high_byte_is_not_bad = refl

-- ---- fields: `401  0<tab>d1 1`
pub four_fields : fields_of (codes "401  0" ++ 9 ∷ codes "d1 1") ≡ codes "401" ∷ codes "0" ∷ codes "d1" ∷ codes "1" ∷ []
four_fields = refl

pub separators_at_both_ends : fields_of (32 ∷ 9 ∷ 97 ∷ 13 ∷ []) ≡ codes "a" ∷ []
separators_at_both_ends = refl

pub no_field_of_separators : fields_of (32 ∷ 9 ∷ 13 ∷ []) ≡ []
no_field_of_separators = refl

pub no_field_of_an_empty_line : fields_of [] ≡ []
no_field_of_an_empty_line = refl

-- ---- blank lines
pub separators_are_blank : is_blank (32 ∷ 9 ∷ 13 ∷ []) ≡ true
separators_are_blank = refl

pub empty_line_is_blank : is_blank [] ≡ true
empty_line_is_blank = refl

pub line_with_a_letter_is_not_blank : is_blank (32 ∷ 97 ∷ []) ≡ false
line_with_a_letter_is_not_blank = refl

pub longest_blank_line : is_blank (replicate 4096 32) ≡ true
longest_blank_line = refl

pub line_too_long_to_be_blank : is_blank (replicate 4097 32) ≡ false
line_too_long_to_be_blank = refl

-- ---- whole numbers: a sign and leading zeros are allowed
pub plus_and_leading_zeros : whole_of (neg_ℤ (pos 1000)) (pos 1000) (codes "+007") ≡ Some (pos 7)
plus_and_leading_zeros = refl

pub minus_three : whole_of (neg_ℤ (pos 1000)) (pos 1000) (codes "-3") ≡ Some (negsuc 2)
minus_three = refl

pub minus_zero : whole_of (neg_ℤ (pos 1000)) (pos 1000) (codes "-0") ≡ Some (pos 0)
minus_zero = refl

pub least_grade : whole_of (neg_ℤ (pos 1000)) (pos 1000) (codes "-1000") ≡ Some (neg_ℤ (pos 1000))
least_grade = refl

pub grade_beyond_the_limit : whole_of (neg_ℤ (pos 1000)) (pos 1000) (codes "1001") ≡ None
grade_beyond_the_limit = refl

pub sign_without_digits : whole_of (neg_ℤ (pos 1000)) (pos 1000) (codes "+") ≡ None
sign_without_digits = refl

pub two_signs : whole_of (neg_ℤ (pos 1000)) (pos 1000) (codes "+-1") ≡ None
two_signs = refl

pub point_in_a_whole_number : whole_of (neg_ℤ (pos 1000)) (pos 1000) (codes "1.0") ≡ None
point_in_a_whole_number = refl

pub no_whole_number_of_an_empty_text : whole_of (neg_ℤ (pos 1000)) (pos 1000) [] ≡ None
no_whole_number_of_an_empty_text = refl

-- ---- plain numbers
pub plain_seven : plain_of 1000 (codes "7") ≡ Some 7
plain_seven = refl

pub plain_zero : plain_of 1000 (codes "0") ≡ Some 0
plain_zero = refl

pub leading_zeros_are_not_plain : plain_of 1000 (codes "007") ≡ None
leading_zeros_are_not_plain = refl

pub sign_is_not_plain : plain_of 1000 (codes "+7") ≡ None
sign_is_not_plain = refl

pub plain_number_beyond_the_most : plain_of 1000 (codes "1001") ≡ None
plain_number_beyond_the_most = refl

pub no_plain_number_of_an_empty_text : plain_of 1000 [] ≡ None
no_plain_number_of_an_empty_text = refl
