-- Marks of grades, names and their order.
use Rattle.std.proofs.Common.{◌≡◌, ℕ, true, false, List, [], ◌∷◌, replicate, refl, Some, None, pos, negsuc, true≢false, sym, ap, ◌∙◌}
use Rattle.std.specs.Prelude.{codes}
use Rattle.std.specs.Str.{bytes_eq}
use Rattle.std.specs.List.Sorted.{IsStrictlySortedBy}
use Rattle.std.specs.declared.cmp.Ordering.TheVariants.{Less, Equal, Greater}
use Rattle.desk_model.specs.Mark.{mark_of, mark_at}
use Rattle.desk_model.specs.Name.{name_cmp, is_name, is_same_name, number_of, AreAscending}
use Rattle.desk_model.specs.declared.types.Mark.TheVariants.{Unjudged, Relevant, Other}

-- ---- grades at level 2: 2, 1, 0, -1 and none
pub grade_at_the_level : mark_of (Some (pos 2)) 2 ≡ Relevant
grade_at_the_level = refl

pub grade_below_the_level : mark_of (Some (pos 1)) 2 ≡ Other
grade_below_the_level = refl

pub grade_zero : mark_of (Some (pos 0)) 2 ≡ Other
grade_zero = refl

pub negative_grade : mark_of (Some (negsuc 0)) 2 ≡ Unjudged
negative_grade = refl

pub no_grade : mark_of None 2 ≡ Unjudged
no_grade = refl

-- at the usual level 1 a grade of 1 is enough
pub grade_one_at_level_one : mark_of (Some (pos 1)) 1 ≡ Relevant
grade_one_at_level_one = refl

-- ---- marks of documents by number: of three, and of none
pub mark_of_the_third : mark_at (Relevant ∷ Other ∷ Unjudged ∷ []) 1 ≡ Other
mark_of_the_third = refl

pub mark_of_the_first : mark_at (Relevant ∷ Other ∷ Unjudged ∷ []) 0 ≡ Relevant
mark_of_the_first = refl

pub mark_outside_an_empty_universe : mark_at [] 0 ≡ Unjudged
mark_outside_an_empty_universe = refl

-- ---- names: 1 to 255 bytes above 0x20 and not 0x7F
pub usual_name : is_name (codes "d1") ≡ true
usual_name = refl

pub empty_name : is_name (codes "") ≡ false
empty_name = refl

pub longest_name : is_name (replicate 255 100) ≡ true
longest_name = refl

pub name_too_long : is_name (replicate 256 100) ≡ false
name_too_long = refl

pub name_with_a_space : is_name (codes "d 1") ≡ false
name_with_a_space = refl

pub name_with_a_delete_byte : is_name (100 ∷ 127 ∷ []) ≡ false
name_with_a_delete_byte = refl

pub name_of_an_exclamation_mark_and_a_high_byte : is_name (33 ∷ 200 ∷ []) ≡ true
name_of_an_exclamation_mark_and_a_high_byte = refl

-- ---- the order of names: d1 < d10 < d2
pub prefix_before_the_longer : name_cmp (codes "d1") (codes "d10") ≡ Less
prefix_before_the_longer = refl

pub digits_are_no_number : name_cmp (codes "d10") (codes "d2") ≡ Less
digits_are_no_number = refl

pub same_name : name_cmp (codes "d10") (codes "d10") ≡ Equal
same_name = refl

pub greater_name : name_cmp (codes "d2") (codes "d10") ≡ Greater
greater_name = refl

pub empty_text_before_all : name_cmp [] (codes "d") ≡ Less
empty_text_before_all = refl

-- bytes are unsigned: 200 comes after z
pub high_byte_after_letters : name_cmp (200 ∷ []) (codes "z") ≡ Greater
high_byte_after_letters = refl

pub one_name_is_itself : is_same_name (codes "401") (codes "401") ≡ true
one_name_is_itself = refl

pub leading_zero_is_another_name : is_same_name (codes "401") (codes "0401") ≡ false
leading_zero_is_another_name = refl

pub number_of_a_name : number_of (codes "d1" ∷ codes "d10" ∷ codes "d2" ∷ []) (codes "d2") ≡ Some 2
number_of_a_name = refl

pub number_of_another_name : number_of (codes "d1" ∷ []) (codes "d2") ≡ None
number_of_another_name = refl

-- texts that a test tells apart are different
pub different : (x y : List ℕ) → bytes_eq x x ≡ true → bytes_eq y x ≡ false → x ≡ y → ⊥
different x y itself other e = true≢false (sym itself ∙ ap (λ text. bytes_eq text x) e ∙ other)

-- ---- lists of names that ascend
pub no_names_ascend : AreAscending []
unfolding IsStrictlySortedBy
no_names_ascend = tt

pub names_that_ascend : AreAscending (codes "d1" ∷ codes "d10" ∷ codes "d2" ∷ [])
unfolding IsStrictlySortedBy
names_that_ascend = ((refl, (refl, tt)), ((refl, tt), (tt, tt)))

-- a name that comes twice does not ascend
pub repeated_name : AreAscending (codes "d1" ∷ codes "d1" ∷ []) → ⊥
unfolding IsStrictlySortedBy
repeated_name h = let e = h.0.0 in absurd (cc)
