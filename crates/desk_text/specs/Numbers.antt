-- Numbers in digits.
use Rattle.std.specs.Prelude.{ℕ, ◌+◌, ◌-◌, ◌*◌, Bool, ◌&&◌, ◌||◌, not, nat_lt, nat_le, ◌==◌, List, [], ◌∷◌, length, drop, slice_index, if◌then◌else◌, Option, Some, None, ℤ, pos, neg_ℤ, int_le}
use Rattle.std.specs.Str.{all_ascii_digits}

-- the number that digits say, after the number so far
abbrev pub read_on : ℕ → List ℕ → ℕ
read_on n [] = n
read_on n (c ∷ cs) = read_on (10 * n + (c - 48)) cs

-- one or more digits
abbrev pub is_digits : List ℕ → Bool
is_digits t = all_ascii_digits t && nat_lt 0 (length t)

-- digits with no leading zero
abbrev pub is_plain : List ℕ → Bool
is_plain t = is_digits t && (not (slice_index t 0 == 48) || length t == 1)

-- the number that a text is, if it is one in digits with no sign and no leading zero, and is no greater than the most
abbrev pub plain_of : ℕ → List ℕ → Option ℕ
plain_of most t = if is_plain t && nat_le (read_on 0 t) most then Some (read_on 0 t) else None

-- a minus sign stands first
abbrev pub is_negative : List ℕ → Bool
is_negative t = slice_index t 0 == 45

-- a plus sign or a minus sign stands first
abbrev pub is_signed : List ℕ → Bool
is_signed t = slice_index t 0 == 43 || is_negative t

-- a text without its sign
abbrev pub after_sign : List ℕ → List ℕ
after_sign t = if is_signed t then drop 1 t else t

-- a number with a sign before it
abbrev pub with_sign : Bool → ℕ → ℤ
with_sign negative n = if negative then neg_ℤ (pos n) else pos n

-- the number that a sign and digits say
abbrev pub signed_value : List ℕ → ℤ
signed_value t = with_sign (is_negative t) (read_on 0 (after_sign t))

-- the number that a text is, if it is an optional sign and digits, and lies from the least to the most
abbrev pub whole_of : ℤ → ℤ → List ℕ → Option ℤ
whole_of least most t =
    if is_digits (after_sign t) && (int_le least (signed_value t) && int_le (signed_value t) most) then Some (signed_value t) else None
