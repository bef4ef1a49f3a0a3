-- Names of topics, documents and runs.
use Rattle.std.specs.Prelude.{ℕ, Bool, not, ◌&&◌, nat_le, nat_eq, List, length, Option}
use Rattle.std.specs.List.{list_all, position_from}
use Rattle.std.specs.Ordering.{nat_cmp}
use Rattle.std.specs.Cmp.Lexicographic.{slice_cmp, pointwise}
use Rattle.std.specs.List.Sorted.{IsStrictlySortedBy}
use Rattle.std.specs.declared.cmp.Ordering.{Ordering}

-- a byte that may stand in a field
abbrev pub is_field_byte : ℕ → Bool
is_field_byte b = nat_le 33 b && not (nat_eq b 127)

-- 1 to 255 bytes that may stand in a field
abbrev pub is_name : List ℕ → Bool
is_name bytes = nat_le 1 (length bytes) && (nat_le (length bytes) 255 && list_all is_field_byte bytes)

-- names are compared as lists of unsigned bytes, and a proper prefix is the smaller
abbrev pub name_cmp : List ℕ → List ℕ → Ordering
name_cmp = slice_cmp nat_cmp

-- each name is smaller than those after it
abbrev pub AreAscending : List (List ℕ) → Type 0
AreAscending names = IsStrictlySortedBy name_cmp names

-- whether two names are one
abbrev pub is_same_name : List ℕ → List ℕ → Bool
is_same_name = pointwise nat_eq

-- the number of a name in a list, from 0
abbrev pub number_of : List (List ℕ) → List ℕ → Option ℕ
number_of names name = position_from (λ each. is_same_name each name) 0 names
