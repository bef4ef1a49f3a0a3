-- What a command takes.
use Rattle.std.specs.Prelude.{◌≡◌, ◌==◌, ◌&&◌, ℕ, Bool, true, false, not, List, [], ◌∷◌, ◌++◌}
use Rattle.std.specs.List.{list_all, list_any}
use Rattle.std.specs.Str.{bytes_eq}
use Rattle.clap.specs.Words.{Text}

-- options that must be given, options that may be, flags that may be, what the other words are called, and how few and how many of them there are
pub record Takes : Type 0 where
  pub needed : List Text
  pub optional : List Text
  pub flags : List Text
  pub other : Text
  pub least : ℕ
  pub most : ℕ

-- the options, which have a value; a flag has none
abbrev pub options : Takes → List Text
options t = t.needed ++ t.optional

-- a long name can stand after `--`: it has bytes, and no `=` (61) among them
abbrev pub is_long_name : Text → Bool
is_long_name [] = false
is_long_name (b ∷ bs) = not (list_any (λ x. x == 61) (b ∷ bs))

abbrev pub are_distinct : List Text → Bool
are_distinct [] = true
are_distinct (name ∷ names) = list_all (λ other. not (bytes_eq name other)) names && are_distinct names

-- each option and each flag has a long name of its own, which is not what the other words are called
abbrev pub is_sound : Takes → Bool
is_sound t = list_all is_long_name (options t ++ t.flags) && are_distinct (t.other ∷ (options t ++ t.flags))

abbrev pub IsSound : Takes → Type 0
IsSound t = is_sound t ≡ true
