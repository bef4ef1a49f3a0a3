-- Names that are the same.
use Rattle.std.proofs.Common.{◌≡◌, ℕ, List, true, sym}
use Rattle.std.specs.Cmp.{IsEquivalence}
use Rattle.std.specs.Cmp.Lexicographic.{same_text}
use Rattle.std.proofs.lemmas.Cmp.{nat_list_eq_equiv}
use Rattle.desk_model.specs.Name.{is_same_name}

pub laws : IsEquivalence is_same_name
laws = nat_list_eq_equiv

pub same : (a b : List ℕ) → is_same_name a b ≡ true → a ≡ b
same a b e = same_text a b (sym e)

pub self_same : (a : List ℕ) → is_same_name a a ≡ true
self_same a = laws.refl a
