use Rattle.std.proofs.Common.{[], map, subst, sym, ap}
use Rattle.std.specs.Prelude.{IfOk, IsPermutation}
use Rattle.std.specs.List.Sorted.{IsStrictlySortedBy}
use Rattle.std.proofs.lemmas.List.Sorted.{IsPermutation-refl}
use Rattle.file_rows.specs.Grouped.{Valued}
use Rattle.topic_universe.specs.Entry.{row_of}
use Rattle.topic_universe.specs.Order.{IsTrecOrder}
use Rattle.topic_universe.proofs.ranked.ranking.Goals as goal

pub returns-in-None : goal.returns-in-None
unfolding IsStrictlySortedBy
returns-in-None c = record {
  ranked = [];
  once = subst (λ rows. IsPermutation rows []) (sym c.in-None.ensures.rows) (IsPermutation-refl []);
  ordered = tt;
  are_names = ap (λ es. map (λ (row : Valued). row.document) (map row_of es)) c.new.ensures.items;
}

pub returns-in-Some : goal.returns-in-Some
returns-in-Some c = subst (λ rows. IfOk c.of.result (λ names. IsTrecOrder rows names)) c.in-Some.ensures.rows c.of.ensures
