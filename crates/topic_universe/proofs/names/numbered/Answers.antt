use Rattle.std.proofs.Common.{◌≡◌, List, ℕ, ◌+◌, map, ap, ap₂, sym, ◌∙◌, ◌++◌, ◌∷◌, [], arith}
use Rattle.std.specs.List.{range_with_len}
use Rattle.std.proofs.lemmas.List.{map-append, map-id}
use Rattle.std.proofs.lemmas.List.FromFn.{map-range_with_len_more}
use Rattle.desk_model.proofs.Nested.{take-there}
use Rattle.topic_universe.proofs.Placing.{name_of, number_of}
use Rattle.topic_universe.proofs.names.numbered.Goals as goal

one_more : (i : ℕ) → range_with_len 0 (i + 1) ≡ range_with_len 0 i ++ i ∷ []
one_more i = sym (map-id (range_with_len 0 (i + 1))) ∙ map-range_with_len_more (λ k. k) 0 i i (omega arith) ∙ ap (λ ks. ks ++ i ∷ []) (map-id (range_with_len 0 i))

pub loop-i-preserved : goal.loop-i-preserved
loop-i-preserved c =
    let i = c.loop-i.i in
    let pairs = c.loop-i.pairs.items in
    let item = c.new.result in
    let pushed = c.in_ok-push.ensures.items in
    record {
      names = ap (map name_of) pushed ∙ map-append name_of pairs (item ∷ []) ∙ ap₂ (λ (ns : List (List ℕ)) (n : List ℕ). ns ++ n ∷ []) c.loop-i.invariant.names c.new.ensures.name ∙ sym (take-there c.args.names.now i c.get.result.now c.get.ensures);
      numbers = ap (map number_of) pushed ∙ map-append number_of pairs (item ∷ []) ∙ ap₂ (λ (ns : List ℕ) (n : ℕ). ns ++ n ∷ []) c.loop-i.invariant.numbers c.new.ensures.number ∙ sym (one_more i);
    }
