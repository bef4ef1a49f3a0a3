use Rattle.std.proofs.Common.{◌≡◌, ◌+◌, ℕ, true, length, map, set, get_or, take, ap, sym, ◌∙◌, subst, arith, nat_eq}
use Rattle.std.specs.List.{list_any}
use Rattle.std.proofs.lemmas.List.{length-map, length-set, take_all}
use Rattle.topic_universe.specs.Sorted.{Numbered, IsPlaceOf}
use Rattle.topic_universe.proofs.Placing.{number_of, number_within, number_there, place_step}
use Rattle.topic_universe.proofs.names.places.Goals as goal

pub index_mut-requires : goal.index_mut-requires
index_mut-requires c =
    let pair = c.index-pairs-i.result in
    let within = number_within c.args.pairs.now c.loop-i.i pair c.requires.all c.loop-i-test.true in
    let number : number_of (get_or c.args.pairs.now c.loop-i.i pair) ≡ c.number.result = ap number_of (sym {A = Numbered} c.index-pairs-i.is) ∙ sym c.number.ensures in
    omega (arith, within, number, c.loop-i.invariant.count, c.loop-i.places.ok.0)

pub loop-i-preserved : goal.loop-i-preserved
loop-i-preserved c =
    let pairs = c.args.pairs.now in
    let pair = c.index-pairs-i.result in
    let i = c.loop-i.i in
    let places = c.loop-i.places.items in
    let number : number_of (get_or pairs i pair) ≡ c.number.result = ap number_of (sym {A = Numbered} c.index-pairs-i.is) ∙ sym c.number.ensures in
    record {
      count = length-set _ _ _ ∙ c.loop-i.invariant.count;
      places = subst (λ at. (n : ℕ) → list_any (nat_eq n) (take (i + 1) (map number_of pairs)) ≡ true → IsPlaceOf pairs n (get_or (set places at i) n 0)) number
          (place_step pairs places i pair c.loop-i-test.true c.loop-i.invariant.count (number_within pairs i pair c.requires.all c.loop-i-test.true) c.loop-i.invariant.places);
    }

pub returns-clause-places : goal.returns-clause-places
returns-clause-places c n lt =
    let numbers = map number_of c.args.pairs.now in
    let long = length-map c.args.pairs.now number_of in
    let there : list_any (nat_eq n) (take c.loop-i.i numbers) ≡ true = ap (list_any (nat_eq n)) (take_all c.loop-i.i numbers (omega (arith, long, c.loop-i-test.false))) ∙ number_there (length c.args.pairs.now) n numbers c.requires.all lt in
    c.loop-i.invariant.places n there
