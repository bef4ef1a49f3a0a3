use Rattle.std.proofs.Common.{◌≡◌, ℕ, ◌+◌, refl, arith, ap, ◌∙◌, sym, subst}
use Rattle.rprec.specs.declared.greedy.DepthCandidate.{DepthCandidate}
use Rattle.rprec.specs.declared.pair.RunPair.{RunPair}
use Rattle.rprec.specs.declared.prefixes.Prefixes.{Prefixes}
use Rattle.rprec.specs.Greedy.{AreFew, AreGains, best_beyond, candidate}
use Rattle.rprec.specs.Sums.{IsPair, choice_at, prefixes, steps_of}
use Rattle.rprec.proofs.Pairs.{pair_few, pair_prefixes}
use Rattle.rprec.proofs.Tails.{AreNext, IsBest, best_alone, best_found, beyond_is_least, choice_gains, settled}
use Rattle.rprec.proofs.pair.RunPair.least_from.Goals as goal

pub best_beyond-requires-clause-few : goal.best_beyond-requires-clause-few
best_beyond-requires-clause-few c = let p = c.args.self.now in subst (λ (f : Prefixes). AreFew f p.all) (sym c.requires.end) (pair_few p (p.all.relevant + steps_of p) c.args.self.now.is)

-- the choices at the depths beyond the number of documents judged relevant
next_choices : (p : RunPair) → IsPair p → AreNext p.marks.now p.a.now p.b.now p.all.relevant 0 (steps_of p) (choice_at p)
next_choices p h = record {
  gains = λ place lt.
      choice_gains p.marks.now p.a.now p.b.now (p.all.relevant + (place + 1)) (place + 1) (prefixes p (p.all.relevant + (place + 1))) p.all (choice_at p place) h.a h.b (pair_prefixes p (p.all.relevant + (place + 1)) h) h.topic refl (omega (arith, lt)) refl;
  count = λ place lt. omega arith;
}

pub returns : goal.returns
returns c =
    let p = c.args.self.now in
    let h = c.args.self.now.is in
    let marks = p.marks.now in
    let a = p.a.now in
    let b = p.b.now in
    let j = p.all.relevant in
    let judged = candidate (prefixes p j) p.all 0 in
    let gains : AreGains marks a b judged = choice_gains marks a b j 0 (prefixes p j) p.all judged h.a h.b (pair_prefixes p j h) h.topic (omega arith) (omega arith) refl in
    let alone : IsBest marks a b j 0 judged = best_alone marks a b j judged gains (omega arith) in
    let found : IsBest marks a b j (0 + steps_of p) c.args.best.candidate = best_found marks a b j 0 (steps_of p) (choice_at p) judged c.args.best.candidate alone (next_choices p h) c.requires.best in
    let best : IsBest marks a b j (steps_of p) c.args.best.candidate = subst (λ (k : ℕ). IsBest marks a b j k c.args.best.candidate) (omega arith) found in
    let end = prefixes p (j + steps_of p) in
    let after : c.best_beyond.result.candidate ≡ best_beyond end p.all (steps_of p) c.args.best.candidate =
    c.best_beyond.ensures ∙ ap (λ (f : Prefixes). best_beyond f p.all c.steps.result c.args.best.candidate) c.requires.end ∙ ap (λ (k : ℕ). best_beyond end p.all k c.args.best.candidate) c.steps.ensures in
    let still = settled marks a b p.all end (steps_of p) p.longest h.topic h.first_short h.second_short h.some refl (pair_prefixes p (j + steps_of p) h) in
    beyond_is_least marks a b p.all end (steps_of p) c.args.best.candidate c.best_beyond.result.candidate h.a h.b h.topic (omega arith) still best after
