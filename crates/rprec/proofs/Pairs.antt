-- Two runs on a topic, by their sums at the ends of blocks.
use Rattle.std.proofs.Common.{◌≡◌, ℕ, ◌+◌, ◌≤◌, min, List, length, take, sum, arith, ap, ◌∙◌, sym, inl, inr}
use Rattle.std.proofs.lemmas.Bool.{cases_lt}
use Rattle.std.proofs.lemmas.List.{length-take, take_all}
use Rattle.topic_counts.specs.declared.counts.Counts.{Counts}
use Rattle.rprec.specs.declared.pair.RunPair.{RunPair}
use Rattle.rprec.specs.declared.prefixes.Packed.{Packed}
use Rattle.rprec.specs.declared.prefixes.Prefixes.{Prefixes}
use Rattle.rprec.specs.Greedy.{AreFew, own_counts}
use Rattle.rprec.specs.Packed.{pack, packed_of, unpacked_of}
use Rattle.rprec.specs.Sums.{IsPair, counts_of, prefixes, swapped_pair}
use Rattle.rprec.proofs.Choices.{few_are}
use Rattle.rprec.proofs.Counts.{all_few, prefixes_are, unpacked_packed}
use Rattle.rprec.proofs.Steps.{ArePrefixes}

-- the counts of the first run's first documents
abbrev pub first_counts : RunPair → ℕ → Counts
first_counts p depth = counts_of p.marks.now (take depth p.a.now)

-- and of those of the second run
abbrev pub second_counts : RunPair → ℕ → Counts
second_counts p depth = counts_of p.marks.now (take depth p.b.now)

-- how many unjudged ones both have there
abbrev pub shared_count : RunPair → ℕ → ℕ
shared_count p depth = sum (take depth p.shared.now)

-- two numbers
abbrev pub of_numbers : ℕ → ℕ → Packed
of_numbers m n = record { first = m; second = n }

-- ---- the counts at a depth
-- they are as far apart as what each run alone has
pub pair_prefixes : (p : RunPair) (depth : ℕ) → IsPair p → ArePrefixes p.marks.now (take depth p.a.now) (take depth p.b.now) (prefixes p depth)
pair_prefixes p depth h = prefixes_are p.marks.now p.a.now p.b.now depth h.a h.b

-- they are no more than the runs and the topic have
pub pair_few : (p : RunPair) (depth : ℕ) → IsPair p → AreFew (prefixes p depth) p.all
pair_few p depth h = few_are p.marks.now p.a.now p.b.now depth (prefixes p depth) p.all h.a h.b (pair_prefixes p depth h) h.topic h.total

-- they are told by the counts of each run and what both share
pub first_packed : (p : RunPair) (depth : ℕ) → IsPair p → depth ≤ 10000 → pack (prefixes p depth).first + shared_count p depth ≡ pack (first_counts p depth)
first_packed p depth h le = omega (arith, h.shared.first depth le)

-- the same for the second run
pub second_packed : (p : RunPair) (depth : ℕ) → IsPair p → depth ≤ 10000 → pack (prefixes p depth).second + shared_count p depth ≡ pack (second_counts p depth)
second_packed p depth h le = omega (arith, h.shared.second depth le)

-- what is packed is told by it
pub unpacked_pair : (p : RunPair) (depth : ℕ) (packed : Packed) → IsPair p → packed ≡ packed_of (prefixes p depth) → unpacked_of packed ≡ prefixes p depth
unpacked_pair p depth packed h e = let few = pair_few p depth h in ap unpacked_of e ∙ unpacked_packed (prefixes p depth) (omega (arith, few.first)) (omega (arith, few.second))

-- that at the next depth
pub unpacked_next : (p : RunPair) (place : ℕ) (packed : Packed) (f : Prefixes) → IsPair p → packed ≡ packed_of (prefixes p (p.all.relevant + place + 1)) → f ≡ unpacked_of packed → f ≡ prefixes p (p.all.relevant + (place + 1))
unpacked_next p place packed f h e ef = ef ∙ unpacked_pair p (p.all.relevant + place + 1) packed h e ∙ ap (prefixes p) (omega arith)

-- counts that are no more than a run has
pub first_few : (p : RunPair) (depth : ℕ) → IsPair p → (first_counts p depth).relevant + (first_counts p depth).unjudged ≤ 10000
first_few p depth h = omega (arith, all_few p.marks.now (take depth p.a.now), length-take {A = ℕ} depth p.a.now, h.a.short)

-- and those of the second run
pub second_few : (p : RunPair) (depth : ℕ) → IsPair p → (second_counts p depth).relevant + (second_counts p depth).unjudged ≤ 10000
second_few p depth h = omega (arith, all_few p.marks.now (take depth p.b.now), length-take {A = ℕ} depth p.b.now, h.b.short)

-- beyond the longer run they stay as they are
pub beyond_longest : (p : RunPair) (depth : ℕ) → IsPair p → prefixes p (min depth p.longest) ≡ prefixes p depth
beyond_longest p depth h = ap (λ (xs : List ℕ). of_lists xs (take (min depth p.longest) p.b.now)) (same p.a.now h.first_short) ∙ ap (of_lists (take depth p.a.now)) (same p.b.now h.second_short)
  where
    of_lists : List ℕ → List ℕ → Prefixes
    of_lists xs ys = record { first = own_counts p.marks.now xs ys; second = own_counts p.marks.now ys xs }

    same : (docs : List ℕ) → length docs ≤ p.longest → take (min depth p.longest) docs ≡ take depth docs
    same docs short = elim (cases_lt depth p.longest) [
      | inl lt ↦ let e : min depth p.longest ≡ depth = omega (arith, lt) in ap (λ (k : ℕ). take k docs) e
      | inr le ↦ take_all (min depth p.longest) docs (omega (arith, short, le)) ∙ sym (take_all depth docs (omega (arith, short, le)))
    ]

-- ---- swapped runs
-- what is told of two runs is told of the swapped ones
pub pair_swapped : (p : RunPair) → IsPair p → IsPair (swapped_pair p)
pair_swapped p h = record {
  a = h.b;
  b = h.a;
  first = h.second;
  second = h.first;
  shared = record { first = h.shared.second; second = h.shared.first };
  both = h.both;
  places = h.places;
  blocks = h.blocks;
  first_short = h.second_short;
  second_short = h.first_short;
  some = h.some;
  few = h.few;
  topic = h.topic;
  total = h.total;
}
