use Rattle.std.proofs.Common.{◌≤◌, ℕ, ◌+◌, List, [], Option, Some, length, slice_index_or, refl, subst, ◌∙◌, arith}
use Rattle.std.proofs.lemmas.List.{drop_all}
use Rattle.desk_model.specs.Placed.{lookup}
use Rattle.desk_model.specs.declared.placed.Placed.{Placed}
use Rattle.measure_core.proofs.Walking.{AreBalanced, only_head, no_head, IsLeft-none, doc_within, rank_is_within, rank_some, balanced_start, placed_step, placed_room, balanced_last}
use Rattle.measure_core.proofs.by_ranks.shift_rest.Goals as goal

abbrev nowhere : Placed
nowhere = record { doc = 0; rank = 0 }

pub loop-place-init : goal.loop-place-init
loop-place-init g c =
    let worth = g.W.RankWorth.worth c.args.ranks.now in
    balanced_start (λ (x _ : Option ℕ). worth x) (g.met.W.RankWorth.absent c.args.ranks.now) c.args.shift (λ (doc : ℕ). worth (lookup c.args.places.now doc)) c.args.totals.now c.args.places.now [] (λ doc. refl)

pub worth_at-requires : goal.worth_at-requires
worth_at-requires g c = omega (arith, rank_is_within (length c.args.totals.now) c.loop-place.place-index c.args.places.now nowhere c.requires.places c.loop-place-test.true)

pub apply-requires : goal.apply-requires
apply-requires g c =
    let n = length c.args.totals.now in
    let places = c.args.places.now in
    let i = c.loop-place.place-index in
    let worth = g.W.RankWorth.worth c.args.ranks.now in
    let place = slice_index_or places i nowhere in
    placed_room (λ (x _ : Option ℕ). worth x) (g.met.W.RankWorth.absent c.args.ranks.now) c.args.shift (λ (doc : ℕ). worth (lookup places doc)) c.args.totals.now places [] c.loop-place.totals n place.doc i 0 (i + 1) 0 c.from.result (Some place.rank) _
    c.loop-place.invariant c.requires.room c.requires.places (IsLeft-none n) (only_head i places nowhere c.loop-place-test.true) (no_head place.doc) (doc_within n i places nowhere c.requires.places c.loop-place-test.true)
    (c.from.ensures ∙ c.worth_at.ensures ∙ rank_some worth place.rank (rank_is_within n i places nowhere c.requires.places c.loop-place-test.true))

pub loop-place-preserved : goal.loop-place-preserved
loop-place-preserved g c =
    let n = length c.args.totals.now in
    let places = c.args.places.now in
    let i = c.loop-place.place-index in
    let worth = g.W.RankWorth.worth c.args.ranks.now in
    let place = slice_index_or places i nowhere in
    placed_step (λ (x _ : Option ℕ). worth x) (g.met.W.RankWorth.absent c.args.ranks.now) c.args.shift (λ (doc : ℕ). worth (lookup places doc)) c.args.totals.now places [] c.loop-place.totals n place.doc i 0 (i + 1) 0 c.from.result c.apply.result (Some place.rank) _
    c.loop-place.invariant c.requires.places (IsLeft-none n) (only_head i places nowhere c.loop-place-test.true) (no_head place.doc) (doc_within n i places nowhere c.requires.places c.loop-place-test.true)
    (c.from.ensures ∙ c.worth_at.ensures ∙ rank_some worth place.rank (rank_is_within n i places nowhere c.requires.places c.loop-place-test.true)) c.apply.ensures

pub returns : goal.returns
returns g c =
    let places = c.args.places.now in
    let i = c.loop-place.place-index in
    let worth = g.W.RankWorth.worth c.args.ranks.now in
    let end : length places ≤ i = omega (arith, c.loop-place-test.false) in
    balanced_last (λ (x _ : Option ℕ). worth x) (g.met.W.RankWorth.absent c.args.ranks.now) c.args.shift (λ (doc : ℕ). worth (lookup places doc)) c.args.totals.now c.loop-place.totals
    (subst (λ (zs : List Placed). AreBalanced (λ (x _ : Option ℕ). worth x) (g.met.W.RankWorth.absent c.args.ranks.now) c.args.shift (λ (doc : ℕ). worth (lookup places doc)) c.args.totals.now zs [] c.loop-place.totals) (drop_all i places end) c.loop-place.invariant)
