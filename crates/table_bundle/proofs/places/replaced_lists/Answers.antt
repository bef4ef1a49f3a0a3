use Rattle.std.proofs.Common.{◌≡◌, ℕ, ◌<◌, ◌≤◌, List, [], ◌∷◌, ◌++◌, length, get_or, map, take, ap, ap₂, sym, ◌∙◌, arith}
use Rattle.std.specs.List.{zip}
use Rattle.std.proofs.lemmas.List.{get_or_default, map-append, take_all}
use Rattle.std.proofs.lemmas.Option.{slice_get-get_or}
use Rattle.std.proofs.lemmas.Slice.Zip.{length-zip}
use Rattle.small_lemmas.proofs.Lists.{slice_get-zip}
use Rattle.desk_model.proofs.Nested.{take-there}
use Rattle.order_bundle.specs.declared.bundle.Picks.{Picks}
use Rattle.table_bundle.specs.Drafts.{replaced_list, replaced_picks}
use Rattle.table_bundle.proofs.places.replaced_lists.Goals as goal

abbrev lists : List ℕ → List ℕ → Picks
lists low high = record { low = low; high = high }

pub loop-topic-preserved : goal.loop-topic-preserved
loop-topic-preserved c =
    let picks : List Picks = c.args.picks.now in
    let places : List (List ℕ) = c.args.places.now in
    let t = c.loop-topic.topic in
    let p : Picks = get_or picks t (lists [] []) in
    let q : List ℕ = get_or places t [] in
    let in_picks : t < length picks = omega (arith, c.loop-topic-test.true, c.min-topics.ensures) in
    let in_places : t < length places = omega (arith, c.loop-topic-test.true, c.min-topics.ensures) in
    let there = slice_get-zip picks places t p q (slice_get-get_or picks t (lists [] []) in_picks) (slice_get-get_or places t [] in_places) in
    let low : c.in_ok-low.low ≡ replaced_list q p.low =
    c.in_ok-low.ensures ∙ ap₂ replaced_list (c.index-places-topic.is ∙ get_or_default places t _ [] in_places) (c.as_slice.ensures ∙ ap (λ (x : Picks). x.low) (get_or_default picks t c.index-picks-topic.result (lists [] []) in_picks)) in
    let high : c.in_ok-high.high ≡ replaced_list q p.high =
    c.in_ok-high.ensures
    ∙ ap₂ replaced_list (c.index-places-topic-in-loop-topic.is ∙ get_or_default places t _ [] in_places) (c.as_slice-in-loop-topic.ensures ∙ ap (λ (x : Picks). x.high) (get_or_default picks t c.index-picks-topic-in-loop-topic.result (lists [] []) in_picks)) in
    record {
      made = c.in_ok-push.ensures.items ∙ ap₂ (λ (l : List Picks) (x : Picks). l ++ x ∷ []) c.loop-topic.invariant.made (ap₂ lists low high)
          ∙ sym (map-append replaced_picks (take t (zip picks places)) ((p, q) ∷ [])) ∙ sym (ap (map replaced_picks) (take-there (zip picks places) t (p, q) there));
    }

pub returns : goal.returns
returns c =
    let picks = c.args.picks.now in
    let places = c.args.places.now in
    let end : length (zip picks places) ≤ c.loop-topic.topic = omega (arith, c.loop-topic-test.false, c.min-topics.ensures, length-zip picks places) in
    c.new.ensures ∙ c.loop-topic.invariant.made ∙ ap (map replaced_picks) (take_all c.loop-topic.topic (zip picks places) end)
