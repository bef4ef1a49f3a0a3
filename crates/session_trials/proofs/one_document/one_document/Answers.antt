use Rattle.std.proofs.Common.{◌≡◌, [], ◌∷◌, None, List, ℕ, ap, map, sym, subst, ◌∙◌}
use Rattle.desk_model.specs.Book.{Book}
use Rattle.desk_model.specs.Desk.{IsDesk}
use Rattle.desk_model.specs.Ranking.{IsRanking}
use Rattle.session_trials.proofs.OneDocument.{no_ranks, one_book, one_desk}
use Rattle.session_trials.proofs.one_document.one_document.Goals as goal

pub new-requires-5 : goal.new-requires-5
new-requires-5 c = subst (IsRanking 1) (sym c.new-4.ensures.items) (no_ranks 1)

pub new-requires-6 : goal.new-requires-6
new-requires-6 c =
    let book : Book = record { name = c.in_ok-name.name; docs = c.in_ok-doc.doc ∷ []; grades = None ∷ [] } in
    let run = c.in_ok-run.run' in
    let one : c.in_ok-rankings.rankings.items ≡ [] ∷ [] =
    c.in_ok-rankings.ensures.items ∙ ap (λ (docs : List ℕ). docs ∷ []) (c.in_ok-ranking.ensures ∙ c.new-4.ensures.items) in
    let all : map (λ each. each.items) c.in_ok-all.all.items ≡ ([] ∷ []) ∷ [] =
    ap (map (λ each. each.items)) c.in_ok-all.ensures.items ∙ ap (λ (docs : List (List ℕ)). docs ∷ []) one in
    subst (λ (topics : List Book). IsDesk (record { topics = topics; runs = c.in_ok-runs.runs.items; rankings = map (λ each. each.items) c.in_ok-all.all.items })) (sym c.in_ok-topics.ensures)
    (subst (λ (runs : List (List ℕ)). IsDesk (record { topics = book ∷ []; runs = runs; rankings = map (λ each. each.items) c.in_ok-all.all.items })) (sym c.in_ok-runs.ensures.items)
    (subst (λ (rankings : List (List (List ℕ))). IsDesk (record { topics = book ∷ []; runs = run ∷ []; rankings = rankings })) (sym all)
    (one_desk book run (one_book c.in_ok-name.name c.in_ok-doc.doc c.in_ok-name.ensures.named c.in_ok-doc.ensures.named) c.in_ok-run.ensures.named)))
