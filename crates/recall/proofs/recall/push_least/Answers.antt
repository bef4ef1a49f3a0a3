use Rattle.std.proofs.Common.{◌≡◌, ◌++◌, ◌+◌, ◌<◌, ℕ, Bool, true, false, ◌&&◌, ◌||◌, nat_lt, List, length, take, refl, ap, ap₂, sym, ◌∙◌, arith}
use Rattle.std.proofs.Math.Seq.{take-append-add}
use Rattle.std.proofs.lemmas.List.{append-nil, length-append}
use Rattle.std.proofs.lemmas.Result.{IfOk-weaker}
use Rattle.desk_model.specs.Completion.{with_picked}
use Rattle.desk_model.specs.Mark.{is_unjudged, mark_at}
use Rattle.desk_model.specs.Score.{true_among}
use Rattle.desk_model.specs.declared.types.Mark.{Mark}
use Rattle.measure_laws.specs.Cases.{picked_where, recall_pick}
use Rattle.measure_laws.specs.Classes.{open_in, is_among_first}
use Rattle.measure_laws.specs.Prefixes.{only_second, neutral}
use Rattle.measure_core.specs.Lists.{added_documents}
use Rattle.marked_lists.specs.More.{own_and_more}
use Rattle.marked_lists.specs.declared.more_lists.More.{More}
use Rattle.measure_core.proofs.Pushing.{among_all, among_none, picked_same}
use Rattle.recall.proofs.Leading.{own_listed}
use Rattle.recall.proofs.recall.push_least.Goals as goal

-- all that both or neither have
all_others : (marks : List Mark) (a b : List ℕ) (k doc : ℕ) (more : More) → more.both ≡ length marks → more.first ≡ 0 → doc < length marks → is_unjudged (mark_at marks doc) ≡ true →
    own_and_more k more marks a b doc ≡ picked_where true k a b doc
all_others marks a b k doc more eb ef lt unjudged =
    let s = only_second k a b doc in
    let n = length marks in
    ap (λ m. s || (is_among_first m (open_in marks (neutral k a b)) doc || is_among_first more.first (open_in marks (only_second k b a)) doc)) eb
    ∙ ap (λ m. s || (is_among_first n (open_in marks (neutral k a b)) doc || is_among_first m (open_in marks (only_second k b a)) doc)) ef
    ∙ ap (λ t. s || (is_among_first n (open_in marks (neutral k a b)) doc || t)) (among_none (open_in marks (only_second k b a)) doc) ∙ ap (λ t. s || (t || false)) (among_all (open_in marks (neutral k a b)) n doc lt)
    ∙ ap (λ u. s || ((u && neutral k a b doc) || false)) unjudged ∙ ap (λ t. s || t) (none_more (neutral k a b doc))
  where
    none_more : (t : Bool) → (t || false) ≡ t
    none_more true = refl
    none_more false = refl

no_others : (k : ℕ) (a b : List ℕ) (doc : ℕ) → only_second k a b doc ≡ picked_where false k a b doc
no_others k a b doc = sym (none_more (only_second k a b doc))
  where
    none_more : (t : Bool) → (t || false) ≡ t
    none_more true = refl
    none_more false = refl

pub leads-requires-clause-own : goal.leads-requires-clause-own
leads-requires-clause-own c =
    let marks = c.args.marks.now in
    let before = c.args.docs.now.items in
    let own = added_documents marks (with_picked marks (only_second c.args.k c.args.a.now c.args.b.now)) in
    let long : length c.push_own_marked.new.docs.items ≡ length before + length own = ap (λ (l : List ℕ). length l) c.in_ok-push_own_marked.ensures ∙ length-append before own in
    omega (arith, long, c.len.ensures, c.len-start.ensures, own_listed c.args.k marks c.args.a.now c.args.b.now)

pub returns-then-leads : goal.returns-then-leads
returns-then-leads c =
    let marks = c.args.marks.now in
    let k = c.args.k in
    let a = c.args.a.now in
    let b = c.args.b.now in
    let more : More = record { both = length marks; first = 0 } in
    let before = c.args.docs.now.items in
    let now = c.push_own_and_more.new.docs.items in
    let own = added_documents marks (with_picked marks (only_second k a b)) in
    let start : c.len-start.result ≡ length before + 0 = omega (arith, c.len-start.ensures) in
    let cut : c.truncate.new.self.items ≡ before =
    c.truncate.ensures.items ∙ ap₂ (λ (m : ℕ) (l : List ℕ). take m l) start c.in_ok-push_own_marked.ensures ∙ take-append-add before own 0 ∙ append-nil before in
    let leads : true ≡ nat_lt (true_among (with_picked marks (only_second k a b)) k b) (true_among (with_picked marks (only_second k a b)) k a) = sym c.if-leads.true ∙ c.leads.ensures in
    let same : added_documents marks (with_picked marks (own_and_more k more marks a b)) ≡ added_documents marks (with_picked marks (recall_pick k marks a b)) =
    picked_same marks (own_and_more k more marks a b) (recall_pick k marks a b) (λ doc lt unjudged. all_others marks a b k doc more refl refl lt unjudged ∙ ap (λ t. picked_where t k a b doc) leads) in
    IfOk-weaker c.push_own_and_more.result (λ _. now ≡ c.truncate.new.self.items ++ added_documents marks (with_picked marks (own_and_more k more marks a b))) (λ _. now ≡ before ++ added_documents marks (with_picked marks (recall_pick k marks a b)))
    (λ _ is. is ∙ ap₂ (λ (l ds : List ℕ). l ++ ds) cut same) c.push_own_and_more.ensures

pub returns : goal.returns
returns c =
    let marks = c.args.marks.now in
    let k = c.args.k in
    let a = c.args.a.now in
    let b = c.args.b.now in
    let before = c.args.docs.now.items in
    let leads : false ≡ nat_lt (true_among (with_picked marks (only_second k a b)) k b) (true_among (with_picked marks (only_second k a b)) k a) = sym c.if-leads.false ∙ c.leads.ensures in
    let same : added_documents marks (with_picked marks (only_second k a b)) ≡ added_documents marks (with_picked marks (recall_pick k marks a b)) =
    picked_same marks (only_second k a b) (recall_pick k marks a b) (λ doc lt unjudged. no_others k a b doc ∙ ap (λ t. picked_where t k a b doc) leads) in
    c.in_ok-push_own_marked.ensures ∙ ap (λ ds. before ++ ds) same
