use Rattle.std.proofs.Common.{◌≡◌, ℕ, List, [], ◌∷◌, ◌++◌, to_z, of_z, arith, ◌∙◌, append_assoc}
use Rattle.std.specs.Int.{w128}
use Rattle.std.proofs.lemmas.Int.{ints}
use Rattle.std.proofs.lemmas.Result.{on_ok_weaker}
use Rattle.std.specs.Prelude.{codes}
use Rattle.desk_model.specs.Verdict.{verdict}
use Rattle.desk_report.specs.Means.{ends_text}
use Rattle.desk_report.specs.Table.{ended, word_of}
use Rattle.desk_report.proofs.Joins.{four}
use Rattle.desk_report.proofs.table.push_pair.Goals as goal

regroup : (o first word second ends all : List ℕ) → all ≡ o ++ ((codes "pair " ++ first ++ 32 ∷ word ++ 32 ∷ second) ++ ((32 ∷ []) ++ (ends ++ (10 ∷ [])))) →
    all ≡ o ++ ended (codes "pair " ++ first ++ 32 ∷ word ++ 32 ∷ second ++ 32 ∷ ends)
regroup o first word second ends all e = e ∙ simp append_assoc

pub returns : goal.returns
returns c =
    let lo : to_z w128 (of_z w128 c.args.totals.now.least_lo) ≡ c.args.totals.now.least_lo = omega (arith, ints, c.requires.0) in
    let hi : to_z w128 (of_z w128 c.args.totals.now.most_hi) ≡ c.args.totals.now.most_hi = omega (arith, ints, c.requires.1) in
    let ends = rw (lo, hi) at c.in_ok-push_ends.ensures in
    let names = rw (c.word.ensures, c.verdict_of.ensures) at c.in_ok-push_names.ensures in
    let word = word_of (verdict c.args.totals.now) in
    on_ok_weaker c.push_line_feed.result (λ (e : c.push_line_feed.new.out.items ≡ c.push_ends.new.out.items ++ 10 ∷ []).
    regroup c.args.out.now.items c.args.first.now word c.args.second.now (ends_text c.args.parts.number c.args.totals.now.least_lo c.args.totals.now.most_hi) _
    (four _ _ _ _ _ _ _ _ _ names c.in_ok-extend_from_slice.ensures.items ends e)) c.push_line_feed.ensures
