use Rattle.std.proofs.Common.{◌≡◌, true≢false, List, length, map, ◌∙◌, subst, sym, arith, ap}
use Rattle.std.specs.Prelude.{IsTrue}
use Rattle.std.specs.Borrow.{Bor}
use Rattle.std.proofs.lemmas.List.{length-map}
use Rattle.clap.specs.Words.{Text}
use Rattle.command_line.specs.Takes.{Takes}
use Rattle.command_line.specs.Given.{Allows, values_held}
use Rattle.command_line.proofs.allowed.allows.Goals as goal

count : (values : List (Bor Text)) (texts : List Text) → map (λ v. v.now) values ≡ texts → length values ≡ length texts
count values texts same = sym (length-map values (λ (v : Bor Text). v.now)) ∙ ap length same

pub returns-then-not-each_is_one : goal.returns-then-not-each_is_one
returns-then-not-each_is_one c =
    (λ never. absurd (true≢false (sym never)), λ is. subst IsTrue c.if-not-each_is_one.true (c.each_is_one.ensures.1 ((subst (λ (t : Takes). Allows t (values_held c.args.given.now)) (sym c.row.view_is) is).needed)))

pub returns-else-each_is_one_at_most : goal.returns-else-each_is_one_at_most
returns-else-each_is_one_at_most c =
    (λ never. absurd (true≢false (sym never ∙ c.if-each_is_one_at_most.false)), λ is. c.each_is_one_at_most.ensures.1 ((subst (λ (t : Takes). Allows t (values_held c.args.given.now)) (sym c.row.view_is) is).optional))

pub returns-then-each_is_one_at_most : goal.returns-then-each_is_one_at_most
returns-then-each_is_one_at_most c = (
  λ are. subst (λ (t : Takes). Allows t (values_held c.args.given.now)) c.row.view_is (record {
    needed = c.each_is_one.ensures.0 c.if-not-each_is_one.false;
    optional = c.each_is_one_at_most.ensures.0 c.if-each_is_one_at_most.true;
    flags = c.each_is_one_at_most-then-each_is_one_at_most.ensures.0 are;
    enough = let n = count c.values-others.result.now _ c.values-others.ensures in omega (arith, n, c.if-others-row.false);
    few = let n = count c.values-others.result.now _ c.values-others.ensures in omega (arith, n, c.if-others-row-2.false);
  }),
  λ is. c.each_is_one_at_most-then-each_is_one_at_most.ensures.1 ((subst (λ (t : Takes). Allows t (values_held c.args.given.now)) (sym c.row.view_is) is).flags),
)
