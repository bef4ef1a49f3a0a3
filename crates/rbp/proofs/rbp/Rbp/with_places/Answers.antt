use Rattle.std.proofs.Common.{◌≡◌, ℕ, Bool, true, false, ◌&&◌, nat_lt, Option, Some, ℤ, pos, ◌+ℤ◌, arith, sym, ap, ◌∙◌}
use Rattle.std.specs.Prelude.{if◌then◌else◌}
use Rattle.std.proofs.lemmas.Int.{ints}
use Rattle.desk_model.specs.declared.types.Mark.{Mark}
use Rattle.desk_model.specs.declared.types.Mark.TheVariants.{Unjudged, Relevant, Other}
use Rattle.topic_counts.specs.Ends.{IsShort}
use Rattle.topic_counts.specs.declared.span.Span.{Span}
use Rattle.measure_laws.specs.Shares.{low_share, high_share}
use Rattle.rbp.specs.Persistence.{IsLoose}
use Rattle.rbp.specs.Walk.{correction, is_in_least, is_in_most, number_of}
use Rattle.rbp.proofs.rbp.Rbp.with_places.Goals as goal

-- what is from -10^27 to 10^27 is from -10^30 to 10^30
shorter : (s : Span) → IsLoose s → IsShort s
shorter s h = ((omega (arith, ints, h.0.0), omega (arith, ints, h.0.1)), (omega (arith, ints, h.1.0), omega (arith, ints, h.1.1)))

-- a document of both runs that may be relevant adds its correction
corrected : (both counts : Bool) (sum more part new : ℤ) → (both && counts) ≡ true → new ≡ sum +ℤ more → more ≡ part → new ≡ sum +ℤ (if both then part else pos 0)
corrected true counts sum more part new h e f = e ∙ ap (λ (z : ℤ). sum +ℤ z) f
corrected false counts sum more part new h e f = absurd (cc)

-- and any other adds nothing
unchanged : (share : Option ℕ → Option ℕ → ℤ) (picked : Option ℕ → Option ℕ → Bool) (both : Bool) (mark : Mark) (x y : Option ℕ) (sum : ℤ) → (both && nat_lt (number_of mark) 2) ≡ false →
    sum ≡ sum +ℤ (if both then correction share picked mark x y else pos 0)
unchanged share picked false mark x y sum h = omega (arith, ints)
unchanged share picked true Unjudged x y sum h = absurd (cc)
unchanged share picked true Relevant x y sum h = absurd (cc)
unchanged share picked true Other x y sum h = omega (arith, ints)

pub add-requires-clause-first : goal.add-requires-clause-first
add-requires-clause-first c = shorter c.args.sums.least c.requires.least

pub add-requires-clause-second : goal.add-requires-clause-second
add-requires-clause-second c = c.correction-more.ensures.least_short

pub add-requires-then-is_corrected-clause-first : goal.add-requires-then-is_corrected-clause-first
add-requires-then-is_corrected-clause-first c = shorter c.args.sums.most c.requires.most

pub add-requires-then-is_corrected-clause-second : goal.add-requires-then-is_corrected-clause-second
add-requires-then-is_corrected-clause-second c = c.correction-more.ensures.most_short

pub returns-then-is_corrected-clause-least_lo : goal.returns-then-is_corrected-clause-least_lo
returns-then-is_corrected-clause-least_lo c = corrected _ _ _ _ _ _ (sym c.is_corrected.ensures ∙ c.if-is_corrected.true) c.add.ensures.lo c.correction-more.ensures.least_lo

pub returns-then-is_corrected-clause-least_hi : goal.returns-then-is_corrected-clause-least_hi
returns-then-is_corrected-clause-least_hi c = corrected _ _ _ _ _ _ (sym c.is_corrected.ensures ∙ c.if-is_corrected.true) c.add.ensures.hi c.correction-more.ensures.least_hi

pub returns-then-is_corrected-clause-most_lo : goal.returns-then-is_corrected-clause-most_lo
returns-then-is_corrected-clause-most_lo c = corrected _ _ _ _ _ _ (sym c.is_corrected.ensures ∙ c.if-is_corrected.true) c.add-then-is_corrected.ensures.lo c.correction-more.ensures.most_lo

pub returns-then-is_corrected-clause-most_hi : goal.returns-then-is_corrected-clause-most_hi
returns-then-is_corrected-clause-most_hi c = corrected _ _ _ _ _ _ (sym c.is_corrected.ensures ∙ c.if-is_corrected.true) c.add-then-is_corrected.ensures.hi c.correction-more.ensures.most_hi

pub returns-else-is_corrected-clause-least_lo : goal.returns-else-is_corrected-clause-least_lo
returns-else-is_corrected-clause-least_lo c = unchanged (low_share c.args.self.now.top c.args.self.now.bottom) is_in_least _ c.args.mark (Some c.args.x.rank) (Some c.args.y.rank) _ (sym c.is_corrected.ensures ∙ c.if-is_corrected.false)

pub returns-else-is_corrected-clause-least_hi : goal.returns-else-is_corrected-clause-least_hi
returns-else-is_corrected-clause-least_hi c = unchanged (high_share c.args.self.now.top c.args.self.now.bottom) is_in_least _ c.args.mark (Some c.args.x.rank) (Some c.args.y.rank) _ (sym c.is_corrected.ensures ∙ c.if-is_corrected.false)

pub returns-else-is_corrected-clause-most_lo : goal.returns-else-is_corrected-clause-most_lo
returns-else-is_corrected-clause-most_lo c = unchanged (low_share c.args.self.now.top c.args.self.now.bottom) is_in_most _ c.args.mark (Some c.args.x.rank) (Some c.args.y.rank) _ (sym c.is_corrected.ensures ∙ c.if-is_corrected.false)

pub returns-else-is_corrected-clause-most_hi : goal.returns-else-is_corrected-clause-most_hi
returns-else-is_corrected-clause-most_hi c = unchanged (high_share c.args.self.now.top c.args.self.now.bottom) is_in_most _ c.args.mark (Some c.args.x.rank) (Some c.args.y.rank) _ (sym c.is_corrected.ensures ∙ c.if-is_corrected.false)
