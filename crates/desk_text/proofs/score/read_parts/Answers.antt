use Rattle.std.proofs.Common.{ap, ◌∙◌, arith, rules, inl, inr, IsTrue}
use Rattle.std.specs.Str.Parse.{digits_value}
use Rattle.std.proofs.lemmas.Int.{ints}
use Rattle.desk_text.specs.Spelling.{parts_of}
use Rattle.desk_text.specs.Value.{scaled}
use Rattle.desk_text.proofs.Readings.{added, too_long_text, far_text, near_text, significant, insignificant}
use Rattle.desk_text.proofs.score.read_parts.Goals as goal

pub returns-in_default : goal.returns-in_default
returns-in_default c = c.in_default.ensures.none

pub returns-in_default-significand_of : goal.returns-in_default-significand_of
returns-in_default-significand_of c =
    too_long_text c.args.text.now (parts_of c.in-Some.spelling) c.in-Some.ensures.some c.in_default-significand_of.ensures.long

pub returns-then-significand-eq0 : goal.returns-then-significand-eq0
returns-then-significand-eq0 c =
    inl (insignificant c.args.text.now (parts_of c.in-Some.spelling) _ _ c.in-Some.ensures.some c.in-Some-significand_of.ensures.some (search rules), c.zero.ensures)

pub returns-then-not-is_place : goal.returns-then-not-is_place
returns-then-not-is_place c =
    let spelling = c.in-Some.spelling in
    let s = c.in-Some-significand_of.significand in
    let p = parts_of spelling in
    let stands = significant c.args.text.now p s.digits s.place c.in-Some.ensures.some c.in-Some-significand_of.ensures.some c.if-significand-eq0.false in
    far_text c.args.text.now p s.digits (digits_value 10 spelling.exponent.now) spelling.has_negative_exponent s.place c.exponent_of-exponent.result stands
    c.in-Some-significand_of.ensures.short c.in-Some-significand_of.ensures.near c.exponent_of-exponent.ensures.value
    (λ here. let yes : IsTrue c.is_place.result = c.is_place.ensures.1 (omega (arith, ints, here.0), omega (arith, ints, here.1)) in cc)

pub returns : goal.returns
returns c =
    let spelling = c.in-Some.spelling in
    let s = c.in-Some-significand_of.significand in
    let p = parts_of spelling in
    let stands = significant c.args.text.now p s.digits s.place c.in-Some.ensures.some c.in-Some-significand_of.ensures.some c.if-significand-eq0.false in
    let sum = added c.exponent_of-exponent.result s.place c.exponent_of-exponent.ensures.near c.in-Some-significand_of.ensures.near in
    let here = rw sum at (c.is_place.ensures.0 (search rules)) in
    inr (near_text c.args.text.now p s.digits (digits_value 10 spelling.exponent.now) spelling.has_negative_exponent s.place c.exponent_of-exponent.result c.new.result stands
    c.in-Some-significand_of.ensures.short c.in-Some-significand_of.ensures.near c.exponent_of-exponent.ensures.value
    here (c.new.ensures ∙ ap (scaled spelling.is_negative s.digits) sum))
