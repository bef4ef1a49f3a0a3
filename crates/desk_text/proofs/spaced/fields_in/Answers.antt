use Rattle.std.proofs.Common.{◌≡◌, ℕ, ◌+◌, ◌/◌, ◌^◌, ◌<◌, arith, refl, ap, ◌∙◌, inl, inr, length, length-set, w64}
use Rattle.std.specs.Int.{bit_at, trailing_zeros}
use Rattle.std.proofs.Math.Nat.{div-le_self}
use Rattle.std.proofs.lemmas.Nat.Bits.{bit_at-trailing_zeros, bit_at-trailing_ones}
use Rattle.desk_text.proofs.FieldBits.{some_one, clear, set, stop, few_ones, rest_is, rest_smaller, marked_on, all_marked, bits_skipped, ones_within, ones_field, no_more}
use Rattle.desk_text.proofs.Marking.{marked_more}
use Rattle.desk_text.proofs.spaced.fields_in.Goals as goal
use Rattle.desk_text.proofs.spaced.fields_in.Goals.{then-count-lt6, else-count-lt6}

pub loop-left-smaller : goal.loop-left-smaller
loop-left-smaller c =
    let left = c.loop-left.left in
    let z = trailing_zeros w64 left in
    let o = c.trailing_ones-long.result in
    let is = c.loop-left.invariant.left_is in
    let most = div-le_self c.args.bits (2 ^ c.loop-left.at) in
    let less = div-le_self left (2 ^ z) in
    let h = bit_at-trailing_zeros w64 left (omega arith) (omega (arith, is, most)) in
    let k = bit_at-trailing_ones w64 (left / 2 ^ z) (omega (arith, is, most, less)) in
    let ones = c.trailing_ones-long.ensures in
    let end : bit_at (left / 2 ^ z) o ≡ 0 = rw ones k.1 in
    rest_smaller c.args.bits c.loop-left.at left z o c.requires is h.1 h.2 end (rw ones k.2) (omega arith)

pub loop-left-preserved : goal.loop-left-preserved
loop-left-preserved c =
    let bits = c.args.bits in
    let left = c.loop-left.left in
    let at = c.loop-left.at in
    let z = trailing_zeros w64 left in
    let o = c.trailing_ones-long.result in
    let is = c.loop-left.invariant.left_is in
    let most = div-le_self bits (2 ^ at) in
    let less = div-le_self left (2 ^ z) in
    let h = bit_at-trailing_zeros w64 left (omega arith) (omega (arith, is, most)) in
    let k = bit_at-trailing_ones w64 (left / 2 ^ z) (omega (arith, is, most, less)) in
    let ones = c.trailing_ones-long.ensures in
    let end : bit_at (left / 2 ^ z) o ≡ 0 = rw ones k.1 in
    let run : (i : ℕ) → i < o → bit_at (left / 2 ^ z) i ≡ 1 = rw ones k.2 in
    let some : 0 < o = some_one bits at left z o c.requires is h.1 h.2 end run in
    let field = set bits at left z o c.requires is h.1 h.2 end run in
    record {
      left_is = rest_is bits at left z o c.requires is h.1 h.2 end run;
      marked = λ line known.
          let within = ones_within line bits known (at + z) (at + z + o) (omega arith) field in
          let past = bits_skipped line bits known at (at + z) (omega arith) (omega (arith, within)) (clear bits at left z o c.requires is h.1 h.2 end run) in
          marked_more line c.loop-left.count c.loop-left.places c.if-count-lt6.places (at + z) (at + z + o) (at + z + o)
          (marked_on line c.loop-left.count c.loop-left.places at (at + z) (c.loop-left.invariant.marked line known) past (omega arith))
          (ones_field line bits known (at + z) (at + z + o) (omega arith) field (stop bits at left z o c.requires is h.1 h.2 end run)) refl (omega arith) within (omega arith) c.loop-left.invariant.six
          (elim c.if-count-lt6.branch [ then-count-lt6 w ↦ inl (w.if-count-lt6.true, w.places-is) | else-count-lt6 w ↦ inr (w.if-count-lt6.false, w.places-is) ]);
      within = λ line known. ones_within line bits known (at + z) (at + z + o) (omega arith) field;
      six = elim c.if-count-lt6.branch [ then-count-lt6 w ↦ ap length w.places-is ∙ (length-set c.loop-left.places c.loop-left.count (at + z, at + z + o) ∙ c.loop-left.invariant.six) | else-count-lt6 w ↦ ap length w.places-is ∙ c.loop-left.invariant.six ];
      few = few_ones bits at left z o c.requires is h.1 h.2 end run;
      counted = omega (arith, some, c.loop-left.invariant.counted);
    }

pub returns : goal.returns
returns c line known =
    all_marked line c.loop-left.count c.loop-left.places c.loop-left.at (c.loop-left.invariant.marked line known)
    (no_more line c.args.bits known c.loop-left.at c.loop-left.left c.loop-left.invariant.left_is (omega arith) (c.loop-left.invariant.within line known))
