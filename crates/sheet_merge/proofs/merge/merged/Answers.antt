use Rattle.std.proofs.Common.{◌≡◌, ℕ, ◌+◌, ◌<◌, ◌≤◌, ◌⊎◌, List, ◌∷◌, [], ◌++◌, length, drop, ap, sym, subst, ◌∙◌, arith, inl, inr, length-append, length-drop, drop_of_length-le}
use Rattle.std.specs.Prelude.{All}
use Rattle.std.proofs.lemmas.Bool.{cases_lt}
use Rattle.std.proofs.lemmas.List.Elements.{All-push}
use Rattle.sheet_merge.specs.Sheet.{SheetRow, IsMap, IsSheetRow, merged}
use Rattle.sheet_merge.specs.declared.limits.TheConstants.{ENTRY_LIMIT}
use Rattle.sheet_merge.proofs.Places.{below_from}
use Rattle.sheet_merge.proofs.Maps.{map_is_one}
use Rattle.sheet_merge.proofs.Raising.{merged_is_merge}
use Rattle.sheet_merge.proofs.Walking.{IsWalked, walked_none, walked_more, walked_all, more_left}
use Rattle.sheet_merge.proofs.merge.merged.Goals as goal

pub loop-i-init : goal.loop-i-init
loop-i-init c =
    let none = c.in_ok-rows.ensures in
    record {
      walked = subst (λ (rows : List SheetRow). IsWalked c.args.a.now c.args.b.now rows c.args.a.now c.args.b.now) (sym none) (walked_none c.args.a.now c.args.b.now c.requires.a.is_map c.requires.b.is_map);
      few = let e = ap length none in omega (arith, e);
      right = subst (All IsSheetRow) (sym none) (λ k d lt. absurd (omega arith));
      i_in = omega arith;
      j_in = omega arith;
    }

some_left : (a b : List SheetRow) (i j : ℕ) → i + j < length a + length b → i ≤ length a → j ≤ length b → (0 < length (drop i a)) ⊎ (0 < length (drop j b))
some_left a b i j lt le ge = elim (cases_lt i (length a)) [
  | inl less ↦ inl (omega (arith, less, length-drop i a))
  | inr past ↦ inr (omega (arith, past, lt, le, length-drop j b))
]

-- what was walked to the end is the merge
all_walked : (a b out : List SheetRow) (i j : ℕ) → IsMap a → IsWalked a b out (drop i a) (drop j b) → length a + length b ≤ i + j → i ≤ length a → j ≤ length b → out ≡ merged a b
all_walked a b out i j is h past le ge =
    let left : drop i a ≡ [] = drop_of_length-le a (omega (arith, past, ge)) in
    let right : drop j b ≡ [] = drop_of_length-le b (omega (arith, past, le)) in
    let done = walked_all a b out (subst (λ (q : List SheetRow). IsWalked a b out [] q) right (subst (λ (p : List SheetRow). IsWalked a b out p (drop j b)) left h)) in
    let of = merged_is_merge a b is in
    map_is_one out (merged a b) done.is_map of.is_map (λ p. done.greater p ∙ sym (of.greater p))

pub take_next-row-requires : goal.take_next-row-requires
take_next-row-requires c =
    let inv = c.loop-i.invariant in
    record {
      a = inv.walked.is_left;
      b = inv.walked.is_right;
      a_few = c.requires.a.few;
      b_few = c.requires.b.few;
      some = elim (cases_lt c.loop-i.i (length c.args.a.now)) [ inl less ↦ inl less | inr past ↦ inr (omega (arith, past, inv.i_in, c.loop-i-test.true)) ];
      i_in = inv.i_in;
      j_in = inv.j_in;
    }

pub push-requires : goal.push-requires
push-requires c =
    let inv = c.loop-i.invariant in
    record {
      room = below_from (length c.loop-i.rows) ENTRY_LIMIT inv.few (λ e. c.if-len-eq-ENTRY_LIMIT.false (c.len-in-loop-i-2.ensures ∙ e));
      right = c.take_next-row.ensures.right c.requires.a.right c.requires.b.right;
    }

pub returns-then-len-eq-ENTRY_LIMIT-clause-many : goal.returns-then-len-eq-ENTRY_LIMIT-clause-many
returns-then-len-eq-ENTRY_LIMIT-clause-many c _ =
    let a = c.args.a.now in
    let b = c.args.b.now in
    let inv = c.loop-i.invariant in
    let lt = more_left a b c.loop-i.rows (drop c.loop-i.i a) (drop c.loop-i.j b) (merged a b) inv.walked
    (some_left a b c.loop-i.i c.loop-i.j (omega (arith, c.loop-i-test.true)) inv.i_in inv.j_in) (merged_is_merge a b c.requires.a.is_map) in
    omega (arith, lt, c.if-len-eq-ENTRY_LIMIT.true)

pub loop-i-preserved : goal.loop-i-preserved
loop-i-preserved c =
    let a = c.args.a.now in
    let b = c.args.b.now in
    let out : List SheetRow = c.loop-i.rows in
    let row : SheetRow = c.take_next-row.result in
    let inv = c.loop-i.invariant in
    let room : length out < ENTRY_LIMIT = below_from (length out) ENTRY_LIMIT inv.few (λ e. c.if-len-eq-ENTRY_LIMIT.false (c.len-in-loop-i-2.ensures ∙ e)) in
    let pushed : c.push.new.self ≡ out ++ row ∷ [] = c.in_ok-push.ensures.ok in
    let one = ap length pushed ∙ length-append out (row ∷ []) in
    record {
      walked = subst (λ (rows : List SheetRow). IsWalked a b rows (drop c.take_next-row.new.i a) (drop c.take_next-row.new.j b)) (sym pushed)
          (walked_more a b out (drop c.loop-i.i a) (drop c.loop-i.j b) row (drop c.take_next-row.new.i a) (drop c.take_next-row.new.j b) inv.walked c.take_next-row.ensures.next);
      few = omega (arith, one, room);
      right = subst (All IsSheetRow) (sym pushed) (All-push IsSheetRow out row inv.right (c.take_next-row.ensures.right c.requires.a.right c.requires.b.right));
      i_in = c.take_next-row.ensures.i_in;
      j_in = c.take_next-row.ensures.j_in;
    }

pub returns-clause-merged : goal.returns-clause-merged
returns-clause-merged c =
    let inv = c.loop-i.invariant in
    all_walked c.args.a.now c.args.b.now c.loop-i.rows c.loop-i.i c.loop-i.j c.requires.a.is_map inv.walked (omega (arith, c.loop-i-test.false)) inv.i_in inv.j_in

pub returns-clause-sheet : goal.returns-clause-sheet
returns-clause-sheet c =
    let inv = c.loop-i.invariant in
    record { is_map = inv.walked.is_map; few = inv.few; right = inv.right }
