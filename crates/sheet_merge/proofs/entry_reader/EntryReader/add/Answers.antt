use Rattle.std.proofs.Common.{◌≡◌, ℕ, List, ap, sym, subst, ◌∙◌, arith, inr, refl, to_z, of_z, w16}
use Rattle.std.specs.Prelude.{◌≤ℤ◌}
use Rattle.std.proofs.lemmas.Int.{ints}
use Rattle.sheet_merge.specs.declared.limits.TheConstants.{LEAST_GRADE, GREATEST_GRADE}
use Rattle.sheet_merge.specs.Sheet.{SheetPlace, SheetRow, IsSheetRow}
use Rattle.sheet_merge.specs.Packed.{pair_of, place_from}
use Rattle.sheet_merge.specs.Table.{with_entry}
use Rattle.sheet_merge.specs.Lines.{brings_too_many}
use Rattle.sheet_merge.specs.Reader.{entry_said}
use Rattle.sheet_merge.proofs.Unpacking.{first_of-pair, second_of-pair, name_short}
use Rattle.sheet_merge.proofs.entry_reader.EntryReader.add.Goals as goal

-- the place of a key
key_place : (key topic doc : List ℕ) → key ≡ pair_of topic doc → place_from key ≡ (topic, doc)
key_place key topic doc e = ap place_from e ∙ (λ i. (first_of-pair topic doc i, second_of-pair topic doc i))

pub new-requires : goal.new-requires
new-requires c = name_short c.args.text.now.topic.now c.requires.topic

pub put-requires : goal.put-requires
put-requires c =
    let text = c.args.text.now in
    let least : LEAST_GRADE ≤ℤ text.grade = c.requires.least in
    let most : text.grade ≤ℤ GREATEST_GRADE = c.requires.greatest in
    let kept : to_z w16 (of_z w16 text.grade) ≡ text.grade = omega (arith, ints) in
    let place = key_place c.in_ok-place.place text.topic.now text.document.now c.in_ok-place.ensures.key in
    let entry : c.in_ok-entry.entry ≡ record { stamp = text.stamp; who = text.who.now; grade = text.grade } = c.in_ok-entry.ensures ∙ (λ i. record { stamp = text.stamp; who = text.who.now; grade = kept i }) in
    let row : (place_from c.in_ok-place.place, c.in_ok-entry.entry) ≡ entry_said text = λ i. (place i, entry i) in
    record { right = subst IsSheetRow (sym row) c.requires; within = sym c.is_one_too_many.ensures ∙ c.if-is_one_too_many.false }

pub returns-then-is_one_too_many-clause-wrong : goal.returns-then-is_one_too_many-clause-wrong
returns-then-is_one_too_many-clause-wrong c =
    let text = c.args.text.now in
    let place = key_place c.in_ok-place.place text.topic.now text.document.now c.in_ok-place.ensures.key in
    inr (ap (λ (p : SheetPlace). brings_too_many p c.args.self.now.table) (sym place) ∙ sym c.is_one_too_many.ensures ∙ c.if-is_one_too_many.true, refl)

pub returns-clause-within : goal.returns-clause-within
returns-clause-within c =
    let text = c.args.text.now in
    let place = key_place c.in_ok-place.place text.topic.now text.document.now c.in_ok-place.ensures.key in
    ap (λ (p : SheetPlace). brings_too_many p c.args.self.now.table) (sym place) ∙ sym c.is_one_too_many.ensures ∙ c.if-is_one_too_many.false

pub returns-clause-added : goal.returns-clause-added
returns-clause-added c =
    let text = c.args.text.now in
    let least : LEAST_GRADE ≤ℤ text.grade = c.requires.least in
    let most : text.grade ≤ℤ GREATEST_GRADE = c.requires.greatest in
    let kept : to_z w16 (of_z w16 text.grade) ≡ text.grade = omega (arith, ints) in
    let place = key_place c.in_ok-place.place text.topic.now text.document.now c.in_ok-place.ensures.key in
    let entry : c.in_ok-entry.entry ≡ record { stamp = text.stamp; who = text.who.now; grade = text.grade } = c.in_ok-entry.ensures ∙ (λ i. record { stamp = text.stamp; who = text.who.now; grade = kept i }) in
    let row : (place_from c.in_ok-place.place, c.in_ok-entry.entry) ≡ entry_said text = λ i. (place i, entry i) in
    c.in_ok-put.ensures ∙ ap (λ (r : SheetRow). with_entry r c.args.self.now.table) row
