use Rattle.std.proofs.Common.{◌≡◌, length, ap, sym, ◌∙◌, arith, refl, true, false}
use Rattle.std.specs.Prelude.{◌&&◌, Bool, not, is_some, is_none, nat_le, Option, None, Some}
use Rattle.std.specs.List.{list_any}
use Rattle.std.specs.Str.{bytes_eq}
use Rattle.std.proofs.Math.Bool.{and-false}
use Rattle.std.proofs.lemmas.Bool.{le-leb, lt-leb}
use Rattle.sheet_merge.specs.Sheet.{greatest_on}
use Rattle.sheet_merge.specs.Packed.{place_from, placed_entries}
use Rattle.sheet_merge.specs.Lines.{brings_too_many}
use Rattle.sheet_merge.specs.declared.limits.TheConstants.{ENTRY_LIMIT}
use Rattle.sheet_merge.proofs.Gathering.{length-placed_entries, is_there, length-map_of}
use Rattle.sheet_merge.proofs.table.EntryTable.is_one_too_many.Goals as goal

flipped : (a b : Bool) → a ≡ not b → b ≡ not a
flipped true true e = cc
flipped true false e = refl
flipped false true e = refl
flipped false false e = cc

none_not : {A : Type 0} (o : Option A) → is_none o ≡ not (is_some o)
none_not None = refl
none_not (Some x) = refl

pub returns-then-len-ge-ENTRY_LIMIT : goal.returns-then-len-ge-ENTRY_LIMIT
returns-then-len-ge-ENTRY_LIMIT c =
    let places = c.self.inside.places in
    let entries = c.self.inside.entries.items in
    let matched = c.self.invariant.matched in
    let name = c.args.place.now in
    let rows = placed_entries places entries in
    let long : nat_le ENTRY_LIMIT (length rows) ≡ true =
    le-leb ENTRY_LIMIT (length rows) (omega (arith, length-placed_entries places entries matched, c.self.inside.entries.ok, c.len.ensures, c.if-len-ge-ENTRY_LIMIT.true)) in
    let found = c.place.ensures.found ∙ ap (λ b. list_any (bytes_eq b) places) c.as_bytes.ensures.bytes in
    let there : is_some (greatest_on (place_from name) rows) ≡ is_some c.place.result =
    is_there places entries name matched c.self.invariant.pairs c.as_bytes.ensures.pair ∙ sym found in
    let none : c.is_none.result ≡ is_none (greatest_on (place_from name) rows) =
    flipped _ _ c.is_none.ensures ∙ ap not (sym there) ∙ sym (none_not (greatest_on (place_from name) rows)) in
    none ∙ and_true (is_none (greatest_on (place_from name) rows)) ∙ ap (λ b. is_none (greatest_on (place_from name) rows) && b) (sym long)
    ∙ ap (λ n. is_none (greatest_on (place_from name) rows) && nat_le ENTRY_LIMIT n) (sym (length-map_of rows c.self.invariant.gathered.apart))
    ∙ ap (brings_too_many (place_from name)) c.self.view_is
  where
    and_true : (b : Bool) → b ≡ (b && true)
    and_true true = refl
    and_true false = refl

pub returns-else-len-ge-ENTRY_LIMIT : goal.returns-else-len-ge-ENTRY_LIMIT
returns-else-len-ge-ENTRY_LIMIT c =
    let places = c.self.inside.places in
    let entries = c.self.inside.entries.items in
    let rows = placed_entries places entries in
    let name = c.args.place.now in
    let short : nat_le ENTRY_LIMIT (length rows) ≡ false =
    lt-leb ENTRY_LIMIT (length rows) (omega (arith, length-placed_entries places entries c.self.invariant.matched, c.self.inside.entries.ok, c.len.ensures, c.if-len-ge-ENTRY_LIMIT.false)) in
    lt-leb ENTRY_LIMIT c.len.result c.if-len-ge-ENTRY_LIMIT.false
    ∙ sym (and-false (is_none (greatest_on (place_from name) rows))) ∙ ap (λ b. is_none (greatest_on (place_from name) rows) && b) (sym short)
    ∙ ap (λ n. is_none (greatest_on (place_from name) rows) && nat_le ENTRY_LIMIT n) (sym (length-map_of rows c.self.invariant.gathered.apart))
    ∙ ap (brings_too_many (place_from name)) c.self.view_is
