use Rattle.std.proofs.Common.{◌≡◌, ◌<◌, ◌≤◌, ◌+◌, ◌-◌, ap, sym, ◌∙◌, subst, arith, length, Some, ℕ, true≢false}
use Rattle.std.proofs.lemmas.Slice.Eq.{bytes_eq-Decides}
use Rattle.name_table.specs.declared.table.TheConstants.{REACH}
use Rattle.name_table.specs.Finds.{FindsIn}
use Rattle.name_table.specs.Table.{hash_of, start_of, name_at, number_at}
use Rattle.name_table.proofs.Finding.{ArePassed, slot_read, passed_more, found_in_slot, other_hash, missing_at_empty, found_by_name}
use Rattle.name_table.proofs.table.NameTable.search.Goals as goal
use Rattle.name_table.proofs.table.NameTable.search.Goals.{then-slot-hash+else-eq, else-slot-hash}

pub returns-then-slot-eq0 : goal.returns-then-slot-eq0
returns-then-slot-eq0 g c =
    let names = g.N.Names.names c.args.names.now in
    let slots = c.args.self.now.slots.items in
    let name = c.args.name.now in
    let at : ℕ = c.loop-at.at in
    let finds : FindsIn names (length names) slots c.args.self.now.rest = c.requires.table in
    let first : c.start-start.result ≡ start_of slots (hash_of name) = c.start-start.ensures.start ∙ ap (start_of slots) c.requires.hash in
    let passed = subst (λ from. ArePassed names slots name from at) first c.loop-at.invariant in
    let within : at < length slots = omega arith in
    let read = slot_read slots at c.index-slot.result.now within c.index-slot.ensures in
    let empty : number_at slots at ≡ 0 = ap (λ s. s.number) read ∙ c.if-slot-eq0.true in
    let from = c.loop-at.auto.at in
    let below = c.loop-at-test.true in
    let after : start_of slots (hash_of name) ≤ at = omega (arith, first, from) in
    let before : at < start_of slots (hash_of name) + REACH = omega (arith, first, below) in (
      record { from = after; below = before; within = within; empty = empty; taken = λ k f b. (passed k f b).0 },
      missing_at_empty names slots c.args.self.now.rest name at finds passed after before empty,
    )

pub returns-then-eq : goal.returns-then-eq
returns-then-eq g c =
    let names = g.N.Names.names c.args.names.now in
    let slots = c.args.self.now.slots.items in
    let name = c.args.name.now in
    let at : ℕ = c.loop-at.at in
    let finds : FindsIn names (length names) slots c.args.self.now.rest = c.requires.table in
    let within : at < length slots = omega arith in
    let read = slot_read slots at c.index-slot.result.now within c.index-slot.ensures in
    let number : number_at slots at ≡ c.index-slot.result.now.number = ap (λ s. s.number) read in
    let apart = c.if-slot-eq0.false in
    let some : 0 < number_at slots at = omega (arith, number, apart) in
    let holds = (c.requires.table.in_slots at some).0 in
    let is : name_at names (number_at slots at - 1) ≡ name =
    ap (λ n. name_at names (n - 1)) number ∙ c.name.ensures ∙ (bytes_eq-Decides c.name.result.now name).0 (sym c.eq.ensures ∙ c.if-eq.true) in
    found_in_slot names slots c.args.self.now.rest name at finds some is ∙ ap (λ n. Some (n - 1)) number

pub loop-at-preserved : goal.loop-at-preserved
loop-at-preserved g c =
    let names = g.N.Names.names c.args.names.now in
    let slots = c.args.self.now.slots.items in
    let name = c.args.name.now in
    let at : ℕ = c.loop-at.at in
    let finds : FindsIn names (length names) slots c.args.self.now.rest = c.requires.table in
    let within : at < length slots = omega arith in
    let read = slot_read slots at c.index-slot.result.now within c.index-slot.ensures in
    let number : number_at slots at ≡ c.index-slot.result.now.number = ap (λ s. s.number) read in
    let apart = c.if-slot-eq0.false in
    let some : 0 < number_at slots at = omega (arith, number, apart) in
    let holds = (c.requires.table.in_slots at some).0 in
    let other : name_at names (number_at slots at - 1) ≡ name → ⊥ = elim c.if-slot-hash.branch [
      | then-slot-hash+else-eq w ↦ λ is.
          let read : w.name.result.now ≡ name = sym w.name.ensures ∙ ap (λ n. name_at names (n - 1)) (sym number) ∙ is in
          true≢false (sym ((bytes_eq-Decides w.name.result.now name).1 read) ∙ sym w.eq.ensures ∙ w.if-eq.false)
      | else-slot-hash w ↦
          other_hash names slots c.args.self.now.rest name at finds some
          (λ same. w.if-slot-hash.false (sym (ap (λ s. s.hash) read) ∙ same ∙ sym c.requires.hash))
    ] in
    passed_more names slots name c.start-start.result at c.loop-at.invariant some other

pub returns : goal.returns
returns g c =
    let names = g.N.Names.names c.args.names.now in
    let slots = c.args.self.now.slots.items in
    let name = c.args.name.now in
    let finds : FindsIn names (length names) slots c.args.self.now.rest = c.requires.table in
    let first : c.start-start.result ≡ start_of slots (hash_of name) = c.start-start.ensures.start ∙ ap (start_of slots) c.requires.hash in
    let end : c.loop-at.at ≡ c.start-start.result + REACH = omega arith in
    let passed = subst (λ from. ArePassed names slots name from (from + REACH)) first (subst (ArePassed names slots name c.start-start.result) end c.loop-at.invariant) in
    (λ k f b. (passed k f b).0, found_by_name names slots c.args.self.now.rest name finds passed)
