use Rattle.std.proofs.Common.{◌≡◌, ℕ, ◌+◌, ◌≤◌, List, [], ◌∷◌, ◌++◌, map, append-nil, inr, length, drop, refl, ap, sym, subst, ◌∙◌, arith, inl, length-append}
use Rattle.std.proofs.lemmas.List.{length-take, length-take-le}
use Rattle.std.proofs.Math.Nat.{le_refl, le_trans}
use Rattle.desk_files.specs.Files.{whole_file}
use Rattle.desk_files.proofs.Reading.{Reads, reads_opened, reads_too_long, reads_whole, reads_piece, counted_piece}
use Rattle.desk_files.proofs.Stopping.{gives_memory}
use Rattle.desk_outside.specs.Calls.{Reading, GiveInAll}
use Rattle.desk_outside.specs.declared.log.ReadCall.{ReadCall}
use Rattle.desk_outside.specs.declared.log.ReadCall.TheVariants as calls
use Rattle.desk_outside.proofs.Logs.{give_nothing, give_more}
use Rattle.desk_files.specs.Reads.{GoTo, extent_of}
use Rattle.desk_files.specs.Views.{answer_of}
use Rattle.desk_files.specs.declared.limits.TheConstants.{LONGEST_FILE}
use Rattle.desk_files.specs.declared.stop.Stop.TheVariants as kept
use Rattle.desk_files.proofs.InTurn.{calls_more}
use Rattle.desk_files.proofs.Stopping.{handed_on}
use Rattle.desk_files.proofs.files.feed_file.Goals as goal

pub returns-in_default-clause-gives : goal.returns-in_default-clause-gives
returns-in_default-clause-gives g c = inl (omega (arith, c.in_default.ensures.cause.failed, c.pieces.invariant.later))

pub returns-then-read-eq0-clause-gives : goal.returns-then-read-eq0-clause-gives
returns-then-read-eq0-clause-gives g c =
    reads_whole (g.F.Shelf.state c.args.files.now).files c.args.path.now (g.F.Shelf.state c.pieces.files).rest (g.F.Shelf.state c.read.new.self).rest (g.T.Taker.taken c.pieces.taker)
    (omega (arith, c.pieces-test.true, c.pieces.invariant.counted)) c.pieces.invariant.reads (rw c.if-read-eq0.true at c.in-Ok.ensures.bytes) (c.in-Ok.ensures.end c.if-read-eq0.true)

pub pieces-preserved : goal.pieces-preserved
pieces-preserved g c =
    let kept = c.pieces.invariant in
    let read = c.in-Ok.ensures in
    let n = c.in-Ok.read in
    let room = c.read.new.room in
    let beyond = drop c.min-most.result c.pieces.room in
    let taken = c.in_ok-take.ensures.taken in
    let old = g.T.Taker.taken c.pieces.taker in
    record {
      files = read.files ∙ kept.files;
      made = (kept.made.0 ++ calls.Gave n ∷ [], calls_more (g.F.Shelf.state c.args.files.now).calls (g.F.Shelf.state c.pieces.files).calls (g.F.Shelf.state c.read.new.self).calls kept.made.0 (calls.Gave n) kept.made.1 read.calls, give_more kept.made.0 c.pieces.count n kept.made.2 (omega (arith, c.if-read-eq0.false)));
      opened = read.open;
      later = omega (arith, read.cause.later, kept.later);
      within = omega (arith, c.read.auto.room, length-take c.min-most.result c.pieces.room);
      counted = counted_piece old (g.T.Taker.taken c.take.new.self) room beyond c.pieces.count n read.bound.0 read.bound.1 taken kept.counted;
      beside = c.in_ok-take.ensures.beside ∙ kept.beside;
      reads = reads_piece (g.F.Shelf.state c.args.files.now).files c.args.path.now (g.F.Shelf.state c.pieces.files).rest (g.F.Shelf.state c.read.new.self).rest old (g.T.Taker.taken c.take.new.self) room beyond n read.bound.0 taken kept.reads read.bytes;
    }

-- a bound stays where the list grows
at_more : (n : ℕ) (room beyond : List ℕ) → n ≤ length room → n ≤ length (room ++ beyond)
at_more n room beyond le = omega (arith, le, length-append room beyond)

pub returns-in_default-clause-files : goal.returns-in_default-clause-files
returns-in_default-clause-files g c = c.in_default.ensures.files ∙ c.pieces.invariant.files

pub returns-in_default-clause-later : goal.returns-in_default-clause-later
returns-in_default-clause-later g c = le_trans c.pieces.invariant.later c.in_default.ensures.cause.later

pub returns-then-read-eq0-clause-files : goal.returns-then-read-eq0-clause-files
returns-then-read-eq0-clause-files g c = c.in-Ok.ensures.files ∙ c.pieces.invariant.files

pub returns-then-read-eq0-clause-later : goal.returns-then-read-eq0-clause-later
returns-then-read-eq0-clause-later g c = le_trans c.pieces.invariant.later c.in-Ok.ensures.cause.later

pub returns-in_err-take-clause-files : goal.returns-in_err-take-clause-files
returns-in_err-take-clause-files g c = c.in-Ok.ensures.files ∙ c.pieces.invariant.files

pub returns-in_err-take-clause-later : goal.returns-in_err-take-clause-later
returns-in_err-take-clause-later g c = le_trans c.pieces.invariant.later c.in-Ok.ensures.cause.later

pub returns-in_err-take-clause-beside : goal.returns-in_err-take-clause-beside
returns-in_err-take-clause-beside g c = c.in_err-take.ensures.beside ∙ c.pieces.invariant.beside

pub returns-in_err-take-clause-gives : goal.returns-in_err-take-clause-gives
returns-in_err-take-clause-gives g c = gives_memory (g.F.Shelf.state c.args.files.now).files (g.F.Shelf.state c.args.files.now).faults (g.F.Shelf.state c.read.new.self).faults _ c.from_residual.result (λ held. whole_file c.args.path.now (held c.args.path.now)) c.from_residual.ensures.1

pub slice_bounds-room-end-in-pieces : goal.slice_bounds-room-end-in-pieces
slice_bounds-room-end-in-pieces g c = at_more c.in-Ok.read c.read.new.room (drop c.min-most.result c.pieces.room) c.in-Ok.ensures.bound.0

pub slice_bounds-take-end : goal.slice_bounds-take-end
slice_bounds-take-end g c =
    let beyond = drop c.min-most.result c.pieces.room in
    sym (length-take-le c.in-Ok.read (c.read.new.room ++ beyond) (at_more c.in-Ok.read c.read.new.room beyond c.in-Ok.ensures.bound.0))

pub returns-in_default-clause-beside : goal.returns-in_default-clause-beside
returns-in_default-clause-beside g c = c.pieces.invariant.beside

pub returns-then-read-eq0-clause-beside : goal.returns-then-read-eq0-clause-beside
returns-then-read-eq0-clause-beside g c = c.pieces.invariant.beside

pub overflow_add-count : goal.overflow_add-count
overflow_add-count g c = omega (arith, c.in-Ok.ensures.bound.0, c.read.auto.room, length-take c.min-most.result c.pieces.room)

pub pieces-smaller : goal.pieces-smaller
pieces-smaller g c = omega (arith, c.if-read-eq0.false, c.pieces-test.true)

pub pieces-init : goal.pieces-init
pieces-init g c =
    let told = (g.F.Shelf.state c.args.files.now).files in
    let path = c.args.path.now in
    let rest = (g.F.Shelf.state c.args.files.now).rest in
    record {
      files = refl;
      made = ([], sym (append-nil (g.F.Shelf.state c.args.files.now).calls), give_nothing);
      opened = c.requires.open;
      later = le_refl (g.F.Shelf.state c.args.files.now).faults;
      within = omega arith;
      counted = sym (ap length c.requires.none);
      beside = refl;
      reads = subst (λ bytes. Reads told path rest bytes) (sym c.requires.none) (reads_opened told path rest c.requires.content);
    }

pub overflow_sub-count : goal.overflow_sub-count
overflow_sub-count g c = c.pieces.invariant.within

pub read-requires-clause-open : goal.read-requires-clause-open
read-requires-clause-open g c = c.pieces.invariant.opened

pub returns-clause-gives : goal.returns-clause-gives
returns-clause-gives g c =
    reads_too_long (g.F.Shelf.state c.args.files.now).files c.args.path.now (g.F.Shelf.state c.pieces.files).rest (g.T.Taker.taken c.pieces.taker) (omega (arith, c.pieces-test.false, c.pieces.invariant.counted)) c.pieces.invariant.reads

pub returns-clause-beside : goal.returns-clause-beside
returns-clause-beside g c = c.pieces.invariant.beside

pub returns-clause-files : goal.returns-clause-files
returns-clause-files g c = c.pieces.invariant.files

pub returns-clause-later : goal.returns-clause-later
returns-clause-later g c = c.pieces.invariant.later

pub returns-in_default-clause-reads : goal.returns-in_default-clause-reads
returns-in_default-clause-reads g c =
    let made = c.pieces.invariant.made in
    let added = calls_more (g.F.Shelf.state c.args.files.now).calls (g.F.Shelf.state c.pieces.files).calls (g.F.Shelf.state c.read.new.self).calls made.0 calls.Failed made.1 c.in_default.ensures.calls in
    (made.0 ++ calls.Failed ∷ [], added, inr (made.0, c.pieces.count, refl, made.2, c.pieces-test.true))

pub returns-then-read-eq0-clause-reads : goal.returns-then-read-eq0-clause-reads
returns-then-read-eq0-clause-reads g c =
    let made = c.pieces.invariant.made in
    let added = calls_more (g.F.Shelf.state c.args.files.now).calls (g.F.Shelf.state c.pieces.files).calls (g.F.Shelf.state c.read.new.self).calls made.0 (calls.Gave 0) made.1 (rw c.if-read-eq0.true at c.in-Ok.ensures.calls) in
    (made.0 ++ calls.Gave 0 ∷ [], added, (made.0, c.pieces.count, refl, made.2, c.pieces-test.true))

pub returns-in_err-take-clause-reads : goal.returns-in_err-take-clause-reads
returns-in_err-take-clause-reads g c =
    let made = c.pieces.invariant.made in
    let had = (g.F.Shelf.state c.args.files.now).calls in
    let has = (g.F.Shelf.state c.read.new.self).calls in
    let added = calls_more had (g.F.Shelf.state c.pieces.files).calls has made.0 (calls.Gave c.in-Ok.read) made.1 c.in-Ok.ensures.calls in
    handed_on (λ r. (reads : List ReadCall) × (has ≡ had ++ map Reading reads) × GoTo (extent_of (answer_of r)) reads) c.from_residual.result kept.Memory c.from_residual.ensures.1
    (made.0 ++ calls.Gave c.in-Ok.read ∷ [], added, inr (c.pieces.count + c.in-Ok.read, give_more made.0 c.pieces.count c.in-Ok.read made.2 (omega (arith, c.if-read-eq0.false))))

pub returns-clause-reads : goal.returns-clause-reads
returns-clause-reads g c =
    let made = c.pieces.invariant.made in
    let past : c.pieces.count ≡ LONGEST_FILE + 1 = omega (arith, c.pieces-test.false, c.pieces.invariant.within) in
    (made.0, made.1, subst (GiveInAll made.0) past made.2)
