-- A file that is read in pieces.
use Rattle.std.proofs.Common.{◌≡◌, ℕ, ◌+◌, ◌<◌, ◌≤◌, List, [], ◌++◌, length, take, cond, ap, sym, subst, ◌∙◌, arith, append_assoc, append-nil, length-append, inl, inr}
use Rattle.std.specs.Prelude.{Option, Some, None, Ok, Err, IfSome, IsSomeAnd, ◌⊎◌}
use Rattle.std.specs.Io.KnownBytes.{Consumes, IsAtEnd}
use Rattle.std.proofs.lemmas.Bool.{le-leb, lt-leb}
use Rattle.std.proofs.lemmas.List.{take-append-le}
use Rattle.desk_outside.specs.Outside.{Files, Rose, Lacks, Opens}
use Rattle.desk_files.specs.Files.{Outside, Refused, FileTooLong, whole_file}
use Rattle.desk_files.specs.declared.limits.TheConstants.{LONGEST_FILE}

-- the bytes read so far and what is left are the whole content
abbrev pub Reads : Option Files → List ℕ → Option (List ℕ) → List ℕ → Type 0
Reads None path rest bytes = Unit {0}
Reads (Some files) path None bytes = ⊥
Reads (Some files) path (Some rest) bytes = files path ≡ Some (bytes ++ rest)

pub reads_opened : (told : Option Files) (path : List ℕ) (rest : Option (List ℕ)) → Opens told path rest → Reads told path rest []
reads_opened None path rest h = tt
reads_opened (Some files) path None h = h
reads_opened (Some files) path (Some rest) h = h

pub reads_more : (told : Option Files) (path : List ℕ) (old new : Option (List ℕ)) (bytes piece : List ℕ) → Reads told path old bytes → Consumes old new piece → Reads told path new (bytes ++ piece)
reads_more None path old new bytes piece h c = tt
reads_more (Some files) path None new bytes piece h c = absurd h
reads_more (Some files) path (Some xs) None bytes piece h c = absurd c
reads_more (Some files) path (Some xs) (Some ys) bytes piece h c = h ∙ ap (λ zs. Some (bytes ++ zs)) c ∙ ap Some (sym (append_assoc bytes piece ys))

-- at the end
pub reads_whole : (told : Option Files) (path : List ℕ) (old new : Option (List ℕ)) (bytes : List ℕ) → length bytes ≤ LONGEST_FILE → Reads told path old bytes → Consumes old new [] → IsAtEnd new → IfSome told (λ files. whole_file path (files path) ≡ Ok bytes)
reads_whole None path old new bytes le h c e = tt
reads_whole (Some files) path None new bytes le h c e = absurd h
reads_whole (Some files) path (Some xs) None bytes le h c e = absurd c
reads_whole (Some files) path (Some xs) (Some ys) bytes le h c e =
    ap (whole_file path) (h ∙ ap (λ zs. Some (bytes ++ zs)) (c ∙ e) ∙ ap Some (append-nil bytes)) ∙ ap (λ b. cond b (Ok bytes) (Err (Refused (FileTooLong path)))) (le-leb (length bytes) LONGEST_FILE le)

-- past the limit
pub reads_too_long : (told : Option Files) (path : List ℕ) (rest : Option (List ℕ)) (bytes : List ℕ) → LONGEST_FILE < length bytes → Reads told path rest bytes → IfSome told (λ files. whole_file path (files path) ≡ Err (Refused (FileTooLong path)))
reads_too_long None path rest bytes lt h = tt
reads_too_long (Some files) path None bytes lt h = absurd h
reads_too_long (Some files) path (Some rest) bytes lt h =
    let long : LONGEST_FILE < length (bytes ++ rest) = omega (arith, length-append bytes rest) in
    ap (whole_file path) h ∙ ap (λ b. cond b (Ok (bytes ++ rest)) (Err (Refused (FileTooLong path)))) (lt-leb (length (bytes ++ rest)) LONGEST_FILE long)

pub reads_none : (told : Option Files) (path : List ℕ) (before now : ℕ) → Rose before now ⊎ Lacks told path → Rose before now ⊎ IsSomeAnd told (λ files. whole_file path (files path) ≡ Err Outside)
reads_none told path before now (inl rose) = inl rose
reads_none None path before now (inr lacks) = absurd lacks
reads_none (Some files) path before now (inr lacks) = inr (ap (whole_file path) lacks)

-- a piece was taken, which stands at the start of the room
pub reads_piece : (told : Option Files) (path : List ℕ) (old new : Option (List ℕ)) (bytes taken room beyond : List ℕ) (n : ℕ) → n ≤ length room → taken ≡ bytes ++ take n (room ++ beyond) → Reads told path old bytes → Consumes old new (take n room) → Reads told path new taken
reads_piece told path old new bytes taken room beyond n le is h c =
    let same : taken ≡ bytes ++ take n room = is ∙ ap (λ piece. bytes ++ piece) (take-append-le n room beyond le) in
    subst (λ xs. Reads told path new xs) (sym same) (reads_more told path old new bytes (take n room) h c)

-- a taken piece is counted
pub counted_piece : (bytes taken room beyond : List ℕ) (count n : ℕ) → n ≤ length room → n ≡ length (take n room) → taken ≡ bytes ++ take n (room ++ beyond) → count ≡ length bytes → count + n ≡ length taken
counted_piece bytes taken room beyond count n le length_is is counted =
    let longer : length taken ≡ length (bytes ++ take n room) = ap length (is ∙ ap (λ piece. bytes ++ piece) (take-append-le n room beyond le)) in
    omega (arith, longer, length-append bytes (take n room), length_is, counted)
