-- How the rows of a file are read from its lines.
use Rattle.std.specs.Prelude.{◌≡◌, ◌⊎◌, ℕ, ◌+◌, ◌<◌, Bool, List, [], ◌∷◌, ◌++◌, if◌then◌else◌, Option, Some, None, Result, Ok, Err, nat_lt, length, slice_index_or}
use Rattle.std.specs.Result.{result_map_both}
use Rattle.desk_text.specs.Lines.{lines, is_blank, fields_of}
use Rattle.desk_text.specs.declared.line.TheConstants.{LONGEST_LINE}
use Rattle.desk_model.specs.declared.name.TheConstants.Name.{LONGEST}
use Rattle.file_rows.specs.declared.fault.LineFault.{LineFault}
use Rattle.file_rows.specs.declared.fault.FileFault.{FileFault}
use Rattle.file_rows.specs.declared.fault.FileFault.TheVariants.{Line, Memory}

-- more bytes than a line may have
abbrev pub IsTooLong : List ℕ → Type 0
IsTooLong line = LONGEST_LINE < length line

-- a field of a line, by its number from 0
abbrev pub field : List ℕ → ℕ → List ℕ
field line i = slice_index_or (fields_of line) i []

-- more bytes than a name has
abbrev pub is_long : List ℕ → Bool
is_long name = nat_lt LONGEST (length name)

-- what is made of the value, where there is one; a fault stays
abbrev pub and_then : {A B F : Type 0} → Result A F → (A → Result B F) → Result B F
and_then (Ok a) next = next a
and_then (Err fault) next = Err fault

-- the value, unless one of the tests holds: the first that does tells the fault
abbrev pub unless : {A F : Type 0} → List (Bool × F) → A → Result A F
unless [] a = Ok a
unless (t ∷ ts) a = if t.0 then Err t.1 else unless ts a

-- nothing is wrong, or the first of the tests that holds tells the fault
abbrev pub checked : {F : Type 0} → List (Bool × F) → Result (Unit {0}) F
checked tests = unless tests (tt {0})

-- the rows with one more at their end, where there is one
abbrev pub with_row : {R : Type 0} → List R → Option R → List R
with_row rows None = rows
with_row rows (Some row) = rows ++ row ∷ []

-- what a line gives after the rows before it: nothing where it is blank, else its row, where that is kept, or its first fault with its number
abbrev pub read_line : {R : Type 0} → (List R → List ℕ → Result (Option R) LineFault) → ℕ → List R → List ℕ → Result (Option R) FileFault
read_line read number rows line = if is_blank line then Ok None else result_map_both (λ row. row) (Line number) (read rows line)

-- the rows before some lines and the rows of these lines, which are numbered on from a number, each read after the rows before it;
-- or the first fault
abbrev pub rows_from : {R : Type 0} → (List R → List ℕ → Result (Option R) LineFault) → ℕ → List R → List (List ℕ) → Result (List R) FileFault
rows_from read number rows [] = Ok rows
rows_from read number rows (line ∷ rest) =
    and_then (read_line read number rows line) (λ row. rows_from read (number + 1) (with_row rows row) rest)

-- the rows of a text, whose lines are numbered from 1, or its first fault
abbrev pub rows_of : {R : Type 0} → (List R → List ℕ → Result (Option R) LineFault) → List ℕ → Result (List R) FileFault
rows_of read bytes = rows_from read 1 [] (lines bytes)

-- lines were read: a reader with no fault gathers what they say, and a fault that is kept is the first, unless memory ran out
abbrev pub IsReadTo : {R : Type 0} → (List R → List ℕ → Result (Option R) LineFault) → (List (List ℕ) → Type 0) → Option FileFault → List (List ℕ) → Type 0
IsReadTo read Gathers None lines = Gathers lines
IsReadTo read Gathers (Some fault) lines = (fault ≡ Memory) ⊎ (rows_from read 1 [] lines ≡ Err fault)

-- the answer is the one that is wanted, or memory ran out
abbrev pub IsUnlessMemory : {A : Type 0} → Result A FileFault → Result A FileFault → Type 0
IsUnlessMemory answer wanted = (answer ≡ Err Memory) ⊎ (answer ≡ wanted)
