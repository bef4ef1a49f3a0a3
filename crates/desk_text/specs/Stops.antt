-- What is known of the bytes of a line that stand in no field.
use Rattle.std.specs.Prelude.{◌≡◌, ℕ, ◌<◌, ◌≤◌, Bool, ◌||◌, ◌==◌, nat_lt, List, length, drop, slice_index, if◌then◌else◌, false, true}
use Rattle.std.specs.Int.{bit_at}
use Rattle.desk_text.specs.Lines.{fields_of, is_separator, is_stop}
use Rattle.desk_text.specs.declared.stops.FirstStops.{FirstStops}

-- of the first bytes of a line it is known which stand in no field
pub record AreFirstStops (line : List ℕ) (first : FirstStops) : Type 0 where
  pub few : first.known ≤ 64
  pub within : first.known ≤ length line
  pub each : (i : ℕ) → i < first.known → bit_at first.bits i ≡ (if is_stop (slice_index line i) then 1 else 0)
  pub none : (i : ℕ) → first.known ≤ i → bit_at first.bits i ≡ 0

-- the bytes from one place up to another stand in a field
pub record IsInField (line : List ℕ) (from end : ℕ) : Type 0 where
  pub order : from ≤ end
  pub within : end ≤ length line
  pub each : (i : ℕ) → from ≤ i → i < end → is_stop (slice_index line i) ≡ false

-- separators stand from one place up to another, and none at that one; so the fields from both places on are the same
pub record AreSkipped (line : List ℕ) (from next : ℕ) : Type 0 where
  pub order : from ≤ next
  pub within : next ≤ length line
  pub separators : (i : ℕ) → from ≤ i → i < next → is_separator (slice_index line i) ≡ true
  pub start : next < length line → is_separator (slice_index line next) ≡ false
  pub fields : fields_of (drop from line) ≡ fields_of (drop next line)

-- a byte that stands in no field and is no space
abbrev pub is_other : ℕ → Bool
is_other b = nat_lt b 32 || b == 127

-- the line has 16 to 63 bytes, and all that stand in no field are spaces
pub record IsSpaced (line : List ℕ) : Type 0 where
  pub least : 16 ≤ length line
  pub most : length line < 64
  pub each : (i : ℕ) → i < length line → is_other (slice_index line i) ≡ false

-- which bytes of a short line stand in a field, where no byte is bad
pub record AreFieldBits (line : List ℕ) (bits : ℕ) : Type 0 where
  pub each : (i : ℕ) → i < length line → bit_at bits i ≡ (if is_separator (slice_index line i) then 0 else 1)
  pub none : (i : ℕ) → length line ≤ i → bit_at bits i ≡ 0
