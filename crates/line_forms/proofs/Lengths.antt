-- How long the lines of a form can be.
use Rattle.std.proofs.Common.{ℕ, suc, ◌^◌, ◌<◌, ◌≤◌, List, [], ◌∷◌, ◌++◌, length, sym, subst, true, ◌≡◌, arith, ℤ, pos, negsuc, length-append}
use Rattle.std.specs.Prelude.{decimal}
use Rattle.std.specs.List.{AllByRecursion}
use Rattle.std.specs.Fmt.{signed_decimal}
use Rattle.std.proofs.lemmas.Fmt.{length-decimal-le}
use Rattle.desk_model.specs.Name.{is_name}
use Rattle.desk_model.proofs.Words.{name_most}
use Rattle.line_forms.specs.Form.{Form, Whole, Line, CanStand}
use Rattle.line_forms.specs.Places.{IsShortNumber, count_line}
use Rattle.line_forms.proofs.EachPlace.{Fact, AtEach}

-- a line of at most 4,096 bytes
abbrev pub IsShortLine : List ℕ → Type 0
IsShortLine line = length line ≤ 4096

-- every part that fits a place is shown by a short line
abbrev pub AreShort : Fact
AreShort P show Fits = (p : P) → Fits p → IsShortLine (show p)

pub stand_short : {X : Type 0} (form : Form X) (ls : List (List ℕ)) → AtEach AreShort form → CanStand form ls → AllByRecursion IsShortLine ls
stand_short form [] h s = tt
stand_short (Whole x) (l ∷ ls) h s = absurd s
stand_short (Line show Fits next) (l ∷ ls) h (p, fits, is, s) = (subst IsShortLine (sym is) (h.0 p fits), stand_short (next p) ls (h.1 p fits) s)

pub decimal_most : (n : ℕ) → n < 10 ^ 19 → length (decimal n) ≤ 19
decimal_most n lt = length-decimal-le 19 n (omega arith) lt (omega arith)

pub signed_most : (z : ℤ) → IsShortNumber z → length (signed_decimal z) ≤ 20
signed_most (pos n) h = let most = decimal_most n h in omega arith
signed_most (negsuc n) h = let most = decimal_most (suc n) h in omega arith

-- a short word and a short text
pub word_short : (word text : List ℕ) → length word ≤ 100 → length text ≤ 900 → IsShortLine (word ++ text)
word_short word text h k = omega (arith, length-append word text)

-- a topic and a number after it
pub name_and_text_short : (topic text : List ℕ) → is_name topic ≡ true → length text ≤ 20 → length (topic ++ 32 ∷ text) ≤ 276
name_and_text_short topic text named le = let most = name_most topic named in omega (arith, length-append topic (32 ∷ text))

pub name_short : (word name : List ℕ) → length word ≤ 100 → is_name name ≡ true → IsShortLine (word ++ name)
name_short word name h named = let most = name_most name named in word_short word name h (omega arith)

pub number_short : (word : List ℕ) (n : ℕ) → length word ≤ 100 → n < 10 ^ 19 → IsShortLine (word ++ decimal n)
number_short word n h lt = let most = decimal_most n lt in word_short word (decimal n) h (omega arith)

-- a word, a topic and a count
pub count_short : (word topic : List ℕ) (n : ℕ) → length word ≤ 100 → is_name topic ≡ true → n ≤ 25000000 → IsShortLine (count_line word topic n)
count_short word topic n h named le =
    let digits = decimal_most n (omega arith) in
    let name = name_most topic named in
    omega (arith, length-append (word ++ topic) (32 ∷ decimal n), length-append word topic)
