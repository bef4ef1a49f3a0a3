-- A line that may be missing.
use Rattle.std.proofs.Common.{◌≡◌, ◌≢◌, ℕ, List, [], ◌∷◌, ◌++◌, refl, ap, sym, subst, ◌∙◌, ◌⊎◌, inl, inr, append_assoc, append-nil, Ok, Err}
use Rattle.std.specs.Prelude.{Option, Some, None, Result}
use Rattle.line_forms.specs.declared.lines.FormFault.{FormFault}
use Rattle.line_forms.specs.declared.lines.FormFault.TheVariants.{Bad, Memory}
use Rattle.line_forms.specs.Form.{Form, Whole, Line, Spells, CanStand, ended, text_of}
use Rattle.line_forms.specs.OrLine.{or_line, show_either, fits_either, next_either}
use Rattle.line_forms.specs.Reading.{Left, FailsAt, BeginsWith, BeginsWithNone, IsReading}
use Rattle.line_forms.proofs.Cuts.{AreAbove}
use Rattle.line_forms.proofs.Decided.{AreTested}
use Rattle.line_forms.proofs.EachPlace.{Fact, AtEach}
use Rattle.line_forms.proofs.Forms.{IsPlain}
use Rattle.line_forms.proofs.Lengths.{AreShort}
use Rattle.line_forms.proofs.Tested.{Found}

-- a form that begins with a line
abbrev pub AsksLine : {X : Type 0} → Form X → Type 0
AsksLine (Whole x) = ⊥
AsksLine (Line show Fits next) = Unit {0}

-- no line is a part of both
abbrev pub AreApart : {P X : Type 0} → (P → List ℕ) → (P → Type 0) → Form X → Type 0
AreApart {P} show Fits form = (p : P) → Fits p → CanStand form (show p ∷ []) → ⊥

-- ---- at each place
pub or_plain : {P X : Type 0} (show : P → List ℕ) (Fits : P → Type 0) (next : P → Form X) (form : Form X) → IsPlain (Line show Fits next) → IsPlain form → AreApart show Fits form → IsPlain (or_line show Fits next form)
or_plain show Fits next (Whole x) h k apart = tt
or_plain {P} {X} show Fits next (Line {P = Q} other Goes after) h k apart = (one, above, later)
  where
    one : (p q : P ⊎ Q) → fits_either Fits Goes p → fits_either Fits Goes q → show_either show other p ≡ show_either show other q → p ≡ q
    one (inl p) (inl q) fp fq e = ap inl (h.0 p q fp fq e)
    one (inr p) (inr q) fp fq e = ap inr (k.0 p q fp fq e)
    one (inl p) (inr q) fp fq e = absurd (apart p fp (q, fq, e, tt))
    one (inr p) (inl q) fp fq e = absurd (apart q fq (p, fp, sym e, tt))

    above : (p : P ⊎ Q) → fits_either Fits Goes p → AreAbove 10 (show_either show other p)
    above (inl p) fp = h.1 p fp
    above (inr q) fq = k.1 q fq

    later : (p : P ⊎ Q) → fits_either Fits Goes p → IsPlain (next_either next after p)
    later (inl p) fp = h.2 p fp
    later (inr q) fq = k.2 q fq

-- a fact that parts of two kinds have together where each has it
abbrev pub IsOfEither : Fact → Type 1
IsOfEither fact = (P Q : Type 0) (show : P → List ℕ) (other : Q → List ℕ) (Fits : P → Type 0) (Goes : Q → Type 0) → fact P show Fits → fact Q other Goes → fact (P ⊎ Q) (show_either show other) (fits_either Fits Goes)

pub in_or : (fact : Fact) → IsOfEither fact → {P X : Type 0} (show : P → List ℕ) (Fits : P → Type 0) (next : P → Form X) (form : Form X) → AtEach fact (Line show Fits next) → AtEach fact form → AtEach fact (or_line show Fits next form)
in_or fact either show Fits next (Whole x) h k = tt
in_or fact either {P} {X} show Fits next (Line {P = Q} other Goes after) h k = (either P Q show other Fits Goes h.0 k.0, later)
  where
    later : (p : P ⊎ Q) → fits_either Fits Goes p → AtEach fact (next_either next after p)
    later (inl p) fp = h.1 p fp
    later (inr q) fq = k.1 q fq

pub tested_either : IsOfEither AreTested
tested_either P Q show other Fits Goes h k = λ line. elim (h line) [
  | inl found ↦ inl (inl found.0, found.1, found.2)
  | inr none ↦ elim (k line) [ inl found ↦ inl (inr found.0, found.1, found.2) | inr never ↦ inr (by line none never) ]
]
  where
    by : (line : List ℕ) → ((p : P) → Fits p → line ≢ show p) → ((q : Q) → Goes q → line ≢ other q) → (p : P ⊎ Q) → fits_either Fits Goes p → line ≢ show_either show other p
    by line none never (inl p) fits e = none p fits e
    by line none never (inr q) goes e = never q goes e

pub short_either : IsOfEither AreShort
short_either P Q show other Fits Goes h k = by
  where
    by : AreShort (P ⊎ Q) (show_either show other) (fits_either Fits Goes)
    by (inl p) fits = h p fits
    by (inr q) goes = k q goes

-- ---- what lines spell
-- the line and what it asks for
pub or_first : {P X : Type 0} (show : P → List ℕ) (Fits : P → Type 0) (next : P → Form X) (form : Form X) (ls : List (List ℕ)) (x : X) → AsksLine form → Spells (Line show Fits next) ls x → Spells (or_line show Fits next form) ls x
or_first show Fits next (Whole v) ls x asks s = absurd asks
or_first show Fits next (Line other Goes after) [] x asks s = absurd s
or_first show Fits next (Line other Goes after) (l ∷ ls) x asks (p, fits, is, s) = (inl p, fits, is, s)

-- the other form
pub or_second : {P X : Type 0} (show : P → List ℕ) (Fits : P → Type 0) (next : P → Form X) (form : Form X) (ls : List (List ℕ)) (x : X) → Spells form ls x → Spells (or_line show Fits next form) ls x
or_second show Fits next (Whole v) ls x s = s
or_second show Fits next (Line other Goes after) [] x s = absurd s
or_second show Fits next (Line other Goes after) (l ∷ ls) x (q, fits, is, s) = (inr q, fits, is, s)

-- nothing else
pub or_forth : {P X : Type 0} (show : P → List ℕ) (Fits : P → Type 0) (next : P → Form X) (form : Form X) (ls : List (List ℕ)) (x : X) → Spells (or_line show Fits next form) ls x → Spells (Line show Fits next) ls x ⊎ Spells form ls x
or_forth show Fits next (Whole v) ls x s = inr s
or_forth show Fits next (Line other Goes after) [] x s = absurd s
or_forth show Fits next (Line other Goes after) (l ∷ ls) x (inl p, fits, is, s) = inl (p, fits, is, s)
or_forth show Fits next (Line other Goes after) (l ∷ ls) x (inr q, fits, is, s) = inr (q, fits, is, s)

-- ---- reading
text_more : (ls : List (List ℕ)) (line rest : List ℕ) → text_of (ls ++ line ∷ []) ++ rest ≡ text_of ls ++ (ended line ++ rest)
text_more [] line rest = ap (λ z. z ++ rest) (append-nil (ended line))
text_more (l ∷ ls) line rest = append_assoc (ended l) (text_of (ls ++ line ∷ [])) rest ∙ ap (λ z. ended l ++ z) (text_more ls line rest) ∙ sym (append_assoc (ended l) (text_of ls) (ended line ++ rest))

module _ {P X : Type 0} (show : P → List ℕ) (Fits : P → Type 0) (next : P → Form X) where
  first_there : (l : List ℕ) (ls : List (List ℕ)) (rest : List ℕ) (p : P) → l ≡ show p → text_of (l ∷ ls) ++ rest ≡ ended (show p) ++ (text_of ls ++ rest)
  first_there l ls rest p is = append_assoc (ended l) (text_of ls) rest ∙ ap (λ z. ended z ++ (text_of ls ++ rest)) is

  -- lines of the other form stand in both
  stands : (form : Form X) (ls : List (List ℕ)) → CanStand form ls → CanStand (or_line show Fits next form) ls
  stands form [] s = tt
  stands (Whole v) (l ∷ ls) s = absurd s
  stands (Line other Goes after) (l ∷ ls) (q, fits, is, s) = (inr q, fits, is, s)

  -- lines of bytes that do not begin with the line are of the other form
  stands_other : (form : Form X) (ls : List (List ℕ)) (rest : List ℕ) → BeginsWithNone show Fits (text_of ls ++ rest) → CanStand (or_line show Fits next form) ls → CanStand form ls
  stands_other form [] rest none s = tt
  stands_other (Whole v) (l ∷ ls) rest none s = absurd s
  stands_other (Line other Goes after) (l ∷ ls) rest none (inl p, fits, is, s) = absurd (none p (text_of ls ++ rest) fits (first_there l ls rest p is))
  stands_other (Line other Goes after) (l ∷ ls) rest none (inr q, fits, is, s) = (q, fits, is, s)

  spells_other : (form : Form X) (ls : List (List ℕ)) (x : X) (rest : List ℕ) → BeginsWithNone show Fits (text_of ls ++ rest) → Spells (or_line show Fits next form) ls x → Spells form ls x
  spells_other (Whole v) ls x rest none s = s
  spells_other (Line other Goes after) [] x rest none s = absurd s
  spells_other (Line other Goes after) (l ∷ ls) x rest none (inl p, fits, is, s) = absurd (none p (text_of ls ++ rest) fits (first_there l ls rest p is))
  spells_other (Line other Goes after) (l ∷ ls) x rest none (inr q, fits, is, s) = (q, fits, is, s)

  -- where the line is not there, the other form is read
  pub other_reads : (form : Form X) (bytes : List ℕ) (left : Left) (r : Result X FormFault) → BeginsWithNone show Fits bytes → IsReading form bytes r left → IsReading (or_line show Fits next form) bytes r left
  other_reads form bytes left (Ok x) none h = record { lines = h.lines; split = h.split; spells = or_second show Fits next form h.lines x h.spells }
  other_reads form bytes left (Err Bad) none h = record {
    before = h.before;
    split = h.split;
    stand = stands form h.before h.stand;
    fails = λ line more e s.
        h.fails line more e (stands_other form (h.before ++ line ∷ []) more (subst (BeginsWithNone show Fits) (h.split ∙ ap (λ z. text_of h.before ++ z) e ∙ sym (text_more h.before line more)) none) s);
    unfinished = λ x s. h.unfinished x (spells_other form h.before x left.last (subst (BeginsWithNone show Fits) h.split none) s);
  }
  other_reads form bytes left (Err Memory) none h = tt

  -- where it is, what it asks for is read after it
  pub line_reads : (form : Form X) (bytes mid : List ℕ) (p : P) (left : Left) (r : Result X FormFault) → AsksLine form → IsPlain (or_line show Fits next form) → Fits p → bytes ≡ ended (show p) ++ mid → IsReading (next p) mid r left →
      IsReading (or_line show Fits next form) bytes r left
  line_reads form bytes mid p left (Ok x) asks plain fits e h = record {
    lines = show p ∷ h.lines;
    split = e ∙ ap (λ z. ended (show p) ++ z) h.split ∙ sym (append_assoc (ended (show p)) (text_of h.lines) left.rest);
    spells = or_first show Fits next form (show p ∷ h.lines) x asks (p, fits, refl, h.spells);
  }
  line_reads (Whole v) bytes mid p left (Err Bad) asks plain fits e h = absurd asks
  line_reads (Line other Goes after) bytes mid p left (Err Bad) asks plain fits e h = record {
    before = show p ∷ h.before;
    split = e ∙ ap (λ z. ended (show p) ++ z) h.split ∙ sym (append_assoc (ended (show p)) (text_of h.before) left.last);
    stand = (inl p, fits, refl, h.stand);
    fails = λ line more f s. h.fails line more f (subst (λ q. CanStand (next_either next after q) (h.before ++ line ∷ [])) (sym (plain.0 (inl p) s.0 fits s.1 s.2)) s.3);
    unfinished = λ x s. h.unfinished x (subst (λ q. Spells (next_either next after q) h.before x) (sym (plain.0 (inl p) s.0 fits s.1 s.2)) s.3);
  }
  line_reads form bytes mid p left (Err Memory) asks plain fits e h = tt
