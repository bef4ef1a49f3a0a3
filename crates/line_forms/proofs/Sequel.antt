-- Reading one part after another.
use Rattle.std.proofs.Common.{◌≡◌, ◌≢◌, ℕ, List, [], ◌∷◌, ◌++◌, refl, ap, sym, subst, ◌∙◌, append-nil, append_assoc, Ok, Err}
use Rattle.std.specs.Prelude.{Result}
use Rattle.line_forms.specs.declared.lines.FormFault.{FormFault}
use Rattle.line_forms.specs.declared.lines.FormFault.TheVariants.{Bad, Memory}
use Rattle.line_forms.specs.Form.{Form, Whole, Line, bind, ended, text_of}
use Rattle.line_forms.specs.Reading.{Left, FailsAt, BeginsWith, IsReading, IsPartOf, IsFreeOf}
use Rattle.line_forms.proofs.Forms.{IsPlain, bind_back}
use Rattle.line_forms.proofs.Failing.{fail_first, fail_second, line_fails, line_missing}
use Rattle.line_forms.proofs.Joins.{text_of-append}
use Rattle.line_forms.proofs.Spelling.{made_back}

-- a line that shows a part, or none
pub read_part : {P : Type 0} (show : P → List ℕ) (Fits : P → Type 0) (bytes line : List ℕ) (left : Left) (r : Result P FormFault) → ((p : P) → Fits p → IsFreeOf 10 (show p)) → left.last ≡ bytes → bytes ≡ ended line ++ left.rest → IsFreeOf 10 line → IsPartOf show Fits line r →
    IsReading (Line show Fits Whole) bytes r left
read_part show Fits bytes line left (Ok p) free last e feedless h = record {
  lines = line ∷ [];
  split = e ∙ ap (λ z. z ++ left.rest) (sym (append-nil (ended line)));
  spells = (p, h.0, h.1, refl);
}
read_part show Fits bytes line left (Err Bad) free last e feedless h = subst (λ z. FailsAt (Line show Fits Whole) bytes z) (sym last) (line_fails show Fits Whole bytes line left.rest free e feedless h)
read_part show Fits bytes line left (Err Memory) free last e feedless h = tt

pub read_none : {P : Type 0} (show : P → List ℕ) (Fits : P → Type 0) (bytes last : List ℕ) → last ≡ bytes → ((line more : List ℕ) → bytes ≢ ended line ++ more) → FailsAt (Line show Fits Whole) bytes last
read_none show Fits bytes last e none = subst (λ z. FailsAt (Line show Fits Whole) bytes z) (sym e) (line_missing show Fits Whole bytes none)

pub join : (bytes mid rest : List ℕ) (ls ms : List (List ℕ)) → bytes ≡ text_of ls ++ mid → mid ≡ text_of ms ++ rest → bytes ≡ text_of (ls ++ ms) ++ rest
join bytes mid rest ls ms e f = e ∙ ap (λ z. text_of ls ++ z) f ∙ sym (append_assoc (text_of ls) (text_of ms) rest) ∙ ap (λ z. z ++ rest) (sym (text_of-append ls ms))

-- a value, and then what its form asks for
pub then_reads : {V X : Type 0} (form : Form V) (then : V → Form X) (bytes mid : List ℕ) (v : V) (left : Left) (r : Result X FormFault) → IsPlain form → BeginsWith form bytes v mid → IsReading (then v) mid r left → IsReading (bind form then) bytes r left
then_reads form then bytes mid v left (Ok x) plain b h = record {
  lines = b.lines ++ h.lines;
  split = join bytes mid left.rest b.lines h.lines b.split h.split;
  spells = bind_back form then b.lines h.lines v x b.spells h.spells;
}
then_reads form then bytes mid v left (Err Bad) plain b h = fail_second form then bytes mid left.last b.lines v plain b.spells b.split h
then_reads form then bytes mid v left (Err Memory) plain b h = tt

-- where the first is not read, both are not
pub stop_reads : {V X : Type 0} (form : Form V) (then : V → Form X) (bytes : List ℕ) (left : Left) (e : FormFault) → IsPlain form → IsReading form bytes (Err e) left → IsReading (bind form then) bytes (Err e) left
stop_reads form then bytes left Bad plain h = fail_first form then bytes left.last plain h
stop_reads form then bytes left Memory plain h = tt

-- a value that is only made into another
pub made_reads : {V X : Type 0} (form : Form V) (make : V → X) (bytes rest : List ℕ) (v : V) → BeginsWith form bytes v rest → BeginsWith (bind form (λ v. Whole (make v))) bytes (make v) rest
made_reads form make bytes rest v h = record { lines = h.lines; split = h.split; spells = made_back form make h.lines v h.spells }
