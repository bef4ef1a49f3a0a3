-- What the first line of a text says of the lines after it.
use Rattle.std.proofs.Common.{◌≡◌, ◌≢◌, ℕ, false, List, [], ◌∷◌, ◌++◌, refl, ap, sym, subst, ◌∙◌, append_assoc}
use Rattle.std.specs.Prelude.{None, codes}
use Rattle.line_forms.specs.Form.{Form, Whole, Line, Spells, CanStand, IsFirstBad, bind, ended, text_of}
use Rattle.line_forms.proofs.Cuts.{AreAbove, same_parts, first_ended}
use Rattle.line_forms.proofs.Forms.{IsPlain, stands_lines}
use Rattle.line_forms.proofs.Spelling.{made_back, made_forth}
use Rattle.order_certificate.specs.Places.{certificate_places, from_measure}
use Rattle.order_certificate.specs.declared.certificate.Certificate.{Certificate}
use Rattle.order_certificate.proofs.Whole.{OneMeasure, places_plain as version_1_places_plain, version_plain as version_1_plain}
use Rattle.order_bundle.specs.Places.{after_version, any_places, version_line}
use Rattle.order_bundle.specs.declared.any_certificate.Version.{Version}
use Rattle.order_bundle.specs.declared.any_certificate.Version.TheVariants as version
use Rattle.order_bundle.specs.declared.scoped.Scoped.{Scoped}
use Rattle.order_bundle.proofs.Either.{one_under, places_plain, version_one}

-- what stands in a form stands where its value is only made into another
made_stands : {V X : Type 0} (form : Form V) (make : V → X) (ls : List (List ℕ)) → CanStand form ls → CanStand (bind form (λ v. Whole (make v))) ls
made_stands form make [] s = tt
made_stands (Whole v) make (l ∷ ls) s = absurd s
made_stands (Line show Fits next) make (l ∷ ls) (p, fits, is, s) = (p, fits, is, made_stands (next p) make ls s)

stands_made : {V X : Type 0} (form : Form V) (make : V → X) (ls : List (List ℕ)) → CanStand (bind form (λ v. Whole (make v))) ls → CanStand form ls
stands_made form make [] s = tt
stands_made (Whole v) make (l ∷ ls) s = absurd s
stands_made (Line show Fits next) make (l ∷ ls) (p, fits, is, s) = (p, fits, is, stands_made (next p) make ls s)

-- two forms in which the same lines can stand after one first line have the same first bad line in bytes that begin with it
module _ {X Y : Type 0} (form : Form X) (other : Form Y) (plain : IsPlain form) (first : List ℕ) (above : AreAbove 10 first)
    (there : (ls : List (List ℕ)) → CanStand form (first ∷ ls) → CanStand other (first ∷ ls))
    (back : (ls : List (List ℕ)) → CanStand other (first ∷ ls) → CanStand form (first ∷ ls))
    (begins : CanStand form (first ∷ []))
    (spelled : (ls : List (List ℕ)) (y : Y) → Spells other (first ∷ ls) y → (x : X) × Spells form (first ∷ ls) x) where
  same_bad : (bytes more : List ℕ) (n : ℕ) → bytes ≡ ended first ++ more → IsFirstBad form bytes n → IsFirstBad other bytes n
  same_bad bytes more n e bad = by bad.before refl
    where
      by : (before : List (List ℕ)) → bad.before ≡ before → IsFirstBad other bytes n
      by [] is = absurd (bad.fails first more (sym (ap (λ ls. text_of ls ++ bad.rest) is) ∙ sym bad.split ∙ e) (subst (λ ls. CanStand form (ls ++ first ∷ [])) (sym is) begins))
      by (l ∷ ls) is =
          let split : bytes ≡ text_of (l ∷ ls) ++ bad.rest = bad.split ∙ ap (λ zs. text_of zs ++ bad.rest) is in
          let stand : CanStand form (l ∷ ls) = subst (CanStand form) is bad.stand in
          let same : l ≡ first = (same_parts 10 l first (text_of ls ++ bad.rest) more (stands_lines form (l ∷ ls) plain stand).0 above (sym (first_ended l ls bad.rest) ∙ sym split ∙ e ∙ append_assoc first (10 ∷ []) more)).0 in
          let all : bad.before ≡ first ∷ ls = is ∙ ap (λ z. z ∷ ls) same in
          record {
            before = bad.before;
            rest = bad.rest;
            split = bad.split;
            counted = bad.counted;
            stand = subst (CanStand other) (sym all) (there ls (subst (CanStand form) all bad.stand));
            fails = λ line rest f s. bad.fails line rest f (subst (λ zs. CanStand form (zs ++ line ∷ [])) (sym all) (back (ls ++ line ∷ []) (subst (λ zs. CanStand other (zs ++ line ∷ [])) all s)));
            unfinished = λ y f s. let x = spelled ls y (subst (λ zs. Spells other zs y) all s) in bad.unfinished x.0 f (subst (λ zs. Spells form zs x.0) (sym all) x.1);
          }

-- ---- version 1
abbrev first_line : List ℕ
first_line = codes "desk-certificate 1"

one_above : AreAbove 10 first_line
one_above = version_1_plain.1 tt tt

abbrev StandsAfter : Version → List (List ℕ) → Type 0
StandsAfter v ls = CanStand (after_version false v) ls

abbrev made : Certificate → Scoped
made = one_under None

to_any : (ls : List (List ℕ)) → CanStand certificate_places (first_line ∷ ls) → CanStand any_places (first_line ∷ ls)
to_any ls (_, _, _, s) = (version.One, tt, refl, made_stands from_measure made ls s)

from_any : (ls : List (List ℕ)) → CanStand any_places (first_line ∷ ls) → CanStand certificate_places (first_line ∷ ls)
from_any ls (v, _, is, s) = (tt, tt, refl, stands_made from_measure made ls (subst (λ w. StandsAfter w ls) (sym (version_one version.One v is)) s))

one_to_any : (ls : List (List ℕ)) (c : Certificate) → Spells certificate_places (first_line ∷ ls) c → (a : Scoped) × Spells any_places (first_line ∷ ls) a
one_to_any ls c (_, _, _, s) = (made c, (version.One, tt, refl, made_back from_measure made ls c s))

any_to_one : (ls : List (List ℕ)) (a : Scoped) → Spells any_places (first_line ∷ ls) a → (c : Certificate) × Spells certificate_places (first_line ∷ ls) c
any_to_one ls a (v, _, is, s) =
    let h = made_forth from_measure made ls a (subst (λ w. Spells (after_version false w) ls a) (sym (version_one version.One v is)) s) in
    (h.0, (tt, tt, refl, h.2))

pub bad_in_any : OneMeasure → (bytes more : List ℕ) (n : ℕ) → bytes ≡ ended first_line ++ more → IsFirstBad certificate_places bytes n → IsFirstBad any_places bytes n
bad_in_any unique = same_bad certificate_places any_places (version_1_places_plain unique) first_line one_above to_any from_any (tt, tt, refl, tt) any_to_one

pub bad_in_one : OneMeasure → (bytes more : List ℕ) (n : ℕ) → bytes ≡ ended first_line ++ more → IsFirstBad any_places bytes n → IsFirstBad certificate_places bytes n
bad_in_one unique = same_bad any_places certificate_places (places_plain unique false) first_line one_above from_any to_any (version.One, tt, refl, tt) one_to_any

-- ---- no version
pub no_version : (bytes : List ℕ) → ((v : Version) (more : List ℕ) → bytes ≢ ended (version_line v) ++ more) → IsFirstBad any_places bytes 1
no_version bytes none = record {
  before = [];
  rest = bytes;
  split = refl;
  counted = refl;
  stand = tt;
  fails = λ line more e s. none s.0 more (e ∙ ap (λ z. ended z ++ more) s.2);
  unfinished = λ x e s. s;
}
