-- The places of a certificate of either version, made under a depth or under none.
use Rattle.std.proofs.Common.{◌≡◌, ℕ, Bool, true, false, List, [], ◌∷◌, ◌++◌, refl, ap, sym, subst, ◌∙◌, rules, arith, inl, inr}
use Rattle.std.specs.Prelude.{Option, Some, None, codes, decimal}
use Rattle.std.proofs.lemmas.List.{append_cancel_left}
use Rattle.desk_model.specs.MeasureText.{IsMeasure, measure_text}
use Rattle.desk_model.specs.declared.types.MeasureName.{MeasureName}
use Rattle.line_forms.specs.Form.{Whole, Line, Spells, IsFirstBad, IsTextIn, text_of}
use Rattle.line_forms.specs.Places.{fixed_place, name_place, number_place}
use Rattle.line_forms.proofs.Cuts.{AreAbove, head_of}
use Rattle.line_forms.proofs.Forms.{IsPlain, bind_plain, one_bad}
use Rattle.line_forms.proofs.OrLine.{AreApart, AsksLine, or_first, or_forth, or_plain, or_second}
use Rattle.line_forms.proofs.Plain.{number_plain}
use Rattle.line_forms.proofs.Spelling.{line_forth, made_forth, made_back}
use Rattle.line_forms.proofs.Texts.{one_of_text, none_begins, no_bad_line}
use Rattle.order_certificate.specs.Certificate.{IsLevel, certificate_lines, certificate_text, from_first_lines}
use Rattle.order_certificate.specs.Places.{IsText, evidence_places, from_end, from_evidence, from_first, from_second, level_place, measure_place}
use Rattle.order_certificate.specs.declared.certificate.Certificate.{Certificate}
use Rattle.order_certificate.specs.declared.certificate.Evidence.{Evidence}
use Rattle.order_certificate.proofs.Whole.{OneMeasure, end_plain, evidence_plain, first_back, first_forth, first_plain, level_plain, measure_plain, second_plain, spelled_all, spelled_only}
use Rattle.order_bundle.specs.Bundle.{Bundle, bundle_text, runs_lines}
use Rattle.order_bundle.specs.Depths.{IsDepth, IsScope, depth_line, depth_lines}
use Rattle.order_bundle.specs.Either.{any_level, any_measure}
use Rattle.order_bundle.specs.Places.{IsAnyCertificate, IsAnyText, after_depth, after_level, after_measure, after_version, any_text, from_runs, places_with, unscoped, version_line, version_place}
use Rattle.order_bundle.specs.Scoped.{IsScopedText, lines_after_level, lines_to_level, scoped_lines, scoped_text}
use Rattle.order_bundle.specs.declared.any_certificate.AnyCertificate.{AnyCertificate}
use Rattle.order_bundle.specs.declared.any_certificate.AnyCertificate.TheVariants.{One, Many}
use Rattle.order_bundle.specs.declared.any_certificate.Version.{Version}
use Rattle.order_bundle.specs.declared.any_certificate.Version.TheVariants as version
use Rattle.order_bundle.specs.declared.scoped.Scoped.{Scoped}
use Rattle.order_bundle.proofs.WholeBundles.{bundle_back, bundle_forth, from_runs_plain}

-- ---- each line shows one part
pub version_one : (p q : Version) → version_line p ≡ version_line q → p ≡ q
version_one version.One version.One e = refl
version_one version.Many version.Many e = refl
version_one version.One version.Many e = let n = ap (head_of 0) (append_cancel_left (codes "desk-certificate ") (49 ∷ []) (50 ∷ []) e) in absurd (omega arith)
version_one version.Many version.One e = let n = ap (head_of 0) (append_cancel_left (codes "desk-certificate ") (50 ∷ []) (49 ∷ []) e) in absurd (omega arith)

version_above : (p : Version) → AreAbove 10 (version_line p)
version_above version.One = search rules
version_above version.Many = search rules

pub version_plain : IsPlain version_place
version_plain = ((λ p q fp fq e. version_one p q e), (λ p fp. version_above p), (λ p fp. tt))

pub from_first_plain : (m : MeasureName) (l : ℕ) → IsPlain (from_first m l)
from_first_plain m l =
    let last : (f t : List ℕ) (e : Evidence) → IsPlain (from_end m l f t e) =
    λ f t e. bind_plain {X = Certificate} (fixed_place (codes "end")) (λ _. Whole (record { measure = m; level = l; first = f; second = t; evidence = e })) end_plain (λ _. tt) in
    bind_plain (name_place (codes "first ")) (from_second m l) first_plain (λ f.
    bind_plain (name_place (codes "second ")) (from_evidence m l f) second_plain (λ t.
    bind_plain evidence_places (from_end m l f t) evidence_plain (last f t)))

-- a certificate with a depth or none
abbrev pub one_under : Option ℕ → Certificate → Scoped
one_under depth c = record { depth = depth; body = One c }

abbrev pub many_under : Option ℕ → Bundle → Scoped
many_under depth b = record { depth = depth; body = Many b }

pub after_depth_plain : (v : Version) (m : MeasureName) (l : ℕ) (depth : Option ℕ) → IsPlain (after_depth v m l depth)
after_depth_plain version.One m l depth = bind_plain (from_first m l) (λ c. Whole (one_under depth c)) (from_first_plain m l) (λ c. tt)
after_depth_plain version.Many m l depth = bind_plain (from_runs m l) (λ b. Whole (many_under depth b)) (from_runs_plain m l) (λ b. tt)

-- the line of a depth begins neither version's lines after the level
depth_apart : (v : Version) (m : MeasureName) (l : ℕ) → AreApart depth_line IsDepth (after_depth v m l None)
depth_apart version.One m l d fits s = let n = ap (head_of 0) s.2 in absurd (omega arith)
depth_apart version.Many m l d fits s = let n = ap (head_of 0) s.2 in absurd (omega arith)

pub asks_line : (v : Version) (m : MeasureName) (l : ℕ) → AsksLine (after_depth v m l None)
asks_line version.One m l = tt
asks_line version.Many m l = tt

depth_plain : IsPlain (number_place (codes "depth ") IsDepth)
depth_plain = number_plain (codes "depth ") (search rules) IsDepth (λ d fits. omega (arith, fits))

pub after_level_plain : (depths : Bool) (v : Version) (m : MeasureName) (l : ℕ) → IsPlain (after_level depths v m l)
after_level_plain false v m l = after_depth_plain v m l None
after_level_plain true v m l =
    or_plain depth_line IsDepth (λ d. after_depth v m l (Some d)) (after_depth v m l None) (depth_plain.0, depth_plain.1, (λ d fits. after_depth_plain v m l (Some d))) (after_depth_plain v m l None) (depth_apart v m l)

pub after_measure_plain : (depths : Bool) (v : Version) (m : MeasureName) → IsPlain (after_measure depths v m)
after_measure_plain depths v m = bind_plain level_place (after_level depths v m) level_plain (after_level_plain depths v m)

pub after_version_plain : OneMeasure → (depths : Bool) (v : Version) → IsPlain (after_version depths v)
after_version_plain unique depths v = bind_plain measure_place (after_measure depths v) (measure_plain unique) (after_measure_plain depths v)

pub places_plain : OneMeasure → (depths : Bool) → IsPlain (places_with depths)
places_plain unique depths = bind_plain version_place (after_version depths) version_plain (after_version_plain unique depths)

-- ---- what lines spell
-- the first three lines
abbrev opening_of : Version → MeasureName → ℕ → List (List ℕ)
opening_of v measure level = version_line v ∷ (codes "measure " ++ measure_text measure) ∷ (codes "level " ++ decimal level) ∷ []

-- a certificate whose first lines are these, and its lines after the level
abbrev SpellsBody : Version → MeasureName → ℕ → List (List ℕ) → AnyCertificate → Type 0
SpellsBody v measure level ls a = IsAnyCertificate a × (opening_of v measure level ≡ lines_to_level a) × (ls ≡ lines_after_level a)

same_opening : (v : Version) (m n : MeasureName) (k l : ℕ) → m ≡ n → k ≡ l → opening_of v n l ≡ opening_of v m k
same_opening v m n k l e f = ap (λ z. opening_of v z l) (sym e) ∙ ap (λ z. opening_of v m z) (sym f)

after_depth_forth : (v : Version) (measure : MeasureName) (level : ℕ) (depth : Option ℕ) (ls : List (List ℕ)) (s : Scoped) → IsMeasure measure → IsLevel level → Spells (after_depth v measure level depth) ls s →
    (depth ≡ s.depth) × SpellsBody v measure level ls s.body
after_depth_forth version.One measure level depth ls s is_measure is_level spelled =
    let made = made_forth (from_first measure level) (one_under depth) ls s spelled in
    let h = first_forth measure level ls made.0 is_measure is_level made.2 in
    subst (λ (t : Scoped). (depth ≡ t.depth) × SpellsBody version.One measure level ls t.body) made.1 (refl, (h.0, same_opening version.One made.0.measure measure made.0.level level h.1 h.2, h.3))
after_depth_forth version.Many measure level depth ls s is_measure is_level spelled =
    let made = made_forth (from_runs measure level) (many_under depth) ls s spelled in
    let h = bundle_forth measure level ls made.0 is_measure is_level made.2 in
    subst (λ (t : Scoped). (depth ≡ t.depth) × SpellsBody version.Many measure level ls t.body) made.1 (refl, (h.0, same_opening version.Many made.0.measure measure made.0.level level h.1 h.2, h.3))

-- a depth that may be there
abbrev pub IsAllowed : Bool → Option ℕ → Type 0
IsAllowed false depth = depth ≡ None
IsAllowed true depth = IsScope depth

-- what follows the level, with the depth
abbrev SpellsDepth : Bool → Version → MeasureName → ℕ → List (List ℕ) → Scoped → Type 0
SpellsDepth depths v measure level ls s = IsAllowed depths s.depth × (rest : List (List ℕ)) × (ls ≡ depth_lines s.depth ++ rest) × SpellsBody v measure level rest s.body

after_level_forth : (depths : Bool) (v : Version) (measure : MeasureName) (level : ℕ) (ls : List (List ℕ)) (s : Scoped) → IsMeasure measure → IsLevel level → Spells (after_level depths v measure level) ls s → SpellsDepth depths v measure level ls s
after_level_forth false v measure level ls s is_measure is_level spelled =
    let h = after_depth_forth v measure level None ls s is_measure is_level spelled in
    (sym h.0, ls, ap (λ d. depth_lines d ++ ls) h.0, h.1)
after_level_forth true v measure level ls s is_measure is_level spelled =
    elim (or_forth depth_line IsDepth (λ d. after_depth v measure level (Some d)) (after_depth v measure level None) ls s spelled) [
      | inl there ↦
          let d = line_forth depth_line IsDepth (λ d. after_depth v measure level (Some d)) ls s there in
          let h = after_depth_forth v measure level (Some d.0) d.1 s is_measure is_level d.4 in
          (subst IsScope h.0 d.2, d.1, d.3 ∙ ap (λ z. depth_lines z ++ d.1) h.0, h.1)
      | inr missing ↦
          let h = after_depth_forth v measure level None ls s is_measure is_level missing in
          (subst IsScope h.0 tt, ls, ap (λ d. depth_lines d ++ ls) h.0, h.1)
    ]

-- the lines of a certificate that may be there
abbrev SpellsScoped : Bool → List (List ℕ) → Scoped → Type 0
SpellsScoped depths ls s = IsAllowed depths s.depth × IsAnyCertificate s.body × (ls ≡ scoped_lines s)

spelled_only_with : (depths : Bool) (ls : List (List ℕ)) (s : Scoped) → Spells (places_with depths) ls s → SpellsScoped depths ls s
spelled_only_with depths ls s spelled =
    let v = line_forth version_line (λ _. Unit {0}) (after_version depths) ls s spelled in
    let m = line_forth (λ measure. codes "measure " ++ measure_text measure) IsMeasure (after_measure depths v.0) v.1 s v.4 in
    let l = line_forth (λ level. codes "level " ++ decimal level) IsLevel (after_level depths v.0 m.0) m.1 s m.4 in
    let h = after_level_forth depths v.0 m.0 l.0 l.1 s m.2 l.2 l.4 in
    let body = h.3 in
    let opening : ls ≡ opening_of v.0 m.0 l.0 ++ l.1 = v.3 ∙ ap (λ zs. version_line v.0 ∷ zs) (m.3 ∙ ap (λ zs. (codes "measure " ++ measure_text m.0) ∷ zs) l.3) in
    let rest : l.1 ≡ depth_lines s.depth ++ lines_after_level s.body = h.2 ∙ ap (λ zs. depth_lines s.depth ++ zs) body.2 in
    (h.0, body.0, opening ∙ ap (λ zs. opening_of v.0 m.0 l.0 ++ zs) rest ∙ ap (λ zs. zs ++ (depth_lines s.depth ++ lines_after_level s.body)) body.1)

-- the lines after the level, or after the depth, spell a certificate
abbrev version_of : AnyCertificate → Version
version_of (One c) = version.One
version_of (Many b) = version.Many

after_depth_back : (depth : Option ℕ) (a : AnyCertificate) → IsAnyCertificate a → Spells (after_depth (version_of a) (any_measure a) (any_level a) depth) (lines_after_level a) (record { depth = depth; body = a })
after_depth_back depth (One c) h = made_back (from_first c.measure c.level) (one_under depth) (from_first_lines c) c (first_back c h)
after_depth_back depth (Many b) h = made_back (from_runs b.measure b.level) (many_under depth) (runs_lines b.runs b.topics b.claims) b (bundle_back b h)

after_level_back : (depths : Bool) (depth : Option ℕ) (a : AnyCertificate) → IsAllowed depths depth → IsAnyCertificate a →
    Spells (after_level depths (version_of a) (any_measure a) (any_level a)) (depth_lines depth ++ lines_after_level a) (record { depth = depth; body = a })
after_level_back false depth a none h =
    subst (λ (d : Option ℕ). Spells (after_level false (version_of a) (any_measure a) (any_level a)) (depth_lines d ++ lines_after_level a) (record { depth = d; body = a })) (sym none) (after_depth_back None a h)
after_level_back true None a scope h =
    let v = version_of a in
    let m = any_measure a in
    let l = any_level a in
    or_second depth_line IsDepth (λ d. after_depth v m l (Some d)) (after_depth v m l None) (lines_after_level a) (unscoped a) (after_depth_back None a h)
after_level_back true (Some d) a scope h =
    let v = version_of a in
    let m = any_measure a in
    let l = any_level a in
    or_first depth_line IsDepth (λ d. after_depth v m l (Some d)) (after_depth v m l None) (depth_line d ∷ lines_after_level a) (record { depth = Some d; body = a }) (asks_line v m l) (d, scope, refl, after_depth_back (Some d) a h)

measured : (a : AnyCertificate) → IsAnyCertificate a → IsMeasure (any_measure a) × IsLevel (any_level a) × (opening_of (version_of a) (any_measure a) (any_level a) ≡ lines_to_level a)
measured (One c) h = (h.measure, h.level, refl)
measured (Many b) h = (h.measure, h.level, refl)

spelled_all_with : (depths : Bool) (s : Scoped) → IsAllowed depths s.depth → IsAnyCertificate s.body → Spells (places_with depths) (scoped_lines s) s
spelled_all_with depths s allowed h =
    let a = s.body in
    let m = measured a h in
    let rest = depth_lines s.depth ++ lines_after_level a in
    subst (λ zs. Spells (places_with depths) (zs ++ rest) s) m.2
    (version_of a, tt, refl, (any_measure a, m.0, refl, (any_level a, m.1, refl, after_level_back depths s.depth a allowed h)))

-- ---- texts, with the depth where it is allowed
module _ (depths : Bool) where
  pub has_limits : (bytes : List ℕ) (s : Scoped) → IsTextIn (places_with depths) bytes s → IsAllowed depths s.depth × IsAnyCertificate s.body
  has_limits bytes s t = let h = spelled_only_with depths t.0 s t.2 in (h.0, h.1)

  pub is_written : (bytes : List ℕ) (s : Scoped) → IsTextIn (places_with depths) bytes s → bytes ≡ scoped_text s
  unfolding scoped_text
  is_written bytes s t = t.1 ∙ ap text_of (spelled_only_with depths t.0 s t.2).2

  pub has_text : (s : Scoped) → IsAllowed depths s.depth → IsAnyCertificate s.body → IsTextIn (places_with depths) (scoped_text s) s
  unfolding scoped_text
  has_text s allowed h = (scoped_lines s, refl, spelled_all_with depths s allowed h)

  pub one_text : (x y : List ℕ) (s : Scoped) → IsTextIn (places_with depths) x s → IsTextIn (places_with depths) y s → x ≡ y
  one_text x y s tx ty = is_written x s tx ∙ sym (is_written y s ty)

  module _ (unique : OneMeasure) where
    pub one_scoped : (bytes : List ℕ) (a b : Scoped) → IsTextIn (places_with depths) bytes a → IsTextIn (places_with depths) bytes b → a ≡ b
    one_scoped = one_of_text (places_with depths) (places_plain unique depths)

    pub none_begins_scoped : (bytes more : List ℕ) (a b : Scoped) → IsTextIn (places_with depths) bytes a → IsTextIn (places_with depths) (bytes ++ more) b → (more ≡ []) × (a ≡ b)
    none_begins_scoped = none_begins (places_with depths) (places_plain unique depths)

    pub one_bad_line : (bytes : List ℕ) (m n : ℕ) → IsFirstBad (places_with depths) bytes m → IsFirstBad (places_with depths) bytes n → m ≡ n
    one_bad_line bytes m n = one_bad (places_with depths) bytes m n (places_plain unique depths)

    pub none_bad_line : (bytes : List ℕ) (s : Scoped) (n : ℕ) → IsTextIn (places_with depths) bytes s → IsFirstBad (places_with depths) bytes n → ⊥
    none_bad_line = no_bad_line (places_with depths) (places_plain unique depths)

-- ---- texts without a depth
-- nothing is said but the certificate
pub unscoped_text : (a : AnyCertificate) → scoped_text (unscoped a) ≡ any_text a
unfolding scoped_text certificate_text bundle_text
unscoped_text (One c) = refl
unscoped_text (Many b) = refl

pub text_of_body : (bytes : List ℕ) (s : Scoped) → IsTextIn (places_with false) bytes s → IsAnyText bytes s.body
text_of_body bytes s t = subst (λ (d : Option ℕ). IsTextIn (places_with false) bytes (record { depth = d; body = s.body })) (has_limits false bytes s t).0 t

pub any_has_text : (a : AnyCertificate) → IsAnyCertificate a → IsAnyText (any_text a) a
any_has_text a h = subst (λ z. IsAnyText z a) (unscoped_text a) (has_text false (unscoped a) refl h)

-- where a line of a depth may come it is the same text
pub any_in_scoped : (bytes : List ℕ) (a : AnyCertificate) → IsAnyText bytes a → IsScopedText bytes (unscoped a)
any_in_scoped bytes a t = subst (λ z. IsScopedText z (unscoped a)) (sym (is_written false bytes (unscoped a) t)) (has_text true (unscoped a) tt (has_limits false bytes (unscoped a) t).1)

pub scoped_in_any : (bytes : List ℕ) (a : AnyCertificate) → IsScopedText bytes (unscoped a) → IsAnyText bytes a
scoped_in_any bytes a t = subst (λ z. IsAnyText z a) (sym (is_written true bytes (unscoped a) t)) (has_text false (unscoped a) refl (has_limits true bytes (unscoped a) t).1)

-- a text of version 1 is one of either version, and no other text is
pub text_of_one : (bytes : List ℕ) (c : Certificate) → IsText bytes c → IsAnyText bytes (One c)
text_of_one bytes c t =
    let h = spelled_only t.0 c t.2 in
    (certificate_lines c, t.1 ∙ ap text_of h.0, spelled_all_with false (unscoped (One c)) refl h.1)

pub one_of_any : (bytes : List ℕ) (c : Certificate) → IsAnyText bytes (One c) → IsText bytes c
one_of_any bytes c t =
    let h = spelled_only_with false t.0 (unscoped (One c)) t.2 in
    (certificate_lines c, t.1 ∙ ap text_of h.2, spelled_all c h.1)
