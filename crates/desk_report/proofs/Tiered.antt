-- The printed tiers of runs, and that what they claim is true.
use Rattle.std.proofs.Common.{◌≡◌, ℕ, ◌+◌, ◌<◌, ◌≤◌, List, [], ◌∷◌, ◌++◌, length, take, get_or, map, Option, Some, None, refl, ap, sym, subst, ◌∙◌, arith, rules, append_assoc, pos}
use Rattle.std.specs.Prelude.{All, codes, decimal, flat_map, slice_index_or, true}
use Rattle.std.specs.List.{AllByRecursion}
use Rattle.std.proofs.lemmas.List.{take_all, length-map}
use Rattle.std.proofs.lemmas.List.Elements.{All-from_recursion, recursion_from_All}
use Rattle.small_lemmas.proofs.Lists.{all-append, map_there}
use Rattle.desk_text.specs.Lines.{fields_of, whole_lines}
use Rattle.desk_model.specs.Desk.{Desk, IsDesk, AreMarksOf, topics_under}
use Rattle.desk_model.specs.MeasureText.{IsMeasure, measure_text}
use Rattle.desk_model.specs.Name.{is_name}
use Rattle.desk_model.specs.declared.types.Mark.{Mark}
use Rattle.desk_model.specs.declared.types.MeasureName.{MeasureName}
use Rattle.desk_model.proofs.Nested.{take-there}
use Rattle.desk_model.proofs.Words.{IsWord, name_word, fields_word, fields_last}
use Rattle.topic_counts.specs.declared.span.Span.{Span}
use Rattle.measure_core.specs.declared.cell.Cell.{Cell}
use Rattle.order_bundle.specs.Scoped.{depth_lines}
use Rattle.pair_table.specs.Kept.{HeldSums}
use Rattle.pair_table.specs.Numbers.{HasCellEnds}
use Rattle.order_tiers.specs.Holding.{CoverHolds}
use Rattle.order_tiers.specs.Order.{Ordered, IsOrderBy, IsOrderIn, CoverIsWithin, compared}
use Rattle.order_tiers.specs.declared.cover.Cover.{Cover}
use Rattle.order_tiers.proofs.Naming.{named_order}
use Rattle.desk_report.specs.Reports.{Subject, IsSubjectOf}
use Rattle.desk_report.specs.Table.{ended, head_lines}
use Rattle.desk_report.specs.Tiers.{cover_line, line_of_cover, system_line, system_lines, tiers_lines, tiers_text, CoverSays, IsTiersText, IsTrueCoverLine, TiersTextsAreTrue}
use Rattle.desk_report.proofs.Joins.{flat_map-push, get_or-there}
use Rattle.desk_report.proofs.Lines.{IsSound, IsNamed, field, head_sound, named_at, named_runs, number_in_line, prefix_all, prefix_true, word}
use Rattle.desk_report.proofs.Others.{first_byte, other_sound}
use Rattle.desk_report.proofs.Pairing.{all_weaker}
use Rattle.desk_report.proofs.Spelling.{AreInLine, ink_in_line, in_line-append, in_line-spaced}
use Rattle.desk_report.proofs.Texts.{signed_word}
use Rattle.desk_report.proofs.Truths.{AreWritten, no_certificate}

-- ---- lines made of the items of one list
pub one_made : {A : Type 0} (f : A → List ℕ) (xs : List A) (i : ℕ) (d : A) (o before now : List ℕ) → i < length xs → before ≡ o ++ flat_map ended (take i (map f xs)) → now ≡ before ++ ended (f (get_or xs i d)) →
    now ≡ o ++ flat_map ended (take (i + 1) (map f xs))
one_made f xs i d o before now lt h k =
    let x = get_or xs i d in
    let there = take-there (map f xs) i (f x) (map_there f xs i x (get_or-there xs i d lt)) in
    k ∙ ap (λ t. t ++ ended (f x)) h ∙ append_assoc o (flat_map ended (take i (map f xs))) (ended (f x))
    ∙ ap (λ t. o ++ t) (sym (flat_map-push (take i (map f xs)) (f x)) ∙ ap (flat_map ended) (sym there))

pub all_made : {A : Type 0} (f : A → List ℕ) (xs : List A) (i : ℕ) (o now : List ℕ) → length xs ≤ i → now ≡ o ++ flat_map ended (take i (map f xs)) → now ≡ o ++ flat_map ended (map f xs)
all_made f xs i o now end h = h ∙ ap (λ ls. o ++ flat_map ended ls) (take_all i (map f xs) (omega (arith, end, length-map xs f)))

-- ---- a cover line
pub cover_joined : (o p q r x y : List ℕ) (wins losses : ℕ) → p ≡ o ++ (codes "cover " ++ x ++ 32 ∷ y) → q ≡ p ++ (32 ∷ decimal wins ++ 32 ∷ decimal losses) → r ≡ q ++ 10 ∷ [] → r ≡ o ++ ended (cover_line x y wins losses)
cover_joined o p q r x y wins losses e f g = g ∙ ap (λ t. t ++ 10 ∷ []) (f ∙ ap (λ t. t ++ (32 ∷ decimal wins ++ 32 ∷ decimal losses)) e) ∙ regroup o x y (decimal wins) (decimal losses)
  where
    regroup : (o x y w l : List ℕ) → ((o ++ (codes "cover " ++ x ++ 32 ∷ y)) ++ (32 ∷ w ++ 32 ∷ l)) ++ 10 ∷ [] ≡ o ++ ended (codes "cover " ++ x ++ 32 ∷ y ++ 32 ∷ w ++ 32 ∷ l)
    regroup o x y w l = simp append_assoc

fields_cover : (x y w l : List ℕ) → IsWord x → IsWord y → IsWord w → IsWord l → fields_of (codes "cover " ++ x ++ 32 ∷ y ++ 32 ∷ w ++ 32 ∷ l) ≡ codes "cover" ∷ x ∷ y ∷ w ∷ l ∷ []
fields_cover x y w l wx wy ww wl =
    ap fields_of (regroup x y w l)
    ∙ fields_word (codes "cover") (x ++ 32 ∷ (y ++ 32 ∷ (w ++ 32 ∷ l))) (word _ (omega arith) (search rules))
    ∙ ap (λ fs. codes "cover" ∷ fs) (fields_word x (y ++ 32 ∷ (w ++ 32 ∷ l)) wx
    ∙ ap (λ fs. x ∷ fs) (fields_word y (w ++ 32 ∷ l) wy
    ∙ ap (λ fs. y ∷ fs) (fields_word w l ww
    ∙ ap (λ fs. w ∷ fs) (fields_last l wl))))
  where
    regroup : (x y w l : List ℕ) → (codes "cover " ++ x ++ 32 ∷ y ++ 32 ∷ w ++ 32 ∷ l) ≡ codes "cover" ++ 32 ∷ (x ++ 32 ∷ (y ++ 32 ∷ (w ++ 32 ∷ l)))
    regroup x y w l = simp append_assoc

number_word : (n : ℕ) → IsWord (decimal n)
number_word n = signed_word (pos n)

-- ---- the text of a table
pub tiers_is : {M : Type 0} (measured : MeasureName) (cell : List Mark → List ℕ → List ℕ → Cell) (bounds : List Mark → List ℕ → Span) (desk : Desk) (valid : IsDesk desk) (sums : HeldSums M) (s : Subject) (of : IsSubjectOf measured cell bounds desk sums s)
    (level : ℕ) (depth : Option ℕ) (name : MeasureName) (marks : List (List Mark)) (order : Ordered) (text : List ℕ) → s.level ≡ level → s.depth ≡ depth → s.marks ≡ marks → name ≡ measured →
    IsOrderBy (HasCellEnds cell) (compared desk marks sums.totals) order → text ≡ tiers_text desk name level depth order → IsTiersText s text
tiers_is measured cell bounds desk valid sums s of level depth name marks order text at under marked named is_order is =
    let own : IsOrderBy (HasCellEnds cell) (compared s.desk s.marks sums.totals) order =
    subst (λ ms. IsOrderBy (HasCellEnds cell) (compared s.desk ms sums.totals) order) (sym marked) (subst (λ d. IsOrderBy (HasCellEnds cell) (compared d marks sums.totals) order) (sym of.over) is_order) in
    let valid_too = subst IsDesk (sym of.over) valid in
    record {
      valid = valid_too;
      order = order;
      named = named_order s.measure cell bounds s.desk s.marks order of.on.made.numbers valid_too of.marked (subst (λ ts. IsOrderBy (HasCellEnds cell) (compared s.desk s.marks ts) order) of.on.stands.totals own);
      is = is ∙ ap (λ d. tiers_text d name level depth order) (sym of.over) ∙ ap (λ n. tiers_text s.desk n level depth order) (named ∙ of.on.made.named)
          ∙ ap (λ l. tiers_text s.desk s.measure l depth order) (sym at) ∙ ap (λ d. tiers_text s.desk s.measure s.level d order) (sym under);
    }

-- ---- what lines claim
module _ (name : MeasureName) (desk : Desk) (marks : List (List Mark)) where
  -- a line that claims nothing false of runs, also as one of a covering pair
  abbrev IsGood : List ℕ → Type 0
  IsGood line = IsSound name desk marks line × IsTrueCoverLine name desk marks line

  -- a line that begins with another byte than `cover` is none
  no_cover_line : (b : ℕ) (bs : List ℕ) → 32 < b → (b ≡ 99 → ⊥) → IsTrueCoverLine name desk marks (b ∷ bs)
  no_cover_line b bs ink other first second wins losses is = absurd (other (sym (first_byte b bs ink) ∙ ap (λ fs. get_or (field 0 fs) 0 0) is))

  depths_good : (depth : Option ℕ) → AllByRecursion (IsTrueCoverLine name desk marks) (depth_lines depth)
  depths_good None = tt
  depths_good (Some d) = (no_cover_line 100 (codes "epth " ++ decimal d) (omega arith) (λ e. omega (arith, e)), tt)

  heads_good : (level : ℕ) (depth : Option ℕ) (topics runs : ℕ) → AllByRecursion (IsTrueCoverLine name desk marks) (head_lines name level depth topics runs)
  heads_good level depth topics runs = (
    no_cover_line 109 (codes "easure " ++ measure_text name) (omega arith) (λ e. omega (arith, e)),
    (
      no_cover_line 108 (codes "evel " ++ decimal level) (omega arith) (λ e. omega (arith, e)),
      all-append (IsTrueCoverLine name desk marks) (depth_lines depth) ((codes "topics " ++ decimal topics) ∷ (codes "runs " ++ decimal runs) ∷ []) (depths_good depth)
          (no_cover_line 116 (codes "opics " ++ decimal topics) (omega arith) (λ e. omega (arith, e)), (no_cover_line 114 (codes "uns " ++ decimal runs) (omega arith) (λ e. omega (arith, e)), tt)),
    ),
  )

  pair_of : (P Q : List ℕ → Type 0) (lines : List (List ℕ)) → AllByRecursion P lines → AllByRecursion Q lines → AllByRecursion (λ l. P l × Q l) lines
  pair_of P Q [] h k = tt
  pair_of P Q (l ∷ ls) h k = ((h.0, k.0), pair_of P Q ls h.1 k.1)

  head_good : (level : ℕ) (depth : Option ℕ) (topics runs : ℕ) → AllByRecursion IsGood (head_lines name level depth topics runs)
  head_good level depth topics runs = pair_of (IsSound name desk marks) (IsTrueCoverLine name desk marks) (head_lines name level depth topics runs) (head_sound name desk marks level depth topics runs) (heads_good level depth topics runs)

  count_good : (n : ℕ) → IsGood (codes "tiers " ++ decimal n)
  count_good n = (
    other_sound name desk marks 116 _ (omega arith) (λ e. omega (arith, e)) (λ e. omega (arith, e)) (in_line-append (codes "tiers ") (decimal n) (search rules) (number_in_line name desk marks n)),
    no_cover_line 116 (codes "iers " ++ decimal n) (omega arith) (λ e. omega (arith, e)),
  )

  system_good : (text : List ℕ) (tier : ℕ) → IsWord text → IsGood (system_line text tier)
  system_good text tier w = (
    other_sound name desk marks 115 _ (omega arith) (λ e. omega (arith, e)) (λ e. omega (arith, e))
        (in_line-spaced (codes "system " ++ text) (decimal tier) (in_line-append (codes "system ") text (search rules) (ink_in_line text w.ink)) (number_in_line name desk marks tier)),
    no_cover_line 115 ((codes "ystem " ++ text) ++ 32 ∷ decimal tier) (omega arith) (λ e. omega (arith, e)),
  )

  systems_good : (runs : List (List ℕ)) (tiers : List ℕ) → AllByRecursion IsWord runs → AllByRecursion IsGood (system_lines runs tiers)
  systems_good [] tiers h = tt
  systems_good (r ∷ rs) [] h = tt
  systems_good (r ∷ rs) (t ∷ ts) h = (system_good r t h.0, systems_good rs ts h.1)

  -- the line of a covering pair says what holds of it
  cover_good : (c : Cover) (x y : List ℕ) → IsNamed name desk marks c.first x → IsNamed name desk marks c.second y → CoverHolds name (topics_under desk marks) c → IsGood (cover_line x y c.wins c.losses)
  cover_good c x y nx ny h =
      let topics = topics_under desk marks in
      let w : List ℕ = decimal c.wins in
      let l : List ℕ = decimal c.losses in
      let own = fields_cover x y w l nx.1 ny.1 (number_word c.wins) (number_word c.losses) in
      let says : CoverSays name topics w l c.first c.second = record {
        above = h.above;
        won = record { count = c.wins; digits = refl; holds = h.wins };
        lost = record { count = c.losses; digits = refl; holds = h.losses };
      } in
      let names = in_line-spaced (codes "cover " ++ x) y (in_line-append (codes "cover ") x (search rules) (ink_in_line x nx.1.ink)) (ink_in_line y ny.1.ink) in (
        other_sound name desk marks 99 _ (omega arith) (λ e. omega (arith, e)) (λ e. omega (arith, e))
            (in_line-spaced ((codes "cover " ++ x ++ 32 ∷ y) ++ 32 ∷ w) l (in_line-spaced (codes "cover " ++ x ++ 32 ∷ y) w names (number_in_line name desk marks c.wins)) (number_in_line name desk marks c.losses)),
        λ first second wins losses is.
            let same = sym own ∙ is in
            named_runs name desk marks c.first c.second x y first second (CoverSays name topics wins losses) nx.0 ny.0 (ap (field 1) same) (ap (field 2) same)
            (subst (λ v. CoverSays name topics wins v c.first c.second) (ap (field 4) same) (subst (λ v. CoverSays name topics v l c.first c.second) (ap (field 3) same) says)),
      )

  covers_good : IsDesk desk → (covers : List Cover) → AllByRecursion (CoverIsWithin (length desk.runs)) covers → AllByRecursion (CoverHolds name (topics_under desk marks)) covers → AllByRecursion IsGood (map (line_of_cover desk.runs) covers)
  covers_good valid [] within h = tt
  covers_good valid (c ∷ cs) within h =
      (cover_good c (slice_index_or desk.runs c.first []) (slice_index_or desk.runs c.second []) (named_at name desk marks c.first valid within.0.first) (named_at name desk marks c.second valid within.0.second) h.0, covers_good valid cs within.1 h.1)

-- what holds of the covering pairs of an order by a name
abbrev CoversHold : Type 0
CoversHold = (name : MeasureName) (desk : Desk) (marks : List (List Mark)) (order : Ordered) → IsMeasure name → IsDesk desk → AreMarksOf desk marks → IsOrderIn name desk marks order → All (CoverHolds name (topics_under desk marks)) order.covers

abbrev CoversAreWithin : Type 0
CoversAreWithin = (name : MeasureName) (desk : Desk) (marks : List (List Mark)) (order : Ordered) → IsOrderIn name desk marks order → All (CoverIsWithin (length desk.runs)) order.covers

tiers_begin : (desk : Desk) (name : MeasureName) (level : ℕ) (depth : Option ℕ) (order : Ordered) → get_or (tiers_text desk name level depth order) 0 0 ≡ 109
unfolding tiers_text tiers_lines
tiers_begin desk name level depth order = refl

tiers_good : CoversHold → CoversAreWithin → (name : MeasureName) (desk : Desk) (marks : List (List Mark)) (level : ℕ) (depth : Option ℕ) (order : Ordered) → IsMeasure name → IsDesk desk → AreMarksOf desk marks → IsOrderIn name desk marks order →
    AllByRecursion (IsGood name desk marks) (tiers_lines desk name level depth order)
unfolding tiers_lines
tiers_good hold inside name desk marks level depth order measure valid marked is =
    let head = head_lines name level depth (length desk.topics) (length desk.runs) in
    let systems = system_lines desk.runs order.tiers in
    let count = codes "tiers " ++ decimal order.greatest in
    let words = all_weaker (λ run. is_name run ≡ true) IsWord desk.runs name_word (recursion_from_All (λ run. is_name run ≡ true) desk.runs valid.named) in
    all-append (IsGood name desk marks) (head ++ count ∷ systems) (map (line_of_cover desk.runs) order.covers)
    (all-append (IsGood name desk marks) head (count ∷ systems) (head_good name desk marks level depth (length desk.topics) (length desk.runs)) (count_good name desk marks order.greatest, systems_good name desk marks desk.runs order.tiers words))
    (covers_good name desk marks valid order.covers (recursion_from_All _ order.covers (inside name desk marks order is)) (recursion_from_All _ order.covers (hold name desk marks order measure valid marked is)))

pub tiers_true : CoversHold → CoversAreWithin → AreWritten → TiersTextsAreTrue
unfolding tiers_text
tiers_true hold inside written name desk marks level depth received order measure valid marked is =
    let lines = tiers_lines desk name level depth order in
    let good = tiers_good hold inside name desk marks level depth order measure valid marked is in
    let sound = all_weaker (IsGood name desk marks) (IsSound name desk marks) lines (λ line g. g.0) good in
    let covers = all_weaker (IsGood name desk marks) (IsTrueCoverLine name desk marks) lines (λ line g. g.1) good in
    let in_line = all_weaker (IsSound name desk marks) AreInLine lines (λ line s. s.0) sound in (
      record {
        lines = prefix_true name desk marks lines received sound;
        claim = λ c t. absurd (no_certificate written (tiers_text desk name level depth order) received c (λ e. let two : 109 ≡ 100 = sym (tiers_begin desk name level depth order) ∙ e in omega (arith, two)) t);
      },
      All-from_recursion (IsTrueCoverLine name desk marks) (whole_lines (take received (flat_map ended lines))) (prefix_all (IsTrueCoverLine name desk marks) lines received in_line covers),
    )
