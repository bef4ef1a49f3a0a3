-- Command lines, and what objects of the outside tell.
use Rattle.std.proofs.Common.{◌≡◌, ◌-◌, ◌^◌, List, [], ◌∷◌, length, ap, refl, Some, None, arith, lit<, lit≤, inl, inr}
use Rattle.std.specs.Prelude.{codes}
use Rattle.std.specs.Fmt.{digits}
use Rattle.std.proofs.lemmas.List.Elements.{All-from_recursion, All-nil}
use Rattle.desk_model.specs.declared.types.MeasureName.TheVariants.{Precision}
use Rattle.desk_words.specs.declared.command.Job.{Job}
use Rattle.desk_words.specs.declared.command.Command.TheVariants.{Table, Demo}
use Rattle.desk_words.specs.Words.{IsCommandOf, IsDepthOf, IsLevelOf, run_word_of, takes}
use Rattle.command_line.specs.Given.{Values, Allows, IsOne, IsOneAtMost}
use Rattle.command_line.specs.Parts.{Part, spaced, joined, alone, given_by, line_of, values_of, words_alone}
use Rattle.desk_words.specs.declared.read.Verb.TheVariants as verb
use Rattle.desk_words.specs.Laws.{PartsSay}
use Rattle.desk_words.proofs.Lines.{says_to}
use Rattle.desk_outside.specs.Outside.{Rose, Lacks, Opens}

-- ---- RUN words
pub path_alone : run_word_of (codes "runs/a") ≡ Some (record { name = None; path = codes "runs/a" })
path_alone = refl

-- cut at the first `=`
pub name_and_path : run_word_of (codes "a=b=c") ≡ Some (record { name = Some (codes "a"); path = codes "b=c" })
name_and_path = refl

pub name_without_a_path : run_word_of (codes "a=") ≡ None
name_without_a_path = refl

pub path_without_a_name : run_word_of (codes "=b") ≡ None
path_without_a_name = refl

pub empty_word : run_word_of [] ≡ None
empty_word = refl

-- ---- levels: 1 where none is given
pub no_level : IsLevelOf [] 1
no_level = inl (refl, refl)

pub level_two : IsLevelOf (codes "2" ∷ []) 2
unfolding digits
level_two = inr (refl, lit≤ tt, lit≤ tt)

pub level_zero : IsLevelOf (codes "0" ∷ []) 0 → ⊥
level_zero h = elim h [ inl x ↦ let e = x.0 in absurd (cc) | inr x ↦ let e = x.1 in absurd (omega arith) ]

-- ---- depths: none where none is given
pub no_depth : IsDepthOf [] None
no_depth = refl

pub depth_hundred : IsDepthOf (codes "100" ∷ []) (Some 100)
unfolding digits
depth_hundred = (refl, lit≤ tt, lit≤ tt)

pub depth_zero : IsDepthOf (codes "0" ∷ []) (Some 0) → ⊥
depth_zero h = let e = h.1 in absurd (omega arith)

-- ---- `table a --level=2 --measure P_5 b --qrels q` and `table --qrels q --measure P_5 --level 2 a b`
abbrev job : Job
job = record { qrels = codes "q"; measure = Precision 5; level = 2; depth = None; runs = record { name = None; path = codes "a" } ∷ record { name = None; path = codes "b" } ∷ [] }

abbrev mixed : List Part
mixed = alone (codes "a") ∷ joined (codes "level") (codes "2") ∷ spaced (codes "measure") (codes "P_5") ∷ alone (codes "b") ∷ spaced (codes "qrels") (codes "q") ∷ []

abbrev in_order : List Part
in_order = spaced (codes "qrels") (codes "q") ∷ spaced (codes "measure") (codes "P_5") ∷ spaced (codes "level") (codes "2") ∷ alone (codes "a") ∷ alone (codes "b") ∷ []

pub words_of_mixed_parts : line_of mixed ≡ codes "a" ∷ codes "--level=2" ∷ codes "--measure" ∷ codes "P_5" ∷ codes "b" ∷ codes "--qrels" ∷ codes "q" ∷ []
words_of_mixed_parts = refl

pub words_of_parts_in_order : line_of in_order ≡ codes "--qrels" ∷ codes "q" ∷ codes "--measure" ∷ codes "P_5" ∷ codes "--level" ∷ codes "2" ∷ codes "a" ∷ codes "b" ∷ []
words_of_parts_in_order = refl

pub values_of_the_level : values_of (codes "level") mixed ≡ codes "2" ∷ []
values_of_the_level = refl

pub words_of_runs : words_alone mixed ≡ codes "a" ∷ codes "b" ∷ []
words_of_runs = refl

-- judgements, a measure, a level and two runs are what a table takes
allowed : (values : Values) → values (codes "qrels") ≡ codes "q" ∷ [] → values (codes "measure") ≡ codes "P_5" ∷ [] → values (codes "level") ≡ codes "2" ∷ [] → values (codes "depth") ≡ [] → values (codes "RUN") ≡ codes "a" ∷ codes "b" ∷ [] → Allows (takes verb.Table) values
allowed values qrels measure level depth runs =
    let count : length (values (codes "RUN")) ≡ 2 = ap length runs in
    record {
      needed = All-from_recursion (λ name. IsOne (values name)) (takes verb.Table).needed ((codes "q", qrels, lit< tt), ((codes "P_5", measure, lit< tt), tt));
      optional = All-from_recursion (λ name. IsOneAtMost (values name)) (takes verb.Table).optional (inr (codes "2", level, lit< tt), (inl depth, tt));
      flags = All-from_recursion (λ name. IsOneAtMost (values name)) [] tt;
      enough = omega (arith, count);
      few = omega (arith, count);
    }

pub mixed_parts_say_the_job : PartsSay verb.Table mixed None (Table job)
unfolding digits
mixed_parts_say_the_job = record {
  allowed = allowed (given_by (takes verb.Table) mixed None) refl refl refl refl refl;
  said = record {
    of_verb = refl;
    says = record {
      qrels = (refl, lit< tt);
      measure = (codes "P_5", refl, (lit≤ tt, lit≤ tt), refl);
      level = inr (refl, lit≤ tt, lit≤ tt);
      depth = refl;
      runs = record { each = refl; some = lit< tt; few = lit≤ tt };
    };
  };
}

pub parts_in_order_say_the_job : PartsSay verb.Table in_order None (Table job)
unfolding digits
parts_in_order_say_the_job = record {
  allowed = allowed (given_by (takes verb.Table) in_order None) refl refl refl refl refl;
  said = record {
    of_verb = refl;
    says = record {
      qrels = (refl, lit< tt);
      measure = (codes "P_5", refl, (lit≤ tt, lit≤ tt), refl);
      level = inr (refl, lit≤ tt, lit≤ tt);
      depth = refl;
      runs = record { each = refl; some = lit< tt; few = lit≤ tt };
    };
  };
}

-- so they are one command
pub one_command_of_mixed_words : IsCommandOf (codes "table" ∷ codes "a" ∷ codes "--level=2" ∷ codes "--measure" ∷ codes "P_5" ∷ codes "b" ∷ codes "--qrels" ∷ codes "q" ∷ []) (Table job)
one_command_of_mixed_words = says_to (codes "table") verb.Table refl mixed None (Table job)
    (refl, ((2, lit< tt, refl), ((1, lit< tt, refl), refl, (refl, ((0, lit< tt, refl), refl, tt))))) mixed_parts_say_the_job

pub one_command_of_words_in_order : IsCommandOf (codes "table" ∷ codes "--qrels" ∷ codes "q" ∷ codes "--measure" ∷ codes "P_5" ∷ codes "--level" ∷ codes "2" ∷ codes "a" ∷ codes "b" ∷ []) (Table job)
one_command_of_words_in_order = says_to (codes "table") verb.Table refl in_order None (Table job)
    ((0, lit< tt, refl), refl, ((1, lit< tt, refl), refl, ((2, lit< tt, refl), refl, (refl, (refl, tt))))) parts_in_order_say_the_job

-- one seed
pub demo_of_a_seed : IsCommandOf (codes "demo" ∷ codes "7" ∷ []) (Demo 7)
unfolding digits
demo_of_a_seed = says_to (codes "demo") verb.Demo refl (alone (codes "7") ∷ []) None (Demo 7) (refl, tt) (record {
  allowed = record { needed = All-nil _; optional = All-nil _; flags = All-nil _; enough = lit≤ tt; few = lit≤ tt };
  said = record { of_verb = refl; says = (refl, lit< tt) };
})

-- two are none
pub demo_of_two_seeds : PartsSay verb.Demo (alone (codes "7") ∷ alone (codes "8") ∷ []) None (Demo 7) → ⊥
demo_of_two_seeds h = let e = h.said.says.0 in absurd (cc)

pub no_command_of_no_words : IsCommandOf [] (Demo 1) → ⊥
no_command_of_no_words h = h

-- ---- counts of faults and shelves
pub count_that_rose : Rose 4 5
count_that_rose = omega arith

pub count_that_stands : Rose 4 4 → ⊥
count_that_stands h = absurd (omega arith)

-- at its last value the count cannot rise, and counts as risen
pub count_at_its_last_value : Rose (2 ^ 64 - 1) (2 ^ 64 - 1)
count_at_its_last_value = omega arith

pub shelf_that_lacks_a_name : Lacks (Some (λ name. None)) (codes "q")
shelf_that_lacks_a_name = refl

pub shelf_that_tells_nothing_lacks_nothing : Lacks None (codes "q") → ⊥
shelf_that_tells_nothing_lacks_nothing h = h

pub shelf_that_holds_the_name : Lacks (Some (λ name. Some (codes "x"))) (codes "q") → ⊥
shelf_that_holds_the_name h = absurd (cc)

pub whole_content_of_an_open_file : Opens (Some (λ name. Some (codes "x"))) (codes "q") (Some (codes "x"))
whole_content_of_an_open_file = refl

pub no_open_file_of_a_name_not_held : Opens (Some (λ name. None)) (codes "q") (Some (codes "x")) → ⊥
no_open_file_of_a_name_not_held h = absurd (cc)
