-- A desk, and then one more file.
use Rattle.std.proofs.Common.{◌≡◌, ℕ, ◌≤◌, List, [], ◌∷◌, ◌++◌, refl, ap, sym, subst, ◌∙◌, append_assoc, append-nil, inl, inr}
use Rattle.std.specs.Prelude.{Option, Some, None, Result, Ok, Err, IfSome, IsErrAnd}
use Rattle.std.proofs.Math.Nat.{le_refl}
use Rattle.desk_outside.specs.Outside.{Files}
use Rattle.desk_model.specs.Desk.{Desk}
use Rattle.desk_files.specs.declared.stop.Stop.{Stop as KeptStop}
use Rattle.desk_files.specs.Files.{Stop}
use Rattle.desk_files.specs.Load.{Sources, Loaded, Reads, loaded, paths_of, if_read, DeskMayOpen, Opens}
use Rattle.desk_files.specs.Outcome.{StopsAt, Stops}
use Rattle.desk_files.specs.Then.{LastFile, ThenComes, MakesThen, ThenMayOpen}
use Rattle.desk_files.proofs.Opening.{may_open_qrels, loaded_opens_all}
use Rattle.desk_files.proofs.Stopping.{if_some_at, stops_at_too, handed_on}

-- ---- the names that are opened
module _ (sources : Sources) (path : List ℕ) where
  -- a desk's names may be opened
  pub opens_for_desk : (known : Option Files) (had has : List (List ℕ)) → Opens (DeskMayOpen known sources) had has → Opens (ThenMayOpen known sources path) had has
  opens_for_desk None had has opens = record {
    names = opens.names;
    allowed = (opens.allowed.0 ++ path ∷ [], ap (λ xs. xs ++ path ∷ []) opens.allowed.1 ∙ append_assoc opens.names opens.allowed.0 (path ∷ []));
    added = opens.added;
  }
  opens_for_desk (Some files) had has opens =
      let more : List (List ℕ) = if_read (loaded files sources) (λ rows. path ∷ []) in
      record {
        names = opens.names;
        allowed = (opens.allowed.0 ++ more, ap (λ xs. xs ++ more) opens.allowed.1 ∙ append_assoc opens.names opens.allowed.0 more);
        added = opens.added;
      }

  -- the judgements' path alone may be opened
  pub then_opens_qrels : (known : Option Files) → ThenMayOpen known sources path (sources.qrels ∷ [])
  then_opens_qrels None = (paths_of sources.runs ++ path ∷ [], refl)
  then_opens_qrels (Some files) =
      let desk = may_open_qrels (Some files) sources in
      let more : List (List ℕ) = if_read (loaded files sources) (λ rows. path ∷ []) in
      (desk.0 ++ more, ap (λ xs. xs ++ more) desk.1 ∙ append_assoc (sources.qrels ∷ []) desk.0 more)

  -- all of them, and then the last file's
  pub opens_all_and_last : (known : Option Files) (rows : Loaded) (had between has : List (List ℕ)) → Reads known sources rows → between ≡ had ++ sources.qrels ∷ paths_of sources.runs → has ≡ between ++ path ∷ [] → Opens (ThenMayOpen known sources path) had has
  opens_all_and_last known rows had between has read all last = record {
    names = sources.qrels ∷ paths_of sources.runs ++ path ∷ [];
    allowed = allowed known read;
    added = last ∙ ap (λ xs. xs ++ path ∷ []) all ∙ append_assoc had (sources.qrels ∷ paths_of sources.runs) (path ∷ []);
  }
    where
      allowed : (known : Option Files) → Reads known sources rows → ThenMayOpen known sources path (sources.qrels ∷ paths_of sources.runs ++ path ∷ [])
      allowed None read = ([], sym (append-nil (sources.qrels ∷ paths_of sources.runs ++ path ∷ [])))
      allowed (Some files) read = (
        [],
        ap (λ xs. xs ++ if_read (loaded files sources) (λ rows. path ∷ [])) (loaded_opens_all files sources rows read)
            ∙ ap (λ r. (sources.qrels ∷ paths_of sources.runs) ++ if_read r (λ rows. path ∷ [])) read
            ∙ sym (append-nil (sources.qrels ∷ paths_of sources.runs ++ path ∷ [])),
      )

-- ---- what is made
module _ {Y : Type 0} (sources : Sources) (last : LastFile Y) (known : Option Files) where
  -- what stops the desk stops all
  pub desk_makes_none : (before now : ℕ) (result : Result (Desk × Y) KeptStop) (stop : KeptStop) → IsErrAnd result (λ e. e ≡ stop) → Stops known before now stop (λ held. loaded held sources) → MakesThen known before now sources last result
  desk_makes_none before now result stop is stops =
      handed_on (λ r. MakesThen known before now sources last r) result stop is
      (stops_at_too known before before now stop (λ files why. loaded files sources ≡ Err why) (λ files why. ThenComes files sources last (Err why)) (le_refl before) stops (λ files why told stops. inl stops))

  -- what stops the last file stops all
  pub last_makes_none : (before between now : ℕ) (rows : Loaded) (result : Result (Desk × Y) KeptStop) (stop : KeptStop) → IsErrAnd result (λ e. e ≡ stop) → before ≤ between → Reads known sources rows →
      StopsAt known between now stop (λ files why. last.comes files rows (Err why)) → MakesThen known before now sources last result
  last_makes_none before between now rows result stop is le read stops =
      handed_on (λ r. MakesThen known before now sources last r) result stop is
      (stops_at_too known before between now stop (λ files why. last.comes files rows (Err why)) (λ files why. ThenComes files sources last (Err why)) le stops
      (λ files why told stops. inr (rows, if_some_at known (λ files. loaded files sources ≡ Ok rows) files read told, stops)))

-- the files come to the rows and to what the last file comes to
pub comes_to_both : {Y : Type 0} (sources : Sources) (last : LastFile Y) (known : Option Files) (rows : Loaded) (found : Y) → Reads known sources rows → IfSome known (λ files. last.comes files rows (Ok found)) → IfSome known (λ files. ThenComes files sources last (Ok (rows, found)))
comes_to_both sources last None rows found read comes = tt
comes_to_both sources last (Some files) rows found read comes = (read, comes)

-- ---- the files come to one thing alone, where the last file does
pub same_stop : {X : Type 0} (h k : Stop) (r : Result X Stop) → r ≡ Err h → r ≡ Err k → h ≡ k
same_stop {X} h k r e f = let both : ◌≡◌ {A = Result X Stop} (Err h) (Err k) = sym e ∙ f in cc

pub same_found : {X : Type 0} (r : Result X Stop) (x y : X) → r ≡ Ok x → r ≡ Ok y → x ≡ y
same_found {X} r x y e f = let both : ◌≡◌ {A = Result X Stop} (Ok x) (Ok y) = sym e ∙ f in cc

pub never_both : {X : Type 0} (r : Result X Stop) (x : X) (why : Stop) → r ≡ Ok x → r ≡ Err why → ⊥
never_both {X} r x why e f = let both : ◌≡◌ {A = Result X Stop} (Ok x) (Err why) = sym e ∙ f in absurd (cc)

module _ {Y : Type 0} (files : Files) (sources : Sources) (last : LastFile Y) (one : (rows : Loaded) (x y : Result Y Stop) → last.comes files rows x → last.comes files rows y → x ≡ y) where
  -- beside the same rows
  one_last : (p q : Loaded) (x y : Result Y Stop) → loaded files sources ≡ Ok p → loaded files sources ≡ Ok q → last.comes files p x → last.comes files q y → x ≡ y
  one_last p q x y read again comes other = one q x y (subst (λ rows. last.comes files rows x) (same_found (loaded files sources) p q read again) comes) other

  pub one_then : (x y : Result (Loaded × Y) Stop) → ThenComes files sources last x → ThenComes files sources last y → x ≡ y
  one_then (Ok (p, c)) (Ok (q, d)) (read, comes) (again, other) =
      let rows = same_found (loaded files sources) p q read again in
      let found = one_last p q (Ok c) (Ok d) read again comes other in
      cc
  one_then (Ok (p, c)) (Err h) (read, comes) (inl stops) = absurd (never_both (loaded files sources) p h read stops)
  one_then (Ok (p, c)) (Err h) (read, comes) (inr (q, again, stops)) = absurd (never_both (Ok c) c h refl (one_last p q (Ok c) (Err h) read again comes stops))
  one_then (Err h) (Ok (q, d)) (inl stops) (again, other) = absurd (never_both (loaded files sources) q h again stops)
  one_then (Err h) (Ok (q, d)) (inr (p, read, stops)) (again, other) = absurd (never_both (Ok d) d h refl (sym (one_last p q (Err h) (Ok d) read again stops other)))
  one_then (Err h) (Err k) (inl stops) (inl also) = ap Err (same_stop h k (loaded files sources) stops also)
  one_then (Err h) (Err k) (inl stops) (inr (q, again, also)) = absurd (never_both (loaded files sources) q h again stops)
  one_then (Err h) (Err k) (inr (p, read, stops)) (inl also) = absurd (never_both (loaded files sources) p k read also)
  one_then (Err h) (Err k) (inr (p, read, stops)) (inr (q, again, also)) = ap Err (same_stop h k (Err k) (sym (one_last p q (Err h) (Err k) read again stops also)) refl)
