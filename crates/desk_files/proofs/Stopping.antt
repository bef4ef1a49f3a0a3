-- A command that stops at one of its files.
use Rattle.std.proofs.Common.{◌≡◌, ℕ, ◌≤◌, refl, ap, sym, subst, ◌∙◌, arith, inl, inr}
use Rattle.std.specs.Prelude.{Option, Some, None, Result, Ok, Err, IfSome, IsErrAnd}
use Rattle.desk_outside.specs.Outside.{Files}
use Rattle.desk_files.specs.declared.stop.Stop.{Stop as KeptStop}
use Rattle.desk_files.specs.declared.stop.Stop.TheVariants as kept
use Rattle.desk_files.specs.Files.{Stop, ◌>>=◌}
use Rattle.desk_files.specs.Outcome.{StopsAt, Stops, Gives}

pub if_some_at : {X : Type 0} (o : Option X) (P : X → Type 0) (x : X) → IfSome o P → o ≡ Some x → P x
if_some_at o P x h e = let Q : Option _ → Type 0 = λ o. IfSome o P in subst Q e h

pub after_ok : {A B : Type 0} (r : Result A Stop) (f : A → Result B Stop) (x : A) (y : Result B Stop) → r ≡ Ok x → f x ≡ y → (r >>= f) ≡ y
after_ok r f x y e h = ap (λ r. r >>= f) e ∙ h

pub at_err : {A B : Type 0} (r : Result A Stop) (f : A → Result B Stop) (e : Stop) → r ≡ Err e → (r >>= f) ≡ Err e
at_err r f e h = ap (λ r. r >>= f) h

-- what stops at a step stops what follows
pub stops_at_too : (told : Option Files) (first before now : ℕ) (e : KeptStop) (g h : Files → Stop → Type 0) → first ≤ before → StopsAt told before now e g → ((files : Files) (why : Stop) → told ≡ Some files → g files why → h files why) → StopsAt told first now e h
stops_at_too None first before now (kept.Refused path) g h le s f = tt
stops_at_too (Some files) first before now (kept.Refused path) g h le s f = f files _ refl s
stops_at_too told first before now kept.Outside g h le (inl rose) f = inl (omega (arith, rose))
stops_at_too None first before now kept.Outside g h le (inr none) f = absurd none
stops_at_too (Some files) first before now kept.Outside g h le (inr is) f = inr (f files _ refl is)
stops_at_too told first before now kept.Memory g h le s f = tt

-- what stops a step stops what follows
pub stops_too : {Y Z : Type 0} (told : Option Files) (first before now : ℕ) (e : KeptStop) (g : Files → Result Z Stop) (h : Files → Result Y Stop) → first ≤ before → Stops told before now e g → ((files : Files) (why : Stop) → told ≡ Some files → g files ≡ Err why → h files ≡ Err why) → Stops told first now e h
stops_too told first before now e g h le s f = stops_at_too told first before now e (λ files why. g files ≡ Err why) (λ files why. h files ≡ Err why) le s f

-- what holds where a stop is answered, holds of what a `?` hands on
pub handed_on : {X : Type 0} (P : Result X KeptStop → Type 0) (r : Result X KeptStop) (e : KeptStop) → IsErrAnd r (λ stop. stop ≡ e) → P (Err e) → P r
handed_on P (Ok x) e is p = absurd is
handed_on P (Err stop) e is p = subst (λ e. P (Err e)) (sym is) p

-- what stops at a step stops as that step did, where the files stay as they were told
pub gives_handed_on : {X Y Z : Type 0} (told known : Option Files) (first before now : ℕ) (view : X → Y) (r : Result X KeptStop) (e : KeptStop) (g : Files → Result Z Stop) (h : Files → Result Y Stop) → known ≡ told → IsErrAnd r (λ stop. stop ≡ e) → first ≤ before → Stops known before now e g →
    ((files : Files) (why : Stop) → told ≡ Some files → g files ≡ Err why → h files ≡ Err why) → Gives told first now view r h
gives_handed_on told known first before now view r e g h same is le s f =
    let stopped : Stops told before now e g = subst (λ t. Stops t before now e g) same s in
    handed_on (λ r. Gives told first now view r h) r e is (stops_too told first before now e g h le stopped f)

-- memory ran out
pub gives_memory : {X Y : Type 0} (told : Option Files) (before now : ℕ) (view : X → Y) (r : Result X KeptStop) (h : Files → Result Y Stop) → IsErrAnd r (λ stop. stop ≡ kept.Memory) → Gives told before now view r h
gives_memory told before now view r h is = handed_on (λ r. Gives told before now view r h) r kept.Memory is tt
