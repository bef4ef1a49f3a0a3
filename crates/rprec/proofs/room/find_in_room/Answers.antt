use Rattle.std.proofs.Common.{◌≡◌, ℕ, zero, suc, get_or, replicate, refl}

all_none : (n place : ℕ) → ◌≡◌ {A = ℕ} (get_or (replicate n 0) place 0) 0
all_none zero place = refl
all_none (suc n) zero = refl
all_none (suc n) (suc place) = all_none n place
