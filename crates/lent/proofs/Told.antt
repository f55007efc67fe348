-- The number of what `accept` answers. Assumes nothing.
use Rattle.std.specs.Prelude.{◌≡◌, ℕ, Result, Ok, Err}
use Rattle.std.proofs.Common.{ap}
use Rattle.lent.specs.Given.{number_of, refusal_number}
use Rattle.lent.specs.declared.Refusal.{Refusal}
use Rattle.lent.specs.declared.Refusal.TheVariants.{Sizes, Tables, Ids, Links, Amounts, Hot, Areas}

module _ {A : Type 0} {r : Result A Refusal} where
  -- what was accepted has none
  pub was-accepted : {a : A} → r ≡ Ok a → refusal_number r ≡ 0
  was-accepted e = ap (λ (x : Result A Refusal). refusal_number x) e

  -- a refusal has its own
  pub was-refused : {f : Refusal} → r ≡ Err f → refusal_number r ≡ number_of f
  was-refused e = ap (λ (x : Result A Refusal). refusal_number x) e

-- which is not 0
pub number-some : (f : Refusal) → number_of f ≡ 0 → ⊥
number-some Sizes e = cc
number-some Tables e = cc
number-some Ids e = cc
number-some Links e = cc
number-some Amounts e = cc
number-some Hot e = cc
number-some Areas e = cc
