-- What contracts say of all elements of a list, of a place that a search found, and how many elements pass a test.
use Rattle.std.specs.Prelude.{List, [], ◌∷◌, Bool, true, false, ℕ, ◌+◌, Option, Some, None}

-- every element has P
abbrev pub All : {A : Type 0} → (A → Type 0) → List A → Type 0
All P [] = Unit {0}
All P (x ∷ xs) = P x × All P xs

-- a place that was found has P
abbrev pub Found : (ℕ → Type 0) → Option ℕ → Type 0
Found P (Some k) = P k
Found P None = Unit {0}

-- a test that passes counts one
abbrev pub one : Bool → ℕ
one true = 1
one false = 0

-- how many pass
unfoldable pub count : {A : Type 0} → (A → Bool) → List A → ℕ
count p [] = 0
count p (x ∷ xs) = one (p x) + count p xs
