-- An answer by its numbers. Assumes nothing.
use mathlib.Core.Path.{◌≡◌, ap, ◌∙◌}
use mathlib.Core.List.{List}
use Prim.Native.Nat.{ℕ, ◌<◌}
use native.Mathlib.Omega.{arith}
use mir.Syntax.{w32}
use mir.Val.{Fits}
use lib.ListN.{get_or}
use Rattle.rules_board.specs.Board.{Board}
use Rattle.basics.proofs.Lists.{All-each}
use Rattle.rules_lent.specs.Lent.{Lent, Result}
use Rattle.call_answers.specs.Answers.{Answers, Words}

-- a slice of u32s
pub words_of : (xs : List ℕ) → ((i : ℕ) → Fits w32 (get_or xs i 0)) → Words xs
words_of xs u = All-each (λ x. x < 4294967296) xs 0 (λ k l. omega (arith, u k))

-- what a call told, by its number
pub told : {A : Type 0} {a a' : A} {l : Lent} {o : Result A} → a ≡ a' → record { answer = a'; lent = l } ≡ o → record { answer = a; lent = l } ≡ o
told {A = A} {l = l} e p = ap (λ (x : A). let r : Result A = record { answer = x; lent = l } in r) e ∙ p

module _ {A : Type 0} (numbers : A → List ℕ) (b : Board) (a : A) (l : Lent) (o : Result A) where
  pub answers : Words b.ids → record { answer = a; lent = l } ≡ o → {w : List ℕ} → w ≡ numbers a → Answers numbers b o (get_or (numbers a) 0 0) w l
  answers u e h = record {
    returned = ap (λ (x : Result A). get_or (numbers x.answer) 0 0) e;
    written = h ∙ ap (λ (x : Result A). numbers x.answer) e;
    lent = ap (λ (x : Result A). x.lent) e;
    ids = u;
  }
