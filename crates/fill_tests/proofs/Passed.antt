-- A hot turf is passed over: found already, disabled, or by the tests of its links and totals. Assumes nothing.
use Prim.Native.Nat.{ℕ, ◌+◌}
use native.Mathlib.Omega.{arith}
use mathlib.Core.Path.{◌≡◌, refl, ap, ◌∙◌, sym}
use mathlib.Core.List.{List}
use mathlib.Core.Bool.{Bool, true, false, not, ◌||◌}
use lib.Dec.{eqb}
use lib.Ieee.{Float, lt}
use lib.ListN.{length, get_or}
use borrow.Author.Tests.{eq-eqb, ne_eqb, eqb-true}
use Rattle.basics.proofs.Tests.{differ}
use Rattle.basics.specs.Loops.{every}
use Rattle.scratch.specs.Layout.{found_at}
use Rattle.scratch.specs.View.{found_in}
use Rattle.rules_board.specs.Board.{Board, any_bit, enabled, links_of}
use Rattle.rules_mixture.specs.Mixture.{total}
use Rattle.fill_links.proofs.Stores.{found-at}
use Rattle.rules_equalize.specs.Equalize.{Ask, 10f, near, passed_over}
use Rattle.fill_tests.specs.Asked.{FoundFits}

module _ (b : Board) (gas : List Float) (q : Ask) (r : ℕ) where
  abbrev rest : Bool
  rest = eqb (length (links_of b r)) 0 || (lt (total b gas r) 10f || every (near b gas q r) (links_of b r))

  pub is_found : (found : List ℕ) → (get_or found r 0 ≡ 0 → ⊥) → passed_over b gas q r found ≡ true
  unfolding passed_over
  is_found found ne = rw (ne_eqb (get_or found r 0) 0 ne)

  pub is_off : (found : List ℕ) → get_or found r 0 ≡ 0 → any_bit (get_or b.flags r 0) ≡ false → passed_over b gas q r found ≡ true
  unfolding passed_over enabled
  is_off found e o = rw (eq-eqb (get_or found r 0) 0 e, o)

  pub is_rest : (found : List ℕ) → get_or found r 0 ≡ 0 → any_bit (get_or b.flags r 0) ≡ true → (t : Bool) → t ≡ rest → passed_over b gas q r found ≡ t
  unfolding passed_over enabled
  is_rest found e o t i = rw (eq-eqb (get_or found r 0) 0 e, o) (sym i)

pub mark-is : {n e row : ℕ} {w : List ℕ} → FoundFits n e row w → (at : ℕ) → at ≡ found_at n e → get_or w (at + row) 0 ≡ get_or (found_in n e w) row 0
mark-is {n} {e} {row} {w} h at ea = found-at n e w h.words row (at + row) (omega arith) h.row

-- a turf that isn't passed over isn't found
pub is_new : (b : Board) (gas : List Float) (q : Ask) (row : ℕ) (found : List ℕ) {t : Bool} → passed_over b gas q row found ≡ t → t ≡ false → get_or found row 0 ≡ 0
unfolding passed_over
is_new b gas q row found p f = go (eqb (get_or found row 0) 0) refl
  where
    go : (t : Bool) → eqb (get_or found row 0) 0 ≡ t → get_or found row 0 ≡ 0
    go true e = eqb-true (get_or found row 0) 0 e
    go false e = absurd (differ (sym (ap (λ (x : Bool). not x || (not (enabled b row) || rest b gas q row)) e) ∙ p ∙ f))
