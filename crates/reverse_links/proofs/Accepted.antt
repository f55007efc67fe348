-- What refusal 4 leaves of the links, place by place. Assumes nothing.
use Prim.Native.Nat.{ℕ, zero, suc, ◌+◌, ◌-◌, ◌≤◌, ◌<◌}
use native.Mathlib.Omega.{arith}
use native.Mathlib.Nat.{not-suc-le-zero, le_of_suc-le-suc, le_of_eq, zero-add}
use native.Mathlib.Decide.{ℕ_discrete}
use mathlib.Core.Path.{◌≡◌, refl, ap, ◌∙◌, sym, subst}
use mathlib.Core.List.{List, [], ◌∷◌}
use mathlib.Core.Bool.{Bool, true, false, not}
use lib.Dec.{T, ltb, eqb→eq, ltb→lt}
use lib.Ieee.Bits.{is_true}
use lib.ListN.{length, get_or, drop, length-drop}
use lib.Seq.{get_or-take, get_or-drop, length-take-le}
use Rattle.basics.specs.Loops.{up_from, member}
use Rattle.basics.specs.Lists.{All}
use Rattle.basics.proofs.Loops.{All-get_or, every-all, and_left, and_right, all-of}
use Rattle.basics.proofs.Lists.{at-member}
use Rattle.rules_board.specs.Board.{Board, turf_count, link_count, neighbours_of, degree}
use Rattle.rules_board.specs.Refuse.{rising, distinct, row_fits, links_fit}
use Rattle.turfs.proofs.Order.{rising-to}
use Rattle.reverse_links.specs.Reverse.{InRow, Linked}

not_both : (b : Bool) → T (not b) → T b → ⊥
not_both true n t = n
not_both false n t = t

once : (xs : List ℕ) (i j : ℕ) → T (distinct xs) → i < length xs → j < length xs → get_or xs i 0 ≡ get_or xs j 0 → i ≡ j
unfolding distinct
once [] i j t l m e = absurd (not-suc-le-zero l)
once (x ∷ xs) zero zero t l m e = refl
once (x ∷ xs) zero (suc j) t l m e =
    absurd (not_both (member x xs) (and_left (not (member x xs)) (distinct xs) t) (subst (λ (y : ℕ). T (member y xs)) (sym e) (at-member xs j (le_of_suc-le-suc m))))
once (x ∷ xs) (suc i) zero t l m e =
    absurd (not_both (member x xs) (and_left (not (member x xs)) (distinct xs) t) (subst (λ (y : ℕ). T (member y xs)) e (at-member xs i (le_of_suc-le-suc l))))
once (x ∷ xs) (suc i) (suc j) t l m e = ap suc (once xs i j (and_right (not (member x xs)) (distinct xs) t) (le_of_suc-le-suc l) (le_of_suc-le-suc m) e)

up_at : (P : ℕ → Type 0) (a n i : ℕ) → All P (up_from a n) → i < n → P (a + i)
unfolding up_from
up_at P a zero i h l = absurd (not-suc-le-zero l)
up_at P a (suc n) zero h l = let e : a + zero ≡ a = omega arith in subst P (sym e) h.0
up_at P a (suc n) (suc i) h l = let e : suc a + i ≡ a + suc i = omega arith in subst P e (up_at P (suc a) n i h.1 (le_of_suc-le-suc l))

module _ (b : Board) (r : ℕ) (up : get_or b.starts r 0 ≤ get_or b.starts (r + 1) 0) (low : get_or b.starts (r + 1) 0 ≤ link_count b) where
  row-length : length (neighbours_of b r) ≡ degree b r
  row-length = length-take-le (degree b r) (drop (get_or b.starts r 0) b.neighbours) (omega (arith, length-drop (get_or b.starts r 0) b.neighbours, up, low))

  row_at : (k : ℕ) → InRow b.starts r k → get_or (neighbours_of b r) (k - get_or b.starts r 0) 0 ≡ get_or b.neighbours k 0
  row_at k i =
      let e : get_or b.starts r 0 + (k - get_or b.starts r 0) ≡ k = omega (arith, i.from) in
      get_or-take (degree b r) (drop (get_or b.starts r 0) b.neighbours) (k - get_or b.starts r 0) 0 (omega (arith, i.from, i.to))
      ∙ get_or-drop (get_or b.starts r 0) b.neighbours (k - get_or b.starts r 0) 0 ∙ ap (λ (m : ℕ). get_or b.neighbours m 0) e

  row-once : T (row_fits b r) → (k j : ℕ) → InRow b.starts r k → InRow b.starts r j → get_or b.neighbours k 0 ≡ get_or b.neighbours j 0 → k ≡ j
  unfolding row_fits
  row-once t k j i i' e =
      let s : ℕ = get_or b.starts r 0 in
      let q : k - s ≡ j - s =
      once (neighbours_of b r) (k - s) (j - s) (and_right (not (member r (neighbours_of b r))) (distinct (neighbours_of b r)) t) (omega (arith, row-length, i.from, i.to))
      (omega (arith, row-length, i'.from, i'.to)) (row_at k i ∙ e ∙ sym (row_at j i')) in
      omega (arith, q, i.from, i'.from)

pub linked : (b : Board) → length b.starts ≡ turf_count b + 1 → T (links_fit b) → Linked (turf_count b) b.starts b.neighbours
unfolding links_fit
linked b len fits =
    let n : ℕ = turf_count b in
    let all = all-of _ fits in
    let rise : rising b.starts ≡ true = is_true (rising b.starts) all.0 in
    let zero₁ : get_or b.starts 0 0 ≡ 0 = eqb→eq (get_or b.starts 0 0) 0 all.1.0 in
    let last : get_or b.starts n 0 ≡ link_count b = eqb→eq (get_or b.starts n 0) (link_count b) all.1.1.0 in
    let up : (r : ℕ) → r < n → get_or b.starts r 0 ≤ get_or b.starts (r + 1) 0 = λ r l. rising-to b.starts r (r + 1) rise (omega arith) (omega (arith, len, l)) in
    let in-links : (r : ℕ) → r < n → get_or b.starts (r + 1) 0 ≤ link_count b = λ r l. up_to r l rise last (ℕ_discrete (r + 1) n) in
    record {
      starts_n = len;
      zero = zero₁;
      all = last;
      rise = up;
      within = in-links;
      rows = λ k l. ltb→lt (get_or b.neighbours k 0) n (All-get_or (λ a. T (ltb a n)) b.neighbours k 0 (every-all (λ a. ltb a n) b.neighbours all.1.1.1.0) l);
      once = λ r k j h i i' e. row-once b r (up r h) (in-links r h) (subst (λ (q : ℕ). T (row_fits b q)) (zero-add r) (up_at (λ q. T (row_fits b q)) 0 n r (every-all (row_fits b) (up_from 0 n) all.1.1.1.1.1.0) h)) k j i i' e;
    }
  where
    up_to : (r : ℕ) → r < turf_count b → rising b.starts ≡ true → get_or b.starts (turf_count b) 0 ≡ link_count b → Dec (r + 1 ≡ turf_count b) → get_or b.starts (r + 1) 0 ≤ link_count b
    up_to r l rise last (yes q) = le_of_eq (ap (λ (k : ℕ). get_or b.starts k 0) q ∙ last)
    up_to r l rise last (no q) = omega (arith, last, rising-to b.starts (r + 1) (turf_count b) rise (omega (arith, l, q)) (omega (arith, len)))
