-- A mixture's new amounts are stored one by one over its part of the list. A removal and a merge store in parts that lie apart, so either may come first.
-- Assumes nothing.
use Prim.Native.Nat.{ℕ, zero, suc, ◌+◌, ◌*◌, ◌≤◌, ◌<◌}
use native.Mathlib.Omega.{arith}
use native.Mathlib.Numerals.{add-one}
use native.Mathlib.Nat.{not-suc-le-zero, le_of_suc-le-suc}
use native.Mathlib.Decide.{dec_lt}
use mathlib.Core.Path.{◌≡◌, refl, ap, ap₂, sym, ◌∙◌, subst}
use mathlib.Core.Logic.{inl, inr}
use mathlib.Core.List.{List, [], ◌∷◌, ◌++◌, map, append-nil}
use mathlib.Core.Bool.{Bool, true, false, not, cond}
use lib.ListN.{length, get_or, set, take, drop, replicate, length-map, drop_of_length-le}
use lib.Seq.{drop-drop, paste, paste-zero, paste-suc, length-paste, get_or-take, get_or-drop}
use lib.Dec.{eqb}
use lib.Ieee.{Float, nan}
use Rattle.basics.specs.Floats.{0f, 1f, ◌+f◌, ◌*f◌, ◌-f◌}
use Rattle.basics.proofs.Stores.{Far, paste_far, paste_set, paste_next, paste_all}
use Rattle.rules_board.specs.Board.{Board, immutable_mix}
use Rattle.rules_mixture.specs.Mixture.{scale, plus, ratio, remove, part, put_part, amounts, change, total_mix, move_air, clear_air}
use Rattle.mixture.specs.Held.{HoldsGas}
use Rattle.mixture_moves.specs.Moves.{merged, removed}
use Rattle.mixture.proofs.Parts.{before, part_length, plus-length, Full, Has, scaled_full, plus-full, change-apart}

-- ---- what stands at a place

scale_at : (q : Float) (xs : List Float) (i : ℕ) → i < length xs → get_or (scale q xs) i nan ≡ get_or xs i nan *f q
unfolding scale
scale_at q [] i h = absurd (not-suc-le-zero h)
scale_at q (x ∷ xs) zero h = refl
scale_at q (x ∷ xs) (suc i) h = scale_at q xs i (le_of_suc-le-suc h)

scale-length : (q : Float) (xs : List Float) → length (scale q xs) ≡ length xs
unfolding scale
scale-length q xs = length-map xs _

plus-at : (xs ys : List Float) (i : ℕ) → i < length xs → i < length ys → get_or (plus xs ys) i nan ≡ get_or xs i nan +f get_or ys i nan
unfolding plus
plus-at [] ys i h k = absurd (not-suc-le-zero h)
plus-at (x ∷ xs) [] i h k = absurd (not-suc-le-zero k)
plus-at (x ∷ xs) (y ∷ ys) zero h k = refl
plus-at (x ∷ xs) (y ∷ ys) (suc i) h k = plus-at xs ys i (le_of_suc-le-suc h) (le_of_suc-le-suc k)

part_at : (w : List Float) (g m i : ℕ) → i < g → get_or (part g m w) i nan ≡ get_or w (m * g + i) nan
part_at w g m i k = get_or-take g (drop (m * g) w) i nan k ∙ get_or-drop (m * g) w i nan

-- the i-th place of m is none of the first k of n
far : (g m n i k : ℕ) → i < g → k ≤ g → (m ≡ n → k ≤ i) → Far (n * g) k (m * g + i)
far g m n i k hi hk f = go (dec_lt m n) (dec_lt n m)
  where
    go : Dec (m < n) → Dec (n < m) → Far (n * g) k (m * g + i)
    go (yes l) d = let b = before g l in inl (omega arith)
    go (no l) (yes l') = let b = before g l' in inr (omega arith)
    go (no l) (no l') =
        let e : m ≡ n = omega arith in
        let j : k ≤ i = f e in
        inr (subst (λ (x : ℕ). n * g + k ≤ x * g + i) (sym e) (omega arith))

-- ---- stores one by one

module _ (w : List Float) (g m : ℕ) (new : List Float) where
  -- the first i new amounts are stored
  unfoldable pub stored : ℕ → List Float
  stored i = paste w (m * g) new i

  pub stored-none : w ≡ stored 0
  unfolding stored
  stored-none = paste-zero w (m * g) new

  module _ (h : HoldsGas w g m) (l : length new ≡ g) where
    -- the places that are still to come, and those of other mixtures, are as they were
    stored_at : (i n : ℕ) → i < g → get_or (stored i) (n * g + i) nan ≡ get_or w (n * g + i) nan
    unfolding stored
    stored_at i n k = paste_far w (m * g) new i (omega arith) (omega arith) (n * g + i) nan (far g n m i i k (omega arith) (λ e. omega arith))

    stored_next : (i : ℕ) (x : Float) → i < g → x ≡ get_or new i nan → set (stored i) (m * g + i) x ≡ stored (i + 1)
    unfolding stored
    stored_next i x k e = rw e (paste_next w (m * g) new i nan (omega arith) (omega arith))

    stored-all : (b : Board) → b.gases ≡ g → immutable_mix b m ≡ false → stored g ≡ change b m new w
    unfolding stored change
    stored-all b e i = paste_all w (m * g) new g l ∙ rw (i, e)

-- ---- a removal, and a merge

module _ (w : List Float) (g giver : ℕ) (goes : Float) where
  abbrev kept : List Float
  kept = scale (1f -f goes) (part g giver w)

  module _ (taker : ℕ) where
    abbrev got : List Float
    got = plus (part g taker w) (scale goes (part g giver w))

    -- what goes is added to the taker's first i amounts
    abbrev pub joining : ℕ → List Float
    joining i = stored w g taker got i

    module _ (hg : HoldsGas w g giver) (ht : HoldsGas w g taker) where
      got_length : length got ≡ g
      got_length = plus-length (part g taker w) (scale goes (part g giver w)) ∙ part_length g w taker ht

      pub joining_next : (v : List Float) (i : ℕ) → i < g → v ≡ joining i
          → set v (taker * g + i) (get_or v (taker * g + i) nan +f get_or v (giver * g + i) nan *f goes) ≡ joining (i + 1)
      joining_next v i k e =
          let p = part_length g w giver hg in
          let q = part_length g w taker ht in
          let r = scale-length goes (part g giver w) in
          let at : (n : ℕ) → get_or (joining i) (n * g + i) nan ≡ get_or (part g n w) i nan =
          λ n. stored_at w g taker got ht got_length i n k ∙ sym (part_at w g n i k) in
          rw e (stored_next w g taker got ht got_length i _ k
          (ap₂ (λ (x y : Float). x +f y *f goes) (at taker) (at giver)
          ∙ ap (λ (y : Float). get_or (part g taker w) i nan +f y) (sym (scale_at goes (part g giver w) i (omega arith)))
          ∙ sym (plus-at (part g taker w) (scale goes (part g giver w)) i (omega arith) (omega arith))))

      pub joining_all : (b : Board) → b.gases ≡ g → immutable_mix b taker ≡ false → joining g ≡ merged b giver taker goes w
      unfolding amounts
      joining_all b e i = stored-all w g taker got ht got_length b e i ∙ rw e

-- ---- a removal where the amounts stand, one after the other

scaled_suc : (q : Float) (xs : List Float) (i : ℕ) → i < length xs → set (scale q (take i xs) ++ drop i xs) i (get_or (scale q (take i xs) ++ drop i xs) i nan *f q) ≡ scale q (take (suc i) xs) ++ drop (suc i) xs
unfolding scale
scaled_suc q [] i h = absurd (not-suc-le-zero h)
scaled_suc q (x ∷ xs) zero h = refl
scaled_suc q (x ∷ xs) (suc i) h = ap (λ (r : List Float). (x *f q) ∷ r) (scaled_suc q xs i (le_of_suc-le-suc h))

pub scaled_next : (q : Float) (xs v : List Float) (i : ℕ) → i < length xs → v ≡ scale q (take i xs) ++ drop i xs → set v i (get_or v i nan *f q) ≡ scale q (take (i + 1) xs) ++ drop (i + 1) xs
scaled_next q xs v i h e = rw (e, add-one i) (scaled_suc q xs i h)

scaled_all : (q : Float) (xs : List Float) (i : ℕ) → length xs ≤ i → scale q (take i xs) ++ drop i xs ≡ scale q xs
unfolding scale
scaled_all q [] zero h = refl
scaled_all q [] (suc i) h = refl
scaled_all q (x ∷ xs) zero h = absurd (not-suc-le-zero h)
scaled_all q (x ∷ xs) (suc i) h = ap (λ (r : List Float). (x *f q) ∷ r) (scaled_all q xs i (le_of_suc-le-suc h))

-- the mixture's part came back scaled
pub scaled : (b : Board) (m : ℕ) (w : List Float) (q : Float) (g k i : ℕ) (ys : List Float) → b.gases ≡ g → immutable_mix b m ≡ false → k ≡ g
    → length (take k (drop (m * g) w)) ≤ i → ys ≡ scale q (take i (take k (drop (m * g) w))) ++ drop i (take k (drop (m * g) w))
    → take (m * g) w ++ (ys ++ drop k (drop (m * g) w)) ≡ change b m (scale q (amounts b w m)) w
unfolding change amounts
scaled b m w q g k i ys e t r h y =
    let new : ys ≡ scale q (take k (drop (m * g) w)) = y ∙ scaled_all q (take k (drop (m * g) w)) i h in
    rw (t, e, new, r, drop-drop g (m * g) w)

-- ---- stores that lie apart

module _ (d : List Float) (p : ℕ) (s : List Float) (n : ℕ) (hd : p + n ≤ length d) (hs : n ≤ length s) (q : ℕ) (t : List Float) where
  paste_paste : (i : ℕ) → q + i ≤ length d → i ≤ length t → ((j : ℕ) → j < i → Far p n (q + j))
      → paste (paste d p s n) q t i ≡ paste (paste d q t i) p s n
  paste_paste zero h k f = sym (paste-zero (paste d p s n) q t) ∙ ap (λ (x : List Float). paste x p s n) (paste-zero d q t)
  paste_paste (suc i) h k f =
      let l = length-paste d p s n hd hs in
      let m = length-paste d q t i (omega arith) (omega arith) in
      sym (paste-suc (paste d p s n) q t i nan (omega arith) (omega arith))
      ∙ ap (λ (x : List Float). set x (q + i) (get_or t i nan)) (paste_paste i (omega arith) (omega arith) (λ j u. f j (omega arith)))
      ∙ paste_set (paste d q t i) p s n (omega arith) hs (q + i) (get_or t i nan) (f i (omega arith))
      ∙ ap (λ (x : List Float). paste x p s n) (paste-suc d q t i nan (omega arith) (omega arith))

module _ (b : Board) (m n : ℕ) (ne : m ≡ n → ⊥) (w : List Float) (hm : Has b w m) (hn : Has b w n) (x y : List Float) (lx : Full b x) (ly : Full b y) where
  put-put : put_part b.gases m x (put_part b.gases n y w) ≡ put_part b.gases n y (put_part b.gases m x w)
  put-put =
      let g = b.gases in
      ap (put_part g m x) (sym (paste_all w (n * g) y g ly))
      ∙ sym (paste_all (paste w (n * g) y g) (m * g) x g lx)
      ∙ paste_paste w (n * g) y g (omega arith) (omega arith) (m * g) x g (omega arith) (omega arith)
      (λ j u. far g m n j g u (omega arith) (λ e. absurd (ne e)))
      ∙ paste_all (paste w (m * g) x g) (n * g) y g ly
      ∙ ap (put_part g n y) (paste_all w (m * g) x g lx)

  change-change : change b m x (change b n y w) ≡ change b n y (change b m x w)
  unfolding change
  change-change = go (immutable_mix b m) (immutable_mix b n)
    where
      go : (t u : Bool) → cond t (cond u w (put_part b.gases n y w)) (put_part b.gases m x (cond u w (put_part b.gases n y w)))
          ≡ cond u (cond t w (put_part b.gases m x w)) (put_part b.gases n y (cond t w (put_part b.gases m x w)))
      go true u = refl
      go false true = refl
      go false false = put-put

-- a merge and then a removal are a move
pub moved : (b : Board) (giver taker : ℕ) → (giver ≡ taker → ⊥) → (w : List Float) (g : ℕ) → b.gases ≡ g → HoldsGas w g giver → HoldsGas w g taker
    → (a goes : Float) → goes ≡ ratio a (total_mix b w giver) → (v v' : List Float) → v ≡ merged b giver taker goes w → v' ≡ removed b giver goes v
    → v' ≡ move_air b giver taker a w
unfolding move_air remove total_mix
moved b giver taker ne w g same hg' ht' a goes e v v' m r =
    let hg : Has b w giver = rw same hg' in
    let ht : Has b w taker = rw same ht' in
    let stays : List Float = scale (1f -f goes) (amounts b w giver) in
    let gone : List Float = scale goes (amounts b w giver) in
    let got : List Float = plus (amounts b w taker) gone in
    let full : Full b got = plus-full b w taker ht gone in
    let full' : Full b stays = scaled_full b w giver hg (1f -f goes) in
    r ∙ ap (removed b giver goes) m
    ∙ rw (← e)
    (ap (λ (l : List Float). change b giver (scale (1f -f goes) l) (change b taker got w)) (change-apart b taker got full w ht giver (λ q. absurd (ne q)))
    ∙ change-change b giver taker ne w hg ht stays got full' full
    ∙ ap (λ (l : List Float). change b taker (plus l gone) (change b giver stays w))
    (sym (change-apart b giver stays full' w hg taker (λ q. absurd (ne (sym q))))))

-- ---- the test of a mixture's mark

pub mark-is : (b : Board) (m : ℕ) (immutable : List ℕ) (t : Bool) → b.immutable ≡ immutable → eqb (get_or immutable m 0) 0 ≡ t → immutable_mix b m ≡ not t
mark-is b m immutable t e q = ap (λ (l : List ℕ). not (eqb (get_or l m 0) 0)) e ∙ ap not q

pub unchanged : (b : Board) (m : ℕ) (new w : List Float) → immutable_mix b m ≡ true → w ≡ change b m new w
unfolding change
unchanged b m new w e = rw e

-- ---- clearing

zeros : (xs : List Float) → map (λ x. 0f) xs ≡ replicate (length xs) 0f
zeros [] = refl
zeros (x ∷ xs) = ap (λ (r : List Float). 0f ∷ r) (zeros xs)

module _ (b : Board) (m : ℕ) (w : List Float) where
  -- the mixture's part came back as zeros
  pub cleared : (g k : ℕ) (ys : List Float) → b.gases ≡ g → immutable_mix b m ≡ false → HoldsGas w g m → k ≡ g → ys ≡ replicate g 0f ++ drop g (take k (drop (m * g) w))
      → take (m * g) w ++ (ys ++ drop k (drop (m * g) w)) ≡ clear_air b m w
  unfolding clear_air change amounts
  cleared g k ys e i h q y =
      let l = part_length g w m h in
      let new : ys ≡ map (λ x. 0f) (part g m w) =
      y ∙ ap (λ (n : ℕ). replicate g 0f ++ drop g (take n (drop (m * g) w))) q
      ∙ ap (λ (r : List Float). replicate g 0f ++ r) (drop_of_length-le (part g m w) {i = g} (omega arith))
      ∙ append-nil (replicate g 0f)
      ∙ sym (zeros (part g m w) ∙ ap (λ (n : ℕ). replicate n 0f) l) in
      rw (i, e, q, new, drop-drop g (m * g) w)
