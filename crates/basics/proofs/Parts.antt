-- Parts of a list: what stands at their places, parts of a front, and lists that agree place by place. Assumes nothing.
use Prim.Native.Nat.{ℕ, zero, suc, ◌+◌, ◌-◌, ◌≤◌, ◌<◌}
use native.Mathlib.Omega.{arith}
use native.Mathlib.Nat.{add-zero}
use mathlib.Core.Path.{◌≡◌, refl, sym, ap, ap₂, ◌∙◌}
use mathlib.Core.List.{List, [], ◌∷◌, ◌++◌, append-nil}
use lib.ListN.{length, get_or, take, drop, length-drop, replicate, length-replicate, get_or-replicate, drop_of_length-le, get_or-append}
use lib.Seq.{ext_get_or, length-take-le, get_or-take, get_or-drop, take-add, take-take, drop_at, drop-drop, paste, length-paste, get_or-append-add}
use Rattle.basics.specs.Loops.{run, up_from}
use Rattle.basics.proofs.Loops.{run-shift}
use Rattle.basics.proofs.Stores.{Far, paste_far, paste_all}

-- the part of a list from one place to another
abbrev pub part : List ℕ → ℕ → ℕ → List ℕ
part l from to = take (to - from) (drop from l)

pub part_length : (l : List ℕ) (from to : ℕ) → from ≤ to → to ≤ length l → length (part l from to) ≡ to - from
part_length l from to h k = length-take-le (to - from) (drop from l) (simp length-drop (omega arith))

pub part_at : (l : List ℕ) (from to i : ℕ) → i < to - from → get_or (part l from to) i 0 ≡ get_or l (from + i) 0
part_at l from to i h = get_or-take (to - from) (drop from l) i 0 h ∙ get_or-drop from l i 0

-- a loop over a part by its places is a loop over the list by its own
pub part-run : {S : Type 0} (g h : ℕ → S → S) (l : List ℕ) (from to : ℕ) → from ≤ to → to ≤ length l → ((i : ℕ) → i < to - from → (s : S) → g i s ≡ h (from + i) s) → (s : S)
    → run g (up_from 0 (length (part l from to))) s ≡ run h (up_from from (to - from)) s
part-run g h l from to a e same s =
    ap (λ (k : ℕ). run g (up_from 0 k) s) (part_length l from to a e)
    ∙ run-shift g h from (to - from) same 0 (to - from) (omega arith) s
    ∙ ap (λ (k : ℕ). run h (up_from k (to - from)) s) (add-zero from)

-- ---- fronts and rests

module _ {A : Type 0} where
  -- a part of a front
  pub take_in : (l : List A) (a m k : ℕ) → a + m ≤ k → take m (drop a (take k l)) ≡ take m (drop a l)
  take_in l zero m k h = take-take m k l (omega arith)
  take_in l (suc a) m zero h = absurd (omega arith)
  take_in [] (suc a) m (suc k) h = refl
  take_in (x ∷ l) (suc a) m (suc k) h = take_in l a m k (omega arith)

  -- a part by the front that ends with it
  pub part-front : (k n : ℕ) (l : List A) → k ≤ length l → take n (drop k l) ≡ drop k (take (k + n) l)
  part-front k n l h = sym (ap (drop k) (take-add k n l) ∙ drop_at (take k l) (take n (drop k l)) k (length-take-le k l h))

  -- what is the same from a place on is so from any later one
  pub drop-later : (k m : ℕ) (l l' : List A) → k ≤ m → drop k l ≡ drop k l' → drop m l ≡ drop m l'
  drop-later k m l l' h e =
      let q : m ≡ k + (m - k) = omega arith in
      ap (λ (x : ℕ). drop x l) q ∙ sym (drop-drop (m - k) k l) ∙ ap (drop (m - k)) e ∙ drop-drop (m - k) k l' ∙ ap (λ (x : ℕ). drop x l') (sym q)

-- ---- lists that agree place by place

pub take-alike : (k : ℕ) (l l' : List ℕ) → length l ≡ length l' → ((j : ℕ) → j < k → get_or l j 0 ≡ get_or l' j 0) → take k l ≡ take k l'
take-alike zero l l' e h = refl
take-alike (suc k) [] [] e h = refl
take-alike (suc k) [] (y ∷ l') e h = absurd (omega arith)
take-alike (suc k) (x ∷ l) [] e h = absurd (omega arith)
take-alike (suc k) (x ∷ l) (y ∷ l') e h = ap₂ (λ (a : ℕ) (r : List ℕ). a ∷ r) (h 0 (omega arith)) (take-alike k l l' (omega arith) (λ j i. h (suc j) (omega arith)))

pub drop-alike : (k : ℕ) (l l' : List ℕ) → length l ≡ length l' → ((j : ℕ) → k ≤ j → get_or l j 0 ≡ get_or l' j 0) → drop k l ≡ drop k l'
drop-alike k l l' e h =
    ext_get_or 0 (drop k l) (drop k l') (length-drop k l ∙ ap (λ (m : ℕ). m - k) e ∙ sym (length-drop k l')) (λ i q. get_or-drop k l i 0 ∙ h (k + i) (omega arith) ∙ sym (get_or-drop k l' i 0))

-- a part of two lists
pub part-alike : (from k : ℕ) (l l' : List ℕ) → length l ≡ length l' → ((i : ℕ) → i < k → get_or l (from + i) 0 ≡ get_or l' (from + i) 0) → take k (drop from l) ≡ take k (drop from l')
part-alike from k l l' e h =
    take-alike k (drop from l) (drop from l') (length-drop from l ∙ ap (λ (m : ℕ). m - from) e ∙ sym (length-drop from l')) (λ i q. get_or-drop from l i 0 ∙ h i q ∙ sym (get_or-drop from l' i 0))

-- n words from `at` on were lent by themselves, and came back as zeros
pub part-cleared : (at n k : ℕ) (w ys : List ℕ) → at + n ≤ length w → k ≡ n → ys ≡ replicate n 0 ++ drop n (take k (drop at w))
    → take at w ++ (ys ++ drop k (drop at w)) ≡ take at w ++ (replicate n 0 ++ drop n (drop at w))
part-cleared at n k w ys h q y =
    let l : length (take n (drop at w)) ≡ n = length-take-le n (drop at w) (omega (arith, h, length-drop at w)) in
    let new : ys ≡ replicate n 0 =
    y ∙ ap (λ (m : ℕ). replicate n 0 ++ drop n (take m (drop at w))) q
    ∙ ap (λ (r : List ℕ). replicate n 0 ++ r) (drop_of_length-le (take n (drop at w)) {i = n} (omega (arith, l)))
    ∙ append-nil (replicate n 0) in
    rw (q, new)

-- those words are zeros, and all others stand
module _ (at n : ℕ) (w : List ℕ) (h : at + n ≤ length w) where
  cleared-is : take at w ++ (replicate n 0 ++ drop n (drop at w)) ≡ paste w at (replicate n 0) n
  cleared-is = sym (paste_all w at (replicate n 0) n (length-replicate n 0) ∙ ap (λ (r : List ℕ). take at w ++ (replicate n 0 ++ r)) (sym (drop-drop n at w)))

  pub cleared-length : length (take at w ++ (replicate n 0 ++ drop n (drop at w))) ≡ length w
  cleared-length = ap length cleared-is ∙ length-paste w at (replicate n 0) n h (omega (arith, length-replicate {A = ℕ} n 0))

  pub cleared-far : (j : ℕ) → Far at n j → get_or (take at w ++ (replicate n 0 ++ drop n (drop at w))) j 0 ≡ get_or w j 0
  cleared-far j f = ap (λ (l : List ℕ). get_or l j 0) cleared-is ∙ paste_far w at (replicate n 0) n h (omega (arith, length-replicate {A = ℕ} n 0)) j 0 f

  pub cleared_at : (i : ℕ) → i < n → get_or (take at w ++ (replicate n 0 ++ drop n (drop at w))) (at + i) 0 ≡ 0
  cleared_at i l =
      let m : length (take at w) ≡ at = length-take-le at w (omega arith) in
      ap (λ (k : ℕ). get_or (take at w ++ (replicate n 0 ++ drop n (drop at w))) (k + i) 0) (sym m)
      ∙ get_or-append-add (take at w) (replicate n 0 ++ drop n (drop at w)) i 0
      ∙ get_or-append (replicate n 0) (drop n (drop at w)) 0 i (omega (arith, l, length-replicate {A = ℕ} n 0))
      ∙ get_or-replicate n i 0 0 l
