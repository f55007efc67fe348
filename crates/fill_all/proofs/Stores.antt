-- Stores in the work areas: the start. Assumes nothing.
use Prim.Native.Nat.{ℕ, ◌+◌, ◌≤◌}
use native.Mathlib.Omega.{arith}
use mathlib.Core.Path.{◌≡◌, refl, ap, ap₂, ◌∙◌, sym}
use mathlib.Core.List.{List, [], ◌++◌, append-nil}
use lib.ListN.{length, get_or, set, take, drop, replicate, length-set, length-replicate, length-drop, drop_of_length-le}
use lib.Seq.{length-take-le}
use Rattle.basics.specs.Regions.{cut}
use Rattle.basics.proofs.Regions.{cut-set, cut-part}
use Rattle.scratch.specs.Layout.{word_sizes, found_at, starts_at, marks_at}
use Rattle.fill_ignored.proofs.Stores.{emptied, mid_short}
use Rattle.fill_all.specs.Held.{Cleared}

pub cleared : (n e : ℕ) (w w₁ ys : List ℕ) (fa sa k : ℕ) → marks_at n e + n ≤ length w → fa ≡ found_at n e → sa ≡ starts_at n e → k ≡ n → w₁ ≡ replicate e 0 ++ drop e w
    → ys ≡ replicate n 0 ++ drop n (take k (drop fa w₁)) → Cleared n e w (set (take fa w₁ ++ (ys ++ drop k (drop fa w₁))) sa 0)
cleared n e w w₁ ys fa sa k long ef es ek e₁ ey =
    let l₁ : length w₁ ≡ length w = ap length e₁ ∙ front in
    let y : ys ≡ replicate n 0 = emptied n (take k (drop fa w₁)) ys (omega (arith, mid_short k fa w₁)) ey in
    let c₁ : cut (word_sizes n e) w₁ ≡ set (cut (word_sizes n e) w) 0 (replicate e 0) = ap (cut (word_sizes n e)) e₁ ∙ cut-part (word_sizes n e) w 0 (replicate e 0) 0 e (omega arith) (omega arith) refl refl (length-replicate {A = ℕ} e 0) in
    let c₂ : cut (word_sizes n e) (take fa w₁ ++ (ys ++ drop k (drop fa w₁))) ≡ set (cut (word_sizes n e) w₁) 7 ys =
    cut-part (word_sizes n e) w₁ 7 ys fa k (omega arith) (omega (arith, l₁)) (omega arith) (omega arith) (ap length y ∙ length-replicate {A = ℕ} n 0 ∙ sym ek) in
    cut-set (word_sizes n e) (take fa w₁ ++ (ys ++ drop k (drop fa w₁))) 10 0 0 sa (omega arith) (omega arith) (omega arith)
    ∙ ap (λ (ws : List (List ℕ)). set ws 10 (set (get_or ws 10 []) 0 0)) (c₂ ∙ ap₂ (λ (ws : List (List ℕ)) (r : List ℕ). set ws 7 r) c₁ y)
  where
    front : length (replicate e 0 ++ drop e w) ≡ length w
    front = simp (lib.ListN.length-append, length-replicate, length-drop) (omega arith)

-- the same where the words to be cleared were set to 0
pub filled : (n e : ℕ) (w xs ys : List ℕ) (fa sa k : ℕ) → marks_at n e + n ≤ length w → fa ≡ found_at n e → sa ≡ starts_at n e → k ≡ n → xs ≡ replicate (length (take e w)) 0
    → let w₁ = xs ++ drop e w in ys ≡ replicate (length (take k (drop fa w₁))) 0 → Cleared n e w (set (take fa w₁ ++ (ys ++ drop k (drop fa w₁))) sa 0)
filled n e w xs ys fa sa k long ef es ek ex ey =
    let w₁ : List ℕ = xs ++ drop e w in
    let x : xs ≡ replicate e 0 = ex ∙ ap (λ (m : ℕ). replicate m 0) (length-take-le e w (omega arith)) in
    let l₁ : length w₁ ≡ length w = ap (λ (r : List ℕ). length (r ++ drop e w)) x ∙ simp (lib.ListN.length-append, length-replicate, length-drop) (omega arith) in
    let l : length (take k (drop fa w₁)) ≡ n = length-take-le k (drop fa w₁) (omega (arith, l₁, length-drop fa w₁)) ∙ ek in
    let none : drop n (take k (drop fa w₁)) ≡ [] = drop_of_length-le (take k (drop fa w₁)) (omega (arith, l)) in
    cleared n e w w₁ ys fa sa k long ef es ek (ap (λ (r : List ℕ). r ++ drop e w) x) (rw (none, append-nil) (ey ∙ ap (λ (m : ℕ). replicate m 0) l))

pub cleared-length : (n e : ℕ) (w w₁ ys : List ℕ) (fa sa k : ℕ) → marks_at n e + n ≤ length w → fa ≡ found_at n e → k ≡ n → w₁ ≡ replicate e 0 ++ drop e w
    → ys ≡ replicate n 0 ++ drop n (take k (drop fa w₁)) → length (set (take fa w₁ ++ (ys ++ drop k (drop fa w₁))) sa 0) ≡ length w
cleared-length n e w w₁ ys fa sa k long ef ek e₁ ey =
    let l₁ : length w₁ ≡ length w = ap length e₁ ∙ simp (lib.ListN.length-append, length-replicate, length-drop) (omega arith) in
    let y : length ys ≡ n = ap length (emptied n (take k (drop fa w₁)) ys (omega (arith, mid_short k fa w₁)) ey) ∙ length-replicate {A = ℕ} n 0 in
    let t : length (take fa w₁) ≡ fa = length-take-le fa w₁ (omega arith) in
    simp (length-set, lib.ListN.length-append, y, t, length-drop) (omega arith)
