-- Stores one after the other: a list filled from its front, and a part that is pasted over while the rest stands. Assumes nothing.
use Prim.Native.Nat.{ℕ, zero, suc, ◌+◌, ◌-◌, ◌≤◌, ◌<◌}
use native.Mathlib.Omega.{arith}
use native.Mathlib.Nat.{not-suc-le-zero, le_of_suc-le-suc, suc-add, zero-add, add-sub_of_le}
use native.Mathlib.Numerals.{add-one}
use mathlib.Core.Path.{◌≡◌, refl, ap, sym, ◌∙◌, subst}
use mathlib.Core.Logic.{◌⊎◌, inl, inr}
use mathlib.Core.List.{List, [], ◌∷◌, ◌++◌, append_assoc}
use lib.ListN.{length, get_or, set, take, drop, replicate, get_or-append}
use lib.Seq.{paste, paste-suc, length_paste_head, length-take-le, get_or-append-add, get_or-take, get_or-drop, set-append_left, take-set-lt, drop-set-lt, take-set-le, drop-set-add, take_all}

-- j is not one of the n places from `at` on
abbrev pub Far : ℕ → ℕ → ℕ → Type 0
Far at n j = (j < at) ⊎ (at + n ≤ j)

module _ {A : Type 0} where
  fill_suc : (n : ℕ) (v : A) (d : List A) → n < length d → set (replicate n v ++ drop n d) n v ≡ replicate (suc n) v ++ drop (suc n) d
  fill_suc n v [] l = absurd (not-suc-le-zero l)
  fill_suc zero v (x ∷ d) l = refl
  fill_suc (suc n) v (x ∷ d) l = ap (λ (t : List A). v ∷ t) (fill_suc n v d (le_of_suc-le-suc l))

  set-append_add : (xs ys : List A) (i : ℕ) (a : A) → set (xs ++ ys) (length xs + i) a ≡ xs ++ set ys i a
  set-append_add [] ys i a = rw (zero-add i)
  set-append_add (x ∷ xs) ys i a = rw (suc-add (length xs) i) (ap (λ (r : List A). x ∷ r) (set-append_add xs ys i a))

  module _ (d : List A) (at : ℕ) (s : List A) (n : ℕ) (hd : at + n ≤ length d) (hs : n ≤ length s) where
    head_length : length (take at d ++ take n s) ≡ at + n
    head_length = length_paste_head d at s n (omega arith) hs

    -- what was pasted leaves the other places
    pub paste_far : (j : ℕ) (z : A) → Far at n j → get_or (paste d at s n) j z ≡ get_or d j z
    paste_far j z (inl h) =
        let l = head_length in
        let m = length-take-le at d (omega arith) in
        get_or-append (take at d ++ take n s) (drop (at + n) d) z j (omega arith)
        ∙ get_or-append (take at d) (take n s) z j (omega arith)
        ∙ get_or-take at d j z h
    paste_far j z (inr h) =
        let e : length (take at d ++ take n s) + (j - (at + n)) ≡ j = ap (λ (k : ℕ). k + (j - (at + n))) head_length ∙ add-sub_of_le h in
        subst (λ (k : ℕ). get_or (paste d at s n) k z ≡ get_or d j z) e
        (get_or-append-add (take at d ++ take n s) (drop (at + n) d) (j - (at + n)) z
        ∙ get_or-drop (at + n) d (j - (at + n)) z
        ∙ ap (λ (k : ℕ). get_or d k z) (add-sub_of_le h))

    -- and a store at one of them goes below it
    pub paste_set : (j : ℕ) (x : A) → Far at n j → set (paste d at s n) j x ≡ paste (set d j x) at s n
    paste_set j x (inl h) =
        let l = head_length in
        let m = length-take-le at d (omega arith) in
        set-append_left (take at d ++ take n s) (drop (at + n) d) j x (omega arith)
        ∙ ap (λ (r : List A). r ++ drop (at + n) d) (set-append_left (take at d) (take n s) j x (omega arith))
        ∙ sym (rw (take-set-lt at d j x h, drop-set-lt (at + n) d j x (omega arith)))
    paste_set j x (inr h) =
        let k : ℕ = j - (at + n) in
        let e : length (take at d ++ take n s) + k ≡ j = ap (λ (i : ℕ). i + k) head_length ∙ add-sub_of_le h in
        let q : at + n + k ≡ j = add-sub_of_le h in
        subst (λ (i : ℕ). set (paste d at s n) i x ≡ paste (set d j x) at s n) e
        (set-append_add (take at d ++ take n s) (drop (at + n) d) k x
        ∙ sym (rw (take-set-le at d j x (omega arith)) (ap (λ (r : List A). (take at d ++ take n s) ++ r)
        (ap (λ (i : ℕ). drop (at + n) (set d i x)) (sym q) ∙ drop-set-add (at + n) d k x))))

  pub paste_next : (d : List A) (at : ℕ) (s : List A) (j : ℕ) (z : A) → at + j < length d → j < length s
      → set (paste d at s j) (at + j) (get_or s j z) ≡ paste d at s (j + 1)
  paste_next d at s j z hd hs = paste-suc d at s j z hd hs ∙ ap (paste d at s) (sym (add-one j))

  -- all of s is pasted
  pub paste_all : (d : List A) (at : ℕ) (s : List A) (n : ℕ) → length s ≡ n → paste d at s n ≡ take at d ++ (s ++ drop (at + n) d)
  paste_all d at s n l = ap (λ (r : List A). (take at d ++ r) ++ drop (at + n) d) (take_all n s (omega arith)) ∙ append_assoc (take at d) s (drop (at + n) d)
