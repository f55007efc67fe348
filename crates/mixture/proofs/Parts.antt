-- What a move of air reads and changes: mixtures lie side by side in one list, so a store of one leaves the others. Assumes nothing.
use mathlib.Core.Path.{◌≡◌, refl, sym, ap, ap₂, ◌∙◌, subst}
use mathlib.Core.Logic.{◌≢◌}
use mathlib.Core.List.{List, [], ◌∷◌, ◌++◌, append_assoc}
use mathlib.Core.Bool.{Bool, true, false, cond}
use Prim.Native.Nat.{ℕ, suc, ◌+◌, ◌-◌, ◌*◌, ◌≤◌, ◌<◌}
use native.Mathlib.Nat.{suc-mul, mul-le-mul_right, add-sub_of_le}
use native.Mathlib.Decide.{dec_lt, ℕ_discrete}
use native.Mathlib.Omega.{arith}
use lib.Dec.{T}
use lib.ListN.{length, take, drop, length-append, length-drop, length-map, take-append-drop}
use lib.Seq.{length-take-le, take-append-le, drop-append-le, drop-append-add, drop-drop, take_at, drop_at}
use lib.Ieee.{Float}
use Rattle.rules_board.specs.Board.{Board, mixture_count, immutable_mix}
use Rattle.rules_mixture.specs.Mixture.{part, put_part, scale, plus, remove, amounts, change, move_air}
use Rattle.rules_mixture.specs.Worked as worked  -- checked before the laws
use Rattle.mixture.specs.Held.{HoldsGas}

-- the end of a mixture that comes before another
pub before : (g : ℕ) {m n : ℕ} → m < n → m * g + g ≤ n * g
before g {m} {n} h = subst (λ (k : ℕ). k ≤ n * g) (suc-mul m g) (mul-le-mul_right g h)

-- a list of so many mixtures holds each of them
pub holds_of : (gas : List Float) (count g m : ℕ) → length gas ≡ count * g → m < count → HoldsGas gas g m
holds_of gas count g m e h = subst (λ (k : ℕ). m * g + g ≤ k) (sym e) (before g h)

module _ (g : ℕ) (gas : List Float) (m : ℕ) (new : List Float) (h : HoldsGas gas g m) (l : length new ≡ g) where
  head : length (take (m * g) gas) ≡ m * g
  head = length-take-le (m * g) gas (omega arith)

  pub put-length : length (put_part g m new gas) ≡ length gas
  put-length =
      let e = head in
      simp (length-append, e, l, length-drop) (omega arith)

  pub put_same : part g m (put_part g m new gas) ≡ new
  put_same =
      ap (take g) (drop_at (take (m * g) gas) (new ++ drop (m * g + g) gas) (m * g) head)
      ∙ take_at new (drop (m * g + g) gas) g l

  -- before it: whatever follows the first m * g
  front : (n : ℕ) (rest : List Float) → n < m → take g (drop (n * g) (take (m * g) gas ++ rest)) ≡ take g (drop (n * g) (take (m * g) gas))
  front n rest i =
      let e = head in
      let k : n * g + g ≤ m * g = before g i in
      ap (take g) (drop-append-le (n * g) (take (m * g) gas) rest (omega arith))
      ∙ take-append-le g (drop (n * g) (take (m * g) gas)) rest (subst (λ (x : ℕ). g ≤ x) (sym (length-drop (n * g) (take (m * g) gas))) (omega arith))

  below : (n : ℕ) → n < m → part g n (put_part g m new gas) ≡ part g n gas
  below n i =
      front n (new ++ drop (m * g + g) gas) i
      ∙ sym (front n (drop (m * g) gas) i)
      ∙ ap (λ (x : List Float). take g (drop (n * g) x)) (take-append-drop (m * g) gas)

  above : (n : ℕ) → m < n → part g n (put_part g m new gas) ≡ part g n gas
  above n i =
      let p = m * g + g in
      let k : m * g + g ≤ n * g = before g i in
      let x = take (m * g) gas ++ new in
      let e : length x ≡ p = length-append (take (m * g) gas) new ∙ ap₂ (λ (a b : ℕ). a + b) head l in
      let j : n * g ≡ length x + (n * g - p) = sym (ap (λ (a : ℕ). a + (n * g - p)) e ∙ add-sub_of_le k) in
      ap (take g)
      (ap (drop (n * g)) (sym (append_assoc (take (m * g) gas) new (drop p gas)))
      ∙ ap (λ (a : ℕ). drop a (x ++ drop p gas)) j
      ∙ drop-append-add x (drop p gas) (n * g - p)
      ∙ drop-drop (n * g - p) p gas
      ∙ ap (λ (a : ℕ). drop a gas) (add-sub_of_le k))

  pub put_other : (n : ℕ) → n ≢ m → part g n (put_part g m new gas) ≡ part g n gas
  put_other n ne = go (dec_lt n m) (dec_lt m n)
    where
      go : Dec (n < m) → Dec (m < n) → part g n (put_part g m new gas) ≡ part g n gas
      go (yes i) d = below n i
      go (no i) (yes j) = above n j
      go (no i) (no j) = absurd (ne (omega arith))

pub part_length : (g : ℕ) (gas : List Float) (m : ℕ) → HoldsGas gas g m → length (part g m gas) ≡ g
part_length g gas m h = length-take-le g (drop (m * g) gas) (subst (λ (x : ℕ). g ≤ x) (sym (length-drop (m * g) gas)) (omega arith))

pub plus-length : (xs ys : List Float) → length (plus xs ys) ≡ length xs
unfolding plus
plus-length [] ys = refl
plus-length (x ∷ xs) [] = refl
plus-length (x ∷ xs) (y ∷ ys) = ap suc (plus-length xs ys)

module _ (b : Board) where
  -- the gas has the board's size
  abbrev pub Fits : List Float → Type 0
  Fits gas = length gas ≡ mixture_count b * b.gases

  abbrev pub Full : List Float → Type 0
  Full new = length new ≡ b.gases

  -- the gas has room for a mixture
  abbrev pub Has : List Float → ℕ → Type 0
  Has gas m = HoldsGas gas b.gases m

  pub amounts-full : (gas : List Float) (m : ℕ) → Has gas m → Full (amounts b gas m)
  unfolding amounts
  amounts-full gas m h = part_length b.gases gas m h

  pub scaled_full : (gas : List Float) (m : ℕ) → Has gas m → (q : Float) → Full (scale q (amounts b gas m))
  unfolding scale
  scaled_full gas m h q = length-map (amounts b gas m) _ ∙ amounts-full gas m h

  pub plus-full : (gas : List Float) (m : ℕ) → Has gas m → (ys : List Float) → Full (plus (amounts b gas m) ys)
  plus-full gas m h ys = plus-length (amounts b gas m) ys ∙ amounts-full gas m h

  module _ (m : ℕ) (new : List Float) (l : Full new) where
    pub change-length : (gas : List Float) → Has gas m → length (change b m new gas) ≡ length gas
    unfolding change
    change-length gas h = go (immutable_mix b m)
      where
        go : (t : Bool) → length (cond t gas (put_part b.gases m new gas)) ≡ length gas
        go true = refl
        go false = put-length b.gases gas m new h l

    -- the store leaves another mixture, and an immutable one
    pub change-apart : (gas : List Float) → Has gas m → (n : ℕ) → (n ≡ m → T (immutable_mix b n)) → amounts b (change b m new gas) n ≡ amounts b gas n
    unfolding change amounts
    change-apart gas h n u = pick (ℕ_discrete n m)
      where
        go : (t : Bool) → (n ≡ m → T t) → part b.gases n (cond t gas (put_part b.gases m new gas)) ≡ part b.gases n gas
        go true k = refl
        go false k = put_other b.gases gas m new h l n (λ e. k e)

        pick : Dec (n ≡ m) → part b.gases n (cond (immutable_mix b m) gas (put_part b.gases m new gas)) ≡ part b.gases n gas
        pick (yes e) = go (immutable_mix b m) (λ e'. subst (λ (x : ℕ). T (immutable_mix b x)) e (u e))
        pick (no ne) = go (immutable_mix b m) (λ e. absurd (ne e))

    -- what a mixture holds after the store turns on what it held and on what is stored
    pub change-like : (new' : List Float) → new ≡ new' → (gas gas' : List Float) → Has gas m → Has gas' m → (n : ℕ)
        → amounts b gas n ≡ amounts b gas' n → amounts b (change b m new gas) n ≡ amounts b (change b m new' gas') n
    unfolding change amounts
    change-like new' e gas gas' h h' n a = rw (← e) (go (immutable_mix b m) (ℕ_discrete n m))
      where
        G : ℕ
        G = b.gases

        go : (t : Bool) → Dec (n ≡ m) → part G n (cond t gas (put_part G m new gas)) ≡ part G n (cond t gas' (put_part G m new gas'))
        go true d = a
        go false (yes i) =
            ap (λ (x : ℕ). part G x (put_part G m new gas)) i ∙ put_same G gas m new h l
            ∙ sym (ap (λ (x : ℕ). part G x (put_part G m new gas')) i ∙ put_same G gas' m new h' l)
        go false (no ne) = put_other G gas m new h l n ne ∙ a ∙ sym (put_other G gas' m new h' l n ne)

  module _ (from to : ℕ) (a : Float) (hf : from < mixture_count b) (ht : to < mixture_count b) where
    abbrev kept : List Float → List Float
    kept gas = (remove a (amounts b gas from)).stays

    abbrev left : List Float → List Float
    left gas = change b from (kept gas) gas

    abbrev got : List Float → List Float
    got gas = plus (amounts b (left gas) to) (remove a (amounts b gas from)).goes

    has : (gas : List Float) → Fits gas → (m : ℕ) → m < mixture_count b → Has gas m
    has gas f m h = holds_of gas (mixture_count b) b.gases m f h

    kept_full : (gas : List Float) → Fits gas → Full (kept gas)
    unfolding remove
    kept_full gas f = scaled_full gas from (has gas f from hf) _

    left-fits : (gas : List Float) → Fits gas → Fits (left gas)
    left-fits gas f = change-length from (kept gas) (kept_full gas f) gas (has gas f from hf) ∙ f

    left-has : (gas : List Float) → Fits gas → Has (left gas) to
    left-has gas f = has (left gas) (left-fits gas f) to ht

    got_full : (gas : List Float) → Fits gas → Full (got gas)
    got_full gas f = plus-full (left gas) to (left-has gas f) _

    pub move-fits : (gas : List Float) → Fits gas → Fits (move_air b from to a gas)
    unfolding move_air
    move-fits gas f = change-length to (got gas) (got_full gas f) (left gas) (left-has gas f) ∙ left-fits gas f

    -- a move leaves a mixture that is neither of the two, or immutable
    pub move_apart : (gas : List Float) → Fits gas → (n : ℕ) → (n ≡ from → T (immutable_mix b n)) → (n ≡ to → T (immutable_mix b n))
        → amounts b (move_air b from to a gas) n ≡ amounts b gas n
    unfolding move_air
    move_apart gas f n u v =
        change-apart to (got gas) (got_full gas f) (left gas) (left-has gas f) n v
        ∙ change-apart from (kept gas) (kept_full gas f) gas (has gas f from hf) n u

    -- what a mixture holds after a move turns on what it and the two held
    pub move_like : (gas gas' : List Float) → Fits gas → Fits gas' → amounts b gas from ≡ amounts b gas' from → amounts b gas to ≡ amounts b gas' to
        → (n : ℕ) → amounts b gas n ≡ amounts b gas' n → amounts b (move_air b from to a gas) n ≡ amounts b (move_air b from to a gas') n
    unfolding move_air
    move_like gas gas' f f' ef et n en =
        let k : kept gas ≡ kept gas' = ap (λ (x : List Float). (remove a x).stays) ef in
        let at : (j : ℕ) → amounts b gas j ≡ amounts b gas' j → amounts b (left gas) j ≡ amounts b (left gas') j =
        λ j e. change-like from (kept gas) (kept_full gas f) (kept gas') k gas gas' (has gas f from hf) (has gas' f' from hf) j e in
        let g : got gas ≡ got gas' = ap₂ (λ (x y : List Float). plus x (remove a y).goes) (at to et) ef in
        change-like to (got gas) (got_full gas f) (got gas') g (left gas) (left gas') (left-has gas f) (left-has gas' f') n (at n en)
