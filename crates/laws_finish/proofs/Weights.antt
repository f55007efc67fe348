-- Weights that finishing sets to 0: their number stays, none comes above 0, and lifting takes exactly the positive ones of its places out. Assumes nothing.
use mathlib.Core.Path.{◌≡◌, refl, ap, ap₂, ◌∙◌}
use mathlib.Core.Logic.{◌≢◌, ◌⊎◌, inl, inr}
use mathlib.Core.List.{List, [], ◌∷◌, map}
use mathlib.Core.Bool.{Bool, true, false}
use Prim.Native.Nat.{ℕ, zero, suc, ◌+◌, ◌≤◌, ◌<◌}
use native.Mathlib.Nat.{le_refl, le_trans}
use native.Mathlib.Decide.{ℕ_discrete, dec_lt}
use native.Mathlib.Omega.{arith}
use lib.Dec.{T, eqb, eqb→eq}
use lib.ListN.{length, get_or, set, length-set, get_or-eq_default}
use lib.Seq.{get_or-set_same, get_or-set_other, set_out}
use lib.Ieee.{Float, nan, lt, of_bits}
use Rattle.basics.specs.Loops.{run, keep, cons_if, member}
use Rattle.basics.specs.Floats.{0f}
use Rattle.std.specs.Prelude.{Option, Some, None}
use Rattle.basics.specs.Lists.{All, one, count}
use Rattle.basics.proofs.Loops.{All-any, run-keeps}
use Rattle.basics.proofs.Lists.{or_cases, Apart, keep_apart}
use Rattle.rules_board.specs.Board.{Board, end, links_of}
use Rattle.turfs.proofs.Accepted.{links-apart}
use Rattle.rules_plan.specs.Edges.{alter, edges_of}
use Rattle.rules_finish.specs.Finish.{zero_lifted, positive}
use Rattle.rules_finish.specs.Lifted.{above, pending}
use Rattle.rules_finish.specs.Worked as worked  -- checked before the laws

pub zero-not : above 0f ≡ false
unfolding lt of_bits
zero-not = refl

pub nan_not : above nan ≡ false
unfolding lt of_bits
nan_not = refl

-- ---- sizes

pub lift_size : (ks : List ℕ) (w : List Float) → length (zero_lifted ks w) ≡ length w
unfolding zero_lifted
lift_size ks w = run-keeps (λ k. Unit {0}) (λ v. length v ≡ length w) (λ k v. set v k 0f) (λ k v u i. length-set v k 0f ∙ i) ks w (All-any _ (λ k. tt) ks) refl

-- ---- weights that only go to 0

-- what isn't above 0 in w isn't in v
abbrev pub Below : List Float → List Float → Type 0
Below v w = (k : ℕ) → above (get_or w k nan) ≡ false → above (get_or v k nan) ≡ false

set_below : (w : List Float) (k : ℕ) → Below (set w k 0f) w
set_below w k j h = go (ℕ_discrete j k) (dec_lt k (length w))
  where
    go : Dec (j ≡ k) → Dec (k < length w) → above (get_or (set w k 0f) j nan) ≡ false
    go (no ne) l = ap above (get_or-set_other w k j 0f nan ne) ∙ h
    go (yes i) (yes l) = ap (λ (x : ℕ). above (get_or (set w k 0f) x nan)) i ∙ ap above (get_or-set_same w k 0f nan l) ∙ zero-not
    go (yes i) (no l) = ap (λ (v : List Float). above (get_or v j nan)) (set_out w k 0f (omega arith)) ∙ h

pub lift_below : (ks : List ℕ) (w w₀ : List Float) → Below w w₀ → Below (zero_lifted ks w) w₀
unfolding zero_lifted
lift_below ks w w₀ h = run-keeps (λ k. Unit {0}) (λ v. Below v w₀) (λ k v. set v k 0f) (λ k v u i j e. set_below v k j (i j e)) ks w (All-any _ (λ k. tt) ks) h

pub alter-below : (o : Option ℕ) (w w₀ : List Float) → Below w w₀ → Below (alter o (λ x. 0f) w) w₀
alter-below (Some k) w w₀ h = λ j e. set_below w k j (h j e)
alter-below None w w₀ h = h

pub lift_zero : (ks : List ℕ) (w : List Float) (k : ℕ) → T (member k ks) → above (get_or (zero_lifted ks w) k nan) ≡ false
unfolding zero_lifted run member
lift_zero [] w k m = absurd m
lift_zero (j ∷ ks) w k m = go (or_cases (eqb k j) (member k ks) m) (λ n. lift_zero ks (set w j 0f) k n)
  where
    at0 : k ≡ j → above (get_or (set w j 0f) k nan) ≡ false
    at0 i = pick (dec_lt j (length w))
      where
        pick : Dec (j < length w) → above (get_or (set w j 0f) k nan) ≡ false
        pick (yes l) = ap (λ (x : ℕ). above (get_or (set w j 0f) x nan)) i ∙ ap above (get_or-set_same w j 0f nan l) ∙ zero-not
        pick (no l) = ap (λ (v : List Float). above (get_or v k nan)) (set_out w j 0f (omega arith)) ∙ ap above (get_or-eq_default w nan {n = k} (omega arith)) ∙ nan_not

    go : T (eqb k j) ⊎ T (member k ks) → (T (member k ks) → above (get_or (zero_lifted ks (set w j 0f)) k nan) ≡ false) → above (get_or (zero_lifted ks (set w j 0f)) k nan) ≡ false
    go (inl i) ih = lift_below ks (set w j 0f) (set w j 0f) (λ x e. e) k (at0 (eqb→eq k j i))
    go (inr n) ih = ih n

-- ---- how many are above 0

-- the place k is above 0
abbrev pub above_at : List Float → ℕ → Bool
above_at w k = above (get_or w k nan)

pub pending-set : (w : List Float) (k : ℕ) → pending (set w k 0f) + one (above_at w k) ≡ pending w
unfolding pending count
pending-set [] k = let z : one (above nan) ≡ 0 = ap one nan_not in omega arith
pending-set (x ∷ xs) zero = let z : one (above 0f) ≡ 0 = ap one zero-not in omega arith
pending-set (x ∷ xs) (suc k) = let h : count above (set xs k 0f) + one (above (get_or xs k nan)) ≡ count above xs = pending-set xs k in omega arith

set-less : (w : List Float) (k : ℕ) → pending (set w k 0f) ≤ pending w
set-less w k = omega (arith, pending-set w k)

pub lift_less : (ks : List ℕ) (w : List Float) → pending (zero_lifted ks w) ≤ pending w
unfolding zero_lifted
lift_less ks w = run-keeps (λ k. Unit {0}) (λ v. pending v ≤ pending w) (λ k v. set v k 0f) (λ k v u h. le_trans (set-less v k) h) ks w (All-any _ (λ k. tt) ks) (le_refl (pending w))

pub alter-less : (o : Option ℕ) (w : List Float) → pending (alter o (λ x. 0f) w) ≤ pending w
alter-less (Some k) w = set-less w k
alter-less None w = le_refl (pending w)

other_count : (w : List Float) (k : ℕ) (ks : List ℕ) → All (λ j. j ≢ k) ks → count (above_at (set w k 0f)) ks ≡ count (above_at w) ks
unfolding count
other_count w k [] h = refl
other_count w k (j ∷ ks) h = ap₂ (λ (a c : ℕ). a + c) (ap (λ (x : Float). one (above x)) (get_or-set_other w k j 0f nan h.0)) (other_count w k ks h.1)

-- lifting takes exactly the positive weights out
pub lift_count : (ks : List ℕ) (w : List Float) → Apart ks → pending (zero_lifted ks w) + count (above_at w) ks ≡ pending w
unfolding zero_lifted run count
lift_count [] w d = omega arith
lift_count (k ∷ ks) w d =
    let ih : pending (zero_lifted ks (set w k 0f)) + count (above_at (set w k 0f)) ks ≡ pending (set w k 0f) = lift_count ks (set w k 0f) d.1 in
    let o : count (above_at (set w k 0f)) ks ≡ count (above_at w) ks = other_count w k ks d.0 in
    let p : pending (set w k 0f) + one (above_at w k) ≡ pending w = pending-set w k in
    omega arith

-- a positive pair is a positive place
pub pairs-count : (b : Board) (w : List Float) (ks : List ℕ) → length (positive (map (λ k. record { to = end b k; amount = get_or w k nan }) ks)) ≡ count (above_at w) ks
unfolding keep count
pairs-count b w [] = refl
pairs-count b w (k ∷ ks) = go (above_at w k) (pairs-count b w ks)
  where
    go : (t : Bool) → length (positive (map (λ j. record { to = end b j; amount = get_or w j nan }) ks)) ≡ count (above_at w) ks
        → length (cons_if t (record { to = end b k; amount = get_or w k nan }) (positive (map (λ j. record { to = end b j; amount = get_or w j nan }) ks))) ≡ one t + count (above_at w) ks
    go true h = let z = h in omega arith
    go false h = let z = h in omega arith

-- a zone's edges that leave a turf: none twice
pub edges_apart : (b : Board) (owner : List ℕ) (z r : ℕ) → Apart (edges_of b owner z r)
unfolding edges_of
edges_apart b owner z r = keep_apart _ (links_of b r) (links-apart b r)
