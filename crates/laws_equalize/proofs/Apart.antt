-- Demand 3 for finishing: where the zones are apart, two lists of turns come to the same. Assumes nothing.
use mathlib.Core.Path.{◌≡◌, refl, sym, ◌∙◌, subst, subst₂}
use mathlib.Core.Logic.{◌≢◌, ◌⊎◌, inl, inr}
use mathlib.Core.List.{List, [], ◌∷◌, map}
use mathlib.Core.Bool.{Bool, true, false, ◌||◌}
use Prim.Native.Nat.{ℕ, zero, suc, ◌+◌, ◌≤◌, ◌<◌, zero-le, suc-le-suc}
use native.Mathlib.Nat.{le_trans, le_refl, le-suc, zero-add}
use native.Mathlib.Decide.{dec_lt}
use native.Mathlib.Omega.{arith}
use lib.Dec.{T, ltb, ltb→lt}
use lib.ListN.{length, get_or, replicate}
use Rattle.basics.specs.Loops.{keep, cons_if, up_from, member}
use Rattle.basics.specs.Floats.{0f}
use Rattle.basics.specs.Lists.{All}
use Rattle.basics.proofs.Loops.{All-map, All-get_or, All-any, every-all}
use Rattle.basics.proofs.Lists.{All-unmap, or_cases, members, member-has, up_from-at, up_from-length}
use Rattle.rules_board.specs.Board.{Board, mixture_count, mix_of, immutable_mix, end}
use Rattle.mixture.proofs.Parts.{Fits}
use Rattle.rules_finish.specs.Finish.{Done}
use Rattle.rules_finish.specs.Turns.{Zone, zone_at, nodes_at, finish_all}
use Rattle.laws_finish.specs.Jobs.{turn_order}
use Rattle.laws_finish.proofs.ByTurns.{by_order}
use Rattle.laws_finish.proofs.Jobs.{Agrees, agree}
use Rattle.laws_finish.proofs.Order.{order-in, turn-rows}
use Rattle.rules_equalize.specs.Equalize.{has_mix, apart}
use Rattle.rules_equalize.specs.Worked as worked  -- checked before the laws

-- ---- how many pass a test

module _ {A : Type 0} (p : A → Bool) (d : A) (none : T (p d) → ⊥) where
  longer : (t : Bool) (x : A) (xs : List A) → length xs ≤ length (cons_if t x xs)
  longer true x xs = le-suc (length xs)
  longer false x xs = le_refl (length xs)

  counted : (t : Bool) (x : A) (xs : List A) → T t → suc (length xs) ≤ length (cons_if t x xs)
  counted true x xs h = le_refl (suc (length xs))
  counted false x xs h = absurd h

  one : (xs : List A) (i : ℕ) → T (p (get_or xs i d)) → 1 ≤ length (keep p xs)
  unfolding keep
  one [] i h = absurd (none h)
  one (x ∷ xs) zero h = le_trans (suc-le-suc zero-le) (counted (p x) x (keep p xs) h)
  one (x ∷ xs) (suc i) h = le_trans (one xs i h) (longer (p x) x (keep p xs))

  two : (xs : List A) (i j : ℕ) → i < j → T (p (get_or xs i d)) → T (p (get_or xs j d)) → 2 ≤ length (keep p xs)
  unfolding keep
  two [] i j l h k = absurd (none h)
  two (x ∷ xs) zero zero l h k = absurd (omega arith)
  two (x ∷ xs) zero (suc j) l h k = le_trans (suc-le-suc (one xs j k)) (counted (p x) x (keep p xs) h)
  two (x ∷ xs) (suc i) zero l h k = absurd (omega arith)
  two (x ∷ xs) (suc i) (suc j) l h k = le_trans (two xs i j (omega arith) h k) (longer (p x) x (keep p xs))

  somewhere : (xs : List A) → ((i : ℕ) × T (p (get_or xs i d))) ⊎ ((i : ℕ) → T (p (get_or xs i d)) → ⊥)
  somewhere [] = inr (λ i. none)
  somewhere (x ∷ xs) = go (p x) refl (somewhere xs)
    where
      go : (t : Bool) → p x ≡ t → ((i : ℕ) × T (p (get_or xs i d))) ⊎ ((i : ℕ) → T (p (get_or xs i d)) → ⊥)
          → ((i : ℕ) × T (p (get_or (x ∷ xs) i d))) ⊎ ((i : ℕ) → T (p (get_or (x ∷ xs) i d)) → ⊥)
      go true e r = inl (0, subst T (sym e) tt)
      go false e (inl w) = inl (suc w.0, w.1)
      go false e (inr u) = inr (λ i. elim i as (λ k. T (p (get_or (x ∷ xs) k d)) → ⊥) [ zero ↦ λ h. subst T e h | suc j ↦ λ h. u j h ])

-- ---- the theorem

abbrev empty_zone : Zone
empty_zone = record { nodes = []; moles = 0f }

-- A plan that is well formed: a zone has both ends of its links, the end at least by its mixture. A link's start needs nothing: only a zone's own nodes are finished.
pub record WellFormed (b : Board) (owner : List ℕ) (zones : List Zone) : Type 0 where
  pub some : zero < b.gases
  pub mixed : (r : ℕ) → mix_of b r < mixture_count b
  pub ends : (z k : ℕ) → get_or owner k 0 ≡ z + 1 → T (has_mix b (mix_of b (end b k)) (zone_at zones z))

module _ (b : Board) (owner : List ℕ) (zones : List Zone) (wf : WellFormed b owner zones) where
  abbrev In : ℕ → ℕ → Type 0
  In z m = T (has_mix b m (zone_at zones z))

  nodes-in : (z : ℕ) → All (λ r. In z (mix_of b r)) (nodes_at zones z)
  unfolding has_mix
  nodes-in z = All-unmap (λ m. T (member m (map (mix_of b) (nodes_at zones z)))) (mix_of b) (nodes_at zones z) (members (map (mix_of b) (nodes_at zones z)))

  -- a mixture that a zone has is one that there is
  known : (z m : ℕ) → In z m → m < mixture_count b
  unfolding has_mix
  known z m h = member-has (λ x. x < mixture_count b) m (map (mix_of b) (nodes_at zones z)) (All-map (λ x. x < mixture_count b) (mix_of b) (nodes_at zones z) (All-any _ (λ r. wf.mixed r) (nodes_at zones z))) h

  nothing : (m : ℕ) → T (has_mix b m empty_zone) → ⊥
  unfolding has_mix member
  nothing m h = h

  aparted : T (apart b zones) → (y z : ℕ) → y ≢ z → (m : ℕ) → In y m → In z m → T (immutable_mix b m)
  unfolding apart
  aparted t y z ne m hy hz =
      let test : ℕ → Bool = λ x. immutable_mix b x || ltb (length (keep (has_mix b x) zones)) 2 in
      let l : m < mixture_count b = known y m hy in
      let at : T (test (get_or (up_from 0 (mixture_count b)) m 0)) =
      All-get_or (λ x. T (test x)) (up_from 0 (mixture_count b)) m 0 (every-all test (up_from 0 (mixture_count b)) t) (subst (λ (n : ℕ). m < n) (sym (up_from-length 0 (mixture_count b))) l) in
      let here : T (test m) = subst (λ (x : ℕ). T (test x)) (up_from-at 0 (mixture_count b) m l ∙ zero-add m) at in
      go (or_cases (immutable_mix b m) (ltb (length (keep (has_mix b m) zones)) 2) here) (dec_lt y z) (dec_lt z y)
    where
      go : T (immutable_mix b m) ⊎ T (ltb (length (keep (has_mix b m) zones)) 2) → Dec (y < z) → Dec (z < y) → T (immutable_mix b m)
      go (inl f) d e = f
      go (inr k) (yes i) e = absurd (omega (arith, two (has_mix b m) empty_zone (nothing m) zones y z i hy hz, ltb→lt (length (keep (has_mix b m) zones)) 2 k))
      go (inr k) (no i) (yes j) = absurd (omega (arith, two (has_mix b m) empty_zone (nothing m) zones z y j hz hy, ltb→lt (length (keep (has_mix b m) zones)) 2 k))
      go (inr k) (no i) (no j) = absurd (ne (omega arith))

  in_one : (m : ℕ) → ((z : ℕ) × In z m) ⊎ ((z : ℕ) → In z m → T (immutable_mix b m))
  in_one m = elim (somewhere (has_mix b m) empty_zone (nothing m) zones) [ inl w ↦ inl w | inr u ↦ inr (λ z h. absurd (u z h)) ]

  -- Two lists of turns: the same gas, the same requests, and each zone's records in the same order.
  pub turns-agree : T (apart b zones) → (turns turns' : List ℕ) (s : Done) → Fits b s.gas
      → Agrees (finish_all b owner zones turns s) (finish_all b owner zones turns' s)
  unfolding turn_order
  turns-agree t turns turns' s f =
      subst₂ Agrees (sym (by_order b owner zones turns s)) (sym (by_order b owner zones turns' s))
      (agree b owner In wf.mixed wf.ends (aparted t) wf.some in_one (turn_order zones turns) (turn_order zones turns') s f
      (order-in zones (λ z r. In z (mix_of b r)) nodes-in turns (replicate (length zones) 0))
      (order-in zones (λ z r. In z (mix_of b r)) nodes-in turns' (replicate (length zones) 0))
      (λ z. turn-rows zones turns z ∙ sym (turn-rows zones turns' z)))
