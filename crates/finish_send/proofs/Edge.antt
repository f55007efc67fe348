-- One edge: where its reverse weight is, the air that moves over it, an amount that has bits. Assumes nothing.
use mathlib.Core.Path.{◌≡◌, refl, ap, ◌∙◌, sym, subst}
use mathlib.Core.List.{List}
use mathlib.Core.Bool.{Bool, true, false, not, cond}
use Prim.Native.Nat.{ℕ, ◌+◌, ◌-◌, ◌*◌, ◌≤◌, ◌<◌}
use native.Mathlib.Omega.{arith}
use native.Mathlib.Decide.{ℕ_discrete}
use lib.Dec.{T, eqb}
use lib.ListN.{length, get_or, set, take, drop, length-set}
use lib.Seq.{get_or-take, get_or-drop}
use lib.Ieee.{Float, nan, inf, fin, lt, is_nan, of_bits}
use borrow.Author.Tests.{eq-eqb, ne_eqb}
use Rattle.basics.specs.Floats.{0f}
use Rattle.std.specs.Prelude.{Option, Some, None}
use Rattle.basics.specs.Lists.{Found}
use Rattle.rules_board.specs.Board.{Board, mix_of}
use Rattle.rules_mixture.specs.Mixture.{move_air, total, total_mix, amounts, sum}
use Rattle.rules_events.specs.Events.{kind_of, encode, size_of}
use Rattle.rules_events.specs.declared.Event.TheVariants.{Pressure}
use Rattle.events.proofs.Sizes.{encode-size}
use Rattle.plan_edges.specs.Steps.{owned_by, back_link}
use Rattle.plan_edges.proofs.Weights.{found-more}
use Rattle.rules_finish.specs.Lifted.{above}
use Rattle.finish_send.specs.Sending.{Next, lift_at, zero_at, shared}

-- the reverse of a link is one of the links
pub back_below : (e k z : ℕ) (w : List ℕ) → k < e → get_or w (e + k) 0 ≤ e → Found (λ j. j < e) (back_link (take e (drop e w)) (take e w) z k)
unfolding back_link
back_below e k z w h l = go (get_or (take e (drop e w)) k 0) (subst (λ (p : ℕ). p ≤ e) (sym (get_or-take e (drop e w) k 0 h ∙ get_or-drop e w k 0)) l)
  where
    go : (p : ℕ) → p ≤ e → Found (λ j. j < e) (owned_by (take e w) z p)
    go p l' = pick (ℕ_discrete p 0)
      where
        mine : (t : Bool) → p - 1 < e → Found (λ j. j < e) (cond t (Some (p - 1)) None)
        mine true q = q
        mine false q = tt

        pick : Dec (p ≡ 0) → Found (λ j. j < e) (owned_by (take e w) z p)
        pick (yes i) = rw (eq-eqb p 0 i) tt
        pick (no i) = rw (ne_eqb p 0 i) (mine (eqb (get_or (take e w) (p - 1) 0) (z + 1)) (omega (arith, i)))

pub back_fits : (e k z : ℕ) (w : List ℕ) (f : List Float) (s : Option ℕ) → s ≡ back_link (take e (drop e w)) (take e w) z k → k < e → get_or w (e + k) 0 ≤ e → e ≤ length f → Found (λ j. j < length f) s
back_fits e k z w f s q h l m = found-more e (length f) s m (subst (Found (λ j. j < e)) (sym q) (back_below e k z w h l))

-- the total of a turf is that of its mixture, on any board of as many gases
pub has_total : (b c : Board) (r : ℕ) (gas : List Float) (x : Float) → c.gases ≡ b.gases → x ≡ total b gas r → x ≡ total_mix c gas (mix_of b r)
unfolding total total_mix amounts
has_total b c r gas x e q = q ∙ ap (λ (g : ℕ). sum (take g (drop (mix_of b r * g) gas))) (sym e)

-- an amount above 0 is no NaN
pub has-bits : (x : Float) → above x ≡ true → T (not (is_nan x))
unfolding is_nan lt of_bits
has-bits nan h = subst T (sym h) tt
has-bits (inf s) h = tt
has-bits (fin s m e) h = tt

-- a store that is made or not leaves the length
store_length : (t : Bool) (f : List Float) (i : ℕ) (x : Float) → length (cond t (set f i x) f) ≡ length f
store_length true f i x = length-set f i x
store_length false f i x = refl

pub lift_length : (words : List ℕ) (z up k : ℕ) (f : List Float) → length (lift_at words z up k f) ≡ length f
lift_length words z up k f = go (eqb (get_or words k 0) (z + 1))
  where
    go : (t : Bool) → length (cond t (set (set f (up + k) (get_or f k nan)) k 0f) f) ≡ length f
    go true = length-set (set f (up + k) (get_or f k nan)) k 0f ∙ length-set f (up + k) (get_or f k nan)
    go false = refl

pub zero-length : (words : List ℕ) (z k : ℕ) (f : List Float) → length (zero_at words z k f) ≡ length f
zero-length words z k f = store_length (eqb (get_or words k 0) (z + 1)) f k 0f

-- a record of kind 3 has 20 bytes
pub pressure_size : (z : ℕ) (x : Float) (i j : ℕ) → length (encode (Pressure z x i j)) ≡ 20
unfolding size_of kind_of
pressure_size z x i j = encode-size (Pressure z x i j)
