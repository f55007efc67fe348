-- The setting changes the arrows alone: with 0 a depressurization leaves what it leaves with any other, each record as the Rust draws it. The walks know nothing of the
-- setting and draw no arrow; on the way back each step keeps the equation. Assumes nothing.
use mathlib.Core.Path.{◌≡◌, refl, sym, ap, ◌∙◌}
use mathlib.Core.List.{List, [], ◌∷◌, ◌++◌, map, reverse}
use mathlib.Core.Bool.{Bool, true, false, cond}
use Prim.Native.Nat.{ℕ, ◌+◌, ◌-◌}
use lib.Dec.{eqb}
use lib.ListN.{length, get_or, set, replicate}
use lib.Ieee.{Float, nan}
use Rattle.basics.specs.Loops.{run}
use Rattle.basics.specs.Floats.{0f, ◌+f◌}
use Rattle.std.specs.Prelude.{Option, Some, None}
use Rattle.basics.specs.Lists.{All}
use Rattle.basics.proofs.Loops.{All-any, run-both}
use Rattle.basics.proofs.Lists.{map-append}
use Rattle.rules_board.specs.Board.{Board, turf_count, id_of, mix_of, row_of}
use Rattle.rules_mixture.specs.Mixture.{total, clear_air}
use Rattle.rules_events.specs.Events.{kind_of, size_of}
use Rattle.rules_events.specs.declared.Event.{Event}
use Rattle.rules_events.specs.declared.Event.TheVariants.{DepressurizeWanted, PlanetWanted, Pressure, Firelock, Target, HighPressure, Difference, FloorRip}
use Rattle.events.proofs.Sizes.{size, size-cons}
use Rattle.rules_walk.specs.Walk.{Walk, walk}
use Rattle.rules_walk.specs.Visit.{visit_space}
use Rattle.rules_out.specs.Out.{Out, outward}
use Rattle.rules_back.specs.Back.{Back, as_text, to_space, differences, back_to, back}
use Rattle.rules_depressurize.specs.Depressurize.{Depressurized, breach_of, way_back, from_walk, from_row, depressurize}
use Rattle.laws_arrows.specs.Arrows.{as_loop, looped}
use Rattle.laws_arrows.proofs.Begun.{NoArrow, walk-begun, outward-plain}

-- ---- a record

kind_kept : (e : Event) → kind_of (as_loop e) ≡ kind_of e
unfolding kind_of
kind_kept (DepressurizeWanted id) = refl
kind_kept (PlanetWanted id) = refl
kind_kept (Pressure zone amount from to) = refl
kind_kept (Firelock id neighbour) = refl
kind_kept (Target id target) = refl
kind_kept (HighPressure id) = refl
kind_kept (Difference id amount from to) = refl
kind_kept (FloorRip id amount) = refl

-- as many bytes
pub size-kept : (es : List Event) → size (map as_loop es) ≡ size es
size-kept [] = refl
size-kept (e ∷ es) = size-cons (as_loop e) (map as_loop es) ∙ (λ i. size_of (kind_kept e i) + size-kept es i) ∙ sym (size-cons e es)

-- a record without an arrow is as it is
same-record : (e : Event) → NoArrow e → as_loop e ≡ e
same-record (DepressurizeWanted id) h = refl
same-record (PlanetWanted id) h = refl
same-record (Pressure zone amount from to) h = refl
same-record (Firelock id neighbour) h = refl
same-record (Target id target) h = refl
same-record (HighPressure id) h = refl
same-record (Difference id amount from to) h = absurd h
same-record (FloorRip id amount) h = refl

same-records : (es : List Event) → All NoArrow es → map as_loop es ≡ es
same-records [] h = refl
same-records (e ∷ es) h = λ i. same-record e h.0 i ∷ same-records es h.1 i

-- kinds 6 and 7 of a turf
drawn : (i j : ℕ) (x y : Float) (text last : Bool) → map as_loop (HighPressure i ∷ cond text as_text to_space i j x y last) ≡ HighPressure i ∷ as_text i j x y last
drawn i j x y true true = refl
drawn i j x y true false = refl
drawn i j x y false true = refl
drawn i j x y false false = refl

-- ---- the way back

-- its records as the Rust draws them
abbrev loops : Back → Back
loops s = record { gas = s.gas; amount = s.amount; events = map as_loop s.events; rips = map as_loop s.rips }

module _ (b : Board) (arrows : ℕ) where
  to-loops : (direction : List ℕ) (r d : ℕ) (s : Back) → loops (back_to b arrows direction r d s) ≡ back_to b 0 direction r d (loops s)
  unfolding back_to differences
  to-loops direction r d s =
      let gas = clear_air b (mix_of b r) s.gas in
      let sum = total b gas d in
      let mine = get_or s.amount r nan +f sum in
      let theirs = get_or (set s.amount r mine) d nan +f mine in
      let last = eqb (get_or direction d 0) 0 in
      let events : map as_loop (s.events ++ (HighPressure (id_of b r) ∷ cond (eqb arrows 0) as_text to_space (id_of b r) (id_of b d) mine theirs last)) ≡ map as_loop s.events ++ (HighPressure (id_of b r) ∷ as_text (id_of b r) (id_of b d) mine theirs last) =
      map-append as_loop s.events _ ∙ ap (λ (l : List Event). map as_loop s.events ++ l) (drawn (id_of b r) (id_of b d) mine theirs (eqb arrows 0) last) in
      λ i. record { gas = gas; amount = set (set s.amount r mine) d theirs; events = events i; rips = map-append as_loop s.rips (FloorRip (id_of b r) sum ∷ []) i }

  back-loops : (direction : List ℕ) (r : ℕ) (s : Back) → loops (back b arrows direction r s) ≡ back b 0 direction r (loops s)
  unfolding back
  back-loops direction r s = go (eqb (get_or direction r 0) 0)
    where
      d : ℕ
      d = get_or direction r 0 - 1

      go : (t : Bool) → loops (cond t s (back_to b arrows direction r d s)) ≡ cond t (loops s) (back_to b 0 direction r d (loops s))
      go true = refl
      go false = to-loops direction r d s

  way-looped : (gas : List Float) (o : Out) → All NoArrow o.events → way_back b 0 gas o ≡ looped (way_back b arrows gas o)
  unfolding way_back
  way-looped gas o q =
      let start : List Event → Back = λ es. record { gas = gas; amount = replicate (turf_count b) 0f; events = es; rips = [] } in
      let t = run (back b arrows o.direction) (reverse o.order) (start o.events) in
      let e : run (back b 0 o.direction) (reverse o.order) (start o.events) ≡ loops t =
      sym (run-both (λ r. Unit {0}) (λ s u. loops s ≡ u) (back b arrows o.direction) (back b 0 o.direction) (λ r s u i p. back-loops o.direction r s ∙ ap (back b 0 o.direction r) p) (reverse o.order) (start o.events) (start o.events) (All-any _ (λ r. tt) (reverse o.order))
      (ap start (same-records o.events q))) in
      λ i. record { outcome = 2; gas = (e i).gas; events = (ap (λ (s : Back). s.events ++ s.rips) e ∙ sym (map-append as_loop t.events t.rips)) i }

  -- ---- the whole

  module _ (gas : List Float) (id limit : ℕ) where
    walk-looped : (w : Walk) → All NoArrow w.events → from_walk b gas (breach_of id limit 0) w ≡ looped (from_walk b gas (breach_of id limit arrows) w)
    unfolding from_walk
    walk-looped w q = go w.planet (eqb (length w.space) 0)
      where
        none : ℕ → Depressurized
        none n = record { outcome = n; gas = gas; events = w.events }

        o : Out
        o = outward b limit w.space w.events

        still : (n : ℕ) → none n ≡ looped (none n)
        still n = λ i. record { outcome = n; gas = gas; events = sym (same-records w.events q) i }

        go : (p z : Bool) → cond p (none 1) (cond z (none 0) (way_back b 0 gas o)) ≡ looped (cond p (none 1) (cond z (none 0) (way_back b arrows gas o)))
        go true z = still 1
        go false true = still 0
        go false false = way-looped gas o (outward-plain b limit w.space w.events q)

    row-looped : (o : Option ℕ) → from_row b gas (breach_of id limit 0) o ≡ looped (from_row b gas (breach_of id limit arrows) o)
    unfolding from_row
    row-looped None = refl
    row-looped (Some r) = walk-looped (walk b (visit_space b limit) r) (walk-begun b limit r).plain

    -- The setting changes the arrows alone.
    pub settings_agree : depressurize b gas (breach_of id limit 0) ≡ looped (depressurize b gas (breach_of id limit arrows))
    unfolding depressurize
    settings_agree = row-looped (row_of b id)
