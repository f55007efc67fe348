-- Towards space every arrow leads out: it runs from a turf of the order outward to the one that it points at, which has a link to it and joined before it, so as many steps as there are turfs end at
-- a turf that points nowhere, and that is space. Ids ascend, so an id is of one turf. Assumes nothing.
use mathlib.Core.Path.{◌≡◌, refl, sym, ap, ◌∙◌, subst}
use mathlib.Core.Logic.{◌≢◌, inl, inr}
use mathlib.Core.List.{List, [], ◌∷◌, ◌++◌, reverse, reverse-reverse}
use mathlib.Core.Bool.{Bool, true, false, cond}
use Prim.Native.Nat.{ℕ, zero, suc, ◌+◌, ◌-◌, ◌≤◌, ◌<◌}
use native.Mathlib.Decide.{ℕ_discrete}
use native.Mathlib.Omega.{arith}
use lib.Dec.{T, eqb}
use lib.ListN.{length, get_or, set, replicate}
use lib.Ieee.{Float, nan}
use lib.Ieee.Bits.{is_true}
use borrow.Author.Tests.{eq-eqb, ne_eqb}
use Rattle.basics.specs.Loops.{run, times, member}
use Rattle.basics.specs.Floats.{0f, ◌+f◌}
use Rattle.std.specs.Prelude.{Option, Some, None}
use Rattle.basics.specs.Lists.{All, Found}
use Rattle.basics.proofs.Loops.{All-imp, All-get_or, run-append, run-keeps, run-still, times-still, cond_both}
use Rattle.basics.proofs.Tests.{differ}
use Rattle.basics.proofs.Lists.{All-append, All-snoc, All-each, All-back, members, apart-at}
use Rattle.rules_board.specs.Board.{Board, turf_count, id_of, mix_of, immutable, row_of}
use Rattle.turfs.specs.Tables.{Accepted}
use Rattle.turfs.proofs.Accepted.{row_below}
use Rattle.turfs.proofs.Lookup.{row_is}
use Rattle.turfs.proofs.Line.{Line, line-short}
use Rattle.rules_mixture.specs.Mixture.{total, clear_air}
use Rattle.rules_events.specs.declared.Event.{Event}
use Rattle.rules_events.specs.declared.Event.TheVariants.{DepressurizeWanted, PlanetWanted, Pressure, Firelock, Target, HighPressure, Difference, FloorRip}
use Rattle.rules_walk.specs.Walk.{Walk, walk}
use Rattle.rules_walk.specs.Visit.{visit_space}
use Rattle.rules_out.specs.Out.{Out, outward}
use Rattle.rules_back.specs.Back.{Back, to_space, differences, back_to, back}
use Rattle.rules_depressurize.specs.Depressurize.{Depressurized, breach_of, way_back, from_walk, from_row, depressurize}
use Rattle.laws_depressurize.proofs.Room.{space-walk, outward-outed}
use Rattle.laws_arrows.specs.Arrows.{ArrowIs, along, follow, IsSpace, LeadsOut}
use Rattle.laws_arrows.proofs.Begun.{NoArrow, walk-begun, outward-plain}
use Rattle.laws_arrows.proofs.Led.{Aims, Led, outward-led}

-- ---- records

ArrowIs-imp : (P Q : ℕ → ℕ → Type 0) → ((from to : ℕ) → P from to → Q from to) → (e : Event) → ArrowIs P e → ArrowIs Q e
ArrowIs-imp P Q i (DepressurizeWanted id) h = tt
ArrowIs-imp P Q i (PlanetWanted id) h = tt
ArrowIs-imp P Q i (Pressure zone amount from to) h = tt
ArrowIs-imp P Q i (Firelock id neighbour) h = tt
ArrowIs-imp P Q i (Target id target) h = tt
ArrowIs-imp P Q i (HighPressure id) h = tt
ArrowIs-imp P Q i (Difference id amount from to) h = i from to h
ArrowIs-imp P Q i (FloorRip id amount) h = tt

-- no arrow, so any
none_is : (P : ℕ → ℕ → Type 0) (es : List Event) → All NoArrow es → All (ArrowIs P) es
none_is P es h = All-imp NoArrow (ArrowIs P) es (ArrowIs-imp (λ from to. ⊥) P (λ from to f. absurd f)) h

-- records without arrows lead nowhere
stays : (k at : ℕ) (es : List Event) → All NoArrow es → run (along k) es at ≡ at
stays k at es h = run-still (along k) es at (All-imp NoArrow (λ e. along k e at ≡ at) es one h)
  where
    one : (e : Event) → NoArrow e → along k e at ≡ at
    one (DepressurizeWanted id) h = refl
    one (PlanetWanted id) h = refl
    one (Pressure zone amount from to) h = refl
    one (Firelock id neighbour) h = refl
    one (Target id target) h = refl
    one (HighPressure id) h = refl
    one (Difference id amount from to) h = absurd h
    one (FloorRip id amount) h = refl

-- those of a turf lead from it alone
leads-from : (i j : ℕ) (x y : Float) (last : Bool) (k at : ℕ) → run (along k) (HighPressure i ∷ to_space i j x y last) at ≡ cond (eqb i k) j at
unfolding run
leads-from i j x y true k at = go (eqb i k)
  where
    go : (t : Bool) → cond t j (cond t j at) ≡ cond t j at
    go true = refl
    go false = refl
leads-from i j x y false k at = refl

-- ---- loops over rows

-- what a turn makes and the others keep
run-makes : {S : Type 0} (P : ℕ → Type 0) (Q : S → Type 0) (f : ℕ → S → S) (x : ℕ) → ((y : ℕ) (s : S) → P y → Q s → Q (f y s)) → ((s : S) → Q (f x s))
    → (xs : List ℕ) (s : S) → All P xs → T (member x xs) → Q (run f xs s)
unfolding run member
run-makes P Q f x keeps makes [] s a t = absurd t
run-makes P Q f x keeps makes (y ∷ ys) s a t = go (ℕ_discrete x y) (λ u. run-makes P Q f x keeps makes ys (f y s) a.1 u)
  where
    go : Dec (x ≡ y) → (T (member x ys) → Q (run f ys (f y s))) → Q (run f ys (f y s))
    go (yes e) ih = run-keeps P Q f keeps ys (f y s) a.1 (subst (λ (z : ℕ). Q (f z s)) e (makes s))
    go (no e) ih = ih (rw (ne_eqb x y e) at t)

-- ---- the way back

module _ (direction : List ℕ) where
  -- the row that a row points at, or itself
  abbrev next : ℕ → ℕ
  next x = cond (eqb (get_or direction x 0) 0) x (get_or direction x 0 - 1)

  next-to : (x y : ℕ) → get_or direction x 0 ≡ y + 1 → next x ≡ y
  next-to x y e = ap (λ (t : Bool). cond t x (get_or direction x 0 - 1)) (ne_eqb (get_or direction x 0) 0 (λ z. omega arith)) ∙ omega arith

module _ (b : Board) {n : ℕ} (h : Accepted b n) where
  -- an id is of one row
  same_row : (r x : ℕ) → r < turf_count b → x < turf_count b → id_of b r ≡ id_of b x → r ≡ x
  same_row r x i j e =
      let up = is_true _ h.ascends in
      let p = row_is b (id_of b x) up r i e in
      let q = row_is b (id_of b x) up x j refl in
      cc

  module _ (arrows : ℕ) (out : eqb arrows 0 ≡ false) (direction : List ℕ) where
    -- a turf's own arrow is written last
    back-follow : (r d : ℕ) (s : Back) (k : ℕ) → follow (back_to b arrows direction r d s).events k ≡ cond (eqb (id_of b r) k) (id_of b d) (follow s.events k)
    unfolding back_to differences follow
    back-follow r d s k = rw out (run-append (along k) s.events _ k ∙ leads-from (id_of b r) (id_of b d) _ _ (eqb (get_or direction d 0) 0) k (run (along k) s.events k))

    -- the arrow from x leads to where it points
    abbrev Follows : ℕ → Back → Type 0
    Follows x s = follow s.events (id_of b x) ≡ id_of b (next direction x)

    makes : (x : ℕ) (s : Back) → eqb (get_or direction x 0) 0 ≡ false → Follows x (back b arrows direction x s)
    unfolding back
    makes x s e = rw e (back-follow x (get_or direction x 0 - 1) s (id_of b x) ∙ rw (eq-eqb (id_of b x) (id_of b x) refl))

    keeps : (x : ℕ) → x < turf_count b → (r : ℕ) (s : Back) → r < turf_count b → Follows x s → Follows x (back b arrows direction r s)
    keeps x i r s j q = go (eqb (get_or direction r 0) 0) refl (ℕ_discrete r x)
      where
        go : (t : Bool) → eqb (get_or direction r 0) 0 ≡ t → Dec (r ≡ x) → Follows x (back b arrows direction r s)
        go true e c = unfold back in rw e q
        go false e (yes c) = subst (λ (y : ℕ). Follows y (back b arrows direction r s)) c (makes r s e)
        go false e (no c) = unfold back in rw e (back-follow r (get_or direction r 0 - 1) s (id_of b x) ∙ rw (ne_eqb (id_of b r) (id_of b x) (λ u. c (same_row r x j i u))) q)

    -- an arrow runs from a turf of the order to where it points
    record Drawn (order : List ℕ) (from to : ℕ) : Type 0 where
      place : ℕ
      inside : place < length order
      points : eqb (get_or direction (get_or order place 0) 0) 0 ≡ false
      starts : from ≡ id_of b (get_or order place 0)
      ends : to ≡ id_of b (next direction (get_or order place 0))

    -- all that is written on the way
    record Written (order : List ℕ) (s : Back) : Type 0 where
      events : All (ArrowIs (Drawn order)) s.events
      rips : All NoArrow s.rips

    writes : (order : List ℕ) (i : ℕ) → i < length order → (s : Back) → Written order s → Written order (back b arrows direction (get_or order i 0) s)
    unfolding back back_to differences
    writes order i l s q = go (eqb (get_or direction r 0) 0) refl
      where
        r : ℕ
        r = get_or order i 0

        d : ℕ
        d = get_or direction r 0 - 1

        drawn : eqb (get_or direction r 0) 0 ≡ false → Drawn order (id_of b r) (id_of b d)
        drawn e = record { place = i; inside = l; points = e; starts = refl; ends = sym (ap (λ (t : Bool). id_of b (cond t r d)) e) }

        both : eqb (get_or direction r 0) 0 ≡ false → (x y : Float) (last : Bool) → All (ArrowIs (Drawn order)) (to_space (id_of b r) (id_of b d) x y last)
        both e x y true = (drawn e, (drawn e, tt))
        both e x y false = (drawn e, tt)

        go : (t : Bool) → eqb (get_or direction r 0) 0 ≡ t → Written order (cond t s (back_to b arrows direction r d s))
        go true e = q
        go false e =
            let sum = total b (clear_air b (mix_of b r) s.gas) d in
            let mine = get_or s.amount r nan +f sum in
            let theirs = get_or (set s.amount r mine) d nan +f mine in
            let last = eqb (get_or direction d 0) 0 in
            record {
              events = rw out (All-append (ArrowIs (Drawn order)) s.events (HighPressure (id_of b r) ∷ to_space (id_of b r) (id_of b d) mine theirs last) q.events (tt, both e mine theirs last));
              rips = All-snoc NoArrow s.rips (FloorRip (id_of b r) sum) q.rips tt;
            }

-- ---- from any turf of the order to space

module _ (b : Board) {n : ℕ} (h : Accepted b n) (arrows : ℕ) (out : eqb arrows 0 ≡ false) (gas : List Float) (o : Out) (line : Line b o.order) (led : Led b o) (plain : All NoArrow o.events) where
  abbrev t : Back
  t = run (back b arrows o.direction) (reverse o.order) (record { gas = gas; amount = replicate (turf_count b) 0f; events = o.events; rips = [] })

  abbrev es : List Event
  es = t.events ++ t.rips

  -- the row at a place of the order, and where it points
  abbrev row : ℕ → ℕ
  row i = get_or o.order i 0

  abbrev to : ℕ → ℕ
  to i = next o.direction (row i)

  below : (i : ℕ) → i < length o.order → row i < turf_count b
  below i l = All-get_or (λ x. x < turf_count b) o.order i 0 line.rows l

  written : Written b h arrows out o.direction o.order t
  written =
      let W = Written b h arrows out o.direction o.order in
      let P : ℕ → Type 0 = λ r. (i : ℕ) × ((i < length o.order) × (row i ≡ r)) in
      run-keeps P W (back b arrows o.direction) (λ r s p q. subst (λ (x : ℕ). W (back b arrows o.direction x s)) p.1.1 (writes b h arrows out o.direction o.order p.0 p.1.0 s q)) (reverse o.order) _
      (All-back P o.order (All-each P o.order 0 (λ i l. (i, (l, refl))))) (record { events = none_is (Drawn b h arrows out o.direction o.order) o.events plain; rips = tt })

  follows : (i : ℕ) → i < length o.order → follow es (id_of b (row i)) ≡ id_of b (to i)
  unfolding follow
  follows i l = run-append (along (id_of b (row i))) t.events t.rips (id_of b (row i)) ∙ stays (id_of b (row i)) _ t.rips written.rips ∙ go (eqb (get_or o.direction (row i) 0) 0) refl
    where
      x : ℕ
      x = row i

      F : Back → Type 0
      F = Follows b h arrows out o.direction x

      rows : All (λ r. r < turf_count b) (reverse o.order)
      rows = All-back (λ r. r < turf_count b) o.order line.rows

      inside : All (λ y. T (member y (reverse o.order))) o.order
      inside = subst (All (λ y. T (member y (reverse o.order)))) (reverse-reverse o.order) (All-back _ (reverse o.order) (members (reverse o.order)))

      go : (c : Bool) → eqb (get_or o.direction x 0) 0 ≡ c → F t
      go true e = run-keeps (λ r. r < turf_count b) F (back b arrows o.direction) (keeps b h arrows out o.direction x (below i l)) (reverse o.order) _ rows
          (stays (id_of b x) (id_of b x) o.events plain ∙ ap (λ (c : Bool). id_of b (cond c x (get_or o.direction x 0 - 1))) (sym e))
      go false e = run-makes (λ r. r < turf_count b) F (back b arrows o.direction) x (keeps b h arrows out o.direction x (below i l)) (λ s. makes b h arrows out o.direction x s e) (reverse o.order) _ rows
          (All-get_or (λ y. T (member y (reverse o.order))) o.order i 0 inside l)

  -- space, which no arrow leaves
  abbrev Rest : ℕ → Type 0
  Rest v = IsSpace b v × (follow es v ≡ v)

  settles : (m i : ℕ) → i < length o.order → T (immutable b (row i)) → get_or o.direction (row i) 0 ≡ 0 → Rest (times (follow es) m (id_of b (row i)))
  settles m i l space e =
      let f : follow es (id_of b (row i)) ≡ id_of b (row i) = follows i l ∙ ap (λ (y : ℕ). id_of b (cond (eqb y 0) (row i) (y - 1))) e in
      subst Rest (sym (times-still (follow es) m (id_of b (row i)) f)) (record { row = row i; inside = below i l; id = refl; immutable = space }, f)

  reaches : (m i : ℕ) → i ≤ m → i < length o.order → Rest (times (follow es) m (id_of b (row i)))
  unfolding times
  reaches zero i k l = go (led.aims i l)
    where
      go : Aims b o.order o.direction i → Rest (id_of b (row i))
      go (inl u) = settles zero i l u.0 u.1
      go (inr u) = let c = u.before in absurd (omega arith)
  reaches (suc m) i k l = go (led.aims i l) (λ j v w. reaches m j v w)
    where
      go : Aims b o.order o.direction i → ((j : ℕ) → j ≤ m → j < length o.order → Rest (times (follow es) m (id_of b (row j)))) → Rest (times (follow es) m (follow es (id_of b (row i))))
      go (inl u) ih = settles (suc m) i l u.0 u.1
      go (inr u) ih =
          let c = u.before in
          subst (λ (v : ℕ). Rest (times (follow es) m v)) (sym (follows i l ∙ ap (id_of b) (next-to o.direction (row i) (row u.to) u.aims))) (ih u.to (omega arith) (omega arith))

  leads : (i : ℕ) → i < length o.order → eqb (get_or o.direction (row i) 0) 0 ≡ false → LeadsOut b es (id_of b (row i)) (id_of b (to i))
  leads i l e = go (led.aims i l)
    where
      go : Aims b o.order o.direction i → LeadsOut b es (id_of b (row i)) (id_of b (to i))
      go (inl u) = absurd (differ (sym (eq-eqb _ 0 u.1) ∙ e))
      go (inr u) =
          let c = u.before in
          let j = u.to in
          let in_order : j < length o.order = omega arith in
          let x : id_of b (to i) ≡ id_of b (row j) = ap (id_of b) (next-to o.direction (row i) (row j) u.aims) in
          let r = reaches (turf_count b) i (omega (arith, line-short b o.order line)) l in
          record {
            moves = λ q. apart-at o.order j i line.apart c l (same_row b h (row i) (row j) (below i l) (below j in_order) (q ∙ x));
            linked = record { row = row j; inside = below j in_order; id = sym x; link = u.link; own = u.own; ends = ap (id_of b) u.ends };
            only = follows i l;
            space = r.0;
            rests = r.1;
          }

  way-leads : All (ArrowIs (LeadsOut b es)) es
  way-leads =
      let D = Drawn b h arrows out o.direction o.order in
      All-append (ArrowIs (LeadsOut b es)) t.events t.rips
      (All-imp (ArrowIs D) (ArrowIs (LeadsOut b es)) t.events (ArrowIs-imp D (LeadsOut b es) (λ from end d. rw (d.starts, d.ends) (leads d.place d.inside d.points))) written.events)
      (none_is (LeadsOut b es) t.rips written.rips)

-- ---- the whole

module _ (b : Board) {n : ℕ} (h : Accepted b n) (gas : List Float) (id limit arrows : ℕ) (out : eqb arrows 0 ≡ false) where
  -- every arrow that it draws leads out
  abbrev AllOut : Depressurized → Type 0
  AllOut d = All (ArrowIs (LeadsOut b d.events)) d.events

  walk-out : (w : Walk) → All NoArrow w.events → All (λ r. T (immutable b r)) w.space → Line b w.space → AllOut (from_walk b gas (breach_of id limit arrows) w)
  unfolding from_walk way_back
  walk-out w plain space line =
      let none = none_is (LeadsOut b w.events) w.events plain in
      let o = outward b limit w.space w.events in
      cond_both AllOut w.planet _ (cond (eqb (length w.space) 0) _ (way_back b arrows gas o)) none
      (cond_both AllOut (eqb (length w.space) 0) _ (way_back b arrows gas o) none
      (way-leads b h arrows out gas o (outward-outed b h limit w.space w.events line).line (outward-led b h limit w.space w.events space) (outward-plain b limit w.space w.events plain)))

  row_out : (o : Option ℕ) → Found (λ r. r < turf_count b) o → AllOut (from_row b gas (breach_of id limit arrows) o)
  unfolding from_row
  row_out None f = tt
  row_out (Some r) f = let q = walk-begun b limit r in walk-out (walk b (visit_space b limit) r) q.plain q.space (space-walk b h limit r f).space

-- Towards space every arrow leads out.
pub arrows_lead : (b : Board) {n : ℕ} → Accepted b n → (gas : List Float) (id limit arrows : ℕ) → arrows ≢ 0
    → All (ArrowIs (LeadsOut b (depressurize b gas (breach_of id limit arrows)).events)) (depressurize b gas (breach_of id limit arrows)).events
unfolding depressurize
arrows_lead b h gas id limit arrows out = row_out b h gas id limit arrows (ne_eqb arrows 0 out) (row_of b id) (row_below b id)
