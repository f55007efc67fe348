-- Depressurize visits each turf once at most on either walk and both walks end by themselves; 84N event bytes are room enough: a turf that joins the first walk
-- may have a firelock (12), a space turf has a target (12), and any other turf of the second walk a target and, on the way back, kinds 6, 7, 7 and 8 (12 and 60).
-- Assumes nothing.
use mathlib.Core.Path.{◌≡◌, refl, sym, ap, ◌∙◌, subst}
use mathlib.Core.Logic.{◌≢◌, ◌⊎◌, inl, inr}
use mathlib.Core.List.{List, [], ◌∷◌, ◌++◌, append_assoc, append-nil, reverse}
use mathlib.Core.Bool.{Bool, true, false, not, cond}
use Prim.Native.Nat.{ℕ, ◌+◌, ◌-◌, ◌*◌, ◌≤◌, ◌<◌}
use native.Mathlib.Nat.{le_refl, le_trans}
use native.Mathlib.Omega.{arith}
use lib.Dec.{eqb, ltb}
use lib.ListN.{length, get_or, set, replicate, length-append}
use lib.Seq.{get_or-set_other}
use lib.Ieee.{Float, nan}
use borrow.Author.Tests.{le-ltb}
use Rattle.basics.specs.Loops.{run, member, snoc}
use Rattle.basics.specs.Floats.{0f, ◌+f◌}
use Rattle.std.specs.Prelude.{Option, Some, None}
use Rattle.basics.specs.Lists.{All, Found, one, count}
use Rattle.basics.proofs.Loops.{All-any, All-imp, All-get_or, times-rests, cond_both}
use Rattle.basics.proofs.Lists.{All-snoc, All-front, apart_snoc, apart-at, not_member, count-append, count-reverse, count_none, count-length, replicate-at}
use Rattle.rules_board.specs.Board.{Board, turf_count, id_of, mix_of, end, planetary, immutable, row_of}
use Rattle.turfs.specs.Tables.{Accepted}
use Rattle.turfs.proofs.Accepted.{row_below}
use Rattle.turfs.proofs.Line.{Line, line-short, line-snoc}
use Rattle.rules_mixture.specs.Mixture.{total, clear_air}
use Rattle.rules_events.specs.Events.{kind_of, size_of, encode_all}
use Rattle.rules_events.specs.declared.Event.{Event}
use Rattle.rules_events.specs.declared.Event.TheVariants.{Target, HighPressure, FloorRip}
use Rattle.events.proofs.Sizes.{size, size-append, size-snoc}
use Rattle.rules_lent.specs.Lent.{Lent, no_extra}
use Rattle.lent.proofs.Passed.{passed}
use Rattle.rules_walk.specs.Walk as walks
use Rattle.rules_walk.specs.Walk.{Walk, mark, spread, walk}
use Rattle.rules_walk.specs.Visit.{at_space, visit_space}
use Rattle.rules_walk.specs.declared.Kind.TheVariants.{Space}
use Rattle.laws_walk.proofs.Walks.{going, spreads, walk-keeps, walk-rests}
use Rattle.laws_walk.proofs.Told.{told-size}
use Rattle.laws_walk.proofs.Places.{visit-walked as visit-place, row-place}
use Rattle.rules_out.specs.Out.{Out, out_to, out_next, outward}
use Rattle.rules_back.specs.Back.{Back, differences, back_to, back}
use Rattle.rules_depressurize.specs.declared.Breach.{Breach}
use Rattle.rules_depressurize.specs.Depressurize.{Depressurized, breach_of, way_back, from_walk, from_row, depressurize, depressurize_room, depressurize_number}
use Rattle.rules_depressurize.specs.Worked as worked  -- checked before the laws
use Rattle.laws_depressurize.proofs.Outward.{start_out, outward-keeps}

target-size : (es : List Event) (i t : ℕ) → size (snoc es (Target i t)) ≡ size es + 12
target-size es i t = size-snoc es (Target i t) ∙ ap (λ (n : ℕ). size es + n) (unfold size_of kind_of in refl)

module _ (b : Board) {n : ℕ} (h : Accepted b n) (limit : ℕ) where
  -- ---- to space

  -- a turf that was visited, at a place below `walked`
  abbrev Visited : Walk → ℕ → Type 0
  Visited s x = (i : ℕ) × ((i < s.walked) × ((i < length s.queue) × (get_or s.queue i 0 ≡ x)))

  pub record Walked (s : Walk) : Type 0 where
    pub line : Line b s.queue
    pub space : Line b s.space
    pub behind : All (Visited s) s.space
    pub bytes : size s.events + 12 ≤ 12 * length s.queue + 12 * length s.space

  -- the turf in hand, at the place p, which `walked` has passed
  module _ (p : ℕ) (s : Walk) (place : s.walked ≡ p + 1) (inside : p < length s.queue) (q : Walked s)
      (before : All (λ x. (i : ℕ) × ((i < p) × ((i < length s.queue) × (get_or s.queue i 0 ≡ x)))) s.space) where
    abbrev r : ℕ
    r = get_or s.queue p 0

    space-walked : Walked (at_space b r s)
    unfolding at_space
    space-walked = record {
      line = q.line;
      space = record {
        apart = apart_snoc s.space r q.space.apart
            (All-imp _ (λ y. y ≢ r) s.space (λ y v e. apart-at s.queue v.0 p q.line.apart v.1.0 inside (sym e ∙ sym v.1.1.1)) before);
        rows = All-snoc (λ x. x < turf_count b) s.space r q.space.rows (All-get_or (λ x. x < turf_count b) s.queue p 0 q.line.rows inside);
      };
      behind = All-snoc (Visited s) s.space r q.behind (p, (omega (arith, place), (inside, refl)));
      bytes = omega (arith, target-size s.events (id_of b r) (id_of b r), length-append s.space (r ∷ []), q.bytes);
    }

    spread-keeps : Walked (spread b limit r s)
    spread-keeps =
        let w = spreads b h.ends limit r s q.line in
        record {
          line = w.line;
          space = subst (Line b) (sym w.space) q.space;
          behind = subst (All (Visited (spread b limit r s))) (sym w.space)
              (All-imp (Visited s) (Visited (spread b limit r s)) s.space
              (λ x v. (v.0, (subst (λ (m : ℕ). v.0 < m) (sym w.walked) v.1.0, (omega (arith, v.1.1.0, w.longer), w.front v.0 v.1.1.0 ∙ v.1.1.1)))) q.behind);
          bytes = subst (λ (l : List ℕ). size (spread b limit r s).events + 12 ≤ 12 * length (spread b limit r s).queue + 12 * length l) (sym w.space) (omega (arith, w.bytes, q.bytes));
        }

    visit-walked : Walked (visit_space b limit r s)
    unfolding visit_space
    visit-walked =
        cond_both Walked (planetary b r) (mark true true s) (cond (immutable b r) (at_space b r s) (spread b limit r s))
        (record { line = q.line; space = q.space; behind = q.behind; bytes = q.bytes })
        (cond_both Walked (immutable b r) (at_space b r s) (spread b limit r s) space-walked spread-keeps)

  pub space-walk : (r : ℕ) → r < turf_count b → Walked (walk b (visit_space b limit) r)
  space-walk r i = walk-keeps b (visit_space b limit) Walked step r
      (unfold encode_all in record { line = record { apart = (tt, tt); rows = (i, tt) }; space = record { apart = tt; rows = tt }; behind = tt; bytes = omega arith })
    where
      step : (s : Walk) → s.walked < length s.queue → Walked s → Walked (visit_space b limit (get_or s.queue s.walked 0) (walks.advance s))
      step s l q = visit-walked s.walked (walks.advance s) refl l
          (record { line = q.line; space = q.space; behind = All-imp (Visited s) (Visited (walks.advance s)) s.space (λ x v. (v.0, (omega (arith, v.1.0), v.1.1))) q.behind; bytes = q.bytes })
          q.behind

  -- as many steps as there are turfs are enough
  pub space-rests : (r : ℕ) → r < turf_count b → going (walk b (visit_space b limit) r) ≡ false
  space-rests r i = walk-rests b (visit_space b limit) (λ q s. visit-place b limit q Space s) r (line-short b (walk b (visit_space b limit) r).queue (space-walk r i).line)

  -- ---- out from space

  module _ (space : List ℕ) (e₀ : List Event) where
    -- the space turfs come first and have no direction
    pub record Outed (s : Out) : Type 0 where
      pub line : Line b s.order
      pub rest : (xs : List ℕ) × (s.order ≡ space ++ xs)
      pub none : All (λ x. get_or s.direction x 0 ≡ 0) space
      pub bytes : size s.events + 12 * length space ≤ size e₀ + 12 * length s.order

    joined : (s : Out) (p k : ℕ) → member (end b k) s.order ≡ false → Outed s → Outed (out_to b (get_or s.order p 0) (end b k) s)
    unfolding out_to
    joined s p k e q = record {
      line = line-snoc b s.order a (h.ends k) e q.line;
      rest = (snoc q.rest.0 a, ap (λ (l : List ℕ). snoc l a) q.rest.1 ∙ append_assoc space q.rest.0 (a ∷ []));
      none = kept space q.none (All-front (λ y. y ≢ a) space q.rest.0 (subst (All (λ y. y ≢ a)) q.rest.1 (not_member a s.order e)));
      bytes = omega (arith, target-size s.events (id_of b a) (get_or s.target (get_or s.order p 0) 0), length-append s.order (a ∷ []), q.bytes);
    }
      where
        a : ℕ
        a = end b k

        kept : (xs : List ℕ) → All (λ x. get_or s.direction x 0 ≡ 0) xs → All (λ y. y ≢ a) xs → All (λ x. get_or (set s.direction a (get_or s.order p 0 + 1)) x 0 ≡ 0) xs
        kept [] z ne = tt
        kept (x ∷ xs) z ne = (get_or-set_other s.direction a x (get_or s.order p 0 + 1) 0 ne.0 ∙ z.0, kept xs z.1 ne.1)

    abbrev out_going : Out → Bool
    out_going s = ltb s.place (length s.order)

    pub outward-outed : Line b space → Outed (outward b limit space e₀)
    outward-outed l = outward-keeps b limit Outed (λ s q. record { line = q.line; rest = q.rest; none = q.none; bytes = q.bytes }) (λ s p k i own e q. joined s p k e q) space e₀ (record {
      line = l;
      rest = ([], sym (append-nil space));
      none = All-any (λ x. get_or (replicate (turf_count b) 0) x 0 ≡ 0) (λ x. replicate-at {A = ℕ} (turf_count b) x 0) space;
      bytes = le_refl (size e₀ + 12 * length space);
    })

    -- as many steps as there are turfs are enough
    pub outward-rests : Line b space → out_going (outward b limit space e₀) ≡ false
    unfolding outward
    outward-rests l = go (times-rests (out_next b limit) out_going (λ s. s.place) still on (turf_count b) (start_out b space e₀))
      where
        still : (s : Out) → out_going s ≡ false → out_next b limit s ≡ s
        still s e = unfold out_next in rw e

        on : (s : Out) → out_going s ≡ true → (out_next b limit s).place ≡ s.place + 1
        on s e = unfold out_next in rw e (row-place b limit (get_or s.order s.place 0) s)

        w : Out
        w = outward b limit space e₀

        go : (out_going w ≡ false) ⊎ (w.place ≡ 0 + turf_count b) → out_going w ≡ false
        go (inl e) = e
        go (inr e) = le-ltb w.place (length w.order) (omega (arith, e, line-short b w.order (outward-outed l).line))

  -- ---- back

  abbrev directed : List ℕ → ℕ → Bool
  directed direction r = not (eqb (get_or direction r 0) 0)

  abbrev written : Back → ℕ
  written s = size s.events + size s.rips

  module _ (arrows : ℕ) (direction : List ℕ) where
    to_room : (r d : ℕ) (s : Back) → written (back_to b arrows direction r d s) ≤ written s + 60
    unfolding back_to
    to_room r d s =
        let sum = total b (clear_air b (mix_of b r) s.gas) d in
        let mine = get_or s.amount r nan +f sum in
        let theirs = get_or (set s.amount r mine) d nan +f mine in
        let last = eqb (get_or direction d 0) 0 in
        let i = id_of b r in
        let rip : size (snoc s.rips (FloorRip i sum)) ≡ size s.rips + 12 = size-snoc s.rips (FloorRip i sum) ∙ ap (λ (m : ℕ). size s.rips + m) (unfold size_of kind_of in refl) in
        omega (arith, rip, told-size arrows i (id_of b d) mine theirs last, size-append s.events (HighPressure i ∷ differences arrows i (id_of b d) mine theirs last))

    back-room : (xs : List ℕ) (s : Back) → written (run (back b arrows direction) xs s) ≤ written s + 60 * count (directed direction) xs
    unfolding run count
    back-room [] s = omega arith
    back-room (r ∷ xs) s = omega (arith, back-room xs (back b arrows direction r s), one-room (eqb (get_or direction r 0) 0) refl)
      where
        one-room : (t : Bool) → eqb (get_or direction r 0) 0 ≡ t → written (back b arrows direction r s) ≤ written s + 60 * one (not t)
        one-room true e = unfold back in rw e (omega arith)
        one-room false e = unfold back in rw e (to_room r (get_or direction r 0 - 1) s)

  -- ---- the whole

  back-bytes : (arrows : ℕ) (gas : List Float) (space : List ℕ) (e₀ : List Event) (o : Out) → Outed space e₀ o → size (way_back b arrows gas o).events + 12 * length space ≤ size e₀ + 72 * length o.order
  unfolding way_back
  back-bytes arrows gas space e₀ o q =
      let t = run (back b arrows o.direction) (reverse o.order) (record { gas = gas; amount = replicate (turf_count b) 0f; events = o.events; rips = [] }) in
      let p = directed o.direction in
      let r : written t ≤ size o.events + 0 + 60 * count p (reverse o.order) = unfold encode_all in back-room arrows o.direction (reverse o.order) _ in
      let c : count p o.order ≡ count p space + count p q.rest.0 = ap (count p) q.rest.1 ∙ count-append p space q.rest.0 in
      let z : count p space ≡ 0 = count_none p space (All-imp _ (λ x. p x ≡ false) space (λ x e. ap (λ (y : ℕ). not (eqb y 0)) e) q.none) in
      let l : length o.order ≡ length space + length q.rest.0 = ap length q.rest.1 ∙ length-append space q.rest.0 in
      omega (arith, r, c, z, l, count-reverse p o.order, count-length p q.rest.0, q.bytes, size-append t.events t.rips)

  module _ (arrows : ℕ) (gas : List Float) where
    walk-room : (id : ℕ) (w : Walk) → Walked w → size (from_walk b gas (breach_of id limit arrows) w).events ≤ depressurize_room b
    unfolding from_walk
    walk-room id w q =
        let short : length w.queue ≤ turf_count b = line-short b w.queue q.line in
        let spaces : length w.space ≤ turf_count b = line-short b w.space q.space in
        let few : size w.events ≤ depressurize_room b = omega (arith, q.bytes) in
        let o = outward b limit w.space w.events in
        let g = outward-outed w.space w.events q.space in
        let all : length o.order ≤ turf_count b = line-short b o.order g.line in
        let Fits : Depressurized → Type 0 = λ e. size e.events ≤ depressurize_room b in
        cond_both Fits w.planet _ (cond (eqb (length w.space) 0) _ (way_back b arrows gas o)) few
        (cond_both Fits (eqb (length w.space) 0) _ (way_back b arrows gas o) few (omega (arith, back-bytes arrows gas w.space w.events o g, q.bytes)))

    row_room : (id : ℕ) (o : Option ℕ) → Found (λ r. r < turf_count b) o → size (from_row b gas (breach_of id limit arrows) o).events ≤ depressurize_room b
    unfolding from_row encode_all
    row_room id None f = omega arith
    row_room id (Some r) f = walk-room id (walk b (visit_space b limit) r) (space-walk r f)

-- the events of a call take no more than the room that it asks for
pub depressurize-room : (b : Board) {n : ℕ} → Accepted b n → (gas : List Float) (q : Breach) → size (depressurize b gas q).events ≤ depressurize_room b
unfolding depressurize
depressurize-room b h gas q = row_room b h q.limit q.arrows gas q.id (row_of b q.id) (row_below b q.id)

-- those of a call that was done fit the area that it was lent
pub depressurize-fits : (b : Board) (q : Breach) (l : Lent) → depressurize_number b q l ≡ 0 → size (depressurize b l.gas q).events ≤ length l.area
unfolding depressurize_number
depressurize-fits b q l e = let p = passed b l (depressurize_room b) no_extra e in le_trans (depressurize-room b p.board l.gas q) p.area
