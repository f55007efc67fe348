-- The planet walk visits each turf once at most and ends by itself; 12N event bytes are room enough for it, a firelock for each turf but the first. Assumes nothing.
use mathlib.Core.Path.{◌≡◌}
use mathlib.Core.Bool.{true, false, not, ◌||◌}
use Prim.Native.Nat.{ℕ, ◌+◌, ◌*◌, ◌≤◌, ◌<◌}
use native.Mathlib.Nat.{le_trans}
use native.Mathlib.Omega.{arith}
use lib.ListN.{length, get_or}
use Rattle.std.specs.Prelude.{Option, Some, None}
use Rattle.basics.specs.Lists.{Found}
use Rattle.basics.proofs.Loops.{cond_both}
use Rattle.rules_board.specs.Board.{Board, turf_count, planetary, immutable, row_of}
use Rattle.turfs.specs.Tables.{Accepted}
use Rattle.turfs.proofs.Accepted.{row_below}
use Rattle.turfs.proofs.Line.{Line, line-short}
use Rattle.rules_events.specs.Events.{encode_all}
use Rattle.events.proofs.Sizes.{size}
use Rattle.rules_lent.specs.Lent.{Lent, no_extra}
use Rattle.lent.proofs.Passed.{passed}
use Rattle.rules_walk.specs.Walk.{Walk, advance, mark, spread, walk}
use Rattle.rules_walk.specs.Visit.{visit_planet}
use Rattle.rules_walk.specs.declared.Kind.TheVariants.{Planet}
use Rattle.laws_walk.proofs.Walks.{going, spreads, walk-keeps, walk-rests}
use Rattle.laws_walk.proofs.Places.{visit-walked as visit-place}
use Rattle.rules_planet.specs.Planet.{planet_from, planet_walk, planet_room, planet_number}
use Rattle.rules_planet.specs.Worked as worked  -- checked before the laws

module _ (b : Board) {n : ℕ} (h : Accepted b n) (limit : ℕ) where
  -- a firelock a turf, but none for the first
  pub record Walked (s : Walk) : Type 0 where
    pub line : Line b s.queue
    pub bytes : size s.events + 12 ≤ 12 * length s.queue

  visit-walked : (r : ℕ) (s : Walk) → Walked s → Walked (visit_planet b limit r s)
  unfolding visit_planet
  visit-walked r s q =
      let met = s.planet || planetary b r in
      let next = mark met (not met) s in
      let p = spreads b h.ends limit r next q.line in
      cond_both Walked (immutable b r) (mark met true s) (spread b limit r next) (record { line = q.line; bytes = q.bytes })
      (record { line = p.line; bytes = omega (arith, p.bytes, q.bytes) })

  pub planet-walked : (r : ℕ) → r < turf_count b → Walked (walk b (visit_planet b limit) r)
  planet-walked r i = walk-keeps b (visit_planet b limit) Walked (λ s l q. visit-walked (get_or s.queue s.walked 0) (advance s) (record { line = q.line; bytes = q.bytes })) r
      (unfold encode_all in record { line = record { apart = (tt, tt); rows = (i, tt) }; bytes = omega arith })

  -- as many steps as there are turfs are enough
  pub planet-rests : (r : ℕ) → r < turf_count b → going (walk b (visit_planet b limit) r) ≡ false
  planet-rests r i = walk-rests b (visit_planet b limit) (λ q s. visit-place b limit q Planet s) r (line-short b (walk b (visit_planet b limit) r).queue (planet-walked r i).line)

  from-room : (o : Option ℕ) → Found (λ r. r < turf_count b) o → size (planet_from b limit o) ≤ planet_room b
  unfolding planet_from encode_all
  from-room None f = omega arith
  from-room (Some r) f =
      let w = walk b (visit_planet b limit) r in
      let q = planet-walked r f in
      omega (arith, q.bytes, line-short b w.queue q.line)

  pub planet-room : (id : ℕ) → size (planet_walk b limit id) ≤ planet_room b
  unfolding planet_walk
  planet-room id = from-room (row_of b id) (row_below b id)

-- the events of a call that was done fit the area that it was lent
pub planet-fits : (b : Board) (limit id : ℕ) (l : Lent) → planet_number b limit id l ≡ 0 → size (planet_walk b limit id) ≤ length l.area
unfolding planet_number
planet-fits b limit id l e = let p = passed b l (planet_room b) no_extra e in le_trans (planet-room b p.board limit id) p.area
