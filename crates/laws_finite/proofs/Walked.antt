-- Every record that the first walk writes is read back: firelocks, and a target for each space turf; so is all that the planet walk writes. Assumes nothing.
use mathlib.Core.Bool.{true, not, ◌&&◌, ◌||◌, cond}
use mathlib.Core.List.{[]}
use Prim.Native.Nat.{ℕ}
use lib.Dec.{leb}
use lib.ListN.{get_or}
use Rattle.basics.specs.Loops.{member, snoc}
use Rattle.std.specs.Prelude.{Option, Some, None}
use Rattle.basics.specs.Lists.{All}
use Rattle.basics.proofs.Loops.{All-any, run-keeps, cond_both}
use Rattle.basics.proofs.Lists.{All-snoc}
use Rattle.rules_board.specs.Board.{Board, id_of, end, enabled, planetary, immutable, firelock, links_of, row_of}
use Rattle.rules_events.specs.Readings.{Readable}
use Rattle.rules_events.specs.declared.Event.TheVariants.{Firelock, Target}
use Rattle.rules_walk.specs.Walk.{Walk, advance, mark, walk_link, spread, walk}
use Rattle.rules_walk.specs.Visit.{visit_planet, at_space, visit_space}
use Rattle.rules_planet.specs.Planet.{planet_from, planet_walk}
use Rattle.laws_walk.proofs.Walks.{walk-keeps}
use Rattle.laws_finite.proofs.EachKind.{Word, lock_readable, target-readable}

module _ (b : Board) (ids : (r : ℕ) → Word (id_of b r)) (limit : ℕ) where
  -- what was written so far is read back
  abbrev pub Told : Walk → Type 0
  Told s = All Readable s.events

  link-told : (r k : ℕ) (s : Walk) → Told s → Told (walk_link b r k s)
  unfolding walk_link
  link-told r k s q = cond_both (All Readable) (not (member (end b k) s.queue) && firelock b k) (snoc s.events (Firelock (id_of b r) (id_of b (end b k)))) s.events
      (All-snoc Readable s.events (Firelock (id_of b r) (id_of b (end b k))) q (lock_readable (id_of b r) (id_of b (end b k)) (ids r) (ids (end b k)))) q

  spread-told : (r : ℕ) (s : Walk) → Told s → Told (spread b limit r s)
  unfolding spread
  spread-told r s q = run-keeps (λ k. Unit {0}) Told (walk_link b r) (λ k t u i. link-told r k t i) _ s (All-any _ (λ k. tt) (cond (enabled b r && leb s.walked limit) (links_of b r) [])) q

  -- ---- to space

  space-told : (r : ℕ) (s : Walk) → Told s → Told (visit_space b limit r s)
  unfolding visit_space at_space
  space-told r s q =
      cond_both Told (planetary b r) (mark true true s) (cond (immutable b r) (at_space b r s) (spread b limit r s)) q
      (cond_both Told (immutable b r) (at_space b r s) (spread b limit r s) (All-snoc Readable s.events (Target (id_of b r) (id_of b r)) q (target-readable (id_of b r) (id_of b r) (ids r) (ids r))) (spread-told r s q))

  pub walk-told : (r : ℕ) → Told (walk b (visit_space b limit) r)
  walk-told r = walk-keeps b (visit_space b limit) Told (λ s l q. space-told (get_or s.queue s.walked 0) (advance s) q) r tt

  -- ---- the planet walk

  planet-told : (r : ℕ) (s : Walk) → Told s → Told (visit_planet b limit r s)
  unfolding visit_planet
  planet-told r s q =
      let met = s.planet || planetary b r in
      cond_both Told (immutable b r) (mark met true s) (spread b limit r (mark met (not met) s)) q (spread-told r (mark met (not met) s) q)

  from_told : (o : Option ℕ) → All Readable (planet_from b limit o)
  unfolding planet_from
  from_told None = tt
  from_told (Some r) = walk-keeps b (visit_planet b limit) Told (λ s l q. planet-told (get_or s.queue s.walked 0) (advance s) q) r tt

  pub planet-walk_readable : (id : ℕ) → All Readable (planet_walk b limit id)
  unfolding planet_walk
  planet-walk_readable id = from_told (row_of b id)
