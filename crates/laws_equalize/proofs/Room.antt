-- 20E+16N event bytes are room enough for every accepted call of equalize: 8 bytes a request, two requests a turf, and 20 bytes a link. Assumes nothing.
use mathlib.Core.Path.{◌≡◌}
use mathlib.Core.List.{List}
use Prim.Native.Nat.{ℕ, ◌+◌, ◌*◌, ◌≤◌}
use native.Mathlib.Nat.{le_trans}
use native.Mathlib.Omega.{arith}
use lib.Dec.{ltb}
use lib.ListN.{length, length-replicate}
use lib.Ieee.{Float}
use Rattle.basics.specs.Loops.{up_from}
use Rattle.basics.specs.Floats.{0f}
use Rattle.basics.proofs.Loops.{All-any, run-keeps, cond_both}
use Rattle.rules_board.specs.Board.{Board, turf_count, link_count}
use Rattle.turfs.specs.Tables.{Accepted}
use Rattle.events.proofs.Sizes.{size, requests-size}
use Rattle.rules_lent.specs.Lent.{Lent}
use Rattle.lent.proofs.Passed.{passed}
use Rattle.laws_plan.proofs.Sizes.{plan-sized}
use Rattle.rules_finish.specs.Turns.{zone_at, nodes_at, node_count}
use Rattle.laws_finish.proofs.Room.{records-room}
use Rattle.rules_equalize.specs.Equalize.{Ask, Filled, Equalized, filled_all, planned_all, planned, cancel, played, equalize}
use Rattle.rules_equalize.specs.Result.{equalize_room, equalize_number}
use Rattle.laws_equalize.proofs.Zones.{zoned, request_room}

pub weights-sized : (b : Board) (gas : List Float) (s : Filled) → length (planned_all b gas s).weight ≡ link_count b
unfolding planned_all
weights-sized b gas s =
    run-keeps (λ z. Unit {0}) (λ p. length p.weight ≡ link_count b) _
    (λ z p u h. plan-sized b s.owner z (link_count b) gas (nodes_at s.zones z) (zone_at s.zones z).moles p h)
    (up_from 0 (length s.zones)) _ (All-any _ (λ z. tt) (up_from 0 (length s.zones))) (length-replicate (link_count b) 0f)

module _ (b : Board) (gas : List Float) {n : ℕ} (h : Accepted b n) (q : Ask) where
  -- at most 16N bytes of requests
  pub requests-bytes : size (filled_all b gas q).events ≤ 16 * turf_count b
  requests-bytes = omega (arith, requests-size (filled_all b gas q).events (zoned b h gas q).spoken, request_room b h gas q)

  -- whatever the turns
  pub events-room : (turns : List ℕ) → size (equalize b gas q turns).events ≤ equalize_room b
  unfolding equalize
  events-room turns =
      let s = filled_all b gas q in
      let Fits : Equalized → Type 0 = λ e. size e.events ≤ equalize_room b in
      let few : size s.events ≤ equalize_room b = omega (arith, requests-bytes) in
      cond_both Fits s.cancelled (cancel b gas q 0 s.tests s.events) _ (asked 0 s.tests few)
      (cond_both Fits (ltb q.allowance (s.tests + 1)) (cancel b gas q 0 (s.tests + 1) s.events) _ (asked 0 (s.tests + 1) few)
      (cond_both Fits (ltb q.allowance (s.tests + 2)) (cancel b gas q (node_count s.zones) (s.tests + 2) s.events) (played b gas q turns s) (asked (node_count s.zones) (s.tests + 2) few) ran))
    where
      asked : (p t : ℕ) → size (filled_all b gas q).events ≤ equalize_room b → size (cancel b gas q p t (filled_all b gas q).events).events ≤ equalize_room b
      asked p t k = unfold cancel in k

      ran : size (played b gas q turns (filled_all b gas q)).events ≤ equalize_room b
      ran = unfold played planned in
          let s = filled_all b gas q in
          let r : _ = records-room b s.owner s.zones turns (planned b gas q s) in
          omega (arith, r, weights-sized b gas s, requests-bytes)

-- the events of a call that was done fit the area that it was lent, which stays as long
module _ (b : Board) (q : Ask) (turns : List ℕ) (l : Lent) (e : equalize_number b q turns l ≡ 0) where
  pub equalize-fits : size (equalize b l.gas q turns).events ≤ length l.area
  unfolding equalize_number
  equalize-fits = let p = passed b l (equalize_room b) _ e in le_trans (events-room b l.gas p.board q turns) p.area
