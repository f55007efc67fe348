-- What filling leaves on accepted tables is what planning asks for. Assumes nothing.
use Prim.Native.Nat.{ℕ, ◌+◌, ◌≤◌}
use native.Mathlib.Omega.{arith}
use mathlib.Core.Path.{refl}
use mathlib.Core.List.{List}
use lib.Dec.{T}
use lib.ListN.{length}
use lib.Ieee.{Float}
use Rattle.rules_board.specs.Board.{Board, turf_count, link_count}
use Rattle.rules_board.specs.Refuse.{links_fit}
use Rattle.turfs.specs.Tables.{Accepted}
use Rattle.rules_lent.specs.Lent.{words_room, floats_room}
use Rattle.fill_zone.proofs.Boards.{gas-holds}
use Rattle.rules_equalize.specs.Equalize.{Ask, filled_all}
use Rattle.laws_equalize.proofs.Zones.{zone-has}
use Rattle.fill_all.specs.Held.{FillsAll}
use Rattle.fill_all.specs.declared.Filling.{Filling}
use Rattle.fill_all.proofs.Words.{nodes-few, zones-are}
use Rattle.reverse_links.proofs.Accepted.{linked}
use Rattle.plan_zone.specs.Zone.{Gassed}
use Rattle.plan_all.specs.Zones.{Plannable, PlanRoom, Zoned}
use Rattle.plan_all.proofs.Calls.{zoned_of}

module _ (b : Board) (q : Ask) (gas : List Float) (s : Filling) {w₀ w : List ℕ} {f₀ f : List Float} {a₀ a : List ℕ} (d : FillsAll (turf_count b) (link_count b) (filled_all b gas q) s w₀ w f₀ f a₀ a)
    (h : Accepted b (length gas)) (links-fit : T (links_fit b)) (words-room : words_room b ≤ length w) (floats-room : floats_room b ≤ length f) where
  abbrev n : ℕ
  n = turf_count b

  abbrev e : ℕ
  e = link_count b

  gassed : Gassed n b.mixtures b.gases gas
  gassed = record { mixtures_n = h.mixes; within = λ r p. gas-holds h gas refl r }

  room : PlanRoom n e w f
  unfolding words_room floats_room
  room = record { sizes = d.stored.sizes; words = omega (arith, words-room); floats = omega (arith, floats-room) }

  zoned : Zoned n e s.zones w f
  zoned = zoned_of b (filled_all b gas q).zones room d.stored.zones (zones-are d)
      (λ z p. (d.stored.rise z p, omega (arith, d.stored.below (z + 1) (omega arith), nodes-few d))) (zone-has b h gas q)

  pub plan-asks : Plannable b gas × Zoned n e s.zones w f
  plan-asks = (record { linked = linked b h.starts links-fit; gassed = gassed }, zoned)
