-- What a call that is not refused writes is read back, where the ids are u32s, as the table that is lent has them; and the gas that it leaves is finite.
-- Assumes nothing.
use mathlib.Core.Path.{◌≡◌}
use mathlib.Core.List.{List, [], ◌∷◌}
use Prim.Native.Nat.{ℕ, zero, suc}
use native.Mathlib.Omega.{arith}
use lib.ListN.{get_or}
use lib.Ieee.Bits.{is_true}
use Rattle.basics.specs.Loops.{every}
use Rattle.basics.specs.Lists.{All}
use Rattle.rules_board.specs.Board.{Board, id_of}
use Rattle.rules_mixture.specs.Mixture.{amount_fits}
use Rattle.rules_events.specs.Readings.{Readable}
use Rattle.rules_lent.specs.Lent.{Lent, no_extra}
use Rattle.lent.proofs.Passed.{passed}
use Rattle.rules_planet.specs.Planet.{planet_walk}
use Rattle.rules_depressurize.specs.declared.Breach.{Breach}
use Rattle.rules_depressurize.specs.Depressurize.{depressurize, depressurize_room, depressurize_number}
use Rattle.rules_equalize.specs.Equalize.{Ask, equalize}
use Rattle.rules_equalize.specs.Result.{equalize_room, equalize_number}
use Rattle.laws_finite.proofs.EachKind.{Word, Fin}
use Rattle.laws_finite.proofs.Walked.{planet-walk_readable}
use Rattle.laws_finite.proofs.Depress.{depressurize-readable, depressurize-gas}
use Rattle.laws_finite.proofs.Records.{equalize-readable}
use Rattle.laws_finite.proofs.Gases.{equalize-gas}

-- a table of u32s has them at every place
words-at : (xs : List ℕ) → All Word xs → (i : ℕ) → Word (get_or xs i 0)
words-at [] h i = omega arith
words-at (x ∷ xs) h zero = h.0
words-at (x ∷ xs) h (suc i) = words-at xs h.1 i

module _ (b : Board) (ids : All Word b.ids) (l : Lent) where
  id-at : (r : ℕ) → Word (id_of b r)
  id-at r = words-at b.ids ids r

  pub equalize-call : (q : Ask) (turns : List ℕ) → equalize_number b q turns l ≡ 0 → All Readable (equalize b l.gas q turns).events
  unfolding equalize_number
  equalize-call q turns e =
      let p = passed b l (equalize_room b) _ e in
      equalize-readable b p.board id-at l.gas (is_true (every amount_fits l.gas) p.amounts) q turns

  pub planet-call : (limit id : ℕ) → All Readable (planet_walk b limit id)
  planet-call limit id = planet-walk_readable b id-at limit id

  module _ (q : Breach) (e : depressurize_number b q l ≡ 0) where
    pub depressurize-call : All Readable (depressurize b l.gas q).events
    unfolding depressurize_number
    depressurize-call =
        let p = passed b l (depressurize_room b) no_extra e in
        depressurize-readable b p.board id-at l.gas (is_true (every amount_fits l.gas) p.amounts) q

    pub depressurize-call_gas : All Fin (depressurize b l.gas q).gas
    unfolding depressurize_number
    depressurize-call_gas =
        let p = passed b l (depressurize_room b) no_extra e in
        depressurize-gas b p.board id-at l.gas (is_true (every amount_fits l.gas) p.amounts) q

pub equalize-call_gas : (b : Board) (q : Ask) (turns : List ℕ) (l : Lent) → equalize_number b q turns l ≡ 0 → All Fin (equalize b l.gas q turns).gas
unfolding equalize_number
equalize-call_gas b q turns l e =
    let p = passed b l (equalize_room b) _ e in
    equalize-gas b p.board l.gas p.board.fits (is_true (every amount_fits l.gas) p.amounts) q turns
