-- A call that equalize's number lets pass was lent what filling asks for. Assumes nothing.
use Prim.Native.Nat.{ℕ}
use native.Mathlib.Omega.{arith}
use mathlib.Core.Path.{◌≡◌, refl}
use mathlib.Core.List.{List}
use mathlib.Core.Bool.{true}
use lib.Dec.{T}
use lib.Ieee.Bits.{is_true}
use lib.ListN.{length}
use Rattle.basics.specs.Floats.{finite_sign_clear}
use Rattle.rules_board.specs.Board.{Board}
use Rattle.rules_board.specs.Refuse.{links_fit}
use Rattle.turfs.specs.Tables.{Accepted}
use Rattle.rules_lent.specs.Lent.{Lent, Extra, words_room, floats_room, refusal}
use Rattle.lent.specs.Given.{Given, Tests}
use Rattle.lent.specs.declared.ExtraTests.{ExtraTests}
use Rattle.lent.proofs.Passed.{Passed, passed, links-pass}
use Rattle.lent.proofs.Numbers.{given}
use Rattle.rules_equalize.specs.Equalize.{Ask}
use Rattle.rules_equalize.specs.Result.{equalize_room, equalize_number}
use Rattle.fill_all.specs.Asked.{FillFits}

module _ (b : Board) (q : Ask) (turns : List ℕ) (l : Lent) where
  -- what only equalize is lent
  abbrev pub extra : Extra
  extra = record { hot = q.hot; turns = turns; threshold = q.threshold }

  -- its number is the refusal of all that it is lent
  pub number_is : {number : ℕ} (t : ExtraTests)
      → ((ts : List ℕ) → length ts ≡ length turns → Tests (record { hot = q.hot; turns = ts; threshold = q.threshold }) t)
      → ((x : Extra) → Tests x t → number ≡ refusal b l (equalize_room b) x) → number ≡ equalize_number b q turns l
  unfolding equalize_number
  number_is t e r = r extra (e turns refl)

  -- ---- not refused

  module _ (z : equalize_number b q turns l ≡ 0) where
    pub let_pass : Passed b l (equalize_room b) extra
    unfolding equalize_number
    let_pass = passed b l (equalize_room b) extra z

    pub granted : Given b l (equalize_room b)
    unfolding equalize_number
    granted = given b l (equalize_room b) extra z

    pub let_links : T (links_fit b)
    unfolding equalize_number
    let_links = links-pass b l (equalize_room b) extra z

    -- what filling asks, and that the threshold is finite
    pub fill-asks : Accepted b (length l.gas) × ((finite_sign_clear q.threshold ≡ true) × FillFits b l.words l.floats l.area)
    unfolding words_room floats_room
    fill-asks =
        let p = let_pass in
        (p.board, (is_true (finite_sign_clear q.threshold) p.threshold, record { words = omega (arith, p.words); floats = omega (arith, p.floats); events = omega (arith, p.area) }))
