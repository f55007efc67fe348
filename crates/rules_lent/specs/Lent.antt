-- What every call is lent beside its tables: the refusals in order, and what every lent cell holds afterwards.
use Rattle.std.specs.Prelude.{List, [], ◌∷◌, ◌++◌, Bool, ℕ, ◌+◌, ◌*◌, leb, length, drop, replicate, Float, if◌then◌else◌}
use Rattle.basics.specs.Loops.{every, all_of}
use Rattle.basics.specs.Floats.{0f, finite_sign_clear}
use Rattle.rules_board.specs.Board.{Board, turf_count, link_count, mixture_count}
use Rattle.rules_board.specs.Refuse.{ascending, sizes_fit, tables_fit, ids_fit, links_fit}
use Rattle.rules_mixture.specs.Mixture.{amount_fits}
use Rattle.rules_events.specs.Events.{encode_all}
use Rattle.rules_events.specs.declared.Event.{Event}

-- the areas that a call writes: the amounts, the event area, the scratch
pub record Lent : Type 0 where
  pub gas : List Float
  pub area : List ℕ
  pub words : List ℕ
  pub floats : List Float

-- what a call gives back: its answer, and the areas as it left them
pub record Result (A : Type 0) : Type 0 where
  pub answer : A
  pub lent : Lent

-- 16N+4E+2M+16
unfoldable pub words_room : Board → ℕ
words_room b = 16 * turf_count b + 4 * link_count b + 2 * mixture_count b + 16

-- 4N+2E
unfoldable pub floats_room : Board → ℕ
floats_room b = 4 * turf_count b + 2 * link_count b

-- The number of the first requirement that fails, in order; 0 where none does.
unfoldable pub first_failed : List (Bool × ℕ) → ℕ
first_failed [] = 0
first_failed (t ∷ ts) = if t.0 then first_failed ts else t.1

-- what only equalize is lent
pub record Extra : Type 0 where
  pub hot : List ℕ
  pub turns : List ℕ
  pub threshold : Float

-- Nothing of that is lent: what a call isn't lent it doesn't test, for every test of it passes.
abbrev pub no_extra : Extra
no_extra = record { hot = []; turns = []; threshold = 0f }

module _ (b : Board) (l : Lent) where
  -- the refusals 1 to 7, in order, of a call that needs `room` event bytes
  unfoldable pub refusal : ℕ → Extra → ℕ
  refusal room x = first_failed (
      (all_of (sizes_fit b ∷ leb (length x.hot) 4096 ∷ leb (length x.turns) 65536 ∷ []), 1)
      ∷ (tables_fit b (length l.gas), 2)
      ∷ (ids_fit b, 3)
      ∷ (links_fit b, 4)
      ∷ (all_of (every amount_fits l.gas ∷ finite_sign_clear x.threshold ∷ []), 5)
      ∷ (ascending x.hot, 6)
      ∷ (all_of (leb room (length l.area) ∷ leb (words_room b) (length l.words) ∷ leb (floats_room b) (length l.floats) ∷ []), 7)
      ∷ [])

  -- the lent areas after a call that was done
  unfoldable pub after : List Float → List Event → Lent
  after gas es = record {
    gas = gas;
    area = encode_all es ++ drop (length (encode_all es)) l.area;
    words = replicate (words_room b) 0 ++ drop (words_room b) l.words;
    floats = replicate (floats_room b) 0f ++ drop (floats_room b) l.floats;
  }
