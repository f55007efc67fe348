-- The way back of `explosively_depressurize`, from the last turf to the first.
use Rattle.std.specs.Prelude.{List, [], ◌∷◌, ◌++◌, Bool, ℕ, ◌-◌, eqb, get_or, set, Float, if◌then◌else◌}
use Rattle.std.specs.Float.{nan}
use Rattle.basics.specs.Loops.{snoc}
use Rattle.basics.specs.Floats.{◌+f◌}
use Rattle.rules_board.specs.Board.{Board, id_of, mix_of}
use Rattle.rules_mixture.specs.Mixture.{total, clear_air}
use Rattle.rules_events.specs.declared.Event.{Event}
use Rattle.rules_events.specs.declared.Event.TheVariants.{HighPressure, Difference, FloorRip}

-- the way back
pub record Back : Type 0 where
  pub gas : List Float
  pub amount : List Float  -- by row
  pub events : List Event
  pub rips : List Event  -- `floor_rip_turfs`

-- kind 7 of the turf `id`, and again if the next one is the `last` of its way: as in the Rust, both arrows run from the id to itself
abbrev pub as_text : ℕ → ℕ → Float → Float → Bool → List Event
as_text id next mine theirs last = Difference id mine id id ∷ (if last then Difference id theirs id id ∷ [] else [])

-- the same towards space: both arrows run from the id to the next one's, and the second is that one's own
abbrev pub to_space : ℕ → ℕ → Float → Float → Bool → List Event
to_space id next mine theirs last = Difference id mine id next ∷ (if last then Difference next theirs id next ∷ [] else [])

-- by the setting: 0 is as in the Rust, anything else towards space
unfoldable pub differences : ℕ → ℕ → ℕ → Float → Float → Bool → List Event
differences arrows = if eqb arrows 0 then as_text else to_space

module _ (b : Board) (arrows : ℕ) where
  -- the turf r, which points at d; the last of a way has no direction
  unfoldable pub back_to : List ℕ → ℕ → ℕ → Back → Back
  back_to direction r d s =
      let gas = clear_air b (mix_of b r) s.gas in
      let sum = total b gas d in
      let mine = get_or s.amount r nan +f sum in
      let amount = set s.amount r mine in
      let theirs = get_or amount d nan +f mine in
      record {
        gas = gas;
        amount = set amount d theirs;
        events = s.events ++ (HighPressure (id_of b r) ∷ differences arrows (id_of b r) (id_of b d) mine theirs (eqb (get_or direction d 0) 0));
        rips = snoc s.rips (FloorRip (id_of b r) sum);
      }

  -- `for &cur_index in progression_order.iter().rev()`: turfs without direction are skipped
  unfoldable pub back : List ℕ → ℕ → Back → Back
  back direction r s = if eqb (get_or direction r 0) 0 then s else back_to direction r (get_or direction r 0 - 1) s
