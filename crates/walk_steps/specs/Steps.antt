-- One turf of the way out, in the words, and one turf of the way back, in the event area.
use Rattle.std.specs.Prelude.{List, ◌∷◌, Bool, not, ℕ, ◌+◌, ◌≤◌, ◌<◌, T, eqb, length, get_or, set, Float, if◌then◌else◌}
use Rattle.std.specs.Float.Ieee.{is_nan}
use Rattle.rules_events.specs.declared.Event.{Event}
use Rattle.rules_events.specs.declared.Event.TheVariants.{HighPressure}
use Rattle.rules_back.specs.Back.{differences}
use Rattle.scratch.specs.Layout.{spots_at, order_at, targets_at, out_room}

-- the words hold a space turf number i
pub record Owns (ids : List ℕ) (i : ℕ) (w : List ℕ) : Type 0 where
  pub small : length ids ≤ 4096
  pub words : out_room (length ids) ≤ length w
  pub few : i < length ids
  pub row : get_or w (order_at (length ids) + i) 0 < length ids

-- it is given its place, and is its own target
abbrev pub own_at : List ℕ → ℕ → List ℕ → List ℕ
own_at ids i w =
    let n = length ids in
    let row = get_or w (order_at n + i) 0 in
    set (set w (spots_at n + row) i) (targets_at n + row) (get_or ids row 0)

-- where a turf's arrows end, by the setting
abbrev pub tip_of : ℕ → ℕ → ℕ → ℕ
tip_of arrows id next = if eqb arrows 0 then id else next

-- one turf's events, but for the rip; the next one is the last of its way, or it isn't
unfoldable pub told : ℕ → ℕ → ℕ → Float → Float → Bool → List Event
told arrows id next mine theirs last = HighPressure id ∷ differences arrows id next mine theirs last

-- they can be written after `used` bytes
pub record BackTells (x y : Float) (used : ℕ) (e : List ℕ) : Type 0 where
  pub mine : T (not (is_nan x))
  pub theirs : T (not (is_nan y))
  pub room : used + 48 ≤ length e
