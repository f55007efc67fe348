-- What the tests of planning come to, where the definition has no name for it.
use Rattle.std.specs.Prelude.{ℕ, ltb, Float, if◌then◌else◌}
use Rattle.std.specs.Float.Ieee.{neg}
use Rattle.rules_plan.specs.declared.MonstermosInfo.{MonstermosInfo}
use Rattle.rules_plan.specs.declared.Side.{Side}
use Rattle.rules_plan.specs.declared.Side.TheVariants.{Giving, Taking}

-- a giver's number as it is, a taker's negated
abbrev pub given : Side → Float → Float
given Giving x = x
given Taking x = neg x

-- fewer givers than takers: givers give; else takers take
abbrev pub side_of : ℕ → ℕ → Side
side_of givers takers = if ltb givers takers then Giving else Taking

-- a planning state with the fast mark
abbrev pub marked : MonstermosInfo → MonstermosInfo
marked i = record { delta = i.delta; amount = i.amount; direction = i.direction; fast = 1 }
