-- Where a mixture's amounts stand.
use Rattle.std.specs.Prelude.{List, ℕ, ◌+◌, ◌*◌, ◌≤◌, length, Float}

-- the list holds a mixture's amounts, of g to a mixture
abbrev pub HoldsGas : List Float → ℕ → ℕ → Type 0
HoldsGas gas g m = m * g + g ≤ length gas
