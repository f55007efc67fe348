-- The edges of a zone as the code has them: by link, with the reverse at hand.
use Rattle.std.specs.Prelude.{ℕ, ◌+◌, ◌-◌, ◌≤◌, ◌<◌, List, eqb, get_or, length, Float, if◌then◌else◌, Option, Some, None}
use Rattle.basics.specs.Floats.{◌+f◌, ◌-f◌}
use Rattle.rules_plan.specs.Edges.{alter}
use Rattle.scratch.specs.Layout.{reverse_at}

-- the link that a word of `reverse` names, where the zone z owns it
abbrev pub owned_by : List ℕ → ℕ → ℕ → Option ℕ
owned_by owner z p = if eqb p 0 then None else if eqb (get_or owner (p - 1) 0) (z + 1) then Some (p - 1) else None

-- the reverse of the link k, where the zone z owns it
unfoldable pub back_link : List ℕ → List ℕ → ℕ → ℕ → Option ℕ
back_link reverse owner z k = owned_by owner z (get_or reverse k 0)

-- `adjust_eq_movement`, with both edges at hand
unfoldable pub adjust_at : Option ℕ → Option ℕ → Float → List Float → List Float
adjust_at there back x w = alter back (λ y. y -f x) (alter there (λ y. y +f x) w)

-- what `back_link` is asked: the reverses are there, and that of the link k is a link or none
pub record BackLinkFits (k z e : ℕ) (words : List ℕ) : Type 0 where
  pub room : reverse_at e e ≤ length words
  pub link : k < e
  pub back : get_or words (reverse_at k e) 0 ≤ e
  pub zone : z < 4096
  pub links : e ≤ 24576
