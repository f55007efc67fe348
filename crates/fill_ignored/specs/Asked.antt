-- What a zone that gives back is asked.
use Rattle.std.specs.Prelude.{ℕ, ◌+◌, ◌≤◌, ◌<◌, ◌≡◌, List, length, get_or}
use Rattle.scratch.specs.Layout.{Sizes, words_end}
use Rattle.fill_ignored.specs.Held.{pushed}

-- the starts of n turfs over e links
pub record Spans (n e : ℕ) (starts : List ℕ) : Type 0 where
  pub count : length starts ≡ n + 1
  pub rise : (r : ℕ) → r < n → get_or starts r 0 ≤ get_or starts (r + 1) 0
  pub end : (r : ℕ) → r < n → get_or starts (r + 1) 0 ≤ e

-- the rows that a zone pushed are turfs
pub record PushedFits (n e queued : ℕ) (w : List ℕ) : Type 0 where
  pub sizes : Sizes n e
  pub words : words_end n e ≤ length w
  pub few : queued ≤ n
  pub rows : (i : ℕ) → i < queued → get_or (pushed n e queued w) i 0 < n
