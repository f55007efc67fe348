-- Where the arrays of a call stand in the scratch that it is lent, for n turfs and e links. Nowhere else is a size or a place of an array written.
use Rattle.std.specs.Prelude.{ℕ, ◌+◌, ◌*◌, ◌≤◌, List, [], ◌∷◌}

-- sizes within their limits
pub record Sizes (n e : ℕ) : Type 0 where
  pub turfs : n ≤ 4096
  pub links : e ≤ 24576

-- ---- equalize: words

-- By link: owner, reverse. By row: the pair of the direction and the link over which the turf was met, the fast mark, the queue, the places in it, the list
-- of givers or takers, the found mark. By zone: nodes that had their turn, unfinished zones, where its nodes start. Then the nodes of all zones; and after
-- them, by mixture, the zone that has it.
abbrev pub word_sizes : ℕ → ℕ → List ℕ
word_sizes n e = e ∷ e ∷ (n + n) ∷ n ∷ n ∷ n ∷ n ∷ n ∷ n ∷ n ∷ (n + 1) ∷ (n + e) ∷ []

-- the first of them, up to the list: all that planning works with
abbrev pub plan_words : ℕ → ℕ → List ℕ
plan_words n e = e ∷ e ∷ (n + n) ∷ n ∷ n ∷ n ∷ n ∷ []

-- the reverse of the link k
abbrev pub reverse_at : ℕ → ℕ → ℕ
reverse_at k e = e + k

-- the direction of the turf at a row, and the link over which it was met
abbrev pub direction_at : ℕ → ℕ → ℕ
direction_at row e = e + e + row + row

abbrev pub via_at : ℕ → ℕ → ℕ
via_at row e = e + e + row + row + 1

-- its fast mark
abbrev pub fast_at : ℕ → ℕ → ℕ → ℕ
fast_at row n e = e + e + n + n + row

-- the queue
abbrev pub queue_at : ℕ → ℕ → ℕ
queue_at n e = e + e + n + n + n

-- the rows' places in it, or among a zone's nodes
abbrev pub places_at : ℕ → ℕ → ℕ
places_at n e = e + e + n + n + n + n

-- the list of givers or takers
abbrev pub list_at : ℕ → ℕ → ℕ
list_at n e = e + e + n + n + n + n + n

-- the marks of what is found
abbrev pub found_at : ℕ → ℕ → ℕ
found_at n e = e + e + n + n + n + n + n + n

-- how many nodes of each zone had their turn
abbrev pub turns_at : ℕ → ℕ → ℕ
turns_at n e = e + e + n + n + n + n + n + n + n

-- the zones that are not finished
abbrev pub live_at : ℕ → ℕ → ℕ
live_at n e = e + e + n + n + n + n + n + n + n + n

-- where the zones' nodes start
abbrev pub starts_at : ℕ → ℕ → ℕ
starts_at n e = e + e + n + n + n + n + n + n + n + n + n

-- the nodes of all zones
abbrev pub zone_nodes_at : ℕ → ℕ → ℕ
zone_nodes_at n e = e + e + n + n + n + n + n + n + n + n + n + n + 1

-- the most that there are of them
abbrev pub most_nodes : ℕ → ℕ → ℕ
most_nodes n e = n + e

-- the zone that has each mixture
abbrev pub marks_at : ℕ → ℕ → ℕ
marks_at n e = zone_nodes_at n e + n + e

-- the end of the words, where there are as many mixtures as turfs
abbrev pub words_end : ℕ → ℕ → ℕ
words_end n e = marks_at n e + n

-- ---- equalize: floats

-- by link the weight, by row the pair of the delta and the amount, by link the lifted weight, by zone its total as filled
abbrev pub float_sizes : ℕ → ℕ → List ℕ
float_sizes n e = e ∷ (n + n) ∷ e ∷ n ∷ []

-- the first of them: all that planning works with
abbrev pub plan_floats : ℕ → ℕ → List ℕ
plan_floats n e = e ∷ (n + n) ∷ []

-- the delta of the turf at a row, and its amount
abbrev pub delta_at : ℕ → ℕ → ℕ
delta_at row e = e + row + row

abbrev pub amount_at : ℕ → ℕ → ℕ
amount_at row e = e + row + row + 1

-- the lifted weights
abbrev pub lifted_at : ℕ → ℕ → ℕ
lifted_at n e = e + n + n

-- the zones' totals
abbrev pub moles_at : ℕ → ℕ → ℕ
moles_at n e = e + n + n + e

-- the end of the floats
abbrev pub floats_end : ℕ → ℕ → ℕ
floats_end n e = moles_at n e + n

-- ---- the walks: words

-- By row: the queue of the first walk, the rows' places in it, the space list.
abbrev pub walk_sizes : ℕ → List ℕ
walk_sizes n = n ∷ n ∷ n ∷ []

-- The way out has its order where the space list was, and the places in it; then the direction and the target of each row.
abbrev pub out_sizes : ℕ → List ℕ
out_sizes n = n ∷ n ∷ n ∷ n ∷ n ∷ []

-- the rows' places, in the queue or in the order
abbrev pub spots_at : ℕ → ℕ
spots_at n = n

-- the space list, which the order begins with
abbrev pub order_at : ℕ → ℕ
order_at n = 2 * n

-- the directions
abbrev pub ways_at : ℕ → ℕ
ways_at n = 3 * n

-- the targets
abbrev pub targets_at : ℕ → ℕ
targets_at n = 4 * n

-- room for the arrays of the first walk, and for those of the way out
abbrev pub walk_room : ℕ → ℕ
walk_room n = 3 * n

abbrev pub out_room : ℕ → ℕ
out_room n = 5 * n

-- ---- the walks: floats

-- by row the amount, by rip its sum
abbrev pub back_sizes : ℕ → List ℕ
back_sizes n = n ∷ n ∷ []

-- the sums
abbrev pub sums_at : ℕ → ℕ
sums_at n = n

-- room for them
abbrev pub back_room : ℕ → ℕ
back_room n = 2 * n
