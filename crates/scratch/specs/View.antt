-- What the scratch of equalize holds, array by array, for n turfs and e links.
use Rattle.std.specs.Prelude.{ℕ, List, take, drop, Float}
use Rattle.basics.specs.Regions.{region}
use Rattle.scratch.specs.Layout.{word_sizes, plan_words, float_sizes}

-- by link, the zone that owns it: its number and one more, 0 for none
abbrev pub owner_in : ℕ → List ℕ → List ℕ
owner_in e w = take e w

-- by link, its reverse: its number and one more, 0 for none
abbrev pub reverse_in : ℕ → List ℕ → List ℕ
reverse_in e w = take e (drop e w)

-- rows to look at, in order
abbrev pub queue_in : ℕ → ℕ → List ℕ → List ℕ
queue_in n e w = region (word_sizes n e) 4 w

-- by row, 1 where the fast pass has served the turf
abbrev pub fast_in : ℕ → ℕ → List ℕ → List ℕ
fast_in n e w = region (plan_words n e) 3 w

-- by row, 1 where the turf is found
abbrev pub found_in : ℕ → ℕ → List ℕ → List ℕ
found_in n e w = region (word_sizes n e) 7 w

-- by zone, where its nodes start
abbrev pub starts_in : ℕ → ℕ → List ℕ → List ℕ
starts_in n e w = region (word_sizes n e) 10 w

-- the nodes of all zones
abbrev pub nodes_in : ℕ → ℕ → List ℕ → List ℕ
nodes_in n e w = region (word_sizes n e) 11 w

-- by link, its weight
abbrev pub weight_in : ℕ → ℕ → List Float → List Float
weight_in n e f = region (float_sizes n e) 0 f

-- by link, its lifted weight
abbrev pub lifted_in : ℕ → ℕ → List Float → List Float
lifted_in n e f = region (float_sizes n e) 2 f

-- by zone, its total
abbrev pub moles_in : ℕ → ℕ → List Float → List Float
moles_in n e f = region (float_sizes n e) 3 f
