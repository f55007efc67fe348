-- What an ignored zone gives back, and where the work areas hold it.
use Rattle.std.specs.Prelude.{ℕ, ◌+◌, ◌-◌, ◌≡◌, List, get_or, set, take, replicate}
use Rattle.std.proofs.lemmas.List.Edits.{sets}
use Rattle.basics.specs.Loops.{run}
use Rattle.basics.specs.Regions.{cut}
use Rattle.scratch.specs.Layout.{word_sizes}
use Rattle.scratch.specs.View.{owner_in, queue_in}

-- the links of the row r lose their owners
abbrev pub give_back : List ℕ → ℕ → List ℕ → List ℕ
give_back starts r o = sets o (get_or starts r 0) (replicate (get_or starts (r + 1) 0 - get_or starts r 0) 0)

-- the rows that were pushed
abbrev pub pushed : ℕ → ℕ → ℕ → List ℕ → List ℕ
pushed n e queued w = take queued (queue_in n e w)

-- every row that was pushed gave its links back, and all else is as it was
abbrev pub GaveBack : ℕ → ℕ → List ℕ → ℕ → List ℕ → List ℕ → Type 0
GaveBack n e starts queued w w' = cut (word_sizes n e) w' ≡ set (cut (word_sizes n e) w) 0 (run (give_back starts) (pushed n e queued w) (owner_in e w))
