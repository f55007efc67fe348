-- Counting, by 64 bits: the numbers that calls answered, the vectors, those that differ and the first of these, and what was made wrong.
use Rattle.std.specs.Prelude.{ℕ, ◌+◌, ◌%◌, ◌^◌, Bool, List, Some, ◌==◌, slice_index, slice_set, if◌then◌else◌}
use Rattle.vectors_count.specs.declared.Tried.{Tried}
use Rattle.vectors_count.specs.declared.Counts.{Counts}

-- one more
abbrev pub one_more : ℕ → ℕ
one_more n = (n + 1) % 2 ^ 64

-- one more at a place
abbrev pub counting : List ℕ → ℕ → List ℕ
counting cs k = slice_set cs k (one_more (slice_index cs k))

-- one more was tried, and perhaps found
abbrev pub trying : Tried → Bool → Tried
trying t found = record { all = one_more t.all; found = if found then one_more t.found else t.found }

-- one more vector, which may differ; the first that does is noted
abbrev pub one_vector : Counts → Bool → Counts
one_vector cs met =
    let n = one_more cs.vectors in
    record {
      no_call = cs.no_call;
      equalize = cs.equalize;
      depressurize = cs.depressurize;
      planet_walk = cs.planet_walk;
      vectors = n;
      differ = if met then cs.differ else one_more cs.differ;
      first = if met then cs.first else if cs.differ == 0 then Some n else cs.first;
      changed = cs.changed;
      torn = cs.torn;
    }

-- one more of a number that a call answered
abbrev pub answered : List ℕ → ℕ → List ℕ
answered ns number = counting ns (number % 8)

-- one more of a call and the number that it answered, for any two numbers
abbrev pub tallied : Counts → ℕ → ℕ → Counts
tallied cs call number =
    let k = call % 4 in
    record {
      no_call = if k == 0 then answered cs.no_call number else cs.no_call;
      equalize = if k == 1 then answered cs.equalize number else cs.equalize;
      depressurize = if k == 2 then answered cs.depressurize number else cs.depressurize;
      planet_walk = if k == 3 then answered cs.planet_walk number else cs.planet_walk;
      vectors = cs.vectors;
      differ = cs.differ;
      first = cs.first;
      changed = cs.changed;
      torn = cs.torn;
    }
