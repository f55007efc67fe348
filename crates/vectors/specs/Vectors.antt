-- How a stored vector stands in a list of numbers: oracle/boards/src/vectors.rs writes it.
use Rattle.std.specs.Prelude.{Option, Some, None, ◌&&◌, List, [], ◌≡◌, ℕ, ◌+◌, ◌-◌, min, eqb, leb, length, get_or, take, drop, if◌then◌else◌}
use Rattle.turfs.specs.declared.LentTables.{LentTables}
use Rattle.basics.specs.Loops.{times}
use Rattle.vectors.specs.declared.Call.{Call}
use Rattle.vectors.specs.declared.Call.TheVariants.{Equalize, Depressurize, PlanetWalk}
use Rattle.vectors.specs.declared.Span.{Span}
use Rattle.vectors.specs.declared.Asked.{Asked}
use Rattle.vectors.specs.declared.Walk.{Walk}
use Rattle.vectors.specs.Amounts.{amount}

-- a place so much further on; there is a last one
unfoldable pub onward : ℕ → ℕ → ℕ
onward at by = min (at + by) 0xffff_ffff_ffff_ffff

-- the number at a place, 0 beyond the last
abbrev pub number : List ℕ → ℕ → ℕ
number ns at = get_or ns at 0

-- the call that a vector makes, by its first number
abbrev pub call_by : ℕ → Option Call
call_by n = if eqb n 1 then Some Equalize else if eqb n 2 then Some Depressurize else if eqb n 3 then Some PlanetWalk else None

unfoldable pub call_of : List ℕ → Option Call
call_of ns = call_by (number ns 0)

-- the list at a place: its length, then its elements
abbrev pub span_at : List ℕ → ℕ → Span
span_at ns at = record { from = onward at 1; to = onward (onward at 1) (number ns at) }

-- the elements of a list, none where it goes beyond those that there are
unfoldable pub section : {A : Type 0} → List A → Span → List A
section xs s = if leb s.to (length xs) && leb s.from s.to then take (s.to - s.from) (drop s.from xs) else []

-- where the table number k of a case stands: the first behind the call, each one behind the one before
abbrev pub table_at : List ℕ → ℕ → ℕ
table_at ns k = times (λ at. (span_at ns at).to) k 1

-- its first eight lists are the tables: ids, flags, planetary, mixtures, starts, neighbours, link flags, immutable
abbrev pub table_span : List ℕ → ℕ → Span
table_span ns k = span_at ns (table_at ns k)

-- behind them the number of gases, the gas, the lengths of three areas, and what is asked
abbrev pub gases_of : List ℕ → ℕ
gases_of ns = number ns (table_at ns 8)

abbrev pub gas_of : List ℕ → Span
gas_of ns = span_at ns (onward (table_at ns 8) 1)

abbrev pub asked_at : List ℕ → ℕ
asked_at ns = onward (gas_of ns).to 3

-- so many, or none where there is room for fewer
unfoldable pub fitted : ℕ → ℕ → ℕ
fitted n most = if leb n most then n else 0

-- where the vector behind one at a place begins, which takes so many numbers: nowhere, if it takes none
unfoldable pub behind : ℕ → ℕ → ℕ
behind at count = if eqb count 0 then 0xffff_ffff_ffff_ffff else onward at count

-- its tables: those of numbers as they stand, those of bytes in the numbers as bytes
pub record TablesOf (ns : List ℕ) (bytes : List ℕ) (t : LentTables) : Type 0 where
  pub ids : t.ids.now ≡ section ns (table_span ns 0)
  pub flags : t.flags.now ≡ section bytes (table_span ns 1)
  pub planetary : t.planetary.now ≡ section bytes (table_span ns 2)
  pub mixtures : t.mixtures.now ≡ section ns (table_span ns 3)
  pub starts : t.starts.now ≡ section ns (table_span ns 4)
  pub neighbours : t.neighbours.now ≡ section ns (table_span ns 5)
  pub link_flags : t.link_flags.now ≡ section bytes (table_span ns 6)
  pub immutable : t.immutable.now ≡ section bytes (table_span ns 7)

-- what equalize is asked
pub record CaseAsks (ns : List ℕ) (a : Asked) : Type 0 where
  pub gases : a.gases ≡ gases_of ns
  pub hot : a.hot ≡ span_at ns (asked_at ns)
  pub turns : a.turns ≡ span_at ns a.hot.to
  pub threshold : a.settings.threshold ≡ amount (number ns a.turns.to)
  pub limit : a.settings.limit ≡ number ns (onward a.turns.to 1)
  pub allowance : a.settings.allowance ≡ number ns (onward a.turns.to 2)
  pub due : a.due ≡ onward a.turns.to 3

-- what a walk is
pub record Walks (ns : List ℕ) (w : Walk) : Type 0 where
  pub gases : w.gases ≡ gases_of ns
  pub id : w.id ≡ number ns (asked_at ns)
  pub limit : w.limit ≡ number ns (onward (asked_at ns) 1)
  pub due : w.due ≡ onward (asked_at ns) 2
