-- What accepted tables give the functions that read them. Assumes nothing.
use Prim.Native.Nat.{ℕ, ◌+◌, ◌-◌, ◌≤◌, ◌<◌}
use native.Mathlib.Omega.{arith}
use mathlib.Core.Path.{◌≡◌, ap, ◌∙◌, sym}
use mathlib.Core.List.{List}
use lib.Ieee.{Float}
use lib.ListN.{length, get_or}
use Rattle.basics.specs.Loops.{up_from}
use Rattle.basics.proofs.Loops.{All-get_or}
use Rattle.basics.proofs.Lists.{up_from-at, up_from-length}
use Rattle.scratch.specs.Layout.{Sizes}
use Rattle.rules_board.specs.Board.{Board, turf_count, link_count, mix_of, links_of, mixture_count}
use Rattle.turfs.specs.declared.LentTables.{LentTables}
use Rattle.turfs.specs.Tables.{board_of, Parts, Accepted, source}
use Rattle.turfs.proofs.Accepted.{sources}
use Rattle.turfs.proofs.Tables.{accepted-parts}
use Rattle.mixture.specs.Held.{HoldsGas}
use Rattle.mixture.proofs.Parts.{holds_of}
use Rattle.fill_links.specs.Asked.{TablesFit}

module _ {b : Board} {m : ℕ} (h : Accepted b m) where
  pub sizes-of : Sizes (turf_count b) (link_count b)
  sizes-of = record { turfs = h.turfs.1; links = h.links }

  pub parts : Parts (turf_count b) b.starts b.neighbours
  parts = accepted-parts b h

  pub gas-holds : (gas : List Float) → m ≡ length gas → (r : ℕ) → HoldsGas gas b.gases (mix_of b r)
  gas-holds gas e r = holds_of gas (mixture_count b) b.gases (mix_of b r) (sym e ∙ h.fits) (h.mixed r)

  module _ (r : ℕ) (l : r < turf_count b) where
    -- a link of the row is of no other
    pub source_is : (k : ℕ) → get_or b.starts r 0 ≤ k → k < get_or b.starts (r + 1) 0 → source b.starts k ≡ r
    unfolding links_of
    source_is k a c =
        let from : ℕ = get_or b.starts r 0 in
        let deg : ℕ = get_or b.starts (r + 1) 0 - from in
        let s : source b.starts (get_or (up_from from deg) (k - from) 0) ≡ r = All-get_or (λ j. source b.starts j ≡ r) (up_from from deg) (k - from) 0 (sources b h r) (rw (up_from-length from deg) (omega arith)) in
        ap (source b.starts) (sym (up_from-at from deg (k - from) (omega arith) ∙ omega arith)) ∙ s

-- what a walk over links reads is there, whatever the number of gases
pub linked_of : (tables : LentTables) (gases : ℕ) {m : ℕ} → Accepted (board_of tables gases) m → TablesFit (board_of tables 0)
linked_of tables gases h = record {
  parts = parts h;
  links = h.links;
  flags = h.flags;
  planetary = h.planets;
  mixtures = h.mixes;
  link_flags = h.link_flags;
  ends = λ k _. h.ends k;
  mixed = λ r _. h.mixed r;
}
