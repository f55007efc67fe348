-- What the tests of the refusals 1 to 4 say of the tables that pass them. Assumes nothing.
use Prim.Native.Nat.{ℕ, ◌+◌, ◌*◌, ◌≤◌, ◌<◌}
use native.Mathlib.Omega.{arith}
use native.Mathlib.Nat.{le_of_eq, zero-add}
use native.Mathlib.Decide.{ℕ_discrete}
use mathlib.Core.Path.{◌≡◌, ap, sym, subst, ◌∙◌}
use mathlib.Core.List.{List}
use mathlib.Core.Bool.{true}
use lib.ListN.{length, get_or}
use lib.Dec.{T, leb}
use lib.Ieee.Bits.{is_true}
use borrow.Author.Tests.{leb-true, eqb-true}
use Rattle.basics.specs.Loops.{every, up_from}
use Rattle.basics.proofs.Tests.{both, each, every-up_at}
use Rattle.rules_board.specs.Board.{Board, turf_count, link_count, mixture_count}
use Rattle.rules_board.specs.Refuse.{within, rising, sizes_fit, tables_fit, ids_fit, links_fit, row_fits}
use Rattle.turfs.specs.Tables.{Parts, BoardSizes, Tables, Accepted}
use Rattle.turfs.proofs.Order.{rising-to}
use Rattle.turfs.proofs.Accepted.{accepted}

-- starts that never fall and end with the number of links
pub parts-of : (n : ℕ) (starts neighbours : List ℕ) → n ≤ 4096 → length starts ≡ n + 1 → rising starts ≡ true → get_or starts n 0 ≡ length neighbours
    → Parts n starts neighbours
parts-of n starts neighbours l c up e = record {
  rows = l;
  count = c;
  rise = λ r h. rising-to starts r (r + 1) up (omega arith) (omega arith);
  end = λ r h. go r h (ℕ_discrete (r + 1) n);
}
  where
    go : (r : ℕ) → r < n → Dec (r + 1 ≡ n) → get_or starts (r + 1) 0 ≤ length neighbours
    go r h (yes q) = le_of_eq (ap (λ (k : ℕ). get_or starts k 0) q ∙ e)
    go r h (no q) = let a = rising-to starts (r + 1) n up (omega arith) (omega arith) in omega arith

within_of : (lo hi n : ℕ) → within lo hi n ≡ true → (lo ≤ n) × (n ≤ hi)
within_of lo hi n e = let p = both (leb lo n) (leb n hi) e in (leb-true lo n p.0, leb-true n hi p.1)

module _ (b : Board) where
  pub sizes-of : sizes_fit b ≡ true → BoardSizes b
  unfolding sizes_fit
  sizes-of e =
      let n = within_of 1 4096 (turf_count b) (each _ 0 e (omega arith)) in
      let m = within_of 1 4096 (mixture_count b) (each _ 1 e (omega arith)) in
      let g = within_of 1 64 b.gases (each _ 3 e (omega arith)) in
      record {
        small = record { turfs = n.1; links = leb-true (link_count b) 24576 (each _ 2 e (omega arith)); mixtures = m.1 };
        some = n.0;
        gas = g.0;
        gases = g.1;
      }

  pub amounts-of : (amounts : ℕ) → tables_fit b amounts ≡ true → amounts ≡ mixture_count b * b.gases
  unfolding tables_fit
  amounts-of amounts e = eqb-true _ _ (each _ 5 e (omega arith))

  pub starts-of : (amounts : ℕ) → tables_fit b amounts ≡ true → length b.starts ≡ turf_count b + 1
  unfolding tables_fit
  starts-of amounts e = eqb-true _ _ (each _ 3 e (omega arith))

  -- what a law says of accepted tables is what a contract asks
  pub accepted-parts : {amounts : ℕ} → Accepted b amounts → Parts (turf_count b) b.starts b.neighbours
  accepted-parts a = parts-of (turf_count b) b.starts b.neighbours a.turfs.1 a.starts (is_true (rising b.starts) a.rises) a.last

  pub tables-of : (amounts : ℕ) → sizes_fit b ≡ true → tables_fit b amounts ≡ true → ids_fit b ≡ true → links_fit b ≡ true → Tables b
  tables-of amounts s t i l =
      let a : Accepted b amounts = accepted b amounts (subst T (sym s) tt) (subst T (sym t) tt) (subst T (sym i) tt) (subst T (sym l) tt) in
      record {
        sizes = sizes-of s;
        flags = a.flags;
        planetary = a.planets;
        mixtures = a.mixes;
        link_flags = a.link_flags;
        ascend = i;
        parts = accepted-parts a;
        neighbour = λ k h. a.ends k;
        mixture = λ r h. a.mixed r;
        apart = λ r h. ap (row_fits b) (sym (zero-add r)) ∙ every-up_at (row_fits b) 0 (turf_count b) r (is_true (every (row_fits b) (up_from 0 (turf_count b))) a.rows) h;
      }
