-- What the refusals 1 to 4 leave of the tables: sizes within their limits, rows in range, and a link that is of one turf. Assumes nothing.
use mathlib.Core.Path.{◌≡◌, refl, sym, ap, subst}
use mathlib.Core.List.{List, [], ◌∷◌}
use Prim.Native.Nat.{ℕ, zero, suc, ◌+◌, ◌-◌, ◌*◌, ◌≤◌, ◌<◌}
use native.Mathlib.Nat.{le_refl, le_trans}
use native.Mathlib.Numerals.{add-one}
use native.Mathlib.Decide.{dec_lt}
use native.Mathlib.Omega.{arith}
use lib.Dec.{T, eqb, ltb, leb, leb→le, ltb→lt, eqb→eq}
use lib.ListN.{length, get_or, drop, get_or-eq_default}
use borrow.Author.Tests.{le-leb, lt-leb}
use Rattle.basics.specs.Loops.{every, up_from}
use Rattle.basics.specs.Lists.{All, Found, one, count}
use Rattle.basics.proofs.Loops.{All-imp, All-get_or, every-all, and_left, and_right, all-of, first_found}
use Rattle.basics.proofs.Lists.{up_from-above, up_from-below, up_from-apart, Apart, All-both}
use Rattle.rules_board.specs.Board.{Board, turf_count, link_count, mixture_count, id_of, links_of, row_of}
use Rattle.rules_board.specs.Refuse.{within, pairwise, rising, sizes_fit, tables_fit, ids_fit, links_fit}
use Rattle.turfs.specs.Tables.{Accepted, source}
use Rattle.rules_board.specs.Worked as worked  -- checked before the laws

in_range : (lo hi n : ℕ) → T (within lo hi n) → (lo ≤ n) × (n ≤ hi)
in_range lo hi n h = (leb→le lo n (and_left (leb lo n) (leb n hi) h), leb→le n hi (and_right (leb lo n) (leb n hi) h))

-- an entry below n, or the default 0
below : (xs : List ℕ) (n : ℕ) → 1 ≤ n → T (every (λ x. ltb x n) xs) → (i : ℕ) → get_or xs i 0 < n
below xs n h t i = go (dec_lt i (length xs))
  where
    go : Dec (i < length xs) → get_or xs i 0 < n
    go (yes l) = ltb→lt (get_or xs i 0) n (All-get_or (λ x. T (ltb x n)) xs i 0 (every-all (λ x. ltb x n) xs t) l)
    go (no l) = subst (λ (x : ℕ). x < n) (sym (get_or-eq_default xs 0 {n = i} (omega arith))) h

pub accepted : (b : Board) (amounts : ℕ) → T (sizes_fit b) → T (tables_fit b amounts) → T (ids_fit b) → T (links_fit b) → Accepted b amounts
unfolding sizes_fit tables_fit links_fit
accepted b amounts s t i l =
    let sizes = all-of _ s in
    let tables = all-of _ t in
    let links = all-of _ l in
    let n = in_range 1 4096 (turf_count b) sizes.0 in
    let m = in_range 1 4096 (mixture_count b) sizes.1.0 in
    record {
      turfs = n;
      mixtures = m;
      links = leb→le (link_count b) 24576 sizes.1.1.0;
      gases = in_range 1 64 b.gases sizes.1.1.1.0;
      flags = eqb→eq (length b.flags) (turf_count b) tables.0;
      planets = eqb→eq (length b.planetary) (turf_count b) tables.1.0;
      mixes = eqb→eq (length b.mixtures) (turf_count b) tables.1.1.0;
      starts = eqb→eq (length b.starts) (turf_count b + 1) tables.1.1.1.0;
      link_flags = eqb→eq (length b.link_flags) (link_count b) tables.1.1.1.1.0;
      fits = eqb→eq amounts (mixture_count b * b.gases) tables.1.1.1.1.1.0;
      ascends = i;
      rises = links.0;
      first = eqb→eq (get_or b.starts 0 0) 0 links.1.0;
      last = eqb→eq (get_or b.starts (turf_count b) 0) (link_count b) links.1.1.0;
      ends = λ k. below b.neighbours (turf_count b) n.0 links.1.1.1.0 k;
      mixed = λ r. below b.mixtures (mixture_count b) m.0 links.1.1.1.1.0 r;
      rows = links.1.1.1.1.1.0;
    }

-- an id that has a row has one of the board's
pub row_below : (b : Board) (i : ℕ) → Found (λ r. r < turf_count b) (row_of b i)
unfolding row_of
row_below b i =
    first_found (λ r. r < turf_count b) (λ r. eqb (id_of b r) i) (up_from 0 (turf_count b))
    (All-imp (λ k. k < 0 + turf_count b) (λ k. k < turf_count b) (up_from 0 (turf_count b)) (λ k h. omega arith) (up_from-below 0 (turf_count b)))

-- ---- a link is of one turf

rise : (s t : ℕ) (ss : List ℕ) → T (rising (s ∷ t ∷ ss)) → (s ≤ t) × T (rising (t ∷ ss))
unfolding pairwise
rise s t ss h = (leb→le s t (and_left (leb s t) (rising (t ∷ ss)) h), and_right (leb s t) (rising (t ∷ ss)) h)

-- the first start is the least
least : (s : ℕ) (ss : List ℕ) → T (rising (s ∷ ss)) → All (λ x. s ≤ x) ss
least s [] h = tt
least s (t ∷ ss) h = let r = rise s t ss h in (r.0, All-imp (λ x. t ≤ x) (λ x. s ≤ x) ss (λ x i. omega (arith, r.0, i)) (least t ss r.1))

none_yet : (k : ℕ) (ss : List ℕ) → All (λ x. k < x) ss → count (λ s. leb s k) ss ≡ 0
unfolding count
none_yet k [] h = refl
none_yet k (x ∷ xs) h = let z : one (leb x k) ≡ 0 = ap one (lt-leb x k h.0) in omega (arith, z, none_yet k xs h.1)

source-at : (s : ℕ) (ss : List ℕ) (r k : ℕ) → T (rising (s ∷ ss)) → r < length ss → get_or (s ∷ ss) r 0 ≤ k → k < get_or ss r 0 → count (λ x. leb x k) ss ≡ r
unfolding count
source-at s [] r k h l a c = absurd (omega arith)
source-at s (t ∷ ss) zero k h l a c = none_yet k (t ∷ ss) (c, All-imp (λ x. t ≤ x) (λ x. k < x) ss (λ x i. omega (arith, c, i)) (least t ss (rise s t ss h).1))
source-at s (t ∷ ss) (suc r) k h l a c =
    let i = rise s t ss h in
    let low : t ≤ get_or (t ∷ ss) r 0 = All-get_or (λ x. t ≤ x) (t ∷ ss) r 0 (le_refl t, least t ss i.1) (omega arith) in
    let o : one (leb t k) ≡ 1 = ap one (le-leb t k (omega (arith, low, a))) in
    omega (arith, o, source-at t ss r k i.1 (omega arith) a c)

-- a row's links are the places from its start up to the next
pub links-in : (b : Board) (r : ℕ) → All (λ k. (get_or b.starts r 0 ≤ k) × (k < get_or b.starts (r + 1) 0)) (links_of b r)
unfolding links_of
links-in b r =
    let A = get_or b.starts r 0 in
    let E = get_or b.starts (r + 1) 0 in
    All-imp (λ k. (A ≤ k) × (k < A + (E - A))) _ (up_from A (E - A)) (λ k h. (h.0, omega (arith, h.0, h.1)))
    (All-both (λ k. A ≤ k) (λ k. k < A + (E - A)) (up_from A (E - A)) (up_from-above A (E - A)) (up_from-below A (E - A)))

pub links-apart : (b : Board) (r : ℕ) → Apart (links_of b r)
unfolding links_of
links-apart b r = up_from-apart _ _

module _ (b : Board) {n : ℕ} (h : Accepted b n) where
  -- every link of a turf has that turf for its source
  pub sources : (r : ℕ) → All (λ k. source b.starts k ≡ r) (links_of b r)
  unfolding source
  sources r = All-imp _ _ (links_of b r) (λ k i. go b.starts h.rises h.starts k i.0 i.1) (links-in b r)
    where
      go : (ss : List ℕ) → T (rising ss) → length ss ≡ turf_count b + 1 → (k : ℕ) → get_or ss r 0 ≤ k → k < get_or ss (r + 1) 0 → count (λ s. leb s k) (drop 1 ss) ≡ r
      go [] h' l' k a c = absurd (omega arith)
      go (s ∷ ss) h' l' k a c = pick (dec_lt r (length ss))
        where
          next : get_or (s ∷ ss) (r + 1) 0 ≡ get_or ss r 0
          next = ap (λ (x : ℕ). get_or (s ∷ ss) x 0) (add-one r)

          pick : Dec (r < length ss) → count (λ x. leb x k) ss ≡ r
          pick (yes i) = source-at s ss r k h' i a (subst (λ (x : ℕ). k < x) next c)
          pick (no i) = let z : get_or ss r 0 ≡ 0 = get_or-eq_default ss 0 {n = r} (omega arith) in absurd (omega (arith, z, next, c))

  -- a start is at most the number of links
  starts-below : (r : ℕ) → get_or b.starts r 0 ≤ link_count b
  starts-below r = go b.starts (turf_count b) r h.rises h.starts h.last
    where
      go : (ss : List ℕ) (n r : ℕ) → T (rising ss) → length ss ≡ n + 1 → get_or ss n 0 ≡ link_count b → get_or ss r 0 ≤ link_count b
      go [] n r u l e = absurd (omega arith)
      go (s ∷ ss) zero r u l e = single ss r (omega arith)
        where
          single : (ss : List ℕ) (r : ℕ) → length ss ≡ 0 → get_or (s ∷ ss) r 0 ≤ link_count b
          single ss zero l' = omega (arith, e)
          single ss (suc r) l' = let z : get_or ss r 0 ≡ 0 = get_or-eq_default ss 0 {n = r} (omega arith) in omega (arith, z)
      go (s ∷ []) (suc n) r u l e = absurd (omega arith)
      go (s ∷ t ∷ ss) (suc n) zero u l e = le_trans (rise s t ss u).0 (go (t ∷ ss) n zero (rise s t ss u).1 (omega arith) e)
      go (s ∷ t ∷ ss) (suc n) (suc r) u l e = go (t ∷ ss) n r (rise s t ss u).1 (omega arith) e

  pub links-below : (r : ℕ) → All (λ k. k < link_count b) (links_of b r)
  links-below r = All-imp _ _ (links_of b r) (λ k i. omega (arith, i.1, starts-below (r + 1))) (links-in b r)
