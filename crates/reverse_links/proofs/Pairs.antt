-- A link and the one that leads back are each other's reverse, and each pair is found from one side at least. Assumes nothing.
use Prim.Native.Nat.{ℕ, zero, suc, ◌+◌, ◌-◌, ◌≤◌, ◌<◌}
use native.Mathlib.Omega.{arith}
use native.Mathlib.Numerals.{add-one}
use native.Mathlib.Decide.{ℕ_discrete, dec_lt}
use mathlib.Core.Path.{◌≡◌, refl, ap, ◌∙◌, sym, subst}
use mathlib.Core.Logic.{◌≢◌}
use mathlib.Core.List.{List}
use lib.Dec.{T, eqb, eqb→eq}
use lib.ListN.{length, get_or, set, drop, length-set}
use lib.Seq.{get_or-take, get_or-drop, get_or-set_same, get_or-set_other}
use borrow.Author.Tests.{eq-eqb}
use Rattle.basics.specs.Loops.{first, up_from}
use Rattle.std.specs.Prelude.{Option, Some, None}
use Rattle.basics.specs.Lists.{Found}
use Rattle.scratch.specs.Layout.{reverse_at}
use Rattle.scratch.specs.View.{reverse_in}
use Rattle.basics.proofs.Loops.{first_found, first_passes}
use Rattle.rules_board.specs.Board.{Board, links_of}
use Rattle.reverse_links.specs.Reverse.{InRow, Linked, reverse_of, word_for, Reverses}
use Rattle.reverse_links.specs.Words.{But, found, links_in, leads_back, Paired, Backs}
use Rattle.reverse_links.proofs.Firsts.{first-only, up-all}
use Rattle.reverse_links.proofs.Places.{but_none, but_set}

-- what a search found lies where it looked and ends where it should
pub found-at : (neighbours : List ℕ) (from to s j : ℕ) → found neighbours from to s ≡ j + 1 → ((from ≤ j) × (j < to)) × (get_or neighbours j 0 ≡ s)
found-at neighbours from to s j e =
    go (first (λ i. eqb (get_or neighbours i 0) s) (up_from from (to - from)))
    (first_found (λ i. (from ≤ i) × (i < to)) (λ i. eqb (get_or neighbours i 0) s) (up_from from (to - from)) (up-all (λ i. (from ≤ i) × (i < to)) from (to - from) (λ i l m. (l, omega (arith, l, m)))))
    (first_passes (λ i. get_or neighbours i 0 ≡ s) (λ i. eqb (get_or neighbours i 0) s) (up_from from (to - from)) (λ i x. eqb→eq (get_or neighbours i 0) s x)) e
  where
    go : (o : Option ℕ) → Found (λ i. (from ≤ i) × (i < to)) o → Found (λ i. get_or neighbours i 0 ≡ s) o → word_for o ≡ j + 1 → ((from ≤ j) × (j < to)) × (get_or neighbours j 0 ≡ s)
    go (Some i) a b q = let z : i ≡ j = omega (arith, q) in subst (λ (x : ℕ). ((from ≤ x) × (x < to)) × (get_or neighbours x 0 ≡ s)) z (a, b)
    go None a b q = absurd (omega (arith, q))

-- no other link there ends so
pub found-only : (neighbours : List ℕ) (from to s j : ℕ) → from ≤ j → j < to → get_or neighbours j 0 ≡ s → ((i : ℕ) → from ≤ i → i < to → get_or neighbours i 0 ≡ s → i ≡ j)
    → found neighbours from to s ≡ j + 1
found-only neighbours from to s j l m q u =
    ap word_for (first-only (λ i. eqb (get_or neighbours i 0) s) from (to - from) j l (omega arith) (eq-eqb _ _ q)
    (λ i x y z. u i x (omega arith) (eqb→eq _ _ (subst T (sym z) tt))))

module _ {n : ℕ} {starts neighbours : List ℕ} (t : Linked n starts neighbours) where
  rise-to : (q d : ℕ) → q + d ≤ n → get_or starts q 0 ≤ get_or starts (q + d) 0
  rise-to q zero l = let e : q + zero ≡ q = omega arith in rw e (omega arith)
  rise-to q (suc d) l =
      let e : q + suc d ≡ q + d + 1 = omega arith in
      rw e (omega (arith, rise-to q d (omega arith), t.rise (q + d) (omega arith)))

  rise-from : (q r : ℕ) → q ≤ r → r ≤ n → get_or starts q 0 ≤ get_or starts r 0
  rise-from q r l m = let e : q + (r - q) ≡ r = omega arith in rw e at (rise-to q (r - q) (omega arith))

  -- a link is of one turf
  row_one : (q r k : ℕ) → q < n → r < n → InRow starts q k → InRow starts r k → q ≡ r
  row_one q r k hq hr i j = go (dec_lt q r) (dec_lt r q)
    where
      go : Dec (q < r) → Dec (r < q) → q ≡ r
      go (yes l) d = absurd (omega (arith, i.to, j.from, rise-from (q + 1) r (omega (arith, l)) (omega arith)))
      go (no l) (yes m) = absurd (omega (arith, j.to, i.from, rise-from (r + 1) q (omega (arith, m)) (omega arith)))
      go (no l) (no m) = omega (arith, l, m)

  pub link-below : (q k : ℕ) → q < n → InRow starts q k → k < length neighbours
  link-below q k l i = omega (arith, i.to, t.within q l)

  pub end_below : (q k : ℕ) → q < n → InRow starts q k → get_or neighbours k 0 < n
  end_below q k l i = t.rows k (link-below q k l i)

  -- j leads back along the link k of the turf q: so k leads back along j
  module _ (q k j : ℕ) (hq : q < n) (i : InRow starts q k) (e : leads_back starts neighbours q k ≡ j + 1) where
    back-row : InRow starts (get_or neighbours k 0) j
    back-row = let f = found-at neighbours _ _ q j e in record { from = f.0.0; to = f.0.1 }

    back_end : get_or neighbours j 0 ≡ q
    back_end = (found-at neighbours _ _ q j e).1

    back_below : j < length neighbours
    back_below = link-below (get_or neighbours k 0) j (end_below q k hq i) back-row

    back-back : leads_back starts neighbours (get_or neighbours k 0) j ≡ k + 1
    back-back =
        ap (λ (x : ℕ). found neighbours (get_or starts x 0) (get_or starts (x + 1) 0) (get_or neighbours k 0)) back_end
        ∙ found-only neighbours _ _ (get_or neighbours k 0) k i.from i.to refl (λ x a b z. t.once q x k hq (record { from = a; to = b }) i z)

  pub back_low : (q k p : ℕ) → q < n → InRow starts q k → p ≡ leads_back starts neighbours q k → p ≤ length neighbours
  back_low q k zero l i e = omega arith
  back_low q k (suc j) l i e = omega (arith, back_below q k j l i (sym e ∙ sym (add-one j)))

  -- one link more, whose word stays
  pub paired_same : (e r k : ℕ) (w : List ℕ) → r < n → InRow starts r k → (links_in starts (get_or neighbours k 0) ≤ links_in starts r → get_or w (reverse_at k e) 0 ≡ leads_back starts neighbours r k)
      → Paired starts neighbours n e k w → Paired starts neighbours n e (k + 1) w
  paired_same e r k w hr i h p = record { right = p.right; both = p.both; done = λ q x l j m s. pick q x l j m s (ℕ_discrete x k) }
    where
      pick : (q x : ℕ) → q < n → InRow starts q x → x < k + 1 → links_in starts (get_or neighbours x 0) ≤ links_in starts q → Dec (x ≡ k) → get_or w (reverse_at x e) 0 ≡ leads_back starts neighbours q x
      pick q x l j m s (no z) = p.done q x l j (omega (arith, z)) s
      pick q x l j m s (yes z) =
          let j' : InRow starts q k = subst (λ (y : ℕ). InRow starts q y) z j in
          let u : q ≡ r = row_one q r k l hr j' i in
          let s' : links_in starts (get_or neighbours k 0) ≤ links_in starts r =
          subst (λ (y : ℕ). links_in starts (get_or neighbours k 0) ≤ links_in starts y) u (subst (λ (y : ℕ). links_in starts (get_or neighbours y 0) ≤ links_in starts q) z s) in
          subst (λ (y : ℕ). get_or w (reverse_at y e) 0 ≡ leads_back starts neighbours q y) (sym z) (subst (λ (y : ℕ). get_or w (reverse_at k e) 0 ≡ leads_back starts neighbours y k) (sym u) (h s'))

  -- one link more, and the one that leads back with it
  module _ (e r k j : ℕ) (w : List ℕ) (len : length neighbours ≡ e) (room : reverse_at e e ≤ length w) (hr : r < n) (i : InRow starts r k) (b : leads_back starts neighbours r k ≡ j + 1) where
    abbrev pub joined : List ℕ
    joined = set (set w (reverse_at k e) (j + 1)) (reverse_at j e) (k + 1)

    low-k : k < e
    low-k = omega (arith, link-below r k hr i, len)

    low-j : j < e
    low-j = omega (arith, back_below r k j hr i b, len)

    at_j : get_or joined (reverse_at j e) 0 ≡ k + 1
    at_j = get_or-set_same (set w (reverse_at k e) (j + 1)) (reverse_at j e) (k + 1) 0 (omega (arith, length-set w (reverse_at k e) (j + 1), low-j))

    at-k : get_or joined (reverse_at k e) 0 ≡ j + 1
    at-k = go (ℕ_discrete k j)
      where
        go : Dec (k ≡ j) → get_or joined (reverse_at k e) 0 ≡ j + 1
        go (yes z) = subst (λ (y : ℕ). get_or joined (reverse_at y e) 0 ≡ j + 1) (sym z) (at_j ∙ ap (λ (y : ℕ). y + 1) z)
        go (no z) = get_or-set_other (set w (reverse_at k e) (j + 1)) (reverse_at j e) (reverse_at k e) (k + 1) 0 (λ x. z (omega (arith, x))) ∙ get_or-set_same w (reverse_at k e) (j + 1) 0 (omega (arith, low-k))

    at_other : (x : ℕ) → x ≢ k → x ≢ j → get_or joined (reverse_at x e) 0 ≡ get_or w (reverse_at x e) 0
    at_other x a c = get_or-set_other (set w (reverse_at k e) (j + 1)) (reverse_at j e) (reverse_at x e) (k + 1) 0 (λ z. c (omega (arith, z))) ∙ get_or-set_other w (reverse_at k e) (reverse_at x e) (j + 1) 0 (λ z. a (omega (arith, z)))

    -- a link is one of the two, and right, and so is its reverse; or it is another
    either : (q x : ℕ) → q < n → InRow starts q x → {P : Type 0}
        → (get_or joined (reverse_at x e) 0 ≡ leads_back starts neighbours q x → ((y : ℕ) → leads_back starts neighbours q x ≡ y + 1 → get_or joined (reverse_at y e) 0 ≢ 0) → P) → (x ≢ k → x ≢ j → P) → P
    either q x l m {P} f g = go (ℕ_discrete x k) (ℕ_discrete x j)
      where
        one : (u v : ℕ) → leads_back starts neighbours q x ≡ u + 1 → get_or joined (reverse_at u e) 0 ≡ v + 1 → (y : ℕ) → leads_back starts neighbours q x ≡ y + 1 → get_or joined (reverse_at y e) 0 ≢ 0
        one u v c d y z o =
            let s : u ≡ y = omega (arith, sym c ∙ z) in
            omega (arith, sym (subst (λ (a : ℕ). get_or joined (reverse_at a e) 0 ≡ v + 1) s d) ∙ o)

        go : Dec (x ≡ k) → Dec (x ≡ j) → P
        go (yes z) d =
            let u : q ≡ r = row_one q r k l hr (subst (λ (y : ℕ). InRow starts q y) z m) i in
            let c : leads_back starts neighbours q x ≡ j + 1 = ap (λ (y : ℕ). leads_back starts neighbours q y) z ∙ ap (λ (y : ℕ). leads_back starts neighbours y k) u ∙ b in
            f (ap (λ (y : ℕ). get_or joined (reverse_at y e) 0) z ∙ at-k ∙ sym c) (one j k c at_j)
        go (no a) (yes z) =
            let u : q ≡ get_or neighbours k 0 = row_one q (get_or neighbours k 0) j l (end_below r k hr i) (subst (λ (y : ℕ). InRow starts q y) z m) (back-row r k j hr i b) in
            let c : leads_back starts neighbours q x ≡ k + 1 = ap (λ (y : ℕ). leads_back starts neighbours q y) z ∙ ap (λ (y : ℕ). leads_back starts neighbours y j) u ∙ back-back r k j hr i b in
            f (ap (λ (y : ℕ). get_or joined (reverse_at y e) 0) z ∙ at_j ∙ sym c) (one k j c at-k)
        go (no a) (no c) = g a c

    pub paired_two : Paired starts neighbours n e k w → Paired starts neighbours n e (k + 1) joined
    paired_two p = record {
      right = λ q x l m o. either q x l m (λ c d. c) (λ a c. at_other x a c ∙ p.right q x l m (λ z. o (at_other x a c ∙ z)));
      both = λ q x y l m c z. either q x l m (λ s d. absurd (d y c z))
          (λ a s. at_other x a s ∙ p.both q x y l m c (sym (at_other y (λ u. off y k j at-k u z) (λ u. off y j k at_j u z)) ∙ z));
      done = λ q x l m o s. either q x l m (λ c d. c) (λ a c. at_other x a c ∙ p.done q x l m (omega (arith, a, o)) s);
    }
      where
        off : (y u v : ℕ) → get_or joined (reverse_at u e) 0 ≡ v + 1 → y ≡ u → get_or joined (reverse_at y e) 0 ≡ 0 → ⊥
        off y u v c d o = omega (arith, sym c ∙ subst (λ (a : ℕ). get_or joined (reverse_at a e) 0 ≡ 0) d o)

    pub but_two : But e (reverse_at e e) w joined
    but_two = but_set (reverse_at j e) (k + 1) (omega arith) (omega (arith, low-j)) (but_set (reverse_at k e) (j + 1) (omega arith) (omega (arith, low-k)) but_none)

  -- the same with the word that a search answered
  pub paired_word : (e r k p : ℕ) (w : List ℕ) → length neighbours ≡ e → reverse_at e e ≤ length w → r < n → InRow starts r k → p ≢ 0 → p ≡ leads_back starts neighbours r k → Paired starts neighbours n e k w
      → But e (reverse_at e e) w (set (set w (reverse_at k e) p) (reverse_at (p - 1) e) (k + 1)) × Paired starts neighbours n e (k + 1) (set (set w (reverse_at k e) p) (reverse_at (p - 1) e) (k + 1))
  paired_word e r k p w len room hr i o q h =
      let z : p - 1 + 1 ≡ p = omega (arith, o) in
      let b : leads_back starts neighbours r k ≡ p - 1 + 1 = sym q ∙ sym z in
      subst (λ (y : ℕ). But e (reverse_at e e) w (set (set w (reverse_at k e) y) (reverse_at (p - 1) e) (k + 1)) × Paired starts neighbours n e (k + 1) (set (set w (reverse_at k e) y) (reverse_at (p - 1) e) (k + 1))) z
      (but_two e r k (p - 1) w len room hr i b, paired_two e r k (p - 1) w len room hr i b h)

  -- at first no link has a reverse
  pub paired_none : (e : ℕ) (w : List ℕ) → length neighbours ≡ e → ((k : ℕ) → k < e → get_or w (reverse_at k e) 0 ≡ 0) → Paired starts neighbours n e 0 w
  paired_none e w len h = record {
    right = λ q k l i o. absurd (o (h k (omega (arith, link-below q k l i, len))));
    both = λ q k j l i b z. h k (omega (arith, link-below q k l i, len));
    done = λ q k l i m s. absurd (omega (arith, m));
  }

  -- at last each has
  paired_all : (e : ℕ) (w : List ℕ) → length neighbours ≡ e → Paired starts neighbours n e e w → (q k : ℕ) → q < n → InRow starts q k → get_or w (reverse_at k e) 0 ≡ leads_back starts neighbours q k
  paired_all e w len p q k l i = go (dec_lt (links_in starts q) (links_in starts (get_or neighbours k 0))) (ℕ_discrete (get_or w (reverse_at k e) 0) 0)
    where
      unmet : (x : ℕ) → leads_back starts neighbours q k ≡ x → links_in starts q < links_in starts (get_or neighbours k 0) → get_or w (reverse_at k e) 0 ≡ 0 → x ≡ 0
      unmet zero b s z = refl
      unmet (suc j) b s z =
          let c : leads_back starts neighbours q k ≡ j + 1 = b ∙ sym (add-one j) in
          let a : get_or neighbours k 0 < n = end_below q k l i in
          let d : leads_back starts neighbours (get_or neighbours k 0) j ≡ k + 1 = back-back q k j l i c in
          let u : get_or w (reverse_at j e) 0 ≡ k + 1 =
          p.done (get_or neighbours k 0) j a (back-row q k j l i c) (omega (arith, back_below q k j l i c, len))
          (subst (λ (y : ℕ). links_in starts y ≤ links_in starts (get_or neighbours k 0)) (sym (back_end q k j l i c)) (omega (arith, s))) ∙ d in
          absurd (omega (arith, sym u ∙ p.both (get_or neighbours k 0) j k a (back-row q k j l i c) d z))

      go : Dec (links_in starts q < links_in starts (get_or neighbours k 0)) → Dec (get_or w (reverse_at k e) 0 ≡ 0) → get_or w (reverse_at k e) 0 ≡ leads_back starts neighbours q k
      go (no s) d = p.done q k l i (omega (arith, link-below q k l i, len)) (omega (arith, s))
      go (yes s) (no z) = p.right q k l i z
      go (yes s) (yes z) = z ∙ sym (unmet (leads_back starts neighbours q k) refl s z)

-- all links have their reverse
pub backs_of : {starts neighbours : List ℕ} {n e : ℕ} {w : List ℕ} → Linked n starts neighbours → length neighbours ≡ e → Paired starts neighbours n e e w → Backs n starts neighbours (reverse_in e w)
backs_of {n = n} {e} {w} t len h = record {
  at = λ r k l i. get_or-take e (drop e w) k 0 (omega (arith, link-below t r k l i, len)) ∙ get_or-drop e w k 0 ∙ paired_all t e w len h r k l i;
}

-- those of a board
pub reverses-of : (b : Board) (n : ℕ) {reverse : List ℕ} → Backs n b.starts b.neighbours reverse → Reverses b n reverse
unfolding reverse_of links_of
reverses-of b n h = record { at = λ r k l i. h.at r k l i }
