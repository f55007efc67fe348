-- One pass is enough: a mark says who has a mixture, and no second zone gets past it. Assumes nothing.
use mathlib.Core.Path.{◌≡◌, refl, sym, ap, ◌∙◌, subst}
use mathlib.Core.Logic.{◌≢◌, ◌⊎◌, inl, inr}
use mathlib.Core.List.{List, [], ◌∷◌, map}
use mathlib.Core.Bool.{Bool, true, false, not, ◌||◌}
use Prim.Native.Nat.{ℕ, zero, suc, ◌+◌, ◌-◌, ◌≤◌, ◌<◌}
use native.Mathlib.Omega.{arith}
use native.Mathlib.Numerals.{add-one}
use native.Mathlib.Decide.{ℕ_discrete}
use lib.Dec.{T, eqb, ltb, eqb-suc-zero, eqb→eq, eqb_refl, lt→ltb, ltb→lt}
use lib.ListN.{length, get_or, set, take}
use lib.Seq.{take-suc, take-length, get_or-set_same, get_or-set_other}
use lib.Ieee.Bits.{is_true}
use Rattle.basics.specs.Loops.{member, snoc, keep, cons_if, every, up_from}
use Rattle.basics.proofs.Loops.{All-imp, All-get_or}
use Rattle.basics.proofs.Lists.{map-append, member-front, member-last, member-map, members, or_cases, all-every, up_from-below}
use Rattle.basics.proofs.Tests.{differ, every-up_at}
use Rattle.rules_board.specs.Board.{Board, turf_count, link_count, mixture_count, mix_of, immutable_mix}
use Rattle.turfs.specs.declared.LentTables.{LentTables}
use Rattle.turfs.specs.Tables.{board_of}
use Rattle.reverse_links.specs.Words.{But}
use Rattle.reverse_links.proofs.Places.{but_set, but_then}
use Rattle.rules_finish.specs.Turns.{Zone, zone_at, nodes_at}
use Rattle.rules_equalize.specs.Equalize.{has_mix, apart}
use Rattle.scratch.specs.Layout.{starts_at, marks_at}
use Rattle.scratch.specs.Layout as layout
use Rattle.apart.specs.Marks.{PassFits, ApartFits, Marked, ZonesLaid, ZonesStand, has_first, MetBefore, Marks, Shared, Passed, ApartTells}

not_so : (t : Bool) → (T t → ⊥) → t ≡ false
not_so true n = absurd (n tt)
not_so false n = refl

-- ---- the first nodes of a zone

member-snoc : (m : ℕ) (xs : List ℕ) (x : ℕ) → T (member m (snoc xs x)) → T (member m xs) ⊎ (m ≡ x)
unfolding member
member-snoc m [] x t = go (or_cases (eqb m x) false t)
  where
    go : T (eqb m x) ⊎ T false → T false ⊎ (m ≡ x)
    go (inl e) = inr (eqb→eq m x e)
    go (inr f) = absurd f
member-snoc m (y ∷ xs) x t = go (eqb m y) t (member-snoc m xs x)
  where
    go : (q : Bool) → T (q || member m (snoc xs x)) → (T (member m (snoc xs x)) → T (member m xs) ⊎ (m ≡ x)) → T (q || member m xs) ⊎ (m ≡ x)
    go true u f = inl tt
    go false u f = f u

module _ (f : ℕ → ℕ) (l : List ℕ) (i : ℕ) (h : i < length l) where
  one_more : map f (take (i + 1) l) ≡ snoc (map f (take i l)) (f (get_or l i 0))
  one_more = rw (add-one i, take-suc l i 0 h) (map-append f (take i l) (get_or l i 0 ∷ []))

  has_grown : (m : ℕ) → T (member m (map f (take i l))) → T (member m (map f (take (i + 1) l)))
  has_grown m t = subst (λ (xs : List ℕ). T (member m xs)) (sym one_more) (member-front m (map f (take i l)) (f (get_or l i 0) ∷ []) t)

  has_new : T (member (f (get_or l i 0)) (map f (take (i + 1) l)))
  has_new = subst (λ (xs : List ℕ). T (member (f (get_or l i 0)) xs)) (sym one_more) (member-last (f (get_or l i 0)) (map f (take i l)))

  has_cases : (m : ℕ) → T (member m (map f (take (i + 1) l))) → T (member m (map f (take i l))) ⊎ (m ≡ f (get_or l i 0))
  has_cases m t = member-snoc m (map f (take i l)) (f (get_or l i 0)) (subst (λ (xs : List ℕ). T (member m xs)) one_more t)

  has_whole : T (member (f (get_or l i 0)) (map f l))
  has_whole = member-map f (get_or l i 0) l (All-get_or (λ x. T (member x l)) l i 0 (members l) h)

-- ---- one node

-- ---- the marks

no_mark : {x : ℕ} (y : ℕ) → x ≡ 0 → x ≡ y + 1 → ⊥
no_mark y p q = absurd (omega (arith, p, q))

module _ (b : Board) (zs : List Zone) where
  pub marks-start : (at : ℕ) (w : List ℕ) → ((m : ℕ) → m < mixture_count b → get_or w (at + m) 0 ≡ 0) → Marks b zs 0 0 at w
  unfolding member
  marks-start at w h = record { only = λ m y l c t. absurd (none m y t); owner = λ m y l e. absurd (no_mark y (h m l) e) }
    where
      none : (m y : ℕ) → MetBefore b zs 0 0 y m → ⊥
      none m y (inl (l, t)) = omega arith
      none m y (inr (e, t)) = t

  pub marks-zone : (z at : ℕ) (w : List ℕ) → Marks b zs z (length (nodes_at zs z)) at w → Marks b zs (z + 1) 0 at w
  unfolding member
  marks-zone z at w k = record { only = λ m y l c t. k.only m y l c (back m y t); owner = λ m y l e. on m y (k.owner m y l e) }
    where
      whole : (m : ℕ) → has_first b zs z (length (nodes_at zs z)) m ≡ member m (map (mix_of b) (nodes_at zs z))
      whole m = ap (λ (l : List ℕ). member m (map (mix_of b) l)) (take-length (nodes_at zs z))

      at-z : (m y : ℕ) → Dec (y ≡ z) → y < z + 1 → T (member m (map (mix_of b) (nodes_at zs y))) → MetBefore b zs z (length (nodes_at zs z)) y m
      at-z m y (yes e) l t = inr (e, subst T (sym (whole m)) (subst (λ (x : ℕ). T (member m (map (mix_of b) (nodes_at zs x)))) e t))
      at-z m y (no n) l t = inl (omega (arith, l, n), t)

      back : (m y : ℕ) → MetBefore b zs (z + 1) 0 y m → MetBefore b zs z (length (nodes_at zs z)) y m
      back m y (inl (l, t)) = at-z m y (ℕ_discrete y z) l t
      back m y (inr (e, t)) = absurd t

      on : (m y : ℕ) → MetBefore b zs z (length (nodes_at zs z)) y m → MetBefore b zs (z + 1) 0 y m
      on m y (inl (l, t)) = inl (omega arith, t)
      on m y (inr (e, t)) = inl (omega (arith, e), subst (λ (x : ℕ). T (member m (map (mix_of b) (nodes_at zs x)))) (sym e) (subst T (whole m) t))

  module _ (z i at : ℕ) (r : Bool) (w w' : List ℕ) (h : i < length (nodes_at zs z)) (k : Marks b zs z i at w) (fits : mix_of b (get_or (nodes_at zs z) i 0) < mixture_count b)
      (room : at + mixture_count b ≤ length w) (d : Marked (immutable_mix b (mix_of b (get_or (nodes_at zs z) i 0))) (at + mix_of b (get_or (nodes_at zs z) i 0)) z r w w') where
    abbrev mix : ℕ
    mix = mix_of b (get_or (nodes_at zs z) i 0)

    -- what was met before is met still
    grown : (m y : ℕ) → MetBefore b zs z i y m → MetBefore b zs z (i + 1) y m
    grown m y (inl t) = inl t
    grown m y (inr (e, t)) = inr (e, has_grown (mix_of b) (nodes_at zs z) i h m t)

    -- what is met was met before, or is this mixture
    met-cases : (m y : ℕ) → MetBefore b zs z (i + 1) y m → MetBefore b zs z i y m ⊎ ((m ≡ mix) × (y ≡ z))
    met-cases m y (inl t) = inl (inl t)
    met-cases m y (inr (e, t)) = go (has_cases (mix_of b) (nodes_at zs z) i h m t)
      where
        go : T (has_first b zs z i m) ⊎ (m ≡ mix) → MetBefore b zs z i y m ⊎ ((m ≡ mix) × (y ≡ z))
        go (inl u) = inl (inr (e, u))
        go (inr u) = inr (u, e)

    -- the words are as they were, and this mixture is immutable or marked with the zone
    kept : w' ≡ w → (immutable_mix b mix ≡ false → get_or w (at + mix) 0 ≡ z + 1) → Marks b zs z (i + 1) at w'
    kept q own = subst (Marks b zs z (i + 1) at) (sym q) (record {
      only = λ m y l c t. only m y l c (met-cases m y t);
      owner = λ m y l e. grown m y (k.owner m y l e);
    })
      where
        only : (m y : ℕ) → m < mixture_count b → immutable_mix b m ≡ false → MetBefore b zs z i y m ⊎ ((m ≡ mix) × (y ≡ z)) → get_or w (at + m) 0 ≡ y + 1
        only m y l c (inl t) = k.only m y l c t
        only m y l c (inr (e, u)) = subst (λ (x : ℕ). get_or w (at + x) 0 ≡ y + 1) (sym e) (own (subst (λ (x : ℕ). immutable_mix b x ≡ false) e c) ∙ ap (λ (x : ℕ). x + 1) (sym u))

    -- this mixture had no mark and has one now
    fresh : get_or w (at + mix) 0 ≡ 0 → w' ≡ set w (at + mix) (z + 1) → Marks b zs z (i + 1) at w'
    fresh none q = subst (Marks b zs z (i + 1) at) (sym q) (record {
      only = λ m y l c t. only m y l c (ℕ_discrete m mix) (met-cases m y t);
      owner = λ m y l e. owner m y l (ℕ_discrete m mix) e;
    })
      where
        here : get_or (set w (at + mix) (z + 1)) (at + mix) 0 ≡ z + 1
        here = get_or-set_same w (at + mix) (z + 1) 0 (omega (arith, fits, room))

        there : (m : ℕ) → m ≢ mix → get_or (set w (at + mix) (z + 1)) (at + m) 0 ≡ get_or w (at + m) 0
        there m n = get_or-set_other w (at + mix) (at + m) (z + 1) 0 (λ e. n (omega (arith, e)))

        only : (m y : ℕ) → m < mixture_count b → immutable_mix b m ≡ false → Dec (m ≡ mix) → MetBefore b zs z i y m ⊎ ((m ≡ mix) × (y ≡ z)) → get_or (set w (at + mix) (z + 1)) (at + m) 0 ≡ y + 1
        only m y l c (yes e) (inl t) = absurd (no_mark y none (subst (λ (x : ℕ). get_or w (at + x) 0 ≡ y + 1) e (k.only m y l c t)))
        only m y l c (yes e) (inr (e', u)) = subst (λ (x : ℕ). get_or (set w (at + mix) (z + 1)) (at + x) 0 ≡ y + 1) (sym e) (here ∙ ap (λ (x : ℕ). x + 1) (sym u))
        only m y l c (no n) (inl t) = there m n ∙ k.only m y l c t
        only m y l c (no n) (inr (e, u)) = absurd (n e)

        owner : (m y : ℕ) → m < mixture_count b → Dec (m ≡ mix) → get_or (set w (at + mix) (z + 1)) (at + m) 0 ≡ y + 1 → MetBefore b zs z (i + 1) y m
        owner m y l (yes e) v = inr (omega (arith, sym here ∙ subst (λ (x : ℕ). get_or (set w (at + mix) (z + 1)) (at + x) 0 ≡ y + 1) e v), subst (λ (x : ℕ). T (has_first b zs z (i + 1) x)) (sym e) (has_new (mix_of b) (nodes_at zs z) i h))
        owner m y l (no n) v = grown m y (k.owner m y l (sym (there m n) ∙ v))

    pub marks-next : r ≡ true → Marks b zs z (i + 1) at w'
    marks-next t = go (immutable_mix b mix) refl (ℕ_discrete (get_or w (at + mix) 0) 0)
      where
        go : (c : Bool) → immutable_mix b mix ≡ c → Dec (get_or w (at + mix) 0 ≡ 0) → Marks b zs z (i + 1) at w'
        go true c e = kept (d.fixed c).1 (λ f. absurd (differ (sym c ∙ f)))
        go false c (yes e) = fresh e (d.new c e).1
        go false c (no n) = kept (d.marked c n).1 (λ f. eqb→eq (get_or w (at + mix) 0) (z + 1) (subst T (sym t ∙ (d.marked c n).0) tt))

    pub marks-shared : r ≡ false → Shared b zs z
    marks-shared f = go (immutable_mix b mix) refl (ℕ_discrete (get_or w (at + mix) 0) 0)
      where
        other : (y : ℕ) → immutable_mix b mix ≡ false → get_or w (at + mix) 0 ≢ 0 → get_or w (at + mix) 0 ≡ y + 1 → MetBefore b zs z i y mix → Shared b zs z
        other y c n e (inl (l, t)) = record { mix = mix; within = fits; changes = c; before = y; earlier = l; theirs = t; ours = has_whole (mix_of b) (nodes_at zs z) i h }
        other y c n e (inr (u, t)) = absurd (differ (sym ((d.marked c n).0 ∙ same (e ∙ ap (λ (x : ℕ). x + 1) u)) ∙ f))
          where
            same : {x : ℕ} → x ≡ z + 1 → eqb x (z + 1) ≡ true
            same {x} q = rw q (is_true (eqb (z + 1) (z + 1)) (eqb_refl (z + 1)))

        go : (c : Bool) → immutable_mix b mix ≡ c → Dec (get_or w (at + mix) 0 ≡ 0) → Shared b zs z
        go true c e = absurd (differ (sym (d.fixed c).0 ∙ f))
        go false c (yes e) = absurd (differ (sym (d.new c e).0 ∙ f))
        go false c (no n) = pred (get_or w (at + mix) 0) refl n
          where
            pred : (x : ℕ) → get_or w (at + mix) 0 ≡ x → get_or w (at + mix) 0 ≢ 0 → Shared b zs z
            pred zero e n = absurd (n e)
            pred (suc y) e n = let q : get_or w (at + mix) 0 ≡ y + 1 = omega (arith, e) in other y c n q (k.owner mix y fits q)

-- ---- how many zones have a mixture

module _ (p : Zone → Bool) where
  none_kept : (zs : List Zone) → ((j : ℕ) → j < length zs → T (p (zone_at zs j)) → ⊥) → length (keep p zs) ≡ 0
  unfolding keep
  none_kept [] h = refl
  none_kept (x ∷ zs) h = go (p x) (h 0 (omega arith)) (none_kept zs (λ j l. h (suc j) (omega arith)))
    where
      go : (t : Bool) → (T t → ⊥) → length (keep p zs) ≡ 0 → length (cons_if t x (keep p zs)) ≡ 0
      go true n e = absurd (n tt)
      go false n e = e

  one_kept : (zs : List Zone) → ((i j : ℕ) → i < j → j < length zs → T (p (zone_at zs i)) → T (p (zone_at zs j)) → ⊥) → length (keep p zs) < 2
  unfolding keep
  one_kept [] h = omega arith
  one_kept (x ∷ zs) h = go (p x) (λ t. none_kept zs (λ j l. h 0 (suc j) (omega arith) (omega arith) t)) (one_kept zs (λ i j k l. h (suc i) (suc j) (omega arith) (omega arith)))
    where
      go : (t : Bool) → (T t → length (keep p zs) ≡ 0) → length (keep p zs) < 2 → length (cons_if t x (keep p zs)) < 2
      go true n e = omega (arith, n tt)
      go false n e = e

  some-kept : (zs : List Zone) (j : ℕ) → j < length zs → T (p (zone_at zs j)) → 1 ≤ length (keep p zs)
  unfolding keep
  some-kept [] j l t = absurd (omega arith)
  some-kept (x ∷ zs) zero l t = go (p x) t
    where
      go : (q : Bool) → T q → 1 ≤ length (cons_if q x (keep p zs))
      go true u = omega arith
      go false u = absurd u
  some-kept (x ∷ zs) (suc j) l t = go (p x) (some-kept zs j (omega arith) t)
    where
      go : (q : Bool) → 1 ≤ length (keep p zs) → 1 ≤ length (cons_if q x (keep p zs))
      go true e = omega arith
      go false e = e

  two-kept : (zs : List Zone) (i j : ℕ) → i < j → j < length zs → T (p (zone_at zs i)) → T (p (zone_at zs j)) → 2 ≤ length (keep p zs)
  unfolding keep
  two-kept [] i j k l t u = absurd (omega arith)
  two-kept (x ∷ zs) i zero k l t u = absurd (omega arith)
  two-kept (x ∷ zs) zero (suc j) k l t u = go (p x) t (some-kept zs j (omega arith) u)
    where
      go : (q : Bool) → T q → 1 ≤ length (keep p zs) → 2 ≤ length (cons_if q x (keep p zs))
      go true v e = omega arith
      go false v e = absurd v
  two-kept (x ∷ zs) (suc i) (suc j) k l t u = go (p x) (two-kept zs i j (omega arith) (omega arith) t u)
    where
      go : (q : Bool) → 2 ≤ length (keep p zs) → 2 ≤ length (cons_if q x (keep p zs))
      go true e = omega arith
      go false e = e

every-not : (p : ℕ → Bool) (n m : ℕ) → m < n → p m ≡ false → every p (up_from 0 n) ≡ false
every-not p n m l e = go (every p (up_from 0 n)) refl
  where
    zero-add : 0 + m ≡ m
    zero-add = omega arith

    go : (t : Bool) → every p (up_from 0 n) ≡ t → every p (up_from 0 n) ≡ false
    go true q = absurd (differ (sym (every-up_at p 0 n m q l) ∙ ap p zero-add ∙ e))
    go false q = q

module _ (b : Board) (zs : List Zone) where
  -- the marks at the end of the pass: no mixture is in two zones
  pub apart-true : (z at : ℕ) (w : List ℕ) → length zs ≤ z → Marks b zs z 0 at w → apart b zs ≡ true
  unfolding apart has_mix
  apart-true z at w h k = is_true (apart b zs) (all-every _ (up_from 0 (mixture_count b)) (All-imp _ _ (up_from 0 (mixture_count b)) (λ m l. test m l (immutable_mix b m) refl) (up_from-below 0 (mixture_count b))))
    where
      one : (m : ℕ) → m < mixture_count b → immutable_mix b m ≡ false → length (keep (has_mix b m) zs) < 2
      one m l c = one_kept (has_mix b m) zs (λ i j k₁ l₁ t u. omega (arith, k₁, sym (k.only m i l c (inl (omega (arith, h), t))) ∙ k.only m j l c (inl (omega (arith, h), u))))

      test : (m : ℕ) → m < 0 + mixture_count b → (c : Bool) → immutable_mix b m ≡ c → T (immutable_mix b m || ltb (length (keep (has_mix b m) zs)) 2)
      test m l true c = rw c tt
      test m l false c = rw c (lt→ltb (length (keep (has_mix b m) zs)) 2 (one m (omega arith) c))

  -- a mixture is in two zones
  pub apart-false : (z : ℕ) → z < length zs → Shared b zs z → apart b zs ≡ false
  unfolding apart has_mix
  apart-false z l s = every-not _ (mixture_count b) s.mix s.within (rw s.changes (not_so (ltb (length (keep (has_mix b s.mix) zs)) 2) many))
    where
      many : T (ltb (length (keep (has_mix b s.mix) zs)) 2) → ⊥
      many t = absurd (omega (arith, ltb→lt (length (keep (has_mix b s.mix) zs)) 2 t, two-kept (has_mix b s.mix) zs s.before z s.earlier l s.theirs s.ours))

-- ---- the nodes of a zone

pub marked-but : {c r : Bool} {p z lo hi : ℕ} {w₀ w w' : List ℕ} → lo ≤ p → p < hi → But lo hi w₀ w → Marked c p z r w w' → But lo hi w₀ w'
marked-but {c} {r} {p} {z} {lo} {hi} {w₀} {w} {w'} l h k d = go c refl (ℕ_discrete (get_or w p 0) 0)
  where
    go : (t : Bool) → c ≡ t → Dec (get_or w p 0 ≡ 0) → But lo hi w₀ w'
    go true e q = subst (But lo hi w₀) (sym (d.fixed e).1) k
    go false e (yes q) = subst (But lo hi w₀) (sym (d.new e q).1) (but_set p (z + 1) l h k)
    go false e (no q) = subst (But lo hi w₀) (sym (d.marked e q).1) k

-- a node, whatever was marked so far
pub row_now : {n from to at hi i : ℕ} {w₀ w : List ℕ} → But at hi w₀ w → to ≤ at → ((j : ℕ) → from ≤ j → j < to → get_or w₀ j 0 < n) → from ≤ i → i < to → get_or w i 0 < n
row_now {i = i} k h rows low l = rw (k.same i (inl (omega (arith, h, l)))) (rows i low l)

module _ (b : Board) (zs : List Zone) (z from to at : ℕ) where
  -- the nodes from `from` up to `to` are the zone's
  pub record Stood (w : List ℕ) : Type 0 where
    pub size : from + length (nodes_at zs z) ≡ to
    pub node : (i : ℕ) → i < length (nodes_at zs z) → get_or w (from + i) 0 ≡ get_or (nodes_at zs z) i 0

  -- those before i were gone through
  pub record Going (i : ℕ) (w₀ w : List ℕ) : Type 0 where
    pub on : Stood w₀ → Marks b zs z 0 at w₀ → Marks b zs z (i - from) at w

  pub going_start : (w : List ℕ) → Going from w w
  going_start w = record { on = λ s k. let e : from - from ≡ 0 = omega arith in rw e k }

  module _ (i : ℕ) (low : from ≤ i) (w₀ w w' : List ℕ) (g : Going i w₀ w) (k : But at (at + mixture_count b) w₀ w) (before : to ≤ at) (room : at + mixture_count b ≤ length w₀) (fits : mix_of b (get_or w i 0) < mixture_count b)
      (r : Bool) (d : Marked (immutable_mix b (mix_of b (get_or w i 0))) (at + mix_of b (get_or w i 0)) z r w w') (l : i < to) where
    module _ (s : Stood w₀) where
      node-is : get_or w i 0 ≡ get_or (nodes_at zs z) (i - from) 0
      node-is =
          let e : from + (i - from) ≡ i = omega (arith, low) in
          k.same i (inl (omega (arith, l, before))) ∙ ap (λ (x : ℕ). get_or w₀ x 0) (sym e) ∙ s.node (i - from) (omega (arith, s.size, l, low))

      within : i - from < length (nodes_at zs z)
      within = omega (arith, s.size, l, low)

      node-fits : mix_of b (get_or (nodes_at zs z) (i - from) 0) < mixture_count b
      node-fits = subst (λ (x : ℕ). mix_of b x < mixture_count b) node-is fits

      marked-is : Marked (immutable_mix b (mix_of b (get_or (nodes_at zs z) (i - from) 0))) (at + mix_of b (get_or (nodes_at zs z) (i - from) 0)) z r w w'
      marked-is = subst (λ (x : ℕ). Marked (immutable_mix b (mix_of b x)) (at + mix_of b x) z r w w') node-is d

      long : at + mixture_count b ≤ length w
      long = omega (arith, k.len, room)

    pub going_next : r ≡ true → Going (i + 1) w₀ w'
    going_next t = record {
      on = λ s m. let e : i + 1 - from ≡ i - from + 1 = omega (arith, low) in rw e (marks-next b zs z (i - from) at r w w' (within s) (g.on s m) (node-fits s) (long s) (marked-is s) t);
    }

    pub going-fails : r ≡ false → Passed b zs z from to at false w₀ w'
    going-fails f = record {
      met = λ size node m. let s : Stood w₀ = record { size = size; node = node } in
          ((λ t. absurd (differ (sym t))), λ q. marks-shared b zs z (i - from) at r w w' (within s) (g.on s m) (node-fits s) (long s) (marked-is s) f);
    }

  pub going_end : (i : ℕ) (w₀ w : List ℕ) → Going i w₀ w → to ≤ i → from ≤ i → (from ≤ to → i ≤ to) → Passed b zs z from to at true w₀ w
  going_end i w₀ w g h low top = record {
    met = λ size node m. (
      let e : i - from ≡ length (nodes_at zs z) = omega (arith, size, h, top (omega (arith, size)), low) in
          (λ t. marks-zone b zs z at w (subst (λ (x : ℕ). Marks b zs z x at w) e (g.on (record { size = size; node = node }) m))),
      λ f. absurd (differ f),
    );
  }

-- ---- the start, and zone after zone

module _ {n zones first base at : ℕ} {hi : ℕ} {w₀ w : List ℕ} (h : ZonesLaid n zones first base at w₀) (k : But at hi w₀ w) (z : ℕ) (l : z < zones) where
  pub start-now : get_or w (first + z) 0 ≡ get_or w₀ (first + z) 0
  start-now = k.same (first + z) (inl (omega (arith, h.starts)))

  pub end-now : get_or w (first + z + 1) 0 ≡ get_or w₀ (first + z + 1) 0
  end-now = k.same (first + z + 1) (inl (omega (arith, h.starts)))

  pub end_before : base + get_or w (first + z + 1) 0 ≤ at
  end_before = rw end-now (h.end z l)

  pub rows-now : (j : ℕ) → base + get_or w (first + z) 0 ≤ j → j < base + get_or w (first + z + 1) 0 → get_or w j 0 < n
  rows-now j a b =
      rw (k.same j (inl (omega (arith, end_before)))) (h.rows z j l (omega (arith, start-now)) (omega (arith, end-now)))

  pub zone-next : (b : Board) (zs : List Zone) → ZonesStand first base zs w₀ → length zs ≡ zones → Marks b zs z 0 at w → {w' : List ℕ} {r : Bool}
      → Passed b zs z (base + get_or w (first + z) 0) (base + get_or w (first + z + 1) 0) at r w w' → (r ≡ true → Marks b zs (z + 1) 0 at w') × (r ≡ false → Shared b zs z)
  zone-next b zs s e m p =
      p.met (omega (arith, start-now, end-now, s.size z (omega (arith, e))))
      (λ i q. let in-zone : base + get_or w (first + z) 0 + i < at = omega (arith, end_before, end-now, start-now, s.size z (omega (arith, e))) in
      k.same (base + get_or w (first + z) 0 + i) (inl in-zone) ∙ ap (λ (x : ℕ). get_or w₀ (base + x + i) 0) start-now ∙ s.node z i (omega (arith, e)) q) m

-- what stands before the marks stands as it stood
module _ {n zones first base at hi : ℕ} {w₀ w : List ℕ} (h : ZonesLaid n zones first base at w₀) (k : But at hi w₀ w) where
  pub laid_kept : ZonesLaid n zones first base at w
  laid_kept = record {
    few = h.few;
    starts = h.starts;
    small = h.small;
    rise = λ z l. rw (start-now h k z l, end-now h k z l) (h.rise z l);
    end = λ z l. end_before h k z l;
    rows = λ z j l a b. rows-now h k z l j a b;
  }

  stands-kept : (zs : List Zone) → length zs ≡ zones → ZonesStand first base zs w₀ → ZonesStand first base zs w
  stands-kept zs e s = record {
    size = λ z l. rw (start-now h k z (omega (arith, e)), end-now h k z (omega (arith, e))) (s.size z l);
    node = λ z i l q. let in-zone : base + get_or w (first + z) 0 + i < at = omega (arith, end_before h k z (omega (arith, e)), end-now h k z (omega (arith, e)), start-now h k z (omega (arith, e)), s.size z l) in
        k.same (base + get_or w (first + z) 0 + i) (inl in-zone) ∙ ap (λ (x : ℕ). get_or w₀ (base + x + i) 0) (start-now h k z (omega (arith, e))) ∙ s.node z i l q;
  }

  pub tells_after : {b : Board} {r : Bool} {w' : List ℕ} → hi ≡ at + mixture_count b → ApartTells b zones first base at r w w' → ApartTells b zones first base at r w₀ w'
  tells_after {b} q t = record { words = but_then (omega arith) (omega arith) (subst (λ (x : ℕ). But at x w₀ w) q k) t.words; answer = λ zs e s. t.answer zs e (stands-kept zs e s) }

-- the number of gases is read nowhere
pub fits-gases : (tables : LentTables) (gases : ℕ) {zones : ℕ} {w : List ℕ} → ApartFits (board_of tables gases) zones w → ApartFits (board_of tables 0) zones w
fits-gases tables gases f =
    let p = f.pass in
    record { sizes = f.sizes; pass = record { turfs = p.turfs; few = p.few; room = p.room; mixtures = p.mixtures; mixed = p.mixed }; laid = f.laid }

pub tells_gases : (tables : LentTables) (gases : ℕ) {zones first base at : ℕ} {r : Bool} {w w' : List ℕ} → ApartTells (board_of tables 0) zones first base at r w w'
    → ApartTells (board_of tables gases) zones first base at r w w'
unfolding apart has_mix
tells_gases tables gases t = record { words = t.words; answer = t.answer }

-- ---- the whole pass

module _ {b : Board} {zones : ℕ} {w : List ℕ} (fits : ApartFits b zones w) (first nodes at : ℕ) (ef : first ≡ starts_at (turf_count b) (link_count b)) (en : nodes ≡ layout.zone_nodes_at (turf_count b) (link_count b))
    (ea : at ≡ marks_at (turf_count b) (link_count b)) where
  pub marks-room : at + mixture_count b ≤ length w
  marks-room = omega (arith, ea, fits.pass.room)

  laid-at : ZonesLaid (turf_count b) zones first nodes at w
  laid-at = rw (ef, en, ea) fits.laid

  module _ {w₁ : List ℕ} (k : But at (at + mixture_count b) w w₁) where
    pub pass-asks : PassFits b at w₁ × ZonesLaid (turf_count b) zones first nodes at w₁
    pass-asks = (
      record { turfs = fits.pass.turfs; few = fits.pass.few; room = omega (arith, marks-room, k.len); mixtures = fits.pass.mixtures; mixed = fits.pass.mixed },
      laid_kept laid-at k,
    )

    pub pass-tells : {r : Bool} {w' : List ℕ} → ApartTells b zones first nodes at r w₁ w'
        → let n = turf_count b in let e = link_count b in ApartTells b zones (starts_at n e) (layout.zone_nodes_at n e) (marks_at n e) r w w'
    pass-tells {r} {w'} t =
        subst (λ (x : ℕ). ApartTells b zones (starts_at (turf_count b) (link_count b)) (layout.zone_nodes_at (turf_count b) (link_count b)) x r w w') ea
        (subst (λ (x : ℕ). ApartTells b zones (starts_at (turf_count b) (link_count b)) x at r w w') en
        (subst (λ (x : ℕ). ApartTells b zones x nodes at r w w') ef (tells_after laid-at k refl t)))
