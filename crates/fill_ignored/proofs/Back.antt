-- An ignored zone gives back what it took: a link that it owns is of a turf that it pushed, no zone had found that turf, so the link had no owner.
-- Assumes nothing.
use Prim.Native.Nat.{ℕ, zero, suc, ◌+◌, ◌-◌, ◌≤◌, ◌<◌}
use native.Mathlib.Omega.{arith}
use native.Mathlib.Decide.{ℕ_discrete, dec_lt}
use mathlib.Core.Path.{◌≡◌, refl, ap, ◌∙◌, sym, subst}
use mathlib.Core.Logic.{◌⊎◌, inl, inr}
use mathlib.Core.List.{List, [], ◌∷◌}
use mathlib.Core.Bool.{Bool, true, false, ◌&&◌, ◌||◌, cond}
use lib.Dec.{T, eqb, ltb, leb}
use lib.Ieee.{Float}
use lib.ListN.{length, get_or, set, replicate, length-set, length-replicate}
use lib.Seq.{sets, length-sets, get_or-set_same, get_or-set_other, ext_get_or}
use lib.Ieee.Bits.{is_true}
use borrow.Author.Tests.{eqb-true, lt-ltb, le-ltb, le-leb, lt-leb, leb-true, ltb-true}
use Rattle.basics.specs.Loops.{run, member, snoc}
use Rattle.basics.specs.Lists.{All}
use Rattle.basics.proofs.Loops.{All-imp, and_left, and_right}
use Rattle.basics.proofs.Lists.{All-snoc, or_left, or_right, or_cases, member-has}
use Rattle.rules_board.specs.Board.{Board, turf_count, link_count, end, enabled, links_of}
use Rattle.turfs.specs.Tables.{Accepted, source}
use Rattle.turfs.proofs.Accepted.{links-in}
use Rattle.rules_events.specs.declared.Event.{Event}
use Rattle.rules_fill.specs.Fill.{Reach, reach_link, fill}
use Rattle.laws_fill.proofs.Counts.{was_new}
use Rattle.laws_fill.proofs.Steps.{Keeps, fill-keeps}
use Rattle.fill_zone.proofs.Boards.{parts, source_is}
use Rattle.fill_ignored.specs.Held.{give_back}

-- ---- stores one after the other

sets_before : (vs l : List ℕ) (i k : ℕ) → k < i → get_or (sets l i vs) k 0 ≡ get_or l k 0
sets_before [] l i k h = refl
sets_before (v ∷ vs) l i k h = sets_before vs (set l i v) (suc i) k (omega arith) ∙ get_or-set_other l i k v 0 (λ e. omega (arith, e))

sets_past : (vs l : List ℕ) (i k : ℕ) → i + length vs ≤ k → get_or (sets l i vs) k 0 ≡ get_or l k 0
sets_past [] l i k h = refl
sets_past (v ∷ vs) l i k h = sets_past vs (set l i v) (suc i) k (omega arith) ∙ get_or-set_other l i k v 0 (λ e. omega (arith, e))

sets_within : (m : ℕ) (l : List ℕ) (i k : ℕ) → i + m ≤ length l → i ≤ k → k < i + m → ◌≡◌ {A = ℕ} (get_or (sets l i (replicate m 0)) k 0) 0
sets_within zero l i k h a c = absurd (omega arith)
sets_within (suc m) l i k h a c = go (ℕ_discrete k i) (λ x. sets_within m (set l i 0) (suc i) k (rw (length-set l i 0) (omega arith)) x (omega arith))
  where
    go : Dec (k ≡ i) → (suc i ≤ k → get_or (sets (set l i 0) (suc i) (replicate m 0)) k 0 ≡ 0) → get_or (sets (set l i 0) (suc i) (replicate m 0)) k 0 ≡ 0
    go (yes e) ih = sets_before (replicate m 0) (set l i 0) (suc i) k (omega arith) ∙ ap (λ (j : ℕ). get_or (set l i 0) j 0) e ∙ get_or-set_same l i 0 0 (omega arith)
    go (no e) ih = ih (omega (arith, e))

-- ---- rows that give back

module _ (starts : List ℕ) where
  -- the link k is of the row r
  abbrev hit : ℕ → ℕ → Bool
  hit r k = leb (get_or starts r 0) k && ltb k (get_or starts (r + 1) 0)

  -- it is of one of the rows
  unfoldable any_hit : List ℕ → ℕ → Bool
  any_hit [] k = false
  any_hit (r ∷ rs) k = hit r k || any_hit rs k

  back_at : (r : ℕ) (o : List ℕ) (k : ℕ) → get_or starts r 0 ≤ get_or starts (r + 1) 0 → get_or starts (r + 1) 0 ≤ length o → get_or (give_back starts r o) k 0 ≡ cond (hit r k) 0 (get_or o k 0)
  back_at r o k rise end = go (dec_lt k (get_or starts r 0)) (dec_lt k (get_or starts (r + 1) 0))
    where
      from : ℕ
      from = get_or starts r 0

      to : ℕ
      to = get_or starts (r + 1) 0

      go : Dec (k < from) → Dec (k < to) → get_or (sets o from (replicate (to - from) 0)) k 0 ≡ cond (leb from k && ltb k to) 0 (get_or o k 0)
      go (yes a) c = rw (lt-leb from k a) (sets_before (replicate (to - from) 0) o from k a)
      go (no a) (yes c) = rw (le-leb from k (omega arith), lt-ltb k to c) (sets_within (to - from) o from k (omega arith) (omega arith) (omega arith))
      go (no a) (no c) = rw (le-leb from k (omega arith), le-ltb k to (omega arith)) (sets_past (replicate (to - from) 0) o from k (omega (arith, length-replicate {A = ℕ} (to - from) 0)))

  both-back : (s t : Bool) (x : ℕ) → cond t 0 (cond s 0 x) ≡ cond (s || t) 0 x
  both-back true true x = refl
  both-back true false x = refl
  both-back false true x = refl
  both-back false false x = refl

  pub back-length : (rows o : List ℕ) → length (run (give_back starts) rows o) ≡ length o
  unfolding run
  back-length [] o = refl
  back-length (r ∷ rs) o = back-length rs (give_back starts r o) ∙ length-sets o (get_or starts r 0) (replicate (get_or starts (r + 1) 0 - get_or starts r 0) 0)

  run-back : (e : ℕ) (rows o : List ℕ) (k : ℕ) → All (λ r. (get_or starts r 0 ≤ get_or starts (r + 1) 0) × (get_or starts (r + 1) 0 ≤ e)) rows → length o ≡ e
      → get_or (run (give_back starts) rows o) k 0 ≡ cond (any_hit rows k) 0 (get_or o k 0)
  unfolding run any_hit
  run-back e [] o k a l = refl
  run-back e (r ∷ rs) o k a l =
      run-back e rs (give_back starts r o) k a.1 (length-sets o (get_or starts r 0) (replicate (get_or starts (r + 1) 0 - get_or starts r 0) 0) ∙ l)
      ∙ ap (λ (x : ℕ). cond (any_hit rs k) 0 x) (back_at r o k a.0.0 (rw l a.0.1))
      ∙ both-back (hit r k) (any_hit rs k) (get_or o k 0)

  hit_snoc : (rows : List ℕ) (r k : ℕ) → T (any_hit rows k) → T (any_hit (snoc rows r) k)
  unfolding any_hit
  hit_snoc [] r k h = absurd h
  hit_snoc (x ∷ xs) r k h = go (or_cases (hit x k) (any_hit xs k) h) (λ j. hit_snoc xs r k j)
    where
      go : T (hit x k) ⊎ T (any_hit xs k) → (T (any_hit xs k) → T (any_hit (snoc xs r) k)) → T (hit x k || any_hit (snoc xs r) k)
      go (inl a) ih = or_left (hit x k) (any_hit (snoc xs r) k) a
      go (inr a) ih = or_right (hit x k) (any_hit (snoc xs r) k) (ih a)

  hit_member : (rows : List ℕ) (r k : ℕ) → T (member r rows) → T (hit r k) → T (any_hit rows k)
  unfolding any_hit member
  hit_member [] r k m h = absurd m
  hit_member (x ∷ xs) r k m h = go (or_cases (eqb r x) (member r xs) m) (λ j. hit_member xs r k j h)
    where
      go : T (eqb r x) ⊎ T (member r xs) → (T (member r xs) → T (any_hit xs k)) → T (hit x k || any_hit xs k)
      go (inl e) ih = or_left (hit x k) (any_hit xs k) (subst (λ (y : ℕ). T (hit y k)) (lib.Dec.eqb→eq r x e) h)
      go (inr j) ih = or_right (hit x k) (any_hit xs k) (ih j)

  -- what all rows have, the one has that the link is of
  hit_has : (P : Type 0) (rows : List ℕ) (k : ℕ) → All (λ r. T (hit r k) → P) rows → T (any_hit rows k) → P
  unfolding any_hit
  hit_has P [] k a h = absurd h
  hit_has P (r ∷ rs) k a h = go (or_cases (hit r k) (any_hit rs k) h) (λ j. hit_has P rs k a.1 j)
    where
      go : T (hit r k) ⊎ T (any_hit rs k) → (T (any_hit rs k) → P) → P
      go (inl x) ih = a.0 x
      go (inr x) ih = ih x

-- ---- a fill

module _ {b : Board} {m : ℕ} (h : Accepted b m) (z : ℕ) (found₀ owner₀ : List ℕ) where
  record Took (s : Reach) : Type 0 where
    marks : length s.found ≡ turf_count b
    links : length s.owner ≡ link_count b
    grown : (x : ℕ) → get_or s.found x 0 ≡ 0 → get_or found₀ x 0 ≡ 0
    new : All (λ r. (get_or found₀ r 0 ≡ 0) × (r < turf_count b)) s.queue
    back : (k : ℕ) → (get_or s.owner k 0 ≡ get_or owner₀ k 0) ⊎ T (any_hit b.starts s.queue k)

  link-took : Keeps b z Took
  unfolding reach_link
  link-took r k₀ s queued ours q = go (eqb (get_or s.found a 0) 0) refl (enabled b a)
    where
      a : ℕ
      a = end b k₀

      inside : a < length s.found
      inside = subst (λ (n : ℕ). a < n) (sym q.marks) (h.ends k₀)

      mine : T (any_hit b.starts s.queue k₀)
      mine =
          hit_member b.starts s.queue r k₀ queued
          (let i = member-has (λ k. (get_or b.starts r 0 ≤ k) × (k < get_or b.starts (r + 1) 0)) k₀ (links_of b r) (links-in b r) ours in
          subst T (sym (ap (λ (t : Bool). t && ltb k₀ (get_or b.starts (r + 1) 0)) (le-leb (get_or b.starts r 0) k₀ i.0) ∙ lt-ltb k₀ (get_or b.starts (r + 1) 0) i.1)) tt)

      more : (t : Bool) (k : ℕ) → T (any_hit b.starts s.queue k) → T (any_hit b.starts (cond t (snoc s.queue a) s.queue) k)
      more true k x = hit_snoc b.starts s.queue a k x
      more false k x = x

      backs : (t on : Bool) (k : ℕ) → (get_or (cond on (set s.owner k₀ (z + 1)) s.owner) k 0 ≡ get_or owner₀ k 0) ⊎ T (any_hit b.starts (cond t (snoc s.queue a) s.queue) k)
      backs t false k = elim (q.back k) [ inl x ↦ inl x | inr x ↦ inr (more t k x) ]
      backs t true k = at (ℕ_discrete k k₀)
        where
          at : Dec (k ≡ k₀) → (get_or (set s.owner k₀ (z + 1)) k 0 ≡ get_or owner₀ k 0) ⊎ T (any_hit b.starts (cond t (snoc s.queue a) s.queue) k)
          at (yes e) = inr (more t k (subst (λ (j : ℕ). T (any_hit b.starts s.queue j)) (sym e) mine))
          at (no e) = elim (q.back k) [ inl x ↦ inl (get_or-set_other s.owner k₀ k (z + 1) 0 e ∙ x) | inr x ↦ inr (more t k x) ]

      news : (t on : Bool) → eqb (get_or s.found a 0) 0 ≡ t → All (λ x. (get_or found₀ x 0 ≡ 0) × (x < turf_count b)) (cond (t && on) (snoc s.queue a) s.queue)
      news true true e = All-snoc _ s.queue a q.new (q.grown a (eqb-true (get_or s.found a 0) 0 e), h.ends k₀)
      news true false e = q.new
      news false on e = q.new

      lengths : (on : Bool) → length (cond on (set s.owner k₀ (z + 1)) s.owner) ≡ link_count b
      lengths true = length-set s.owner k₀ (z + 1) ∙ q.links
      lengths false = q.links

      go : (t : Bool) → eqb (get_or s.found a 0) 0 ≡ t → (on : Bool) → Took (record {
        found = set s.found a 1;
        queue = cond (t && on) (snoc s.queue a) s.queue;
        nodes = (reach_link b z r k₀ s).nodes;
        owner = cond on (set s.owner k₀ (z + 1)) s.owner;
        ignored = (reach_link b z r k₀ s).ignored;
        events = (reach_link b z r k₀ s).events;
      })
      go t e on = record {
        marks = length-set s.found a 1 ∙ q.marks;
        links = lengths on;
        grown = λ x i. q.grown x (was_new s.found a x inside i).1;
        new = news t on e;
        back = backs (t && on) on;
      }

  module _ (gas : List Float) (limit allowance r : ℕ) (events : List Event) (tests : ℕ) (marks : length found₀ ≡ turf_count b) (links : length owner₀ ≡ link_count b) (hr : r < turf_count b)
      (new : get_or found₀ r 0 ≡ 0) (unowned : (k : ℕ) → get_or found₀ (source b.starts k) 0 ≡ 0 → get_or owner₀ k 0 ≡ 0) where
    abbrev t : Reach
    t = (fill b gas limit allowance z r found₀ owner₀ events tests).reach

    took : Took t
    took = fill-keeps b z Took link-took gas limit allowance r found₀ owner₀ events tests (record {
      marks = length-set found₀ r 1 ∙ marks;
      links = links;
      grown = λ x i. (was_new found₀ r x (rw marks hr) i).1;
      new = ((new, hr), tt);
      back = λ k. inl refl;
    })

    -- the owners are those from before the fill
    pub given_back : run (give_back b.starts) t.queue t.owner ≡ owner₀
    given_back =
        ext_get_or 0 _ _ (back-length b.starts t.queue t.owner ∙ took.links ∙ sym links)
        (λ k l. run-back b.starts (link_count b) t.queue t.owner k
        (All-imp _ _ t.queue (λ x i. ((parts h).rise x i.1, (parts h).end x i.1)) took.new) took.links ∙ each k (any_hit b.starts t.queue k) refl)
      where
        free : (k : ℕ) → T (any_hit b.starts t.queue k) → get_or owner₀ k 0 ≡ 0
        free k x =
            hit_has b.starts (get_or owner₀ k 0 ≡ 0) t.queue k
            (All-imp (λ y. (get_or found₀ y 0 ≡ 0) × (y < turf_count b)) (λ y. T (hit b.starts y k) → get_or owner₀ k 0 ≡ 0) t.queue (λ y i j. unowned k (ap (λ (v : ℕ). get_or found₀ v 0) (source_is h y i.1 k
            (leb-true (get_or b.starts y 0) k (is_true (leb (get_or b.starts y 0) k) (and_left (leb (get_or b.starts y 0) k) (ltb k (get_or b.starts (y + 1) 0)) j)))
            (ltb-true k (get_or b.starts (y + 1) 0) (is_true (ltb k (get_or b.starts (y + 1) 0)) (and_right (leb (get_or b.starts y 0) k) (ltb k (get_or b.starts (y + 1) 0)) j)))) ∙ i.0)) took.new) x

        each : (k : ℕ) (x : Bool) → any_hit b.starts t.queue k ≡ x → cond x 0 (get_or t.owner k 0) ≡ get_or owner₀ k 0
        each k true e = sym (free k (subst T (sym e) tt))
        each k false e = elim (took.back k) [ inl i ↦ i | inr i ↦ absurd (subst T e i) ]
