-- A turf is popped by one zone only, and a link is of one turf, so a fill owns only links that no zone owned; a node is its first turf or is inserted by such a
-- link, so the nodes beyond the first are at most the links newly owned. Assumes nothing.
use mathlib.Core.Path.{◌≡◌, refl, sym, ap, ◌∙◌, subst}
use mathlib.Core.Logic.{◌≢◌}
use mathlib.Core.List.{List, [], ◌∷◌}
use mathlib.Core.Bool.{Bool, true, false, not, ◌&&◌, ◌||◌, cond}
use Prim.Native.Nat.{ℕ, ◌+◌, ◌≤◌, ◌<◌}
use native.Mathlib.Nat.{le_refl}
use native.Mathlib.Decide.{ℕ_discrete, dec_lt}
use native.Mathlib.Omega.{arith}
use lib.Dec.{T, eqb, ltb, ltb→lt}
use lib.ListN.{length, get_or, set, length-set, length-append, get_or-append}
use lib.Seq.{get_or-set_same, get_or-set_other, get_or_at}
use lib.Ieee.{Float}
use borrow.Author.Tests.{eqb-true, ne_eqb}
use Rattle.basics.specs.Loops.{run, member, snoc, times}
use Rattle.basics.specs.Lists.{All}
use Rattle.basics.proofs.Loops.{All-imp, All-get_or, times-keeps, and_right}
use Rattle.basics.proofs.Lists.{All-snoc, Apart, apart_snoc, apart-at}
use Rattle.rules_board.specs.Board.{Board, turf_count, link_count, end, enabled, planetary, links_of}
use Rattle.turfs.specs.Tables.{Accepted, source}
use Rattle.turfs.proofs.Accepted.{sources, links-below, links-apart}
use Rattle.rules_events.specs.declared.Event.{Event}
use Rattle.rules_fill.specs.Fill.{Reach, Fill, is_on, insert, reach_link, expand, end_fill, pop, pop_next, fill}
use Rattle.rules_fill.specs.declared.Going.TheVariants.{Broken, Over}
use Rattle.laws_fill.specs.Start.{start_fill}
use Rattle.laws_fill.proofs.Counts.{is_mark, marked, mark-put, was_new}

-- a mark that is set stays
mark-stays : (xs : List ℕ) (a x : ℕ) → a < length xs → is_mark (get_or xs x 0) ≡ true → is_mark (get_or (set xs a 1) x 0) ≡ true
mark-stays xs a x l e = go (ℕ_discrete x a)
  where
    go : Dec (x ≡ a) → is_mark (get_or (set xs a 1) x 0) ≡ true
    go (yes i) = ap (λ (y : ℕ). is_mark (get_or (set xs a 1) y 0)) i ∙ ap is_mark (get_or-set_same xs a 1 0 l)
    go (no ne) = ap is_mark (get_or-set_other xs a x 1 0 ne) ∙ e

-- no mark is no mark
unlike : (x y : ℕ) → is_mark x ≡ true → y ≡ 0 → x ≢ y
unlike x y e z i = subst T (sym (ap is_mark (sym (i ∙ z)) ∙ e)) tt

pub insert-length : (x : ℕ) (xs : List ℕ) → length (insert x xs) ≤ length xs + 1
unfolding insert
insert-length x xs = go (member x xs)
  where
    go : (t : Bool) → length (cond t xs (snoc xs x)) ≤ length xs + 1
    go true = omega arith
    go false = omega (arith, length-append xs (x ∷ []))

module _ (b : Board) {n : ℕ} (h : Accepted b n) (z : ℕ) (owner₀ : List ℕ) where
  abbrev src : ℕ → ℕ
  src k = source b.starts k

  -- the first p of the queue are popped
  pub record Fresh (p : ℕ) (s : Reach) : Type 0 where
    pub marks : length s.found ≡ turf_count b
    pub links : length s.owner ≡ link_count b
    pub apart : Apart s.queue
    pub seen : All (λ x. is_mark (get_or s.found x 0) ≡ true) s.queue
    pub unowned : (k : ℕ) → get_or s.found (src k) 0 ≡ 0 → get_or s.owner k 0 ≡ 0
    pub waiting : (i k : ℕ) → p ≤ i → i < length s.queue → src k ≡ get_or s.queue i 0 → get_or s.owner k 0 ≡ 0
    pub nodes : length s.nodes + marked owner₀ ≤ 1 + marked s.owner

  weaken : (p : ℕ) (s : Reach) → Fresh p s → Fresh (p + 1) s
  weaken p s q = record {
    marks = q.marks;
    links = q.links;
    apart = q.apart;
    seen = q.seen;
    unowned = q.unowned;
    waiting = λ i k l m e. q.waiting i k (omega arith) m e;
    nodes = q.nodes;
  }

  -- the turf r stands at the place p of the queue
  abbrev Here : ℕ → ℕ → Reach → Type 0
  Here p r s = (get_or s.queue p 0 ≡ r) × (p < length s.queue)

  -- a link of r that isn't owned yet
  record Own (r k : ℕ) (s : Reach) : Type 0 where
    mine : src k ≡ r
    there : k < link_count b
    free : get_or s.owner k 0 ≡ 0

  module _ (p r : ℕ) where
    module _ (k : ℕ) (s : Reach) (o : Own r k s) (i : Here p r s) (q : Fresh (p + 1) s) where
      abbrev a : ℕ
      a = end b k

      abbrev t : Reach
      t = reach_link b z r k s

      inside : a < length s.found
      inside = subst (λ (m : ℕ). a < m) (sym q.marks) (h.ends k)

      known : is_mark (get_or s.found r 0) ≡ true
      known = subst (λ (x : ℕ). is_mark (get_or s.found x 0) ≡ true) i.0 (All-get_or (λ x. is_mark (get_or s.found x 0) ≡ true) s.queue p 0 q.seen i.1)

      -- a link of another turf keeps its owner
      other : (j : ℕ) → src j ≢ r → get_or t.owner j 0 ≡ get_or s.owner j 0
      unfolding reach_link
      other j ne = go (enabled b a)
        where
          go : (e : Bool) → get_or (cond e (set s.owner k (z + 1)) s.owner) j 0 ≡ get_or s.owner j 0
          go true = get_or-set_other s.owner k j (z + 1) 0 (λ f. ne (ap src f ∙ o.mine))
          go false = refl

      -- so does another link of r
      beside : (j : ℕ) → j ≢ k → get_or t.owner j 0 ≡ get_or s.owner j 0
      unfolding reach_link
      beside j ne = go (enabled b a)
        where
          go : (e : Bool) → get_or (cond e (set s.owner k (z + 1)) s.owner) j 0 ≡ get_or s.owner j 0
          go true = get_or-set_other s.owner k j (z + 1) 0 ne
          go false = refl

      here-stays : Here p r t
      unfolding reach_link
      here-stays = go (eqb (get_or s.found a 0) 0 && enabled b a)
        where
          go : (e : Bool) → (get_or (cond e (snoc s.queue a) s.queue) p 0 ≡ r) × (p < length (cond e (snoc s.queue a) s.queue))
          go true = (get_or-append s.queue (a ∷ []) 0 p i.1 ∙ i.0, omega (arith, i.1, length-append s.queue (a ∷ [])))
          go false = i

      nodes-stay : length t.nodes + marked owner₀ ≤ 1 + marked t.owner
      unfolding reach_link
      nodes-stay = go (enabled b a)
        where
          go : (e : Bool) → length (cond e (insert a s.nodes) s.nodes) + marked owner₀ ≤ 1 + marked (cond e (set s.owner k (z + 1)) s.owner)
          go true =
              let m : marked (set s.owner k (z + 1)) ≡ marked s.owner + 1 =
              mark-put s.owner k (z + 1) (subst (λ (x : ℕ). k < x) (sym q.links) o.there) o.free (ap not (ne_eqb (z + 1) 0 (λ f. omega (arith, f)))) in
              omega (arith, m, insert-length a s.nodes, q.nodes)
          go false = q.nodes

      links-stay : length t.owner ≡ link_count b
      unfolding reach_link
      links-stay = go (enabled b a)
        where
          go : (e : Bool) → length (cond e (set s.owner k (z + 1)) s.owner) ≡ link_count b
          go true = length-set s.owner k (z + 1) ∙ q.links
          go false = q.links

      unowned-stays : (j : ℕ) → get_or t.found (src j) 0 ≡ 0 → get_or t.owner j 0 ≡ 0
      unowned-stays j e =
          let w = was_new s.found a (src j) inside (unfold reach_link in e) in
          other j (λ f. unlike (get_or s.found r 0) (get_or s.found (src j) 0) known w.1 (ap (λ (x : ℕ). get_or s.found x 0) (sym f))) ∙ q.unowned j w.1

      -- a turf further on in the queue is another
      later : (j : ℕ) → p + 1 ≤ j → j < length s.queue → get_or s.queue j 0 ≢ r
      later j l m f = apart-at s.queue p j q.apart (omega arith) m (f ∙ sym i.0)

      old-waiting : (j m : ℕ) → p + 1 ≤ j → j < length s.queue → src m ≡ get_or s.queue j 0 → get_or t.owner m 0 ≡ 0
      old-waiting j m l u e = other m (λ f. later j l u (sym e ∙ f)) ∙ q.waiting j m l u e

      new-waiting : get_or s.found a 0 ≡ 0 → (m : ℕ) → src m ≡ a → get_or t.owner m 0 ≡ 0
      new-waiting e m f =
          other m (λ g. unlike (get_or s.found r 0) (get_or s.found a 0) known e (ap (λ (x : ℕ). get_or s.found x 0) (sym g ∙ f)))
          ∙ q.unowned m (ap (λ (x : ℕ). get_or s.found x 0) f ∙ e)

      link-fresh : Fresh (p + 1) t
      unfolding reach_link
      link-fresh = record {
        marks = length-set s.found a 1 ∙ q.marks;
        links = links-stay;
        apart = (line (eqb (get_or s.found a 0) 0) refl (enabled b a)).0;
        seen = (line (eqb (get_or s.found a 0) 0) refl (enabled b a)).1.0;
        unowned = unowned-stays;
        waiting = (line (eqb (get_or s.found a 0) 0) refl (enabled b a)).1.1;
        nodes = nodes-stay;
      }
        where
          stay : All (λ x. is_mark (get_or (set s.found a 1) x 0) ≡ true) s.queue
          stay = All-imp _ _ s.queue (λ x e. mark-stays s.found a x inside e) q.seen

          Line : List ℕ → Type 0
          Line l = Apart l × (All (λ x. is_mark (get_or (set s.found a 1) x 0) ≡ true) l × ((j m : ℕ) → p + 1 ≤ j → j < length l → src m ≡ get_or l j 0 → get_or t.owner m 0 ≡ 0))

          line : (new : Bool) → eqb (get_or s.found a 0) 0 ≡ new → (on : Bool) → Line (cond (new && on) (snoc s.queue a) s.queue)
          line true e true =
              let zero-at : get_or s.found a 0 ≡ 0 = eqb-true (get_or s.found a 0) 0 e in (
                apart_snoc s.queue a q.apart
                    (All-imp _ _ s.queue (λ x m f. unlike (get_or s.found x 0) (get_or s.found a 0) m zero-at (ap (λ (y : ℕ). get_or s.found y 0) f)) q.seen),
                (All-snoc _ s.queue a stay (ap is_mark (get_or-set_same s.found a 1 0 inside)), λ j m l u f. at zero-at j m l u f (dec_lt j (length s.queue))),
              )
            where
              at : get_or s.found a 0 ≡ 0 → (j m : ℕ) → p + 1 ≤ j → j < length (snoc s.queue a) → src m ≡ get_or (snoc s.queue a) j 0 → Dec (j < length s.queue) → get_or t.owner m 0 ≡ 0
              at e₀ j m l u f (yes v) = old-waiting j m l v (f ∙ get_or-append s.queue (a ∷ []) 0 j v)
              at e₀ j m l u f (no v) = new-waiting e₀ m (f ∙ get_or_at s.queue a [] 0 j (omega (arith, u, v, length-append s.queue (a ∷ []))))
          line true e false = (q.apart, (stay, old-waiting))
          line false e on = (q.apart, (stay, old-waiting))

    -- all the links of r
    row_fresh : (ks : List ℕ) → Apart ks → (s : Reach) → All (λ k. Own r k s) ks → Here p r s → Fresh (p + 1) s → Fresh (p + 1) (run (reach_link b z r) ks s)
    unfolding run
    row_fresh [] d s o i q = q
    row_fresh (k ∷ ks) d s o i q =
        row_fresh ks d.1 (reach_link b z r k s)
        (both ks d.0 o.1)
        (here-stays k s o.0 i q) (link-fresh k s o.0 i q)
      where
        both : (js : List ℕ) → All (λ j. j ≢ k) js → All (λ j. Own r j s) js → All (λ j. Own r j (reach_link b z r k s)) js
        both [] ne w = tt
        both (j ∷ js) ne w =
            (record { mine = w.0.mine; there = w.0.there; free = beside k s o.0 i q j ne.0 ∙ w.0.free }, both js ne.1 w.1)

  -- the links of the turf that is popped next aren't owned
  free : (r : ℕ) (s : Reach) → ((k : ℕ) → src k ≡ r → get_or s.owner k 0 ≡ 0) → All (λ k. Own r k s) (links_of b r)
  free r s f = go (links_of b r) (sources b h r) (links-below b h r)
    where
      go : (ks : List ℕ) → All (λ k. src k ≡ r) ks → All (λ k. k < link_count b) ks → All (λ k. Own r k s) ks
      go [] m l = tt
      go (k ∷ ks) m l = (record { mine = m.0; there = l.0; free = f k m.0 }, go ks m.1 l.1)

  module _ (gas : List Float) (limit allowance : ℕ) where
    abbrev FillFresh : Fill → Type 0
    FillFresh s = Fresh s.popped s.reach

    next-fresh : (s : Fill) → FillFresh s → FillFresh (pop_next b gas limit allowance z s)
    unfolding pop_next pop end_fill expand
    next-fresh s q = go (is_on s.state && ltb s.popped (length s.reach.queue)) refl
      where
        r : ℕ
        r = get_or s.reach.queue s.popped 0

        planet : Bool
        planet = s.planet || planetary b r

        wide : Fresh (s.popped + 1) s.reach
        wide = weaken s.popped s.reach q

        row : s.popped < length s.reach.queue → Fresh (s.popped + 1) (run (reach_link b z r) (links_of b r) s.reach)
        row l = row_fresh s.popped r (links_of b r) (links-apart b r) s.reach (free r s.reach (λ k e. q.waiting s.popped k (le_refl s.popped) l e)) (refl, l) wide

        step : s.popped < length s.reach.queue → (t u : Bool) → FillFresh (cond t (end_fill Over s.planet s) (cond u (end_fill Broken planet s) (expand b gas limit allowance z r planet s)))
        step l true u = wide
        step l false true = wide
        step l false false = row l

        go : (t : Bool) → is_on s.state && ltb s.popped (length s.reach.queue) ≡ t → FillFresh (cond t (pop b gas limit allowance z r s) s)
        go false e = q
        go true e = step (ltb→lt s.popped (length s.reach.queue) (and_right (is_on s.state) (ltb s.popped (length s.reach.queue)) (subst T (sym e) tt)))
            (ltb allowance (s.tests + 1)) (planet && ltb limit (length s.reach.nodes))

    -- A fill from a turf that no zone found, where links of unfound turfs aren't owned.
    pub pops-fresh : (pops r : ℕ) (found : List ℕ) (events : List Event) (tests : ℕ) → length found ≡ turf_count b → length owner₀ ≡ link_count b → r < turf_count b → get_or found r 0 ≡ 0
        → ((k : ℕ) → get_or found (src k) 0 ≡ 0 → get_or owner₀ k 0 ≡ 0) → FillFresh (times (pop_next b gas limit allowance z) pops (start_fill r found owner₀ events tests))
    pops-fresh pops r found events tests l m i e u = times-keeps FillFresh (pop_next b gas limit allowance z) next-fresh pops (start_fill r found owner₀ events tests) (record {
      marks = length-set found r 1 ∙ l;
      links = m;
      apart = (tt, tt);
      seen = (ap is_mark (get_or-set_same found r 1 0 inside), tt);
      unowned = λ k f. u k (was_new found r (src k) inside f).1;
      waiting = λ j k a c f. u k (ap (λ (x : ℕ). get_or found x 0) (f ∙ ap (λ (x : ℕ). get_or (r ∷ []) x 0) (zero-only j c)) ∙ e);
      nodes = omega arith;
    })
      where
        inside : r < length found
        inside = subst (λ (x : ℕ). r < x) (sym l) i

        zero-only : (j : ℕ) → j < 1 → j ≡ 0
        zero-only j c = omega arith

    pub fill-fresh : (r : ℕ) (found : List ℕ) (events : List Event) (tests : ℕ) → length found ≡ turf_count b → length owner₀ ≡ link_count b → r < turf_count b → get_or found r 0 ≡ 0
        → ((k : ℕ) → get_or found (src k) 0 ≡ 0 → get_or owner₀ k 0 ≡ 0) → FillFresh (fill b gas limit allowance z r found owner₀ events tests)
    unfolding fill
    fill-fresh r found events tests l m i e u = pops-fresh (turf_count b) r found events tests l m i e u
