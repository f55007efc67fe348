-- What a visit does: it marks, puts a turf on the space list, or spreads; and what it counts. Assumes nothing.
use Prim.Native.Nat.{ℕ, ◌+◌, ◌≤◌, ◌<◌}
use native.Mathlib.Omega.{arith}
use native.Mathlib.Numerals.{add-one}
use mathlib.Core.Path.{◌≡◌, refl, ap, ◌∙◌, sym, subst}
use mathlib.Core.List.{List, [], ◌∷◌, append-nil}
use mathlib.Core.Bool.{Bool, true, false, not, ◌||◌}
use lib.ListN.{length, get_or, take, set, length-set}
use lib.Seq.{take-suc-set}
use borrow.Author.Tests.{eq-eqb, ne_eqb}
use Rattle.basics.specs.Loops.{snoc}
use Rattle.basics.specs.Regions.{cut, region}
use Rattle.basics.proofs.Regions.{cut-set, cut-length}
use Rattle.rules_board.specs.Board.{Board, turf_count, id_of, planetary, immutable}
use Rattle.rules_events.specs.Events.{encode, kind_of, size_of}
use Rattle.events.specs.Area.{Wrote}
use Rattle.rules_events.specs.declared.Event.{Event}
use Rattle.rules_events.specs.declared.Event.TheVariants.{Target}
use Rattle.events.proofs.Areas.{wrote-length}
use Rattle.events.proofs.Sizes.{encode-size}
use Rattle.index_set.specs.Line.{Line}
use Rattle.scratch.specs.Layout.{walk_sizes, order_at}
use Rattle.rules_walk.specs.Walk.{mark, spread}
use Rattle.rules_walk.specs.Visit.{visit_planet, at_space, visit_space}
use Rattle.walk_links.specs.Does.{WalkDoes}
use Rattle.walk_links.specs.Reached.{WalkState, walk_at, walk_in, walk_of, WalkFits, walking, Visits}
use Rattle.rules_walk.specs.declared.Kind.TheVariants.{Space}
use Rattle.walk_links.specs.declared.Reach.{Reach}
use Rattle.walk_links.proofs.Does.{does-as, does-then, none-wrote, one-wrote}
use Rattle.walk_links.proofs.Links.{written-room}

-- a target's record
pub target-size : (i j : ℕ) → length (encode (Target i j)) ≡ 12
target-size i j = encode-size (Target i j) ∙ unfold size_of kind_of in refl

abbrev pub marked : Reach → Bool → Bool → Reach
marked s planet ended = record { count = s.count; walked = s.walked; spaces = s.spaces; planet = planet; ended = ended; used = s.used }

abbrev pub opened : Reach → ℕ → Reach
opened s used = record { count = s.count; walked = s.walked; spaces = s.spaces + 1; planet = s.planet; ended = s.ended; used = used }

-- ---- marks

module _ (n : ℕ) (s : Reach) (w e : List ℕ) (h : WalkFits n (walk_at s w e)) (planet ended : Bool) where
  pub marked-fit : (g : Reach) → g ≡ marked s planet ended → WalkFits n (walk_at g w e)
  marked-fit g e = rw e (record { small = h.small; words = h.words; bytes = h.bytes; written = h.written; few = h.few; past = h.past; line = h.line })

  pub marks : (g : Reach) → g ≡ marked s planet ended → WalkDoes (walking n) (mark planet ended) (walk_at s w e) (walk_at g w e)
  marks g k = record {
    fit = marked-fit g k;
    kept = refl;
    new = [];
    wrote = rw k (none-wrote s.used e (written-room n (walk_at s w e) h));
    same = λ es. unfold walk_of in rw (k, append-nil es);
  }

-- ---- the space list

module _ (b : Board) (row : ℕ) (s : Reach) (w e : List ℕ) (h : WalkFits (turf_count b) (walk_at s w e)) (v : Visits Space b (walk_at s w e)) where
  abbrev n : ℕ
  n = turf_count b

  pub spaces_less : s.spaces < n
  spaces_less = omega (arith, v.counted, h.past, h.line.few)

  abbrev stored : List ℕ
  stored = set w (order_at n + s.spaces) row

  store : cut (walk_sizes n) stored ≡ set (cut (walk_sizes n) w) 2 (set (region (walk_sizes n) 2 w) s.spaces row)
  store = cut-set (walk_sizes n) w 2 s.spaces row (order_at n + s.spaces) (omega arith) spaces_less (omega arith)

  more : take (s.spaces + 1) (set (region (walk_sizes n) 2 w) s.spaces row) ≡ snoc (take s.spaces (region (walk_sizes n) 2 w)) row
  more = rw add-one (take-suc-set (region (walk_sizes n) 2 w) s.spaces row (omega (arith, spaces_less, cut-length (walk_sizes n) w 2 (omega arith) (omega (arith, h.words)))))

  pub target_room : s.used + 12 ≤ length e
  target_room = omega (arith, h.written, h.past, h.line.few, v.counted, v.room)

  module _ (g : Reach) (e' : List ℕ) (used : ℕ) (grown : g ≡ opened s used) (wr : Wrote (encode (Target (id_of b row) (id_of b row))) s.used used e e') where
    opens : (es : List Event) → walk_of n (walk_at g stored e') (snoc es (Target (id_of b row) (id_of b row))) ≡ at_space b row (walk_of n (walk_at s w e) es)
    unfolding walk_of at_space
    opens es = rw grown (ap (λ (rs : List (List ℕ)). walk_in rs (opened s used) (snoc es (Target (id_of b row) (id_of b row)))) store ∙ rw more)

    pub does-open : WalkDoes (walking n) (at_space b row) (walk_at s w e) (walk_at g stored e')
    does-open =
        let t : Event = Target (id_of b row) (id_of b row) in
        record {
          fit = record {
            small = h.small;
            words = rw length-set h.words;
            bytes = rw (grown, wrote-length wr) (omega (arith, v.room, spaces_less));
            written = rw grown (omega (arith, h.written, wr.end, target-size (id_of b row) (id_of b row)));
            few = rw grown (omega (arith, v.counted));
            past = rw grown h.past;
            line = rw grown (subst (λ (rs : List (List ℕ)). Line n s.count (get_or rs 0 []) (get_or rs 1 [])) (sym store) h.line);
          };
          kept = rw length-set (ap (λ (rs : List (List ℕ)). record { words = length w; beyond = get_or rs 3 [] }) store);
          new = t ∷ [];
          wrote = rw grown (one-wrote t wr);
          same = opens;
        }

-- ---- the visits

module _ (b : Board) (row : ℕ) where
  pub is_planetary : (get_or b.planetary row 0 ≡ 0 → ⊥) → true ≡ planetary b row
  unfolding planetary
  is_planetary h = sym (ap not (ne_eqb (get_or b.planetary row 0) 0 h))

  pub not_planetary : get_or b.planetary row 0 ≡ 0 → false ≡ planetary b row
  unfolding planetary
  not_planetary h = sym (ap not (eq-eqb (get_or b.planetary row 0) 0 h))

module _ (b : Board) (limit row : ℕ) where
  module _ (n : ℕ) (s : Reach) (w e : List ℕ) (h : WalkFits n (walk_at s w e)) where
    module _ (planet : Bool) (m : planet ≡ s.planet || planetary b row) (g : Reach) where
      pub planet-still : true ≡ immutable b row → g ≡ marked s planet true → WalkDoes (walking n) (visit_planet b limit row) (walk_at s w e) (walk_at g w e)
      planet-still i k = does-as (walking n) (marks n s w e h planet true g k) (λ es. unfold visit_planet walk_of in rw (← i, m))

      pub planet-on : false ≡ immutable b row → g ≡ marked s planet (not planet) → {a : WalkState} → WalkDoes (walking n) (spread b limit row) (walk_at g w e) a
          → WalkDoes (walking n) (visit_planet b limit row) (walk_at s w e) a
      planet-on i k d =
          does-as (walking n) (does-then (walking n) (spread b limit row) (marks n s w e h planet (not planet) g k) d)
          (λ es. unfold visit_planet walk_of in rw (← i, m))

    pub space-planet : true ≡ planetary b row → (g : Reach) → g ≡ marked s true true → WalkDoes (walking n) (visit_space b limit row) (walk_at s w e) (walk_at g w e)
    space-planet p g k = does-as (walking n) (marks n s w e h true true g k) (λ es. unfold visit_space in rw (← p))

    module _ (p : false ≡ planetary b row) where
      pub space-open : true ≡ immutable b row → {a : WalkState} → WalkDoes (walking n) (at_space b row) (walk_at s w e) a → WalkDoes (walking n) (visit_space b limit row) (walk_at s w e) a
      space-open i d = does-as (walking n) d (λ es. unfold visit_space in rw (← p, ← i))

      pub space-on : false ≡ immutable b row → {a : WalkState} → WalkDoes (walking n) (spread b limit row) (walk_at s w e) a → WalkDoes (walking n) (visit_space b limit row) (walk_at s w e) a
      space-on i d = does-as (walking n) d (λ es. unfold visit_space in rw (← p, ← i))
