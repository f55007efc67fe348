-- A turf joins the order: four stores, each in an array of its own. Assumes nothing.
use Prim.Native.Nat.{ℕ, ◌+◌, ◌≤◌, ◌<◌}
use native.Mathlib.Omega.{arith}
use native.Mathlib.Decide.{ℕ_discrete}
use mathlib.Core.Path.{◌≡◌, refl, ap, ◌∙◌, sym, subst}
use mathlib.Core.List.{List, [], ◌∷◌}
use mathlib.Core.Bool.{Bool, true, false}
use lib.ListN.{length, get_or, take, drop, set, length-set}
use lib.Seq.{get_or-set_same, get_or-set_other, drop-drop}
use Rattle.basics.specs.Loops.{member, snoc}
use Rattle.basics.specs.Regions.{cut, region}
use Rattle.basics.proofs.Regions.{cut-set, cut-get, cut-length}
use Rattle.rules_board.specs.Board.{Board, turf_count, id_of, end, immutable, neighbours_of}
use Rattle.rules_events.specs.Events.{encode}
use Rattle.events.specs.Area.{Wrote}
use Rattle.rules_events.specs.declared.Event.{Event}
use Rattle.rules_events.specs.declared.Event.TheVariants.{Target}
use Rattle.events.proofs.Areas.{wrote-length}
use Rattle.index_set.specs.Line.{Line, array, HoldsSet}
use Rattle.index_set.proofs.Queue.{count-below, take_more, line-more}
use Rattle.scratch.specs.Layout.{out_sizes, spots_at, order_at, ways_at, targets_at}
use Rattle.walk_links.specs.Does.{WalkDoes}
use Rattle.turfs.specs.Tables.{Near}
use Rattle.walk_links.proofs.Does.{does-none, does-as, one-wrote, Going}
use Rattle.walk_first.proofs.Visits.{target-size}
use Rattle.rules_out.specs.Out.{Out, out_to, out_link}
use Rattle.walk_out.specs.Outed.{OutState, out_at, out_in, out_of, OutRest, OutFits, outing, Joins}
use Rattle.walk_out.specs.declared.Front.{Front}
use Rattle.rules_out.specs.Worked as worked  -- checked before the laws

-- what is written stands in the area
pub written-room : (n : ℕ) (a : OutState) → OutFits n a → a.front.used ≤ length a.area
written-room n a h = omega (arith, h.bytes, h.written, h.line.few)

-- no step changes a length
pub kept-words : {f f₀ : Out → Out} {n : ℕ} {a a' : OutState} → Going (outing n) f f₀ a a' → length a'.words ≡ length a.words
kept-words g = ap (λ (r : OutRest). r.words) g.kept

pub kept-area : {f f₀ : Out → Out} {n : ℕ} {a a' : OutState} → Going (outing n) f f₀ a a' → length a'.area ≡ length a.area
kept-area g = wrote-length g.wrote

-- the order as a set of rows
order-array : (n order : ℕ) (w : List ℕ) → order ≡ order_at n → array n order w ≡ region (out_sizes n) 2 w
order-array n order w o =
    let q : order ≡ n + n = omega (arith, o) in
    ap (λ (k : ℕ). take n (drop k w)) q ∙ ap (take n) (sym (drop-drop n n w))

pub order-set : (n : ℕ) (s : Front) (w e : List ℕ) → OutFits n (out_at s w e) → (order spots : ℕ) → order ≡ order_at n → spots ≡ spots_at n → HoldsSet n s.count order spots w
order-set n s w e h order spots o p = record {
  room = (omega (arith, h.words, o), omega (arith, h.words, p));
  line = rw p (subst (λ (q : List ℕ). Line n s.count q (region (out_sizes n) 1 w)) (sym (order-array n order w o)) h.line);
}

-- the test for a member, by the set
pub order-member : (n : ℕ) (s : Front) (w : List ℕ) (a : ℕ) (t : Bool) (order : ℕ) → order ≡ order_at n → t ≡ member a (take s.count (array n order w)) → t ≡ member a (take s.count (region (out_sizes n) 2 w))
order-member n s w a t order o e = e ∙ ap (λ (q : List ℕ). member a (take s.count q)) (order-array n order w o)

-- the row a, which is new, joins
module _ (b : Board) (row a : ℕ) (s : Front) (w e : List ℕ) (j : Joins b row a (out_at s w e)) where
  abbrev n : ℕ
  n = turf_count b

  abbrev h : OutFits n (out_at s w e)
  h = j.fit

  pub count_less : s.count < n
  count_less = count-below h.line a j.inside j.new

  pub target_room : s.used + 12 ≤ length e
  target_room = omega (arith, count_less, h.written, h.bytes)

  module _ (order spots ways targets : ℕ) (at-order : order ≡ order_at n) (at-spots : spots ≡ spots_at n) (at-ways : ways ≡ ways_at n) (at-targets : targets ≡ targets_at n)
      (w₂ : List ℕ) (put : w₂ ≡ set (set w (order + s.count) a) (spots + a) s.count) where
    abbrev w₃ : List ℕ
    w₃ = set w₂ (ways + a) (row + 1)

    abbrev t : ℕ
    t = get_or w₃ (targets + row) 0

    abbrev stored : List ℕ
    stored = set w₃ (targets + a) t

    stores₃ : cut (out_sizes n) w₃
        ≡ set (set (set (cut (out_sizes n) w) 2 (set (region (out_sizes n) 2 w) s.count a)) 1 (set (region (out_sizes n) 1 w) a s.count)) 3 (set (region (out_sizes n) 3 w) a (row + 1))
    stores₃ =
        cut-set (out_sizes n) w₂ 3 a (row + 1) (ways + a) (omega arith) j.inside (omega (arith, at-ways))
        ∙ ap (λ (rs : List (List ℕ)). set rs 3 (set (get_or rs 3 []) a (row + 1)))
        (ap (cut (out_sizes n)) put
        ∙ cut-set (out_sizes n) (set w (order + s.count) a) 1 a s.count (spots + a) (omega arith) j.inside (omega (arith, at-spots))
        ∙ ap (λ (rs : List (List ℕ)). set rs 1 (set (get_or rs 1 []) a s.count)) (cut-set (out_sizes n) w 2 s.count a (order + s.count) (omega arith) count_less (omega (arith, at-order))))

    stores : cut (out_sizes n) stored ≡ set (cut (out_sizes n) w₃) 4 (set (region (out_sizes n) 4 w₃) a t)
    stores = cut-set (out_sizes n) w₃ 4 a t (targets + a) (omega arith) j.inside (omega (arith, at-targets))

    all-stores : cut (out_sizes n) stored
        ≡ (region (out_sizes n) 0 w ∷ set (region (out_sizes n) 1 w) a s.count ∷ set (region (out_sizes n) 2 w) s.count a ∷ set (region (out_sizes n) 3 w) a (row + 1) ∷ set (region (out_sizes n) 4 w) a t ∷ region (out_sizes n) 5 w ∷ [])
    all-stores = stores ∙ ap (λ (rs : List (List ℕ)). set rs 4 (set (get_or rs 4 []) a t)) stores₃

    target_is : t ≡ get_or (region (out_sizes n) 4 w) row 0
    target_is =
        cut-get (out_sizes n) w₃ 0 4 row (targets + row) (omega arith) j.from (omega (arith, at-targets))
        ∙ ap (λ (rs : List (List ℕ)). get_or (get_or rs 4 []) row 0) stores₃

    stored-length : length stored ≡ length w
    stored-length = length-set w₃ (targets + a) t ∙ length-set w₂ (ways + a) (row + 1) ∙ rw (put, length-set, length-set)

    directed : (x : ℕ) → get_or (set (region (out_sizes n) 3 w) a (row + 1)) x 0 ≤ n
    directed x = go (ℕ_discrete x a)
      where
        go : Dec (x ≡ a) → get_or (set (region (out_sizes n) 3 w) a (row + 1)) x 0 ≤ n
        go (yes q) = rw (q, get_or-set_same (region (out_sizes n) 3 w) a (row + 1) 0 (omega (arith, j.inside, cut-length (out_sizes n) w 3 (omega arith) (omega (arith, h.words))))) (omega (arith, j.from))
        go (no q) = rw (get_or-set_other (region (out_sizes n) 3 w) a x (row + 1) 0 q) (h.directed x)

    module _ (e' : List ℕ) (used : ℕ) (wr : Wrote (encode (Target (id_of b a) t)) s.used used e e') where
      abbrev g : Front
      g = record { count = s.count + 1; place = s.place; used = used }

      joins : (es : List Event) → out_of n (out_at g stored e') (snoc es (Target (id_of b a) t)) ≡ out_to b row a (out_of n (out_at s w e) es)
      unfolding out_of out_to
      joins es =
          ap (λ (rs : List (List ℕ)). out_in rs g (snoc es (Target (id_of b a) t))) all-stores
          ∙ rw (take_more h.line a j.inside j.new) (rw target_is)

      pub does-join : WalkDoes (outing n) (out_to b row a) (out_at s w e) (out_at g stored e')
      does-join = record {
        fit = record {
          small = h.small;
          words = rw stored-length h.words;
          bytes = rw (wrote-length wr) h.bytes;
          written = omega (arith, h.written, wr.end, target-size (id_of b a) t);
          past = omega (arith, h.past);
          line = subst (λ (rs : List (List ℕ)). Line n (s.count + 1) (get_or rs 2 []) (get_or rs 1 [])) (sym all-stores) (line-more h.line a j.inside j.new);
          directed = subst (λ (rs : List (List ℕ)). (x : ℕ) → get_or (get_or rs 3 []) x 0 ≤ n) (sym all-stores) directed;
        };
        kept = rw stored-length (ap (λ (rs : List (List ℕ)). record { words = length w; beyond = get_or rs 5 [] }) all-stores);
        new = Target (id_of b a) t ∷ [];
        wrote = one-wrote (Target (id_of b a) t) wr;
        same = joins;
      }

-- ---- one link

-- the part that is the neighbours of the turf at `row`, by the link that it starts at
pub near-here : {b : Board} {row : ℕ} {near : List ℕ} → near ≡ neighbours_of b row → Near b row (get_or b.starts row 0) near
near-here p = record { start = refl; part = p }

module _ (b : Board) (row k c : ℕ) (q : c ≡ end b k) (s : Front) (w e : List ℕ) (f : OutFits (turf_count b) (out_at s w e)) where
  abbrev m : ℕ
  m = turf_count b

  pub link-immutable : true ≡ immutable b c → WalkDoes (outing m) (out_link b row k) (out_at s w e) (out_at s w e)
  unfolding out_link
  link-immutable t = does-none (outing m) (out_link b row k) f (written-room m (out_at s w e) f) (λ es. rw (← q, ← t))

  module _ (o : false ≡ immutable b c) where
    pub link-old : true ≡ member c (take s.count (region (out_sizes m) 2 w)) → WalkDoes (outing m) (out_link b row k) (out_at s w e) (out_at s w e)
    unfolding out_link out_of
    link-old t = does-none (outing m) (out_link b row k) f (written-room m (out_at s w e) f) (λ es. rw (← q, ← o, ← t))

    pub link-new : false ≡ member c (take s.count (region (out_sizes m) 2 w)) → {a : OutState} → WalkDoes (outing m) (out_to b row c) (out_at s w e) a → WalkDoes (outing m) (out_link b row k) (out_at s w e) a
    unfolding out_link out_of
    link-new t d = does-as (outing m) d (λ es. rw (← q, ← o, ← t))
