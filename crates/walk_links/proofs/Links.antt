-- One link of a turf: a row that is new is put at the queue's end and given its place, and the rest of the scratch stands. Assumes nothing.
use Prim.Native.Nat.{ℕ, ◌+◌, ◌≤◌, ◌<◌}
use native.Mathlib.Omega.{arith}
use mathlib.Core.Path.{◌≡◌, refl, ap, ◌∙◌, sym, subst}
use mathlib.Core.List.{List, [], ◌∷◌, ◌++◌, append-nil}
use mathlib.Core.Bool.{true, false}
use lib.ListN.{length, get_or, take, set, length-set}
use Rattle.basics.specs.Loops.{member, snoc}
use Rattle.basics.specs.Regions.{cut, region}
use Rattle.basics.proofs.Regions.{cut-set}
use Rattle.rules_board.specs.Board.{Board, turf_count, id_of, lock_bit, firelock}
use Rattle.rules_events.specs.Events.{encode, encode_all, kind_of, size_of}
use Rattle.events.specs.Area.{Wrote}
use Rattle.rules_events.specs.declared.Event.{Event}
use Rattle.rules_events.specs.declared.Event.TheVariants.{Firelock}
use Rattle.events.proofs.Areas.{wrote-length}
use Rattle.events.proofs.Sizes.{encode-size}
use Rattle.index_set.specs.Line.{array, Line}
use Rattle.index_set.proofs.Queue.{count-below, take_more, line-more}
use Rattle.scratch.specs.Layout.{walk_sizes, spots_at}
use Rattle.rules_walk.specs.Walk.{Walk, walk_link}
use Rattle.walk_links.specs.Does.{WalkDoes}
use Rattle.walk_links.specs.Reached.{WalkState, walk_at, walk_in, walk_of, WalkRest, WalkFits, walking, Leads}
use Rattle.walk_links.specs.declared.Reach.{Reach}
use Rattle.walk_links.proofs.Does.{does-none, none-wrote, one-wrote, Going}

-- what is written stands in the area
pub written-room : (n : ℕ) (a : WalkState) → WalkFits n a → a.reach.used ≤ length a.area
written-room n a h = omega (arith, h.bytes, h.written, h.line.few)

-- no step changes a length
pub kept-words : {f f₀ : Walk → Walk} {n : ℕ} {a a' : WalkState} → Going (walking n) f f₀ a a' → length a'.words ≡ length a.words
kept-words g = ap (λ (r : WalkRest). r.words) g.kept

pub kept-area : {f f₀ : Walk → Walk} {n : ℕ} {a a' : WalkState} → Going (walking n) f f₀ a a' → length a'.area ≡ length a.area
kept-area g = wrote-length g.wrote

-- a firelock's record
pub lock_size : (i j : ℕ) → length (encode (Firelock i j)) ≡ 12
lock_size i j = encode-size (Firelock i j) ∙ unfold size_of kind_of in refl

-- one more turf in the queue
abbrev pub joined : Reach → ℕ → Reach
joined s used = record { count = s.count + 1; walked = s.walked; spaces = s.spaces; planet = s.planet; ended = s.ended; used = used }

-- the same of the walk, with these events
abbrev pub joins : ℕ → List Event → Walk → Walk
joins a es v = record { queue = snoc v.queue a; walked = v.walked; space = v.space; planet = v.planet; ended = v.ended; events = v.events ++ es }

-- the words once the row a has joined n turfs' queue
abbrev pub stored : ℕ → ℕ → Reach → List ℕ → List ℕ
stored n a s w = set (set w (0 + s.count) a) (spots_at n + a) s.count

-- the row a, which is new, joins
module _ (n a : ℕ) (s : Reach) (w e : List ℕ) (h : WalkFits n (walk_at s w e)) (below : a < n) (new : false ≡ member a (take s.count (array n 0 w))) where
  pub count_less : s.count < n
  count_less = count-below h.line a below (sym new)

  pub lock_room : s.used + 12 ≤ length e
  lock_room = omega (arith, count_less, h.written, h.bytes)

  stores : cut (walk_sizes n) (stored n a s w) ≡ set (set (cut (walk_sizes n) w) 0 (set (region (walk_sizes n) 0 w) s.count a)) 1 (set (region (walk_sizes n) 1 w) a s.count)
  stores =
      cut-set (walk_sizes n) (set w (0 + s.count) a) 1 a s.count (spots_at n + a) (omega arith) below (omega arith)
      ∙ ap (λ rs. set rs 1 (set (get_or rs 1 []) a s.count)) (cut-set (walk_sizes n) w 0 s.count a (0 + s.count) (omega arith) count_less (omega arith))

  module _ (g : Reach) (w' e' : List ℕ) (used : ℕ) (grown : g ≡ joined s used) (put : w' ≡ stored n a s w) where
    joins_view : (es fs : List Event) → walk_of n (walk_at g w' e') (es ++ fs) ≡ joins a fs (walk_of n (walk_at s w e) es)
    unfolding walk_of
    joins_view es fs = rw (grown, put) (ap (λ (rs : List (List ℕ)). walk_in rs (joined s used) (es ++ fs)) stores ∙ rw (take_more h.line a below (sym new)))

    -- a step that joins the row does so
    pub does-join : (f : Walk → Walk) (fs : List Event) → Wrote (encode_all fs) s.used used e e' → used ≤ s.used + 12
        → ((es : List Event) → joins a fs (walk_of n (walk_at s w e) es) ≡ f (walk_of n (walk_at s w e) es)) → WalkDoes (walking n) f (walk_at s w e) (walk_at g w' e')
    does-join f fs wr u is = record {
      fit = record {
        small = h.small;
        words = rw (put, length-set, length-set) h.words;
        bytes = rw (grown, wrote-length wr) h.bytes;
        written = rw grown (omega (arith, h.written));
        few = rw grown h.few;
        past = rw grown (omega (arith, h.past));
        line = rw (grown, put) (subst (λ (rs : List (List ℕ)). Line n (s.count + 1) (get_or rs 0 []) (get_or rs 1 [])) (sym stores) (line-more h.line a below (sym new)));
      };
      kept = rw (put, length-set, length-set) (ap (λ (rs : List (List ℕ)). record { words = length w; beyond = get_or rs 3 [] }) stores);
      new = fs;
      wrote = rw grown wr;
      same = λ es. joins_view es fs ∙ is es;
    }

  -- nothing is written
  pub join_open : (f : Walk → Walk) (g : Reach) (w' : List ℕ) → g ≡ joined s s.used → w' ≡ stored n a s w
      → ((es : List Event) → joins a [] (walk_of n (walk_at s w e) es) ≡ f (walk_of n (walk_at s w e) es)) → WalkDoes (walking n) f (walk_at s w e) (walk_at g w' e)
  join_open f g w' gr put is = does-join g w' e s.used gr put f [] (none-wrote s.used e (written-room n (walk_at s w e) h)) (omega arith) is

module _ (b : Board) (row k a : ℕ) (leads : Leads b k a) (s : Reach) (w e : List ℕ) (h : WalkFits (turf_count b) (walk_at s w e)) where
  abbrev n : ℕ
  n = turf_count b

  pub link-old : true ≡ member a (take s.count (array n 0 w)) → WalkDoes (walking n) (walk_link b row k) (walk_at s w e) (walk_at s w e)
  unfolding walk_of walk_link
  link-old t = does-none (walking n) (walk_link b row k) h (written-room n (walk_at s w e) h) (λ es. rw (← leads.end, ← t))

  module _ (below : a < n) (new : false ≡ member a (take s.count (array n 0 w))) where
    pub link-open : false ≡ lock_bit (get_or b.link_flags k 0) → (g : Reach) (w' : List ℕ) → g ≡ joined s s.used → w' ≡ stored n a s w
        → WalkDoes (walking n) (walk_link b row k) (walk_at s w e) (walk_at g w' e)
    unfolding walk_of walk_link firelock
    link-open l g w' gr put = join_open n a s w e h below new (walk_link b row k) g w' gr put (λ es. rw (← leads.end, ← new, ← l, append-nil es))

    pub link-locked : true ≡ lock_bit (get_or b.link_flags k 0) → (g : Reach) (w' e' : List ℕ) (used : ℕ) → g ≡ joined s used → w' ≡ stored n a s w
        → Wrote (encode (Firelock (id_of b row) (id_of b a))) s.used used e e'
        → WalkDoes (walking n) (walk_link b row k) (walk_at s w e) (walk_at g w' e')
    unfolding walk_of walk_link firelock
    link-locked l g w' e' used gr put wr =
        let f : Event = Firelock (id_of b row) (id_of b a) in
        does-join n a s w e h below new g w' e' used gr put (walk_link b row k) (f ∷ []) (one-wrote f wr) (omega (arith, wr.end, lock_size (id_of b row) (id_of b a))) (λ es. rw (← leads.end, ← new, ← l))
