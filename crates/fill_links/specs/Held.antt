-- How the work area holds a fill, and what a function of filling promises of it.
use Rattle.std.specs.Prelude.{ℕ, ◌+◌, ◌*◌, ◌≤◌, ◌<◌, ◌≡◌, List, [], ◌++◌, Bool, eqb, length, get_or, take, drop}
use Rattle.basics.specs.Regions.{cut}
use Rattle.basics.specs.Lists.{All, count}
use Rattle.index_set.specs.Line.{HoldsSet}
use Rattle.scratch.specs.Layout.{word_sizes, places_at, zone_nodes_at, Sizes, most_nodes, words_end}
use Rattle.rules_events.specs.Events.{encode_all}
use Rattle.events.specs.Area.{Wrote}
use Rattle.rules_events.specs.declared.Event.{Event}
use Rattle.rules_fill.specs.Fill.{Reach}
use Rattle.fill_links.specs.declared.Reached.{Reached}

-- ---- the words

-- what a fill leaves as it was: `before` are the nodes of the zones kept so far
pub record Still : Type 0 where
  pub reverse : List ℕ
  pub met : List ℕ
  pub fast : List ℕ
  pub list : List ℕ
  pub cursor : List ℕ
  pub live : List ℕ
  pub starts : List ℕ
  pub before : List ℕ
  pub rest : List ℕ

-- all that the words hold
pub record ReachView : Type 0 where
  pub reach : Reach
  pub still : Still

-- the arrays, where the zones kept so far have `kept` nodes, and the events es were written
abbrev pub reach_view_in : ℕ → Reached → List Event → List (List ℕ) → ReachView
reach_view_in kept s es ws = record {
  reach = record {
    found = get_or ws 7 [];
    queue = take s.queued (get_or ws 4 []);
    nodes = take s.nodes (drop kept (get_or ws 11 []));
    owner = get_or ws 0 [];
    ignored = s.ignored;
    events = es;
  };
  still = record {
    reverse = get_or ws 1 [];
    met = get_or ws 2 [];
    fast = get_or ws 3 [];
    list = get_or ws 6 [];
    cursor = get_or ws 8 [];
    live = get_or ws 9 [];
    starts = get_or ws 10 [];
    before = take kept (get_or ws 11 []);
    rest = get_or ws 12 [];
  };
}

-- the words, cut into them
unfoldable pub reach_view : ℕ → ℕ → ℕ → Reached → List ℕ → List Event → ReachView
reach_view n e kept s w es = reach_view_in kept s es (cut (word_sizes n e) w)

-- a step of the walk; all else stays
abbrev pub on_reach : (Reach → Reach) → ReachView → ReachView
on_reach f v = record { reach = f v.reach; still = v.still }

-- other marks and events
abbrev pub with_events : Bool → List Event → Reach → Reach
with_events ignored es r = record { found = r.found; queue = r.queue; nodes = r.nodes; owner = r.owner; ignored = ignored; events = es }

-- ---- what a function does

-- By the step f from what `v` shows to what `v'` shows, whatever events were written before; more events are written, and every other byte is as it was.
pub record FillDoes {S R : Type 0} (f : S → R) (v : List Event → S) (v' : List Event → R) (used used' : ℕ) (area area' : List ℕ) : Type 0 where
  pub more : List Event
  pub same : (es : List Event) → v' (es ++ more) ≡ f (v es)
  pub wrote : Wrote (encode_all more) used used' area area'

-- the words are long enough, and a node's place leads to it
pub record ReachFits (n e kept : ℕ) (s : Reached) (w : List ℕ) : Type 0 where
  pub sizes : Sizes n e
  pub words : words_end n e ≤ length w
  pub nodes : kept + s.nodes ≤ most_nodes n e
  pub queue : s.queued ≤ n
  pub line : HoldsSet n s.nodes (zone_nodes_at n e + kept) (places_at n e) w

-- how many are 0
unfoldable pub zeros : List ℕ → ℕ
zeros xs = count (λ x. eqb x 0) xs

-- What bounds a walk in zone z: a row is pushed, and asks for at most 16 bytes, only where it is found; a node beyond the first is at the end of a link that
-- had no owner.
pub record Bounds (n e z kept : ℕ) (fs qs ns os : List ℕ) (used : ℕ) (area : List ℕ) : Type 0 where
  pub zone : z < n
  pub marks : length fs ≡ n
  pub owners : length os ≡ e
  pub rows : All (λ r. r < n) qs
  pub line : length qs + zeros fs ≤ n
  pub nodes : kept + length ns + zeros os ≤ z + 1 + e
  pub bytes : used + 16 * zeros fs ≤ length area

-- the same of a walk
abbrev pub Bounded : ℕ → ℕ → ℕ → ℕ → Reach → ℕ → List ℕ → Type 0
Bounded n e z kept r used area = Bounds n e z kept r.found r.queue r.nodes r.owner used area

-- from s, w to s', w' by a step that writes no events
pub record Moves (n e kept : ℕ) (f : Reach → Reach) (s s' : Reached) (w w' : List ℕ) : Type 0 where
  pub fit : ReachFits n e kept s' w'
  pub used : s'.used ≡ s.used
  pub same : (es : List Event) → reach_view n e kept s' w' es ≡ on_reach f (reach_view n e kept s w es)

-- by a step that writes events alone
pub record Asks (f : Reach → Reach) (s s' : Reached) (area area' : List ℕ) : Type 0 where
  pub counts : (s'.queued ≡ s.queued) × (s'.nodes ≡ s.nodes)
  pub more : List Event
  pub same : (r : Reach) → r.ignored ≡ s.ignored → f r ≡ with_events s'.ignored (r.events ++ more) r
  pub wrote : Wrote (encode_all more) s.used s'.used area area'
  pub few : s'.used ≤ s.used + 8

-- by both
pub record Discovers (n e kept : ℕ) (f : Reach → Reach) (s s' : Reached) (w w' area area' : List ℕ) : Type 0 where
  pub fit : ReachFits n e kept s' w'
  pub does : FillDoes (on_reach f) (reach_view n e kept s w) (reach_view n e kept s' w') s.used s'.used area area'
  pub few : s'.used ≤ s.used + 16

-- by a step of the walk in zone z
pub record Reaches (n e z kept : ℕ) (f : Reach → Reach) (s s' : Reached) (w w' area area' : List ℕ) : Type 0 where
  pub fit : ReachFits n e kept s' w'
  pub bounds : Bounded n e z kept (reach_view n e kept s' w' []).reach s'.used area'
  pub does : FillDoes (on_reach f) (reach_view n e kept s w) (reach_view n e kept s' w') s.used s'.used area area'
