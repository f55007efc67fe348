-- A zone is read off three arrays past those that planning changes, so it stays what it was. Assumes nothing.
use Prim.Native.Nat.{ℕ, ◌+◌, ◌-◌, ◌≤◌, ◌<◌}
use native.Mathlib.Omega.{arith}
use mathlib.Core.Path.{◌≡◌, ap, ap₂, ◌∙◌, sym, subst}
use mathlib.Core.List.{List}
use lib.ListN.{length, get_or, take, drop}
use lib.Seq.{drop-drop}
use lib.Ieee.{Float, nan}
use Rattle.basics.specs.Regions.{region, base}
use Rattle.basics.proofs.Regions.{cut-get, region-part, later_same}
use Rattle.basics.proofs.Parts.{part-alike, take_in}
use Rattle.index_set.specs.Line.{Below}
use Rattle.scratch.specs.Layout.{word_sizes, plan_words, float_sizes, plan_floats, found_at, starts_at, zone_nodes_at, moles_at}
use Rattle.scratch.specs.View.{starts_in, nodes_in, moles_in}
use Rattle.rules_finish.specs.Turns.{Zone}
use Rattle.reverse_links.specs.Words.{Outside, But}
use Rattle.plan_state.specs.Held.{Area, area, plan_view, PlanFits, Frame, Nodes, nodes_of}
use Rattle.plan_state.proofs.Nodes.{rest-is}
use Rattle.fill_all.specs.Held.{zone_in}
use Rattle.plan_all.specs.Zones.{zone_of, nodes_from, PlanRoom, ZoneReady, Zoned}

-- ---- the same zones

pub record Alike (n e : ℕ) (w w' : List ℕ) (f f' : List Float) : Type 0 where
  pub starts : starts_in n e w' ≡ starts_in n e w
  pub nodes : nodes_in n e w' ≡ nodes_in n e w
  pub moles : moles_in n e f' ≡ moles_in n e f

module _ {n e : ℕ} {w w' : List ℕ} {f f' : List Float} (h : Alike n e w w' f f') where
  pub zone-alike : zone_of n e w' f' ≡ zone_of n e w f
  zone-alike = λ i. zone_in (h.starts i) (h.nodes i) (h.moles i)

  pub ready-alike : (z : ℕ) → ZoneReady n e z w f → ZoneReady n e z w' f'
  ready-alike z r =
      let s : nodes_from n e w' z ≡ nodes_from n e w z = ap (λ (l : List ℕ). get_or l z 0) h.starts in
      let t : nodes_from n e w' (z + 1) ≡ nodes_from n e w (z + 1) = ap (λ (l : List ℕ). get_or l (z + 1) 0) h.starts in
      record {
        some = omega (arith, r.some, s, t);
        few = omega (arith, r.few, s, t);
        within = omega (arith, r.within, t);
        rows = subst (Below n) (sym (ap (λ (g : ℕ → Zone). (g z).nodes) zone-alike)) r.rows;
      }

  pub zoned_alike : {zones : ℕ} → length w' ≡ length w → length f' ≡ length f → Zoned n e zones w f → Zoned n e zones w' f'
  zoned_alike l m z = record {
    room = record { sizes = z.room.sizes; words = omega (arith, z.room.words, l); floats = omega (arith, z.room.floats, m) };
    few = z.few;
    each = λ k i. ready-alike k (z.each k i);
  }

pub alike_then : {n e : ℕ} {w w' w'' : List ℕ} {f f' f'' : List Float} → Alike n e w w' f f' → Alike n e w' w'' f' f'' → Alike n e w w'' f f''
alike_then a b = record { starts = b.starts ∙ a.starts; nodes = b.nodes ∙ a.nodes; moles = b.moles ∙ a.moles }

-- an array past those that planning has is as it was where all past them is
region-later : {A : Type 0} (own all : List ℕ) (k : ℕ) (w w' : List A) → k < length all → base own (length own) ≤ base all k
    → region own (length own) w' ≡ region own (length own) w → region all k w' ≡ region all k w
region-later own all k w w' h l e =
    region-part all w' k h ∙ ap (take (get_or all k 0)) (later_same own (base all k) w w' l e) ∙ sym (region-part all w k h)

-- planning leaves the zones
pub frame-alike : {n e : ℕ} {a a' : Area} → Frame n e a a' → Alike n e a.words a'.words a.floats a'.floats
unfolding plan_view
frame-alike {n} {e} {a} {a'} fr = record {
  starts = region-later (plan_words n e) (word_sizes n e) 10 a.words a'.words (omega arith) (omega arith) fr.rest_w;
  nodes = region-later (plan_words n e) (word_sizes n e) 11 a.words a'.words (omega arith) (omega arith) fr.rest_w;
  moles = region-later (plan_floats n e) (float_sizes n e) 3 a.floats a'.floats (omega arith) (omega arith) fr.rest_f;
}

-- ---- a part beside the changed one

pub part_same : {lo hi : ℕ} {w w' : List ℕ} → But lo hi w w' → (at size : ℕ) → at + size ≤ length w
    → ((i : ℕ) → at ≤ i → i < at + size → Outside lo hi i) → take size (drop at w') ≡ take size (drop at w)
part_same {w = w} {w' = w'} b at size h out =
    part-alike at size w' w b.len (λ i k. b.same (at + i) (out (at + i) (omega arith) (omega (arith, k))))

-- an array of the whole call, likewise
pub region-same : {lo hi : ℕ} {w w' : List ℕ} (n e k : ℕ) → But lo hi w w' → k < length (word_sizes n e)
    → base (word_sizes n e) k + get_or (word_sizes n e) k 0 ≤ length w
    → ((i : ℕ) → base (word_sizes n e) k ≤ i → i < base (word_sizes n e) k + get_or (word_sizes n e) k 0 → Outside lo hi i)
    → region (word_sizes n e) k w' ≡ region (word_sizes n e) k w
region-same {w = w} {w' = w'} n e k b h l out =
    region-part (word_sizes n e) w' k h ∙ part_same b (base (word_sizes n e) k) (get_or (word_sizes n e) k 0) l out ∙ sym (region-part (word_sizes n e) w k h)

-- ---- what the code reads of zone z

module _ (n e z : ℕ) (w : List ℕ) (f : List Float) (h : z < n) where
  pub start-at : get_or w (starts_at n e + z) 0 ≡ nodes_from n e w z
  start-at = cut-get (word_sizes n e) w 0 10 z (starts_at n e + z) (omega arith) (omega arith) (omega arith)

  pub next-at : get_or w (starts_at n e + z + 1) 0 ≡ nodes_from n e w (z + 1)
  next-at = cut-get (word_sizes n e) w 0 10 (z + 1) (starts_at n e + z + 1) (omega arith) (omega arith) (omega arith)

  pub moles-at : get_or f (moles_at n e + z) nan ≡ (zone_of n e w f z).moles
  moles-at = cut-get (float_sizes n e) f nan 3 z (moles_at n e + z) (omega arith) h (omega arith)

  -- the nodes as planning takes them
  pub nodes-are : nodes_from n e w z ≤ nodes_from n e w (z + 1) → nodes_from n e w (z + 1) ≤ n + e
      → nodes_of n e (plan_view n e (area w f)) (zone_nodes_at n e + nodes_from n e w z) (nodes_from n e w (z + 1) - nodes_from n e w z) ≡ (zone_of n e w f z).nodes
  nodes-are up low =
      nodes-in (nodes_from n e w z) (nodes_from n e w (z + 1) - nodes_from n e w z) (omega (arith, up, low))
    where
      nodes-in : (s c : ℕ) → s + c ≤ n + e
          → take c (drop (zone_nodes_at n e + s - found_at n e) (plan_view n e (area w f)).rest_w) ≡ take c (drop s (nodes_in n e w))
      nodes-in s c l =
          let k : found_at n e + (zone_nodes_at n e + s - found_at n e) ≡ zone_nodes_at n e + s = omega arith in
          let at : base (word_sizes n e) 11 ≡ zone_nodes_at n e = omega arith in
          ap (λ (r : List ℕ). take c (drop (zone_nodes_at n e + s - found_at n e) r)) (rest-is n e (area w f))
          ∙ ap (take c) (drop-drop (zone_nodes_at n e + s - found_at n e) (found_at n e) w)
          ∙ ap (λ (m : ℕ). take c (drop m w)) k
          ∙ ap (take c) (sym (drop-drop s (zone_nodes_at n e) w))
          ∙ sym (take_in (drop (zone_nodes_at n e) w) s c (n + e) l)
          ∙ ap (λ (m : ℕ). take c (drop s (take (n + e) (drop m w)))) (sym at)
          ∙ ap (λ (x : List ℕ). take c (drop s x)) (sym (region-part (word_sizes n e) w 11 (omega arith)))

pub room-fit : {n e : ℕ} {w : List ℕ} {f : List Float} → PlanRoom n e w f → PlanFits n e (area w f)
room-fit r = record { words = omega (arith, r.words); floats = omega (arith, r.floats); turfs = r.sizes.turfs; links = r.sizes.links }

-- zone z as the code hands it on, with `s` where the starts are and `q` where the nodes are
module _ {n e z s : ℕ} {w : List ℕ} {f : List Float} (es : s ≡ starts_at n e) (h : z < n) (t : ZoneReady n e z w f) where
  from_is : get_or w (s + z) 0 ≡ nodes_from n e w z
  from_is = ap (λ (m : ℕ). get_or w (m + z) 0) es ∙ start-at n e z w f h

  to_is : get_or w (s + z + 1) 0 ≡ nodes_from n e w (z + 1)
  to_is = ap (λ (m : ℕ). get_or w (m + z + 1) 0) es ∙ next-at n e z w f h

  pub from-to : (get_or w (s + z) 0 < get_or w (s + z + 1) 0) × ((get_or w (s + z + 1) 0 ≤ n + e) × (get_or w (s + z + 1) 0 ≤ get_or w (s + z) 0 + n))
  from-to = (omega (arith, t.some, from_is, to_is), (omega (arith, t.within, to_is), omega (arith, t.few, from_is, to_is)))

  module _ {q : ℕ} (eq : q ≡ zone_nodes_at n e) where
    pub nodes-handed : nodes_of n e (plan_view n e (area w f)) (q + get_or w (s + z) 0) (get_or w (s + z + 1) 0 - get_or w (s + z) 0) ≡ (zone_of n e w f z).nodes
    nodes-handed =
        ap (λ (m : ℕ). nodes_of n e (plan_view n e (area w f)) (m + get_or w (s + z) 0) (get_or w (s + z + 1) 0 - get_or w (s + z) 0)) eq
        ∙ ap₂ (λ (x y : ℕ). nodes_of n e (plan_view n e (area w f)) (zone_nodes_at n e + x) (y - x)) from_is to_is
        ∙ nodes-are n e z w f h (omega (arith, t.some)) t.within

    pub handed : PlanRoom n e w f → Nodes n e (q + get_or w (s + z) 0) (get_or w (s + z + 1) 0 - get_or w (s + z) 0) (area w f)
    handed r = record {
      some = omega (arith, from-to.0);
      few = omega (arith, from-to.0, from-to.1.1);
      past = omega (arith, eq);
      room = omega (arith, eq, from-to.0, from-to.1.0, r.words);
      rows = subst (Below n) (sym nodes-handed) t.rows;
    }
