-- One pop: a popped turf ends the fill, by the clock or at the planet limit, or its links are walked. Assumes nothing.
use Prim.Native.Nat.{ℕ, ◌+◌, ◌≤◌, ◌<◌}
use native.Mathlib.Omega.{arith}
use mathlib.Core.Path.{◌≡◌, refl, ap, ◌∙◌, sym, subst}
use mathlib.Core.List.{List, []}
use mathlib.Core.Bool.{Bool, true, false, not, ◌&&◌, ◌||◌, cond}
use lib.Dec.{eqb, ltb}
use lib.Ieee.{Float}
use lib.ListN.{length, get_or}
use lib.Seq.{get_or-take}
use borrow.Author.Tests.{lt-ltb, le-ltb}
use Rattle.basics.specs.Loops.{run}
use Rattle.basics.specs.Floats.{◌+f◌}
use Rattle.basics.proofs.Loops.{All-get_or}
use Rattle.scratch.specs.Layout.{queue_at}
use Rattle.scratch.specs.View.{queue_in}
use Rattle.rules_board.specs.Board.{Board, turf_count, link_count, planetary, links_of}
use Rattle.rules_mixture.specs.Mixture.{total}
use Rattle.rules_events.specs.declared.Event.{Event}
use Rattle.rules_fill.specs.Fill.{Reach, Fill, is_on, end_fill, reach_link, expand, pop, pop_next}
use Rattle.fill_links.specs.Held.{reach_view, on_reach, ReachFits, Bounded, FillDoes, Reaches}
use Rattle.rules_fill.specs.declared.Going.{Going}
use Rattle.rules_fill.specs.declared.Going.TheVariants.{On, Broken, Over}
use Rattle.fill_links.specs.declared.Reached.{Reached}
use Rattle.fill_links.proofs.Does.{does-plain, does-as}
use Rattle.fill_links.proofs.Stores.{queue-at}
use Rattle.fill_links.proofs.Links.{queue-length, nodes-length}
use Rattle.fill_zone.specs.Held.{FillView, fill_in, fill_view, on_fill, Floods, Moved}
use Rattle.fill_zone.specs.declared.Flood.{Flood}

-- ---- the definition's pop

module _ (b : Board) (gas : List Float) (limit allowance z : ℕ) (s : Fill) (on : s.state ≡ On) (there : s.popped < length s.reach.queue) where
  abbrev r : ℕ
  r = get_or s.reach.queue s.popped 0

  pops : pop b gas limit allowance z r s ≡ pop_next b gas limit allowance z s
  unfolding pop_next
  pops = rw (on, lt-ltb _ _ there)

  over : allowance < s.tests + 1 → end_fill Over s.planet s ≡ pop b gas limit allowance z r s
  unfolding pop
  over l = rw (lt-ltb allowance (s.tests + 1) l)

  pub next-over : allowance < s.tests + 1 → end_fill Over s.planet s ≡ pop_next b gas limit allowance z s
  next-over l = over l ∙ pops

  module _ (l : s.tests + 1 ≤ allowance) (planet : Bool) (p : planet ≡ s.planet || planetary b r) where
    in-time : cond (planet && ltb limit (length s.reach.nodes)) (end_fill Broken planet s) (expand b gas limit allowance z r planet s) ≡ pop b gas limit allowance z r s
    unfolding pop
    in-time = rw (le-ltb allowance (s.tests + 1) l, p)

    pub next-broken : (planet && ltb limit (length s.reach.nodes)) ≡ true → end_fill Broken planet s ≡ pop_next b gas limit allowance z s
    next-broken t = ap (λ (c : Bool). cond c (end_fill Broken planet s) (expand b gas limit allowance z r planet s)) (sym t) ∙ in-time ∙ pops

    pub next-expand : (planet && ltb limit (length s.reach.nodes)) ≡ false → expand b gas limit allowance z r planet s ≡ pop_next b gas limit allowance z s
    next-expand t = ap (λ (c : Bool). cond c (end_fill Broken planet s) (expand b gas limit allowance z r planet s)) (sym t) ∙ in-time ∙ pops

-- ---- a step of the walk as a step of the fill

module _ (n e kept : ℕ) (f : Reach → Reach) (g : Fill → Fill) (t t' : Flood) (w w' : List ℕ) where
  pub does-fill : {i j : ℕ} {a a' : List ℕ} → FillDoes (on_reach f) (reach_view n e kept t.reach w) (reach_view n e kept t'.reach w') i j a a'
      → ((es : List Event) → record { reach = f (reach_view n e kept t.reach w es).reach; popped = t'.popped; moles = t'.moles; planet = t'.planet; tests = t'.tests; state = t'.state }
      ≡ g (fill_view n e kept t w es).fill)
      → FillDoes (on_fill g) (fill_view n e kept t w) (fill_view n e kept t' w') i j a a'
  does-fill d s = record {
    more = d.more;
    same = λ es. ap (fill_in t') (d.same es) ∙ ap (λ (x : Fill). on_fill (λ _. x) (fill_view n e kept t w es)) (s es);
    wrote = d.wrote;
  }

-- ---- what the code reads

module _ {n e z kept : ℕ} {s : Reached} {w area : List ℕ} (h : ReachFits n e kept s w) (b : Bounded n e z kept (reach_view n e kept s w []).reach s.used area) (p : ℕ) (l : p < s.queued) (at : ℕ) (ea : at ≡ queue_at n e) where
  pub row_at : (es : List Event) → get_or w (at + p) 0 ≡ get_or (reach_view n e kept s w es).reach.queue p 0
  unfolding reach_view
  row_at es = queue-at n e w h.words p (at + p) (omega arith) (omega (arith, h.queue)) ∙ sym (get_or-take s.queued (queue_in n e w) p 0 l)

  pub row_below : get_or w (at + p) 0 < n
  row_below = rw (row_at []) (All-get_or (λ x. x < n) (reach_view n e kept s w []).reach.queue p 0 b.rows (rw (queue-length h []) l))

-- ---- a turf that ends the fill

module _ {n e z kept : ℕ} {t : Flood} {w area : List ℕ} (h : ReachFits n e kept t.reach w) (b : Bounded n e z kept (reach_view n e kept t.reach w []).reach t.reach.used area) where
  pub floods_end : (f : Fill → Fill) (g : Going) (planet : Bool) (r : Flood) → r ≡ record { reach = t.reach; popped = t.popped + 1; moles = t.moles; planet = planet; tests = t.tests + 1; state = g }
      → ((es : List Event) → end_fill g planet (fill_view n e kept t w es).fill ≡ f (fill_view n e kept t w es).fill) → Floods n e z kept f t r w w area area
  unfolding end_fill
  floods_end f g planet r er s = subst (λ (x : Flood). Floods n e z kept f t x w w area area) (sym er) (record {
    fit = h;
    bounds = b;
    does = does-plain (omega (arith, b.bytes)) (λ es. ap (λ (x : Fill). on_fill (λ _. x) (fill_view n e kept t w es)) (s es));
  })

-- ---- a turf that is expanded

pub floods_expand : (b : Board) (gas : List Float) (limit allowance z kept row : ℕ) (planet : Bool) (x : Float) (t r : Flood) {w w' area area' : List ℕ} → x ≡ total b gas row → (s : Reached)
    → Reaches (turf_count b) (link_count b) z kept (λ q. run (reach_link b z row) (links_of b row) q) t.reach s w w' area area'
    → r ≡ record { reach = s; popped = t.popped + 1; moles = t.moles +f x; planet = planet; tests = t.tests + 1; state = On }
    → Floods (turf_count b) (link_count b) z kept (expand b gas limit allowance z row planet) t r w w' area area'
floods_expand b gas limit allowance z kept row planet x t r {w} {w'} {area} {area'} ex s d er =
    let n : ℕ = turf_count b in
    let e : ℕ = link_count b in
    let r₁ : Flood = record { reach = s; popped = t.popped + 1; moles = t.moles +f x; planet = planet; tests = t.tests + 1; state = On } in
    subst (λ (y : Flood). Floods n e z kept (expand b gas limit allowance z row planet) t y w w' area area') (sym er) (record {
      fit = d.fit;
      bounds = d.bounds;
      does = does-fill n e kept (λ q. run (reach_link b z row) (links_of b row) q) (expand b gas limit allowance z row planet) t r₁ w w' d.does
          (λ es. unfold expand in rw ex);
    })

-- ---- what a pop comes to

ended-moved : (allowance : ℕ) (t r : Flood) (planet : Bool) (g : Going) → is_on g ≡ false → r ≡ record { reach = t.reach; popped = t.popped + 1; moles = t.moles; planet = planet; tests = t.tests + 1; state = g } → Moved allowance t r
ended-moved allowance t r planet g o e = record { popped = ap (λ (x : Flood). x.popped) e; clock = λ on. absurd (no (ap is_on (sym on ∙ ap (λ (x : Flood). x.state) e) ∙ o)) }
  where
    no : true ≡ false → ⊥
    no i = let q : ◌≡◌ {A = ℕ} 0 1 = cc in omega arith

module _ (b : Board) (gas : List Float) (limit allowance z kept : ℕ) (t : Flood) {w area : List ℕ} (h : ReachFits (turf_count b) (link_count b) kept t.reach w)
    (bd : Bounded (turf_count b) (link_count b) z kept (reach_view (turf_count b) (link_count b) kept t.reach w []).reach t.reach.used area) (on : t.state ≡ On) (l : t.popped < t.reach.queued) where
  abbrev at : List Event → Fill
  at es = (fill_view (turf_count b) (link_count b) kept t w es).fill

  there : (es : List Event) → t.popped < length (at es).reach.queue
  there es = rw (queue-length h es) l

  pub pop-over : allowance < t.tests + 1 → (r : Flood) → r ≡ record { reach = t.reach; popped = t.popped + 1; moles = t.moles; planet = t.planet; tests = t.tests + 1; state = Over }
      → Floods (turf_count b) (link_count b) z kept (pop_next b gas limit allowance z) t r w w area area × Moved allowance t r
  pop-over late r er = (
    floods_end h bd (pop_next b gas limit allowance z) Over t.planet r er (λ es. next-over b gas limit allowance z (at es) on (there es) late),
    ended-moved allowance t r t.planet Over refl er,
  )

  module _ (q : ℕ) (eq : q ≡ queue_at (turf_count b) (link_count b)) (early : t.tests + 1 ≤ allowance) (planet : Bool) (p : planet ≡ t.planet || not (eqb (get_or b.planetary (get_or w (q + t.popped) 0) 0) 0)) where
    marked : (es : List Event) → planet ≡ t.planet || planetary b (get_or (at es).reach.queue t.popped 0)
    unfolding planetary
    marked es = p ∙ ap (λ (x : ℕ). t.planet || not (eqb (get_or b.planetary x 0) 0)) (row_at h bd t.popped l q eq es)

    limited : (x : Bool) → x ≡ (planet && ltb limit t.reach.nodes) → (es : List Event) → (planet && ltb limit (length (at es).reach.nodes)) ≡ x
    limited x e es = ap (λ (k : ℕ). planet && ltb limit k) (nodes-length h es) ∙ sym e

    pub pop-broken : true ≡ (planet && ltb limit t.reach.nodes) → (r : Flood) → r ≡ record { reach = t.reach; popped = t.popped + 1; moles = t.moles; planet = planet; tests = t.tests + 1; state = Broken }
        → Floods (turf_count b) (link_count b) z kept (pop_next b gas limit allowance z) t r w w area area × Moved allowance t r
    pop-broken full r er = (
      floods_end h bd (pop_next b gas limit allowance z) Broken planet r er (λ es. next-broken b gas limit allowance z (at es) on (there es) early planet (marked es) (limited true full es)),
      ended-moved allowance t r planet Broken refl er,
    )

    pub pop-on : false ≡ (planet && ltb limit t.reach.nodes) → {r : Flood} {w' area' : List ℕ}
        → Floods (turf_count b) (link_count b) z kept (expand b gas limit allowance z (get_or w (q + t.popped) 0) planet) t r w w' area area'
        → Floods (turf_count b) (link_count b) z kept (pop_next b gas limit allowance z) t r w w' area area' × Moved allowance t r
    unfolding expand
    pop-on room {r} d = (
      record {
        fit = d.fit;
        bounds = d.bounds;
        does = does-as d.does (λ es. ap (λ (x : Fill). on_fill (λ _. x) (fill_view (turf_count b) (link_count b) kept t w es))
            (ap (λ (x : ℕ). expand b gas limit allowance z x planet (at es)) (row_at h bd t.popped l q eq es)
            ∙ next-expand b gas limit allowance z (at es) on (there es) early planet (marked es) (limited false room es)));
      },
      record {
        popped = ap (λ (v : FillView). v.fill.popped) (d.does.same []);
        clock = λ _. subst (λ (k : ℕ). k ≤ allowance) (sym (ap (λ (v : FillView). v.fill.tests) (d.does.same []))) early;
      },
    )
