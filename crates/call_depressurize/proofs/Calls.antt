-- The call: refused as its number says; else the three walks one after the other, each past what the one before it wrote, and the scratch cleared. Assumes nothing.
use Prim.Native.Nat.{ℕ, ◌+◌, ◌*◌, ◌≤◌, ◌<◌}
use native.Mathlib.Omega.{arith}
use mathlib.Core.Path.{◌≡◌, refl, ap, ap₂, ◌∙◌, sym, subst}
use mathlib.Core.List.{List, [], ◌++◌, append_assoc, append-nil}
use mathlib.Core.Bool.{true, false}
use lib.ListN.{length, take, drop}
use lib.Seq.{length-take-le, get_or-take}
use lib.Ieee.{Float}
use borrow.Author.Tests.{eq-eqb, ne_eqb}
use Rattle.basics.specs.Floats.{0f}
use Rattle.basics.specs.Regions.{region}
use Rattle.std.specs.Prelude.{Option, Some, None, Ok, Err}
use Rattle.basics.specs.Lists.{Found}
use Rattle.basics.proofs.Regions.{cut-length, later_same}
use Rattle.rules_board.specs.Board.{Board, turf_count, link_count, immutable, links_of, row_of}
use Rattle.turfs.proofs.Accepted.{row_below}
use Rattle.turfs.proofs.Line.{Line}
use Rattle.rules_events.specs.declared.Event.{Event}
use Rattle.events.proofs.Areas.{wrote-length}
use Rattle.events.proofs.Sizes.{size}
use Rattle.index_set.proofs.Queue.{Below-at, all-below, all_apart}
use Rattle.rules_lent.specs.Lent.{Lent, Extra, no_extra, words_room, floats_room, refusal, after}
use Rattle.lent_room.specs.Areas.{cleared_first, Roomy}
use Rattle.lent.specs.Given.{lent, Given, Tests}
use Rattle.lent.specs.declared.ExtraTests.{ExtraTests}
use Rattle.lent.specs.Given.{number_of}
use Rattle.lent.specs.declared.Refusal.{Refusal}
use Rattle.lent.proofs.Told.{number-some}
use Rattle.lent.proofs.Numbers.{bare, given, no_links, scratch_of}
use Rattle.lent.proofs.Passed.{passed}
use Rattle.scratch.specs.Layout.{out_sizes, back_sizes, walk_room, out_room, back_room}
use Rattle.rules_walk.specs.Walk.{Walk, walk}
use Rattle.rules_walk.specs.Visit.{visit_space}
use Rattle.walk_links.specs.Reached.{walk_of, WalkStarts}
use Rattle.walk_links.specs.Reached as walks
use Rattle.rules_walk.specs.declared.Kind.TheVariants.{Space}
use Rattle.walk_links.specs.declared.Reach.{Reach}
use Rattle.walk_links.proofs.Does.{none-wrote, both-wrote}
use Rattle.walk_links.proofs.Links.{written-room}
use Rattle.walk_first.proofs.Whole.{ground-of, bare_ground, gasless}
use Rattle.rules_out.specs.Out.{out_to, out_link, out_row, out_next, outward}
use Rattle.walk_out.specs.Outed.{out_at, out_of, Opens, Outed}
use Rattle.walk_out.specs.declared.Front.{Front}
use Rattle.walk_back.specs.Backed.{BackAreas, back_areas, BackStarts, Backed}
use Rattle.walk_back.proofs.Signs.{fits-every}
use Rattle.rules_depressurize.specs.declared.Breach.{Breach}
use Rattle.rules_depressurize.specs.Depressurize.{Depressurized, way_back, from_walk, from_row, depressurize, depressurize_number, depressurize_done, depressurize_result}
use Rattle.call_depressurize.specs.Ended.{WalkHeld, Ended, Depressed}
use Rattle.call_answers.specs.declared.Outcome.TheVariants.{NoSpace, Planet, Emptied}
use Rattle.call_answers.specs.declared.Outcome.{Outcome}
use Rattle.call_answers.specs.Told.{outcome_number, depressurize_answer}
use Rattle.call_depressurize.specs.declared.Ending.{Ending}
use Rattle.laws_depressurize.proofs.Room.{space-walk, depressurize-room}

-- the areas that a call is lent
abbrev areas_of : Lent → BackAreas
areas_of l = back_areas l.gas l.words l.floats l.area

-- the way out looks at no number of gases
same-outward : (b : Board) (limit : ℕ) (space : List ℕ) (es : List Event) → outward (bare b) limit space es ≡ outward b limit space es
unfolding outward out_next out_row out_link out_to immutable links_of
same-outward b limit space es = refl

-- ---- from the first walk on

module _ (b : Board) (s : Reach) (gas : List Float) (e w : List ℕ) (f : List Float) (h : WalkHeld b s (back_areas gas w f e)) where
  abbrev n : ℕ
  n = turf_count b

  abbrev space : List ℕ
  space = take s.spaces (region (out_sizes n) 2 w)

  spaces_few : s.spaces ≤ n
  spaces_few = omega (arith, h.fit.few, h.fit.past, h.fit.line.few)

  pub opens : Opens (bare b) s.spaces s.used w e
  opens = record {
    ground = bare_ground b (ground-of b h.tables);
    list = record { small = h.fit.small; words = h.words; few = spaces_few; below = h.below; apart = h.apart };
    room = omega (arith, h.area);
    written = omega (arith, h.fit.written, h.fit.line.few);
  }

  space-length : length space ≡ s.spaces
  space-length = length-take-le s.spaces (region (out_sizes n) 2 w) (omega (arith, spaces_few, cut-length (out_sizes n) w 2 (omega arith) (omega (arith, h.words))))

  module _ (v : Breach) where
    -- nothing more is done
    stays : (o : Outcome) → ((es : List Event) → record { outcome = outcome_number o; gas = gas; events = es } ≡ from_walk b gas v (walk_of n (walks.walk_at s w e) es))
        → Ended b v s (record { outcome = o; used = s.used }) (back_areas gas w f e) (back_areas gas w f e)
    stays o same = record {
      words = refl;
      floats = refl;
      new = [];
      wrote = none-wrote s.used e (written-room n (walks.walk_at s w e) h.fit);
      same = λ es. ap (λ (fs : List Event). record { outcome = outcome_number o; gas = gas; events = fs }) (append-nil es) ∙ same es;
    }

    pub ended-planet : s.planet ≡ true → Ended b v s (record { outcome = Planet; used = s.used }) (back_areas gas w f e) (back_areas gas w f e)
    unfolding from_walk walk_of
    ended-planet p = stays Planet (λ es. rw p)

    module _ (p : s.planet ≡ false) where
      pub ended-none : s.spaces ≡ 0 → Ended b v s (record { outcome = NoSpace; used = s.used }) (back_areas gas w f e) (back_areas gas w f e)
      unfolding from_walk walk_of
      ended-none z = stays NoSpace (λ es. rw (p, eq-eqb (length space) 0 (space-length ∙ z)))

      module _ (z : s.spaces ≡ 0 → ⊥) (g : Front) (e₁ w₁ : List ℕ) (o : Outed (bare b) v.limit s.spaces s.used g w w₁ e e₁) where
        pub back_fits : BackStarts b g.count g.used (back_areas gas w₁ f e₁)
        back_fits = record {
          ground = ground-of b h.tables;
          few = o.fit.line.few;
          words = o.fit.words;
          floats = h.floats;
          bytes = omega (arith, h.area, wrote-length o.wrote);
          written = omega (arith, o.fit.written, o.fit.line.few);
          total = h.count;
          gas = h.clear;
          order = λ i k. rw (← get_or-take g.count (region (out_sizes n) 2 w₁) i 0 k) (Below-at n (take g.count (region (out_sizes n) 2 w₁)) i o.fit.line.rows (omega (arith, k, o.fit.line.few, o.fit.line.queue_n, length-take-le g.count (region (out_sizes n) 2 w₁) (omega (arith, o.fit.line.few, o.fit.line.queue_n)))));
          directed = o.fit.directed;
        }

        module _ (to : ℕ) (gas' : List Float) (e₂ w₂ : List ℕ) (f₂ : List Float) (k : Backed b v.arrows g.count g.used to (back_areas gas w₁ f e₁) (back_areas gas' w₂ f₂ e₂)) where
          came : (es : List Event) → out_of n (out_at g w₁ e₁) (es ++ o.new) ≡ outward b v.limit space es
          came es = o.same es ∙ same-outward b v.limit space es

          done : (es : List Event) → record { outcome = 2; gas = gas'; events = es ++ (o.new ++ k.new) } ≡ way_back b v.arrows gas (out_of n (out_at g w₁ e₁) (es ++ o.new))
          unfolding way_back out_of
          done es =
              let q = k.same (es ++ o.new) in
              ap₂ (λ (x : List Float) (fs : List Event). record { outcome = 2; gas = x; events = fs }) q.1 (sym (append_assoc es o.new k.new) ∙ q.0)

          from : (es : List Event) → way_back b v.arrows gas (outward b v.limit space es) ≡ from_walk b gas v (walk_of n (walks.walk_at s w e) es)
          unfolding from_walk walk_of
          from es = rw (p, ne_eqb (length space) 0 (λ x. z (sym space-length ∙ x)))

          pub ended-done : Ended b v s (record { outcome = Emptied; used = to }) (back_areas gas w f e) (back_areas gas' w₂ f₂ e₂)
          ended-done = record {
            words = k.words ∙ o.beyond;
            floats = k.floats;
            new = o.new ++ k.new;
            wrote = both-wrote o.new k.new o.wrote k.wrote;
            same = λ es. done es ∙ ap (way_back b v.arrows gas) (came es) ∙ from es;
          }

-- ---- from the id

module _ (b : Board) (l : Lent) (z : refusal b l (84 * turf_count b) no_extra ≡ 0) where
  abbrev m : ℕ
  m = turf_count b

  pub granted : Given b l (84 * m)
  granted = given b l (84 * m) no_extra z

  pub starts : (row : ℕ) → row < m → WalkStarts Space (bare b) row l.words l.area
  starts row r =
      let w : walk_room m ≤ words_room b = unfold words_room in omega arith in
      record {
        ground = bare_ground b (ground-of b granted.accepted.tables);
        inside = r;
        words = omega (arith, w, granted.words);
        room = omega (arith, granted.area);
      }

  module _ (v : Breach) where
    pub no_turf : (o : Option ℕ) → o ≡ row_of b v.id → o ≡ None → Depressed b v (record { outcome = NoSpace; used = 0 }) (areas_of l) (areas_of l)
    unfolding depressurize from_row
    no_turf o r q = record {
      words = refl;
      floats = refl;
      events = [];
      wrote = none-wrote 0 l.area (omega arith);
      same = rw (← r, q);
    }

    module _ (o : Option ℕ) (r : o ≡ row_of b v.id) (row : ℕ) (q : o ≡ Some row) where
      pub turf-row : row < m
      turf-row = subst (Found (λ r. r < m)) (sym r ∙ q) (row_below b v.id)

      module _ (s : Reach) (e₁ w₁ : List ℕ) (d : walks.Walked Space (bare b) v.limit row s l.words w₁ l.area e₁) where
        view : walk_of m (walks.walk_at s w₁ e₁) d.events ≡ walk b (visit_space b v.limit) row
        view = d.same ∙ gasless b Space v.limit row

        line : Line b (take s.spaces (region (out_sizes m) 2 w₁))
        unfolding walk_of
        line = subst (λ (x : Walk). Line b x.space) (sym view) (space-walk b (passed b l (84 * m) no_extra z).board v.limit row turf-row).space

        pub walked : WalkHeld b s (back_areas l.gas w₁ l.floats e₁)
        walked =
            let ws : out_room m ≤ words_room b = unfold words_room in omega arith in
            let fs : back_room m ≤ floats_room b = unfold floats_room in omega arith in
            record {
              tables = granted.accepted.tables;
              fit = d.fit;
              count = granted.accepted.count;
              clear = fits-every l.gas granted.accepted.amounts;
              area = omega (arith, granted.area, wrote-length d.wrote);
              words = omega (arith, ws, granted.words, d.words);
              floats = omega (arith, fs, granted.floats);
              below = all-below m _ line.rows;
              apart = all_apart _ line.apart;
            }

        pub from-turf : (g : Ending) (gas' : List Float) (e₂ w₂ : List ℕ) (f₂ : List Float) → Ended b v s g (back_areas l.gas w₁ l.floats e₁) (back_areas gas' w₂ f₂ e₂)
            → Depressed b v g (areas_of l) (back_areas gas' w₂ f₂ e₂)
        from-turf g gas' e₂ w₂ f₂ k = record {
          words = k.words ∙ ap (λ (x : List ℕ). drop m (drop m x)) d.beyond;
          floats = k.floats;
          events = d.events ++ k.new;
          wrote = both-wrote d.events k.new d.wrote k.wrote;
          same = k.same d.events ∙ ap (from_walk b l.gas v) view ∙ from;
        }
          where
            from : from_walk b l.gas v (walk b (visit_space b v.limit) row) ≡ depressurize b l.gas v
            from = unfold depressurize from_row in rw (← r, q)

-- ---- the answers

module _ (b : Board) (v : Breach) (l : Lent) (t : ExtraTests) (number : ℕ) (q : Tests no_extra t) (r : (x : Extra) → Tests x t → number ≡ refusal b l (0 * link_count b + 84 * turf_count b) x) where
  number_is : number ≡ refusal b l (84 * turf_count b) no_extra
  number_is = r no_extra q ∙ rw (no_links (link_count b) (84 * turf_count b))

  pub refused : (f : Refusal) → number ≡ number_of f → record { answer = depressurize_answer (Err f); lent = l } ≡ depressurize_result b v l
  unfolding depressurize_result depressurize_number
  refused f e = rw (← number_is, e, ne_eqb (number_of f) 0 (number-some f))

  module _ (z : number ≡ 0) where
    pub is_zero : refusal b l (84 * turf_count b) no_extra ≡ 0
    is_zero = sym number_is ∙ z

    given-all : Given b l (84 * turf_count b)
    given-all = granted b l is_zero

    -- what `clear_scratch` asks
    pub roomy : (w₁ : List ℕ) (f₁ : List Float) → length w₁ ≡ length l.words → length f₁ ≡ length l.floats → Roomy (bare b) w₁ f₁
    roomy w₁ f₁ c k = let s = scratch_of b l (84 * turf_count b) given-all in record { small = s.small; words = rw c s.words; floats = rw k s.floats }

    module _ (g : Ending) (gas' : List Float) (e' w₁ : List ℕ) (f₁ : List Float) (d : Depressed b v g (areas_of l) (back_areas gas' w₁ f₁ e')) where
      bytes-is : g.used ≡ size (depressurize b l.gas v).events
      bytes-is = d.wrote.end ∙ omega (arith, ap (λ (o : Depressurized). size o.events) d.same)

      pub few : g.used ≤ 344064
      few = omega (arith, bytes-is, depressurize-room b (passed b l (84 * turf_count b) no_extra is_zero).board l.gas v, given-all.accepted.tables.sizes.small.turfs)

      pub answered : (w' : List ℕ) (f' : List Float)
          → w' ≡ cleared_first 0 (words_room (bare b)) w₁ → f' ≡ cleared_first 0f (floats_room (bare b)) f₁
          → record { answer = depressurize_answer (Ok (record { outcome = g.outcome; bytes = g.used })); lent = lent gas' e' w' f' } ≡ depressurize_result b v l
      unfolding depressurize_result depressurize_number depressurize_done after words_room floats_room
      answered w' f' c k =
          let n = turf_count b in
          let i : ℕ = 16 * n + 4 * link_count b + 2 * length b.immutable + 16 in
          let j : ℕ = 4 * n + 2 * link_count b in
          let s : drop i w₁ ≡ drop i l.words = later_same (out_sizes n) i l.words w₁ (omega arith) d.words in
          let t : drop j f₁ ≡ drop j l.floats = later_same (back_sizes n) j l.floats f₁ (omega arith) d.floats in
          let u : g.used ≡ size d.events = d.wrote.end ∙ omega arith in
          rw (← number_is, eq-eqb number 0 z, c, k, s, t, d.wrote.bytes, u, ← d.same)
