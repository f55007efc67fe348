-- The call: refused as its number says; else the walk's bytes stand at the area's start, and the scratch is cleared. Assumes nothing.
use Prim.Native.Nat.{ℕ, ◌+◌, ◌*◌, ◌≤◌, ◌<◌}
use native.Mathlib.Omega.{arith}
use mathlib.Core.Path.{◌≡◌, refl, ap, ◌∙◌, sym, subst}
use mathlib.Core.List.{List}
use lib.ListN.{length, drop}
use lib.Ieee.{Float}
use borrow.Author.Tests.{eq-eqb, ne_eqb}
use Rattle.basics.specs.Floats.{0f}
use Rattle.basics.specs.Regions.{region}
use Rattle.std.specs.Prelude.{Option, Some, None, Ok, Err}
use Rattle.basics.specs.Lists.{Found}
use Rattle.basics.proofs.Regions.{later_same}
use Rattle.rules_board.specs.Board.{Board, turf_count, link_count, row_of}
use Rattle.turfs.proofs.Accepted.{row_below}
use Rattle.rules_events.specs.Events.{encode_all}
use Rattle.events.specs.Area.{Wrote}
use Rattle.events.proofs.Sizes.{size}
use Rattle.rules_lent.specs.Lent.{Lent, Extra, no_extra, words_room, floats_room, refusal, after}
use Rattle.lent_room.specs.Areas.{cleared_first, Roomy}
use Rattle.lent.specs.Given.{lent, Given, Tests}
use Rattle.lent.specs.declared.ExtraTests.{ExtraTests}
use Rattle.lent.specs.Given.{number_of}
use Rattle.lent.specs.declared.Refusal.{Refusal}
use Rattle.lent.proofs.Told.{number-some}
use Rattle.call_answers.specs.Told.{planet_answer}
use Rattle.lent.proofs.Numbers.{bare, given, no_links, scratch_of}
use Rattle.lent.proofs.Passed.{passed}
use Rattle.scratch.specs.Layout.{walk_sizes, walk_room}
use Rattle.rules_walk.specs.Walk.{Walk}
use Rattle.walk_links.specs.Reached.{walk_of, Walked}
use Rattle.rules_walk.specs.declared.Kind.TheVariants.{Planet}
use Rattle.walk_links.specs.declared.Reach.{Reach}
use Rattle.walk_links.proofs.Does.{none-wrote}
use Rattle.walk_first.proofs.Whole.{ground-of, bare_ground, gasless}
use Rattle.rules_planet.specs.Planet.{planet_from, planet_walk, planet_room, planet_number, planet_done, planet_result}
use Rattle.call_planet_walk.specs.Ready.{Ready}
use Rattle.laws_planet.proofs.Room.{planet-room}

-- ---- the events

module _ (b : Board) (limit id : ℕ) where
  pub no_turf : (o : Option ℕ) → o ≡ row_of b id → o ≡ None → (e : List ℕ) → Wrote (encode_all (planet_walk b limit id)) 0 0 e e
  unfolding planet_walk planet_from
  no_turf o r q e = rw (← r, q) (none-wrote 0 e (omega arith))

  module _ (o : Option ℕ) (r : o ≡ row_of b id) (row : ℕ) (q : o ≡ Some row) where
    pub turf-row : row < turf_count b
    turf-row = subst (Found (λ r. r < turf_count b)) (sym r ∙ q) (row_below b id)

    pub from-turf : {g : Reach} {w w' e e' : List ℕ} → Walked Planet b limit row g w w' e e' → Wrote (encode_all (planet_walk b limit id)) 0 g.used e e'
    unfolding planet_walk planet_from walk_of
    from-turf d = rw (← r, q, ← ap (λ (v : Walk). v.events) d.same) d.wrote

-- no walk looks at the number of gases
bare_walk : (b : Board) (limit id : ℕ) → planet_walk (bare b) limit id ≡ planet_walk b limit id
unfolding planet_walk row_of
bare_walk b limit id = from (row_of b id)
  where
    from : (o : Option ℕ) → planet_from (bare b) limit o ≡ planet_from b limit o
    from None = unfold planet_from in refl
    from (Some r) = unfold planet_from in ap (λ (v : Walk). v.events) (gasless b Planet limit r)

-- ---- the answers

module _ (b : Board) (limit id : ℕ) (l : Lent) (t : ExtraTests) (number : ℕ) (q : Tests no_extra t) (r : (x : Extra) → Tests x t → number ≡ refusal b l (0 * link_count b + 12 * turf_count b) x) where
  number_is : number ≡ refusal b l (planet_room b) no_extra
  number_is = r no_extra q ∙ rw (no_links (link_count b) (12 * turf_count b))

  pub refused : (f : Refusal) → number ≡ number_of f → record { answer = planet_answer (Err f); lent = l } ≡ planet_result b limit id l
  unfolding planet_result planet_number
  refused f e = rw (← number_is, e, ne_eqb (number_of f) 0 (number-some f))

  module _ (z : number ≡ 0) where
    granted : Given b l (planet_room b)
    granted = given b l (planet_room b) no_extra (sym number_is ∙ z)

    pub ready : Ready (bare b) l.words l.area
    ready =
        let w : walk_room (turf_count b) ≤ words_room b = unfold words_room in omega arith in
        record {
          ground = bare_ground b (ground-of b granted.accepted.tables);
          ascend = granted.accepted.tables.ascend;
          words = omega (arith, w, granted.words);
          room = granted.area;
        }

    -- what `clear_scratch` asks
    pub roomy : (w₁ : List ℕ) → length w₁ ≡ length l.words → Roomy (bare b) w₁ l.floats
    roomy w₁ e = let s = scratch_of b l (planet_room b) granted in record { small = s.small; words = rw e s.words; floats = s.floats }

    module _ (bytes : ℕ) (e' : List ℕ) (wr : Wrote (encode_all (planet_walk (bare b) limit id)) 0 bytes l.area e') where
      wrote : Wrote (encode_all (planet_walk b limit id)) 0 bytes l.area e'
      wrote = rw bare_walk at wr

      pub few : bytes ≤ 49152
      few = omega (arith, wrote.end, planet-room b (passed b l (planet_room b) no_extra (sym number_is ∙ z)).board limit id, granted.accepted.tables.sizes.small.turfs)

      pub answered : (w₁ : List ℕ) → region (walk_sizes (turf_count b)) 3 w₁ ≡ region (walk_sizes (turf_count b)) 3 l.words → (w' : List ℕ) (f' : List Float)
          → w' ≡ cleared_first 0 (words_room (bare b)) w₁ → f' ≡ cleared_first 0f (floats_room (bare b)) l.floats
          → record { answer = planet_answer (Ok bytes); lent = lent l.gas e' w' f' } ≡ planet_result b limit id l
      unfolding planet_result planet_number planet_done after words_room floats_room
      answered w₁ same w' f' c d =
          let n = turf_count b in
          let m : ℕ = 16 * n + 4 * link_count b + 2 * length b.immutable + 16 in
          let s : drop m w₁ ≡ drop m l.words = later_same (walk_sizes n) m l.words w₁ (omega arith) same in
          let k : bytes ≡ size (planet_walk b limit id) = wrote.end ∙ omega arith in
          rw (← number_is, eq-eqb number 0 z, c, d, s, wrote.bytes, k)
