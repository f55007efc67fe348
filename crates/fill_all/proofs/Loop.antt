-- The hot ids one after the other: where filling stands is where the definition stands on the hot ids so far, whose laws give each fill what it asks. Assumes nothing.
use Prim.Native.Nat.{ℕ, ◌+◌, ◌*◌, ◌≤◌, ◌<◌}
use native.Mathlib.Omega.{arith}
use native.Mathlib.Numerals.{add-one}
use mathlib.Core.Path.{◌≡◌, refl, ap, ap₂, ◌∙◌, sym, subst}
use mathlib.Core.List.{List, [], ◌∷◌, map}
use mathlib.Core.Bool.{Bool, true, false, not}
use lib.Dec.{eqb}
use lib.Ieee.{Float}
use lib.ListN.{length, get_or, take, drop, take-append-drop, length-replicate, length-map}
use lib.Seq.{take-suc, take_all, get_or-set_same}
use Rattle.basics.specs.Loops.{run, up_from}
use Rattle.basics.specs.Regions.{cut}
use Rattle.basics.proofs.Loops.{run-append}
use Rattle.basics.specs.Lists.{one, count}
use Rattle.basics.proofs.Lists.{up_from-length}
use Rattle.basics.proofs.Regions.{cut-length}
use Rattle.scratch.specs.Layout.{word_sizes, float_sizes}
use Rattle.scratch.specs.View.{owner_in, found_in, starts_in, nodes_in, moles_in}
use Rattle.rules_board.specs.Board.{Board, turf_count, link_count}
use Rattle.turfs.specs.Tables.{Accepted}
use Rattle.rules_events.specs.Events.{encode_all}
use Rattle.events.specs.Area.{Wrote}
use Rattle.rules_events.specs.declared.Event.{Event}
use Rattle.events.proofs.Areas.{wrote-length}
use Rattle.events.proofs.Sizes.{requests-size}
use Rattle.fill_links.specs.Held.{zeros}
use Rattle.fill_links.proofs.Does.{does-plain, does-then, does-as}
use Rattle.fill_links.proofs.Bounds.{zeros-most}
use Rattle.laws_fill.proofs.Counts.{marked}
use Rattle.rules_equalize.specs.Equalize.{Ask, Filled, near, passed_over, fill_from, hot_row, hot_id, filled_all, start_filled, ask_of}
use Rattle.laws_equalize.proofs.Zones.{Zoned, zoned}
use Rattle.fill_all.specs.Held.{zone_in, FilledView, filled_view, around_in, on_filled, Stored, FillOpen, Fills, start, HotBegun, Cleared, FillsAll}
use Rattle.fill_all.specs.Asked.{FillFits}
use Rattle.fill_all.specs.declared.Filling.{Filling}

-- every mark is set or isn't
marks-all : (xs : List ℕ) → marked xs + zeros xs ≡ length xs
unfolding marked zeros count
marks-all [] = refl
marks-all (x ∷ xs) = omega (arith, either (eqb x 0), marks-all xs)
  where
    either : (t : Bool) → one (not t) + one t ≡ 1
    either true = refl
    either false = refl

module _ (b : Board) (gas : List Float) where
  -- the steps look at all that is asked but the list of hot ids
  pub other_hot : (hot hot' : List ℕ) (threshold : Float) (limit allowance : ℕ) (xs : List ℕ) (s : Filled) → run (hot_id b gas (ask_of hot threshold limit allowance)) xs s ≡ run (hot_id b gas (ask_of hot' threshold limit allowance)) xs s
  unfolding hot_id hot_row passed_over near fill_from
  other_hot hot hot' threshold limit allowance xs s = refl

  -- past the clock nothing is done
  past : (q : Ask) (xs : List ℕ) (s : Filled) → s.cancelled ≡ true → run (hot_id b gas q) xs s ≡ s
  unfolding run
  past q [] s c = refl
  past q (x ∷ xs) s c = ap (run (hot_id b gas q) xs) (still x s c) ∙ past q xs s c
    where
      still : (x : ℕ) (s : Filled) → s.cancelled ≡ true → hot_id b gas q x s ≡ s
      still x s c = unfold hot_id in rw c

-- ---- the loop

module _ {b : Board} {m : ℕ} (h : Accepted b m) (gas : List Float) (hot : List ℕ) (threshold : Float) (limit allowance : ℕ) where
  abbrev n : ℕ
  n = turf_count b

  abbrev e : ℕ
  e = link_count b

  abbrev q : Ask
  q = ask_of hot threshold limit allowance

  -- i hot ids were looked at
  abbrev so_far : ℕ → Filled → Filled
  so_far i s = run (hot_id b gas q) (take i hot) s

  -- what the loop starts from
  begun-filled : {s : Filling} {w area : List ℕ} (f : List Float) → HotBegun b s w area → (filled_view n e s w f []).filled ≡ start_filled b
  unfolding filled_view up_from
  begun-filled {s} {w} f y =
      ap (λ (x : Filling). (filled_view n e x w f []).filled) y.answer
      ∙ ap₂ (λ (x z : List ℕ). record { found = x; owner = z; zones = []; tests = 0; events = []; cancelled = false }) y.found y.owner

  module _ {s : Filling} {w : List ℕ} {f : List Float} {area : List ℕ} (st : Stored n e s w f) (y : HotBegun b s w area) where
    pub loop-start : Fills n e (so_far 0) s s w w f f area area
    unfolding run
    loop-start = record { stored = st; does = does-plain (omega (arith, ap (λ (x : Filling). x.used) y.answer)) (λ es. refl) }

    module _ {s' : Filling} {w' : List ℕ} {f' : List Float} {area' : List ℕ} (i : ℕ) (d : Fills n e (so_far i) s s' w w' f f' area area') where
      abbrev F : Filled
      F = filled_all b gas (ask_of (take i hot) threshold limit allowance)

      -- the definition's state
      is_filled : (filled_view n e s' w' f' d.does.more).filled ≡ F
      is_filled = ap (λ (v : FilledView). v.filled) (d.does.same []) ∙ ap (so_far i) (begun-filled f y) ∙ all
        where
          all : so_far i (start_filled b) ≡ F
          all = unfold filled_all in other_hot b gas hot (take i hot) threshold limit allowance (take i hot) (start_filled b)

      law : Zoned b h gas (ask_of (take i hot) threshold limit allowance) (filled_view n e s' w' f' d.does.more).filled
      law = subst (Zoned b h gas (ask_of (take i hot) threshold limit allowance)) (sym is_filled) (zoned b h gas (ask_of (take i hot) threshold limit allowance))

      pub loop-open : s'.cancelled ≡ false → FillOpen b allowance s' w' area'
      unfolding filled_view
      loop-open c =
          let found : List ℕ = found_in n e w' in
          let u : s'.used ≡ s.used + length (encode_all d.does.more) = d.does.wrote.end in
          let z : s.used ≡ 0 = ap (λ (x : Filling). x.used) y.answer in
          let k : length (encode_all d.does.more) ≡ 8 * length d.does.more = requests-size d.does.more law.spoken in
          let l : length area' ≡ length area = wrote-length d.does.wrote in
          let a : marked found + zeros found ≡ n = marks-all found ∙ law.marks in
          let zl : length (map (zone_in (starts_in n e w') (nodes_in n e w') (moles_in n e f')) (up_from 0 s'.zones)) ≡ s'.zones = length-map (up_from 0 s'.zones) _ ∙ up_from-length 0 s'.zones in
          record {
            unowned = law.kept.free;
            zones = omega (arith, law.kept.zones, zl, a);
            bytes = omega (arith, law.asked, u, z, k, l, a, y.room);
            tests = law.in_time c;
          }

      pub loop-next : i < length hot → {s'' : Filling} {w'' : List ℕ} {f'' : List Float} {area'' : List ℕ} → Fills n e (hot_id b gas q (get_or hot i 0)) s' s'' w' w'' f' f'' area' area''
          → Fills n e (so_far (i + 1)) s s'' w w'' f f'' area area''
      loop-next l x = record {
        stored = x.stored;
        does = does-as (does-then d.does x.does) (λ es. ap (λ (z : Filled). on_filled (λ _. z) (filled_view n e s w f es)) (last (filled_view n e s w f es).filled));
      }
        where
          last : (z : Filled) → hot_id b gas q (get_or hot i 0) (so_far i z) ≡ so_far (i + 1) z
          last z =
              sym (ap (λ (k : ℕ). run (hot_id b gas q) (take k hot) z) (add-one i) ∙ ap (λ (xs : List ℕ). run (hot_id b gas q) xs z) (take-suc hot i 0 l)
              ∙ run-append (hot_id b gas q) (take i hot) (get_or hot i 0 ∷ []) z ∙ (unfold run in refl {a = hot_id b gas q (get_or hot i 0) (so_far i z)}))

      pub loop-over : s'.cancelled ≡ true → Fills n e (λ z. run (hot_id b gas q) hot z) s s' w w' f f' area area'
      loop-over c = record {
        stored = d.stored;
        does = does-as d.does (λ es. ap (λ (z : Filled). on_filled (λ _. z) (filled_view n e s w f es)) (rest es));
      }
        where
          seen : (es : List Event) → (so_far i (filled_view n e s w f es).filled).cancelled ≡ true
          seen es = sym (ap (λ (v : FilledView). v.filled.cancelled) (d.does.same es)) ∙ (unfold filled_view in c)

          rest : (es : List Event) → so_far i (filled_view n e s w f es).filled ≡ run (hot_id b gas q) hot (filled_view n e s w f es).filled
          rest es =
              sym (ap (λ (xs : List ℕ). run (hot_id b gas q) xs (filled_view n e s w f es).filled) (sym (take-append-drop i hot))
              ∙ run-append (hot_id b gas q) (take i hot) (drop i hot) (filled_view n e s w f es).filled ∙ past b gas q (drop i hot) (so_far i (filled_view n e s w f es).filled) (seen es))

      pub loop-end : length hot ≤ i → Fills n e (λ z. run (hot_id b gas q) hot z) s s' w w' f f' area area'
      loop-end l = subst (λ (xs : List ℕ). Fills n e (λ z. run (hot_id b gas q) xs z) s s' w w' f f' area area') (take_all i hot l) d

-- ---- from nothing

module _ {b : Board} {m : ℕ} (h : Accepted b m) (w w₁ : List ℕ) (f : List Float) (area : List ℕ) (y : FillFits b w f area)
    (len : length w₁ ≡ length w) (c : Cleared (turf_count b) (link_count b) w w₁) (s : Filling) (es : s ≡ start) where
  abbrev n₁ : ℕ
  n₁ = turf_count b

  abbrev e₁ : ℕ
  e₁ = link_count b

  pub begun : HotBegun b s w₁ area
  begun = record { answer = es; found = ap (λ (x : List (List ℕ)). get_or x 7 []) c; owner = ap (λ (x : List (List ℕ)). get_or x 0 []) c; room = y.events }

  first-start : get_or (starts_in n₁ e₁ w₁) 0 0 ≡ 0
  first-start = ap (λ (x : List (List ℕ)). get_or (get_or x 10 []) 0 0) c ∙ get_or-set_same (starts_in n₁ e₁ w) 0 0 0 (rw (cut-length (word_sizes n₁ e₁) w 10 (omega arith) (omega (arith, y.words))) (omega arith))

  pub begun-stored : Stored n₁ e₁ s w₁ f
  begun-stored = subst (λ (x : Filling). Stored n₁ e₁ x w₁ f) (sym es) (record {
    sizes = record { turfs = h.turfs.1; links = h.links };
    words = rw len y.words;
    floats = y.floats;
    zones = omega arith;
    first = first-start;
    last = first-start;
    rise = λ i l. absurd (omega arith);
    below = λ i l. let z : i ≡ 0 = omega arith in rw (z, first-start) (omega arith);
    nodes = omega (arith, zeros-most (owner_in e₁ w₁), ap length begun.owner ∙ length-replicate {A = ℕ} e₁ 0);
  })

  pub all-filled : (gas : List Float) (hot : List ℕ) (threshold : Float) (limit allowance : ℕ) {r : Filling} {w' : List ℕ} {f' : List Float} {area' : List ℕ}
      → Fills n₁ e₁ (λ z. run (hot_id b gas (ask_of hot threshold limit allowance)) hot z) s r w₁ w' f f' area area' → FillsAll n₁ e₁ (filled_all b gas (ask_of hot threshold limit allowance)) r w w' f f' area area'
  all-filled gas hot threshold limit allowance {r} {w'} {f'} {area'} d = record {
    stored = d.stored;
    same = ap (filled_view n₁ e₁ r w' f') (sym events) ∙ whole;
    wrote = record {
      wrote = subst (λ (k : ℕ). Wrote (encode_all (filled_all b gas (ask_of hot threshold limit allowance)).events) k r.used area area') (ap (λ (x : Filling). x.used) es)
          (subst (λ (x : List Event). Wrote (encode_all x) s.used r.used area area') events d.does.wrote);
    };
  }
    where
      whole : filled_view n₁ e₁ r w' f' d.does.more ≡ record { filled = filled_all b gas (ask_of hot threshold limit allowance); around = around_in (cut (word_sizes n₁ e₁) w) (cut (float_sizes n₁ e₁) f) }
      whole = d.does.same [] ∙ ap₂ (λ (x : Filled) y. record { filled = run (hot_id b gas (ask_of hot threshold limit allowance)) hot x; around = y }) (begun-filled h gas hot threshold limit allowance f begun) around ∙ (unfold filled_all in refl)
        where
          around : (filled_view n₁ e₁ s w₁ f []).around ≡ around_in (cut (word_sizes n₁ e₁) w) (cut (float_sizes n₁ e₁) f)
          around = unfold filled_view in ap (λ (x : List (List ℕ)). around_in x (cut (float_sizes n₁ e₁) f)) c

      events : d.does.more ≡ (filled_all b gas (ask_of hot threshold limit allowance)).events
      events = unfold filled_view in ap (λ (v : FilledView). v.filled.events) whole
