-- What each part of a call leaves is what the next one asks, and together they come to `played`. Assumes nothing.
use Prim.Native.Nat.{ℕ, suc, ◌+◌, ◌-◌, ◌*◌, ◌≤◌, ◌<◌}
use native.Mathlib.Omega.{arith}
use mathlib.Core.Path.{◌≡◌, refl, ap, ◌∙◌, sym, subst}
use mathlib.Core.Logic.{inl, inr}
use mathlib.Core.Bool.{Bool, false}
use mathlib.Core.List.{List, [], ◌∷◌}
use lib.Dec.{T}
use lib.Ieee.{Float}
use lib.ListN.{length, get_or, take, drop}
use lib.Seq.{get_or-take, get_or-drop}
use Rattle.basics.specs.Loops.{run}
use Rattle.basics.specs.Lists.{All}
use Rattle.basics.proofs.Loops.{All-get_or}
use Rattle.basics.proofs.Regions.{later_same}
use Rattle.basics.proofs.Parts.{part-alike, drop-alike, drop-later}
use Rattle.rules_board.specs.Board.{Board, turf_count, link_count, mixture_count}
use Rattle.rules_board.specs.Refuse.{links_fit}
use Rattle.turfs.specs.Tables.{Accepted}
use Rattle.rules_lent.specs.Lent.{Lent, words_room, floats_room}
use Rattle.lent.proofs.Numbers.{bare}
use Rattle.rules_plan.specs.Plan.{Plan}
use Rattle.reverse_links.specs.Reverse.{Linked, Reverses}
use Rattle.reverse_links.specs.Words.{But}
use Rattle.reverse_links.proofs.Accepted.{linked}
use Rattle.plan_state.specs.Held.{plan_view}
use Rattle.plan_all.specs.Zones.{Plannable, Zoned, PlansAll}
use Rattle.plan_all.proofs.Asked as asked
use Rattle.plan_all.proofs.Calls.{planned-filled}
use Rattle.fill_all.specs.Held.{FilledView, FillsAll}
use Rattle.fill_all.specs.Held as fill
use Rattle.fill_all.specs.declared.Filling.{Filling}
use Rattle.fill_all.proofs.Words.{at, rows_of, starts-word, starts-rise, starts-below, nodes-few, zones-count, zones-are, rows_are, rows-length, rows-line, owners-are, tests-are}
use Rattle.rules_finish.specs.Turns.{Zone, zone_at, node_count, finish_all}
use Rattle.rules_finish.specs.Turns as turns
use Rattle.scratch.specs.Layout.{word_sizes, float_sizes, found_at, starts_at, zone_nodes_at, marks_at, lifted_at}
use Rattle.scratch.specs.View.{reverse_in, owner_in}
use Rattle.finish_send.specs.Areas.{finish_areas, floats_of, others, weight_on}
use Rattle.finish_send.proofs.Shown.{holds_written}
use Rattle.finish_zones.specs.Zones.{start_of, zone_nodes}
use Rattle.finish_turns.specs.Turning.{Same, Planned, FinishesAll}
use Rattle.finish_turns.proofs.Whole.{Ends, finished}
use Rattle.rules_equalize.specs.Equalize.{Ask, filled_all, planned_all, planned, played, apart, bit}
use Rattle.rules_equalize.specs.Result.{equalize_room}
use Rattle.laws_equalize.proofs.Zones.{test_room}
use Rattle.laws_equalize.proofs.Room.{requests-bytes}
use Rattle.apart.specs.Marks.{ApartFits, ZonesLaid, ZonesStand, ApartTells}
use Rattle.call_equalize.specs.Parts.{CallFills, CallFilled, Comes}

-- ---- how many nodes there are

-- starts that the zones' sizes tell apart
count-from : (zs : List Zone) (at : ℕ → ℕ) → ((z : ℕ) → z < length zs → at z + length (zone_at zs z).nodes ≡ at (suc z)) → (k : ℕ) → at 0 + run (λ (z : Zone) (n : ℕ). n + length z.nodes) zs k ≡ k + at (length zs)
unfolding run
count-from [] at h k = omega arith
count-from (z ∷ zs) at h k =
    omega (arith, h 0 (omega arith), count-from zs (λ i. at (suc i)) (λ i l. h (suc i) (omega arith)) (k + length z.nodes))

module _ (b : Board) (q : Ask) (l₀ l : Lent) (s : Filling) (d : CallFills b q s l₀ l) (h : Accepted b (length l.gas)) (k : T (links_fit b))
    (area-room : equalize_room b ≤ length l.area) (words-room : words_room b ≤ length l.words) (floats-room : floats_room b ≤ length l.floats) where
  abbrev n : ℕ
  n = turf_count b

  abbrev e : ℕ
  e = link_count b

  abbrev marks : ℕ
  marks = marks_at n e

  abbrev zones : List Zone
  zones = (filled_all b l₀.gas q).zones

  accepted : Accepted b (length l₀.gas)
  accepted = subst (λ (g : List Float). Accepted b (length g)) d.gas h

  words_long : marks + mixture_count b ≤ length l.words
  unfolding words_room
  words_long = omega (arith, words-room)

  few-zones : s.zones ≤ n
  few-zones = d.fills.stored.zones

  -- ---- planning

  links : Linked n b.starts b.neighbours
  links = linked b h.starts k

  pub plan-asks : Plannable b l.gas × Zoned n e s.zones l.words l.floats
  plan-asks =
      subst (λ (g : List Float). Plannable b g × Zoned n e s.zones l.words l.floats) (sym d.gas)
      (asked.plan-asks b q l₀.gas s d.fills accepted k words-room floats-room)

  -- ---- what filling left, by its places

  abbrev D : FillsAll n e (filled_all b l₀.gas q) s l₀.words l.words l₀.floats l.floats l₀.area l.area
  D = d.fills

  row_at : (z i : ℕ) → i < at D (z + 1) - at D z → get_or l.words (zone_nodes_at n e + at D z + i) 0 ≡ get_or (rows_of D z) i 0
  row_at z i p = sym (get_or-take (at D (z + 1) - at D z) (drop (zone_nodes_at n e + at D z) l.words) i 0 p ∙ get_or-drop (zone_nodes_at n e + at D z) l.words i 0)

  node-rows : (z : ℕ) → z < s.zones → All (λ r. r < n) (rows_of D z)
  node-rows z p = (rows-line accepted l₀.gas q D z p).rows

  ends-within : (z : ℕ) → z < s.zones → at D (z + 1) ≤ n + e
  ends-within z p = omega (arith, starts-below D (z + 1) (omega arith), nodes-few D)

  pub processed-is : s.nodes ≡ node_count zones
  unfolding node_count
  processed-is =
      omega (arith, count-from zones (at D) sized 0, starts-word D 0 (omega arith), d.fills.stored.first, starts-word D s.zones (omega arith), d.fills.stored.last, ap (at D) (zones-count D))
    where
      next : (z : ℕ) → at D (suc z) ≡ at D (z + 1)
      next z = ap (at D) (omega arith)

      sized : (z : ℕ) → z < length zones → at D z + length (zone_at zones z).nodes ≡ at D (suc z)
      sized z p =
          let l : z < s.zones = omega (arith, zones-count D) in
          omega (arith, ap length (rows_are D z l), rows-length D z l, starts-rise D z l, next z)

  -- ---- apart

  module _ (w₁ : List ℕ) (f₁ : List Float) (p : PlansAll n e s.zones b l.gas l.words w₁ l.floats f₁) where
    kept₁ : (j : ℕ) → found_at n e ≤ j → get_or w₁ j 0 ≡ get_or l.words j 0
    kept₁ j a = p.words.same j (inr a)

    start₁ : (z : ℕ) → z ≤ s.zones → get_or w₁ (starts_at n e + z) 0 ≡ at D z
    start₁ z a = kept₁ (starts_at n e + z) (omega arith)

    next₁ : (z : ℕ) → z < s.zones → get_or w₁ (starts_at n e + z + 1) 0 ≡ at D (z + 1)
    next₁ z a =
        let i : starts_at n e + z + 1 ≡ starts_at n e + (z + 1) = omega arith in
        ap (λ (x : ℕ). get_or w₁ x 0) i ∙ start₁ (z + 1) (omega arith)

    laid : ZonesLaid n s.zones (starts_at n e) (zone_nodes_at n e) marks w₁
    laid = record {
      few = omega (arith, few-zones, h.turfs.1);
      starts = omega (arith, few-zones);
      small = omega (arith, h.turfs.1, h.links);
      rise = λ z a. omega (arith, start₁ z (omega arith), next₁ z a, starts-rise D z a);
      end = λ z a. omega (arith, next₁ z a, ends-within z a);
      rows = λ z j a lo hi. row z j a (omega (arith, lo, start₁ z (omega arith))) (omega (arith, hi, next₁ z a));
    }
      where
        row : (z j : ℕ) → z < s.zones → zone_nodes_at n e + at D z ≤ j → j < zone_nodes_at n e + at D (z + 1) → get_or w₁ j 0 < n
        row z j a lo hi =
            let i : ℕ = j - (zone_nodes_at n e + at D z) in
            let q : j ≡ zone_nodes_at n e + at D z + i = omega (arith, lo) in
            let k : i < at D (z + 1) - at D z = omega (arith, lo, hi) in
            rw (kept₁ j (omega (arith, lo)) ∙ ap (λ (x : ℕ). get_or l.words x 0) q ∙ row_at z i k)
            (All-get_or (λ x. x < n) (rows_of D z) i 0 (node-rows z a) (omega (arith, rows-length D z a, k)))

    stands : ZonesStand (starts_at n e) (zone_nodes_at n e) zones w₁
    stands = record { size = λ z a. size-of z (omega (arith, a, zones-count D)); node = λ z i a c. node_of z i (omega (arith, a, zones-count D)) c }
      where
        size-of : (z : ℕ) → z < s.zones → get_or w₁ (starts_at n e + z) 0 + length (turns.nodes_at zones z) ≡ get_or w₁ (starts_at n e + z + 1) 0
        size-of z a = omega (arith, start₁ z (omega arith), next₁ z a, ap length (rows_are D z a), rows-length D z a, starts-rise D z a)

        node_of : (z i : ℕ) → z < s.zones → i < length (turns.nodes_at zones z) → get_or w₁ (zone_nodes_at n e + get_or w₁ (starts_at n e + z) 0 + i) 0 ≡ get_or (turns.nodes_at zones z) i 0
        node_of z i a c =
            let k : i < at D (z + 1) - at D z = omega (arith, c, ap length (rows_are D z a), rows-length D z a) in
            ap (λ (x : ℕ). get_or w₁ (zone_nodes_at n e + x + i) 0) (start₁ z (omega arith))
            ∙ kept₁ (zone_nodes_at n e + at D z + i) (omega arith)
            ∙ row_at z i k ∙ ap (λ (x : List ℕ). get_or x i 0) (sym (rows_are D z a))

    pub apart-asks : ApartFits (bare b) s.zones w₁
    apart-asks = record {
      sizes = record { turfs = h.turfs.1; links = h.links };
      pass = record { turfs = h.turfs.1; few = h.mixtures.1; room = omega (arith, p.words.len, words_long); mixtures = h.mixes; mixed = λ r a. h.mixed r };
      laid = laid;
    }

    apart-is : {r : Bool} {w₂ : List ℕ} → ApartTells b s.zones (starts_at n e) (zone_nodes_at n e) marks r w₁ w₂ → r ≡ apart b zones
    apart-is t = t.answer zones (zones-count D) stands

    -- ---- finishing

    module _ (w₂ : List ℕ) (t : But marks (marks + mixture_count b) w₁ w₂) where
      long₂ : length w₂ ≡ length l.words
      long₂ = t.len ∙ p.words.len

      kept₂ : (j : ℕ) → found_at n e ≤ j → j < marks → get_or w₂ j 0 ≡ get_or l.words j 0
      kept₂ j a c = t.same j (inl c) ∙ kept₁ j a

      owner-same : owner_in e w₂ ≡ (filled_all b l₀.gas q).owner
      owner-same =
          part-alike 0 e w₂ l.words long₂ (λ i a. t.same (0 + i) (inl (omega arith)) ∙ p.words.same (0 + i) (inl (omega arith)))
          ∙ owners-are D

      reverses : Reverses b n (reverse_in e w₂)
      reverses =
          subst (Reverses b n) (sym (part-alike e e w₂ w₁ t.len (λ i a. t.same (e + i) (inl (omega arith)))))
          p.reverses

      start₂ : (z : ℕ) → z ≤ s.zones → start_of n e w₂ z ≡ at D z
      start₂ z a =
          kept₂ (starts_at n e + z) (omega arith) (omega (arith, few-zones))

      nodes₂ : (z : ℕ) → z < s.zones → zone_nodes n e w₂ z ≡ rows_of D z
      nodes₂ z a =
          ap (λ (x : ℕ). take (start_of n e w₂ (z + 1) - x) (drop (zone_nodes_at n e + x) w₂)) (start₂ z (omega arith))
          ∙ ap (λ (x : ℕ). take (x - at D z) (drop (zone_nodes_at n e + at D z) w₂)) (start₂ (z + 1) (omega arith))
          ∙ part-alike (zone_nodes_at n e + at D z) (at D (z + 1) - at D z) w₂ l.words long₂
          (λ j c. kept₂ (zone_nodes_at n e + at D z + j) (omega arith) (omega (arith, c, ends-within z a)))

      same-zones : Same n e s.zones w₂ zones
      same-zones = record { size = zones-count D; nodes = λ z a. rows_are D z a ∙ sym (nodes₂ z a) }

      requests-few : s.used ≤ 16 * n
      requests-few = omega (arith, D.wrote.wrote.end, requests-bytes b l₀.gas accepted q)

      pub finish-asks : Planned b s.zones w₂ (finish_areas l.gas f₁ l.area s.used)
      unfolding floats_room
      finish-asks = record {
        ready = record { board = h; linked = links; reverse = reverses; words = omega (arith, words_long, long₂); floats = omega (arith, floats-room, p.floats.0) };
        arrays = omega (arith, words_long, long₂);
        laid = record {
          few = few-zones;
          zones = λ z a. record {
            below = omega (arith, few-zones);
            rise = omega (arith, start₂ z (omega arith), start₂ (z + 1) (omega arith), starts-rise D z a);
            within = omega (arith, start₂ (z + 1) (omega arith), ends-within z a, words_long, long₂);
            rows = subst (All (λ r. r < n)) (sym (nodes₂ z a)) (node-rows z a);
          };
        };
        written = ((filled_all b l₀.gas q).events, holds_written D.wrote);
        room = omega (arith, area-room, requests-few);
      }

      weights : weight_on b f₁ ≡ (planned_all b l₀.gas (filled_all b l₀.gas q)).weight
      unfolding plan_view
      weights =
          ap (λ (x : Plan). x.weight) (planned-filled b (filled_all b l₀.gas q) p (sym (owners-are D)) (zones-are D))
          ∙ ap (λ (g : List Float). (planned_all b g (filled_all b l₀.gas q)).weight) d.gas

      begins : Ends b l₀.area (finish_areas l.gas f₁ l.area s.used) (planned b l₀.gas q (filled_all b l₀.gas q))
      unfolding planned
      begins = record { gas = d.gas; weight = weights; events = D.wrote }

      module _ (turns w₃ : List ℕ) (g₃ f₃ : List Float) (a₃ : List ℕ) (used : ℕ) (u : FinishesAll b s.zones turns w₂ w₃ (finish_areas l.gas f₁ l.area s.used) (finish_areas g₃ f₃ a₃ used)) where
        ended : Ends b l₀.area (finish_areas g₃ f₃ a₃ used) (finish_all b (filled_all b l₀.gas q).owner zones turns (planned b l₀.gas q (filled_all b l₀.gas q)))
        ended =
            subst (λ (o : List ℕ). Ends b l₀.area (finish_areas g₃ f₃ a₃ used) (finish_all b o zones turns (planned b l₀.gas q (filled_all b l₀.gas q)))) owner-same
            (finished b s.zones turns w₂ w₃ (finish_areas l.gas f₁ l.area s.used) (finish_areas g₃ f₃ a₃ used) u zones same-zones l₀.area (planned b l₀.gas q (filled_all b l₀.gas q)) begins)

        words-rest : drop (words_room b) w₃ ≡ drop (words_room b) l₀.words
        unfolding words_room fill.filled_view
        words-rest =
            let m : ℕ = 16 * n + 4 * e + 2 * mixture_count b + 16 in
            drop-later (starts_at n e) m w₃ w₂ (omega arith) u.words.rest
            ∙ drop-alike m w₂ w₁ t.len (λ i a. t.same i (inr (omega (arith, a))))
            ∙ drop-alike m w₁ l.words p.words.len (λ i a. kept₁ i (omega (arith, a)))
            ∙ later_same (word_sizes n e) m l₀.words l.words (omega arith) (ap (λ (v : FilledView). v.around.rest_w) D.same)

        floats-rest : drop (floats_room b) f₃ ≡ drop (floats_room b) l₀.floats
        unfolding floats_room fill.filled_view others
        floats-rest =
            let m : ℕ = 4 * n + 2 * e in
            later_same (floats_of b) m f₁ f₃ (omega arith) (ap (λ (r : List (List Float)). get_or r 2 []) u.kept.rest)
            ∙ drop-later (lifted_at n e) m f₁ l.floats (omega arith) p.floats.1
            ∙ later_same (float_sizes n e) m l₀.floats l.floats (omega arith) (ap (λ (v : FilledView). v.around.rest_r) D.same)

        pub comes-played : (r : Bool) → ApartTells b s.zones (starts_at n e) (zone_nodes_at n e) marks r w₁ w₂ → Comes b (played b l₀.gas q turns (filled_all b l₀.gas q)) (record { cancelled = false; processed = s.nodes; tests = s.tests + 2; zones = s.zones; apart = r; used = used }) l₀ (record { gas = g₃; area = a₃; words = w₃; floats = f₃ })
        unfolding played
        comes-played r o = record {
          cancelled = refl;
          processed = processed-is;
          tests = ap (λ (x : ℕ). x + 2) (tests-are D);
          zones = sym (zones-count D);
          apart = ap bit (apart-is o);
          gas = ended.gas;
          events = ended.events;
          words = words-rest;
          floats = floats-rest;
        }

-- ---- the same as the code has it

module _ {b : Board} {s : Filling} {l : Lent} (x : CallFilled b s l) where
  abbrev N : ℕ
  N = turf_count b

  abbrev E : ℕ
  E = link_count b

  pub plan-fits : Plannable b l.gas × Zoned N E s.zones l.words l.floats
  plan-fits = plan-asks b x.asked x.lent l s x.fills x.board x.links x.area x.words x.floats

  module _ (w₁ : List ℕ) (f₁ : List Float) (p : PlansAll N E s.zones b l.gas l.words w₁ l.floats f₁) where
    pub apart_fits : ApartFits (bare b) s.zones w₁
    apart_fits = apart-asks b x.asked x.lent l s x.fills x.board x.links x.area x.words x.floats w₁ f₁ p

    module _ (r : Bool) (w₂ : List ℕ) (t : ApartTells b s.zones (starts_at N E) (zone_nodes_at N E) (marks_at N E) r w₁ w₂) where
      pub finish-fits : Planned b s.zones w₂ (finish_areas l.gas f₁ l.area s.used)
      finish-fits = finish-asks b x.asked x.lent l s x.fills x.board x.links x.area x.words x.floats w₁ f₁ p w₂ t.words

      pub played-comes : (turns w₃ : List ℕ) (g₃ f₃ : List Float) (a₃ : List ℕ) (used : ℕ) → FinishesAll b s.zones turns w₂ w₃ (finish_areas l.gas f₁ l.area s.used) (finish_areas g₃ f₃ a₃ used)
          → (q : Ask) (l₀ : Lent) → CallFills b q s l₀ l
          → Comes b (played b l₀.gas q turns (filled_all b l₀.gas q)) (record { cancelled = false; processed = s.nodes; tests = s.tests + 2; zones = s.zones; apart = r; used = used }) l₀ (record { gas = g₃; area = a₃; words = w₃; floats = f₃ })
      played-comes turns w₃ g₃ f₃ a₃ used u q l₀ d =
          comes-played b q l₀ l s d x.board x.links x.area x.words x.floats w₁ f₁ p w₂ t.words turns w₃ g₃ f₃ a₃ used u r t

-- the counts are small
pub tests-small : {b : Board} {s : Filling} {l : Lent} → CallFilled b s l → s.tests ≤ 4096
tests-small {b} {s} {l} x =
    let a : Accepted b (length x.lent.gas) = subst (λ (g : List Float). Accepted b (length g)) x.fills.gas x.board in
    omega (arith, tests-are x.fills.fills, test_room b a x.lent.gas x.asked, x.board.turfs.1)
