-- The first requirement that fails gives the number; where none does, every one holds. Assumes nothing.
use mathlib.Core.Path.{◌≡◌, refl, ◌∙◌}
use mathlib.Core.List.{List, [], ◌∷◌}
use mathlib.Core.Bool.{Bool, true, false, cond, ◌&&◌, and-true}
use Prim.Native.Nat.{ℕ, zero, suc, ◌+◌, ◌*◌, ◌<◌}
use native.Mathlib.Omega.{arith}
use lib.Dec.{leb}
use lib.ListN.{length, get_or}
use lib.Ieee.{Float}
use borrow.Author.Tests.{leb-true}
use Rattle.basics.specs.Loops.{every, all_of}
use Rattle.basics.specs.Floats.{0f}
use Rattle.basics.proofs.Tests.{each}
use Rattle.rules_board.specs.Board.{Board, board}
use Rattle.rules_board.specs.Refuse.{sizes_fit, tables_fit, ids_fit, links_fit, row_fits}
use Rattle.turfs.specs.Tables.{Small}
use Rattle.turfs.proofs.Tables.{amounts-of, tables-of}
use Rattle.rules_mixture.specs.Mixture.{amount_fits}
use Rattle.rules_events.specs.declared.Event.{Event}
use Rattle.rules_lent.specs.Lent.{Lent, Extra, words_room, floats_room, first_failed, refusal, after}
use Rattle.lent_room.specs.Areas.{cleared_first, Roomy}
use Rattle.lent.specs.Given.{Given, Tests}
use Rattle.lent.specs.declared.ExtraTests.{ExtraTests}

-- ---- the number of a list of requirements

-- the first n of them hold
abbrev pub Hold : ℕ → List (Bool × ℕ) → Type 0
Hold zero ts = Unit {0}
Hold (suc n) [] = Unit {0}
Hold (suc n) (t ∷ ts) = (t.0 ≡ true) × Hold n ts

-- then the next one, where it fails, gives the number
pub decides : (n : ℕ) (ts : List (Bool × ℕ)) → Hold n ts → n < length ts → (get_or ts n (true, 0)).0 ≡ false → (get_or ts n (true, 0)).1 ≡ first_failed ts
unfolding first_failed
decides n [] h l e = absurd (omega arith)
decides zero (t ∷ ts) h l e = rw e
decides (suc n) (t ∷ ts) h l e = rw h.0 (decides n ts h.1 (omega arith) e)

-- all hold
pub all-passed : (ts : List (Bool × ℕ)) → Hold (length ts) ts → 0 ≡ first_failed ts
unfolding first_failed
all-passed [] h = refl
all-passed (t ∷ ts) h = rw h.0 (all-passed ts h.1)

holds : (t : Bool) (n : ℕ) (ts : List (Bool × ℕ)) → first_failed ((t, suc n) ∷ ts) ≡ 0 → (t ≡ true) × (first_failed ts ≡ 0)
unfolding first_failed
holds true n ts e = (refl, e)
holds false n ts e = absurd (omega arith)

-- ---- the rooms look at the counts alone

-- the tables with no gases: what a function without `gases` says of them
abbrev pub bare : Board → Board
bare b = board b.ids b.flags b.planetary b.mixtures b.starts b.neighbours b.link_flags b.immutable 0

module _ (b : Board) where
  pub words-alone : words_room (bare b) ≡ words_room b
  unfolding words_room
  words-alone = refl

  pub floats-alone : floats_room (bare b) ≡ floats_room b
  unfolding floats_room
  floats-alone = refl

  pub small_of : Small b → Small (bare b)
  small_of s = record { turfs = s.turfs; links = s.links; mixtures = s.mixtures }

-- ---- each number in turn

-- the areas are long enough
abbrev pub areas : Board → Lent → ℕ → Bool
areas b l room = all_of (leb room (length l.area) ∷ leb (words_room b) (length l.words) ∷ leb (floats_room b) (length l.floats) ∷ [])

-- the requirements of `refusal`, in order, with the code's answers to what only equalize is lent
abbrev pub tests : Board → Lent → ℕ → ExtraTests → List (Bool × ℕ)
tests b l room x =
    (all_of (sizes_fit b ∷ x.sizes ∷ []), 1)
    ∷ (tables_fit b (length l.gas), 2)
    ∷ (ids_fit b, 3)
    ∷ (links_fit b, 4)
    ∷ (all_of (every amount_fits l.gas ∷ x.threshold ∷ []), 5)
    ∷ (x.hot, 6)
    ∷ (areas b l room, 7)
    ∷ []

-- one answer for two sizes
sizes-one : (a c d : Bool) → all_of (a ∷ (c && d) ∷ []) ≡ all_of (a ∷ c ∷ d ∷ [])
unfolding all_of
sizes-one a true d = refl
sizes-one a false d = refl

-- so the number of those answers is the refusal
pub same_tests : (b : Board) (l : Lent) (room : ℕ) (t : ExtraTests) (x : Extra) → Tests x t → first_failed (tests b l room t) ≡ refusal b l room x
unfolding refusal
same_tests b l room t x e = rw (e.sizes, e.threshold, e.hot, sizes-one (sizes_fit b) (leb (length x.hot) 4096) (leb (length x.turns) 65536))

-- The number by the answers of the tests: of the sizes, the tables, the ids, the links, the amounts and the areas. The links and the areas are
-- tested with no gases.
abbrev pub number : Bool → Bool → Bool → Bool → Bool → Bool → ExtraTests → ℕ
number sizes fit ids links amounts room x =
    cond (sizes && x.sizes) (cond fit (cond ids (cond links (cond (amounts && x.threshold) (cond x.hot (cond room 0 7) 6) 5) 4) 3) 2) 1

pub refusal-is : (b : Board) (l : Lent) (room : ℕ) (t : ExtraTests) (n : ℕ)
    → n ≡ number (sizes_fit b) (tables_fit b (length l.gas)) (ids_fit b) (links_fit (bare b)) (every amount_fits l.gas) (areas (bare b) l room) t
    → (x : Extra) → Tests x t → n ≡ refusal b l room x
unfolding first_failed all_of links_fit row_fits words_room floats_room
refusal-is b l room t n e x a = e ∙ (rw (and-true t.sizes, and-true t.threshold) at (same_tests b l room t x a))

-- ---- a call that is not refused

module _ (b : Board) (l : Lent) (room : ℕ) (x : Extra) where
  pub given : refusal b l room x ≡ 0 → Given b l room
  unfolding refusal
  given e =
      let h₁ = holds _ 0 _ e in
      let h₂ = holds _ 1 _ h₁.1 in
      let h₃ = holds _ 2 _ h₂.1 in
      let h₄ = holds _ 3 _ h₃.1 in
      let h₅ = holds _ 4 _ h₄.1 in
      let h₆ = holds _ 5 _ h₅.1 in
      let h₇ = holds _ 6 _ h₆.1 in
      record {
        accepted = record {
          tables = tables-of b (length l.gas) (each _ 0 h₁.0 (omega arith)) h₂.0 h₃.0 h₄.0;
          count = amounts-of b (length l.gas) h₂.0;
          amounts = each _ 0 h₅.0 (omega arith);
        };
        area = leb-true room (length l.area) (each _ 0 h₇.0 (omega arith));
        words = leb-true (words_room b) (length l.words) (each _ 1 h₇.0 (omega arith));
        floats = leb-true (floats_room b) (length l.floats) (each _ 2 h₇.0 (omega arith));
      }

-- ---- what a call that goes on needs, and leaves

-- a call that writes nothing for links
pub no_links : (e n : ℕ) → 0 * e + n ≡ n
no_links e n = omega arith

module _ (b : Board) (l : Lent) (room : ℕ) where
  -- what `clear_scratch` asks
  pub scratch_of : Given b l room → Roomy (bare b) l.words l.floats
  scratch_of g = record { small = small_of b g.accepted.tables.sizes.small; words = rw (words-alone b) g.words; floats = rw (floats-alone b) g.floats }

  -- what it leaves is the scratch after a call that was done
  pub words-after : (gas : List Float) (es : List Event) → cleared_first 0 (words_room (bare b)) l.words ≡ (after b l gas es).words
  unfolding after words_room
  words-after gas es = refl

  pub floats-after : (gas : List Float) (es : List Event) → cleared_first 0f (floats_room (bare b)) l.floats ≡ (after b l gas es).floats
  unfolding after floats_room
  floats-after gas es = refl
