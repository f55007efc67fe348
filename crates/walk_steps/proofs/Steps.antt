-- Where a space turf stands, and the room that a turf's events take. Assumes nothing.
use Prim.Native.Nat.{ℕ, ◌+◌, ◌≤◌, ◌<◌}
use native.Mathlib.Omega.{arith}
use mathlib.Core.Path.{◌≡◌, refl}
use mathlib.Core.List.{List, [], ◌∷◌}
use mathlib.Core.Bool.{Bool, true, false, cond}
use lib.Dec.{eqb}
use lib.ListN.{length, get_or}
use lib.Ieee.{Float}
use Rattle.rules_events.specs.Events.{encode_all, kind_of, size_of}
use Rattle.events.specs.Area.{Wrote, Adds}
use Rattle.rules_events.specs.declared.Event.{Event}
use Rattle.rules_events.specs.declared.Event.TheVariants.{HighPressure, Difference}
use Rattle.events.proofs.Areas.{wrote-length, adds_adds}
use Rattle.events.proofs.Sizes.{size, size-cons}
use Rattle.rules_back.specs.Back.{as_text, to_space, differences}
use Rattle.scratch.specs.Layout.{order_at}
use Rattle.walk_steps.specs.Steps.{Owns, tip_of, told}

-- the space turf number i, from where the order stands
pub row_at : (ids : List ℕ) (i : ℕ) (w : List ℕ) → Owns ids i w → (order : ℕ) → order ≡ order_at (length ids) → get_or w (order + i) 0 < length ids
row_at ids i w h order o = rw o h.row

-- ---- the events of a turf

high-kind : (id : ℕ) → size_of (kind_of (HighPressure id)) ≡ 8
unfolding size_of kind_of
high-kind id = refl

difference-kind : (id from to : ℕ) (x : Float) → size_of (kind_of (Difference id x from to)) ≡ 20
unfolding size_of kind_of
difference-kind id from to x = refl

high-size : (id : ℕ) (es : List Event) → size (HighPressure id ∷ es) ≡ 8 + size es
high-size id es = rw (← high-kind id) (size-cons (HighPressure id) es)

difference-size : (id from to : ℕ) (x : Float) (es : List Event) → size (Difference id x from to ∷ es) ≡ 20 + size es
difference-size id from to x es = rw (← difference-kind id from to x) (size-cons (Difference id x from to) es)

none-size : size [] ≡ 0
unfolding encode_all
none-size = refl

-- both settings in one: the second record is the tip's
told-tip : (arrows id next : ℕ) (mine theirs : Float) (last : Bool) → let tip = tip_of arrows id next in
    told arrows id next mine theirs last ≡ (HighPressure id ∷ Difference id mine id tip ∷ (cond last (Difference tip theirs id tip ∷ []) []))
unfolding told differences
told-tip arrows id next mine theirs last = go (eqb arrows 0)
  where
    go : (t : Bool) → let tip = cond t id next in
        (HighPressure id ∷ cond t as_text to_space id next mine theirs last) ≡ (HighPressure id ∷ Difference id mine id tip ∷ (cond last (Difference tip theirs id tip ∷ []) []))
    go true = refl
    go false = refl

module _ (arrows id next : ℕ) (mine theirs : Float) (used : ℕ) (e : List ℕ) (room : used + 48 ≤ length e) where
  pub high-room : used + 8 ≤ length e
  high-room = omega arith

  module _ (tip : ℕ) (o : tip ≡ tip_of arrows id next) (e₁ : List ℕ) (u₁ : ℕ) (a₁ : Adds (HighPressure id ∷ []) used u₁ e e₁) where
    pub mine-room : u₁ + 20 ≤ length e₁
    mine-room = omega (arith, high-size id [], none-size, a₁.wrote.end, wrote-length a₁.wrote)

    module _ (e₂ : List ℕ) (u₂ : ℕ) (a₂ : Adds (Difference id mine id tip ∷ []) u₁ u₂ e₁ e₂) where
      two : Adds (HighPressure id ∷ Difference id mine id tip ∷ []) used u₂ e e₂
      two = adds_adds a₁ a₂

      pub theirs-room : u₂ + 20 ≤ length e₂
      theirs-room = omega (arith, high-size id (Difference id mine id tip ∷ []), difference-size id id tip mine [], none-size, two.wrote.end, wrote-length two.wrote)

      pub told-two : (last : Bool) → last ≡ false → Wrote (encode_all (told arrows id next mine theirs last)) used u₂ e e₂
      told-two last q = rw (q, told-tip arrows id next mine theirs false, ← o) two.wrote

      pub told-three : (last : Bool) → last ≡ true → {e₃ : List ℕ} {u₃ : ℕ} → Adds (Difference tip theirs id tip ∷ []) u₂ u₃ e₂ e₃ → Wrote (encode_all (told arrows id next mine theirs last)) used u₃ e e₃
      told-three last q a₃ = rw (q, told-tip arrows id next mine theirs true, ← o) (adds_adds two a₃).wrote
