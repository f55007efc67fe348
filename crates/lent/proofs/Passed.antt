-- What a call that isn't refused was lent: each requirement in turn, since the first that fails gives a number above 0. Assumes nothing.
use mathlib.Core.Path.{◌≡◌, ◌∙◌}
use mathlib.Core.List.{List, [], ◌∷◌}
use mathlib.Core.Bool.{Bool, true, false, cond}
use Prim.Native.Nat.{ℕ, zero, ◌≤◌, ◌<◌}
use native.Mathlib.Omega.{arith}
use lib.Dec.{T, leb→le}
use lib.ListN.{length, drop, length-append, length-drop}
use lib.Ieee.{Float}
use Rattle.basics.specs.Loops.{every}
use Rattle.basics.specs.Floats.{finite_sign_clear}
use Rattle.basics.specs.Lists.{All}
use Rattle.basics.proofs.Loops.{all-of}
use Rattle.rules_board.specs.Board.{Board}
use Rattle.rules_board.specs.Refuse.{ascending, links_fit}
use Rattle.turfs.specs.Tables.{Accepted}
use Rattle.turfs.proofs.Accepted.{accepted}
use Rattle.rules_mixture.specs.Mixture.{amount_fits}
use Rattle.rules_events.specs.Events.{encode_all}
use Rattle.rules_events.specs.declared.Event.{Event}
use Rattle.rules_lent.specs.Lent.{Lent, Extra, words_room, floats_room, first_failed, refusal, after}
use Rattle.rules_lent.specs.Worked as worked  -- checked before the laws

held : (t : Bool) (n x : ℕ) → zero < n → cond t x n ≡ 0 → T t × (x ≡ 0)
held true n x h e = (tt, e)
held false n x h e = absurd (omega arith)

-- none fails where the answer is 0
pub none-failed : (ts : List (Bool × ℕ)) → All (λ t. zero < t.1) ts → first_failed ts ≡ 0 → All (λ t. T t.0) ts
unfolding first_failed
none-failed [] p e = tt
none-failed (t ∷ ts) p e = let u = held t.0 t.1 (first_failed ts) p.0 e in (u.0, none-failed ts p.1 u.1)

module _ (b : Board) (l : Lent) where
  -- what the refusals 1 to 7 leave
  pub record Passed (room : ℕ) (x : Extra) : Type 0 where
    pub board : Accepted b (length l.gas)
    pub hots : length x.hot ≤ 4096
    pub turns : length x.turns ≤ 65536
    pub amounts : T (every amount_fits l.gas)
    pub threshold : T (finite_sign_clear x.threshold)
    pub hot : T (ascending x.hot)
    pub area : room ≤ length l.area
    pub words : words_room b ≤ length l.words
    pub floats : floats_room b ≤ length l.floats

  pub passed : (room : ℕ) (x : Extra) → refusal b l room x ≡ 0 → Passed room x
  unfolding refusal
  passed room x e =
      let met = none-failed _ (omega arith) e in
      let one = all-of _ met.0 in
      let five = all-of _ met.1.1.1.1.0 in
      let seven = all-of _ met.1.1.1.1.1.1.0 in
      record {
        board = accepted b (length l.gas) one.0 met.1.0 met.1.1.0 met.1.1.1.0;
        hots = leb→le (length x.hot) 4096 one.1.0;
        turns = leb→le (length x.turns) 65536 one.1.1.0;
        amounts = five.0;
        threshold = five.1.0;
        hot = met.1.1.1.1.1.0;
        area = leb→le room (length l.area) seven.0;
        words = leb→le (words_room b) (length l.words) seven.1.0;
        floats = leb→le (floats_room b) (length l.floats) seven.1.1.0;
      }

  -- refusal 4 is passed
  pub links-pass : (room : ℕ) (x : Extra) → refusal b l room x ≡ 0 → T (links_fit b)
  unfolding refusal
  links-pass room x e = (none-failed _ (omega arith) e).1.1.1.0

  -- events that fit leave the area as long as it was
  pub area-kept : (gas : List Float) (es : List Event) → length (encode_all es) ≤ length l.area → length (after b l gas es).area ≡ length l.area
  unfolding after
  area-kept gas es h =
      length-append (encode_all es) (drop (length (encode_all es)) l.area) ∙ omega (arith, length-drop (length (encode_all es)) l.area, h)
