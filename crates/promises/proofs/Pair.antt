-- The exported writer and reader: what an accepted write wrote is read back at its offset, whatever else the area holds. Assumes nothing.
use mathlib.Core.Path.{◌≡◌, refl, sym, ap, ◌∙◌}
use mathlib.Core.List.{List, [], ◌∷◌, ◌++◌, map}
use mathlib.Core.Bool.{Bool, true, false, cond}
use Prim.Native.Nat.{ℕ, zero, suc, ◌+◌, ◌-◌, ◌/◌, min}
use native.Mathlib.Nat.{suc-ne-zero}
use native.Mathlib.Omega.{arith}
use lib.Dec.{T, eqb}
use lib.ListN.{length, get_or, take, drop, length-append, length-drop, length-take}
use lib.Seq.{take_at, length-take-le}
use lib.Ieee.{binary32}
use lib.Ieee.Bits.{of_bits-fits}
use Rattle.basics.specs.Loops.{every}
use Rattle.basics.specs.Floats.{finite, of_word}
use Rattle.basics.proofs.Loops.{and_left}
use Rattle.basics.proofs.Tests.{differ}
use Rattle.rules_events.specs.Events.{Put, word_of, kind_of, fields_of, sound, encode, put, size_of, decode, read_at, read_numbers, put_fields}
use Rattle.rules_events.specs.Readings.{Fitting}
use Rattle.rules_events.specs.declared.Event.{Event}
use Rattle.events.specs.Interface.{WriteEvent, reach, read_event, write_event}
use Rattle.events.proofs.ReadAll.{Wrote, wrote, put-read}
use Rattle.events.proofs.Exact.{bits_back}
use Rattle.events.proofs.Numbers.{reach-take}
use Rattle.call_answers.specs.Answers.{Words, ReadAnswers, WriteAnswers}
use Rattle.promises.specs.ReadsBack.{fields_back}

-- ---- an event made of a kind and four u32s

module _ (a b c d : ℕ) (w : Words (a ∷ b ∷ c ∷ d ∷ [])) where
  abbrev fields : List ℕ
  fields = a ∷ b ∷ c ∷ d ∷ []

  -- it has that kind and as many of the fields as the kind has, and the code can hold it
  record Made (k : ℕ) : Type 0 where
    kind : kind_of (decode k a b c d) ≡ k
    words : map word_of (fields_of (decode k a b c d)) ≡ take ((size_of k - 4) / 4) fields
    fitting : Fitting (decode k a b c d)

  made : (k : ℕ) → eqb (size_of k) 0 ≡ false → T (sound (decode k a b c d)) → Made k
  unfolding size_of decode kind_of fields_of Fitting sound every
  made zero s g = absurd (differ s)
  made (suc zero) s g = record { kind = refl; words = refl; fitting = (w.0, tt) }
  made (suc (suc zero)) s g = record { kind = refl; words = refl; fitting = (w.0, tt) }
  made (suc (suc (suc zero))) s g = record {
    kind = refl;
    words = λ i. a ∷ bits_back b w.1.0 (and_left (finite (of_word b)) true g) i ∷ c ∷ d ∷ [];
    fitting = (w.0, (of_bits-fits binary32 b, (w.1.1.0, (w.1.1.1.0, tt))));
  }
  made (suc (suc (suc (suc zero)))) s g = record { kind = refl; words = refl; fitting = (w.0, (w.1.0, tt)) }
  made (suc (suc (suc (suc (suc zero))))) s g = record { kind = refl; words = refl; fitting = (w.0, (w.1.0, tt)) }
  made (suc (suc (suc (suc (suc (suc zero)))))) s g = record { kind = refl; words = refl; fitting = (w.0, tt) }
  made (suc (suc (suc (suc (suc (suc (suc zero))))))) s g = record {
    kind = refl;
    words = λ i. a ∷ bits_back b w.1.0 (and_left (finite (of_word b)) true g) i ∷ c ∷ d ∷ [];
    fitting = (w.0, (of_bits-fits binary32 b, (w.1.1.0, (w.1.1.1.0, tt))));
  }
  made (suc (suc (suc (suc (suc (suc (suc (suc zero)))))))) s g = record {
    kind = refl;
    words = λ i. a ∷ bits_back b w.1.0 (and_left (finite (of_word b)) true g) i ∷ [];
    fitting = (w.0, (of_bits-fits binary32 b, tt));
  }
  made (suc (suc (suc (suc (suc (suc (suc (suc (suc k))))))))) s g = absurd (differ s)

-- ---- the area

-- an accepted write keeps the area's length
put-length : (e : Event) (t : List ℕ) (o : ℕ) → Wrote e t o → length (put e t o).area ≡ length t
put-length e t o w =
    let D = drop (o + length (encode e)) t in
    ap length w.area'
    ∙ omega (arith, length-append (take o t) (encode e ++ D), length-append (encode e) D, length-take-le o t (omega (arith, w.room)), length-drop (o + length (encode e)) t, w.room)

-- what is reached of the area afterwards is what the write left of what was reached before
reach-after : (s t : List ℕ) → length t ≡ length (reach s) → reach (t ++ drop 4294967295 s) ≡ t
reach-after s t e =
    let r : ℕ = length t in
    let n : r ≡ min 4294967295 (length (t ++ drop 4294967295 s)) = omega (arith, e, length-take 4294967295 s, length-append t (drop 4294967295 s), length-drop 4294967295 s) in
    sym (reach-take (t ++ drop 4294967295 s) r n) ∙ take_at t (drop 4294967295 s) r refl

-- ---- the pair

module _ (kind a b c d : ℕ) (w : Words (a ∷ b ∷ c ∷ d ∷ [])) (s : List ℕ) (o : ℕ) where
  abbrev e : Event
  e = decode kind a b c d

  -- a kind that there isn't is not accepted
  is_put : (put_fields kind a b c d (reach s) o).answer.number ≡ 0 → (eqb (size_of kind) 0 ≡ false) × (put_fields kind a b c d (reach s) o ≡ put e (reach s) o)
  unfolding put_fields
  is_put z = go (eqb (size_of kind) 0) refl z
    where
      no : Put
      no = record { answer = record { number = 8; next = 0 }; area = reach s }

      go : (t : Bool) → eqb (size_of kind) 0 ≡ t → (cond t no (put e (reach s) o)).answer.number ≡ 0 → (t ≡ false) × (cond t no (put e (reach s) o) ≡ put e (reach s) o)
      go true i y = absurd (suc-ne-zero 7 y)
      go false i y = (refl, refl)

  -- `read_event` after an accepted `write_event` gives the kind, the fields and the next offset back.
  pub write_read : get_or (write_event kind a b c d s o).answer 0 0 ≡ 0
      → read_event (write_event kind a b c d s o).area o ≡ 0 ∷ kind ∷ get_or (write_event kind a b c d s o).answer 1 0 ∷ fields_back kind (a ∷ b ∷ c ∷ d ∷ [])
  unfolding write_event read_event read_numbers
  write_read z =
      let t = reach s in
      let u = is_put z in
      let y : (put e t o).answer.number ≡ 0 = sym (ap (λ (p : Put). p.answer.number) u.1) ∙ z in
      let v = wrote e t o y in
      let m = made a b c d w kind u.0 v.good in
      let l : length (put_fields kind a b c d t o).area ≡ length t = ap (λ (p : Put). length p.area) u.1 ∙ put-length e t o v in
      ap (λ (x : List ℕ). read_numbers (read_at x o)) (reach-after s (put_fields kind a b c d t o).area l)
      ∙ ap (λ (p : Put). read_numbers (read_at p.area o)) u.1
      ∙ ap read_numbers (put-read e t o y m.fitting)
      ∙ (λ i. 0 ∷ m.kind i ∷ sym (ap (λ (p : Put). p.answer.next) u.1) i ∷ take 4 (m.words i ++ (0 ∷ 0 ∷ 0 ∷ 0 ∷ [])))

-- the exported pair: what an accepted call of the one wrote, the other gives back
pub katmos_write_read : (kind a b c d : ℕ) (s : List ℕ) (o n : ℕ) (x s' : List ℕ) → WriteAnswers kind a b c d s o n x s' → n ≡ 0 → (m : ℕ) (y : List ℕ) → ReadAnswers s' o m y
    → y ≡ 0 ∷ kind ∷ get_or x 1 0 ∷ fields_back kind (a ∷ b ∷ c ∷ d ∷ [])
katmos_write_read kind a b c d s o n x s' h z m y r =
    r.written ∙ ap (λ (p : WriteEvent). read_event p.area o) h.done ∙ write_read kind a b c d h.fields s o (sym h.returned ∙ z)
    ∙ sym (ap (λ (p : WriteEvent). 0 ∷ kind ∷ get_or p.answer 1 0 ∷ fields_back kind (a ∷ b ∷ c ∷ d ∷ [])) h.done)
