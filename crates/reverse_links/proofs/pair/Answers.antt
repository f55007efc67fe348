-- A word that is not 0 stays; a longer row looks here; else the search's answer is the word of both links. Assumes nothing.
use mathlib.Core.Path.{◌≡◌, ◌∙◌, sym, ap}
use Prim.Native.Nat.{ℕ, ◌+◌, ◌-◌, ◌≤◌, ◌<◌}
use native.Mathlib.Omega.{arith}
use mathlib.Core.List.{List}
use lib.ListN.{length, get_or, length-set}
use Rattle.reverse_links.specs.Reverse.{InRow, Linked, word_for}
use Rattle.std.specs.Prelude.{Option, Some}
use Rattle.reverse_links.specs.Words.{found, sought, leads_back}
use Rattle.reverse_links.proofs.Pairs.{end_below, back_low, paired_same, paired_word}
use Rattle.reverse_links.proofs.pair.Goals as goal

-- the row that the link ends at, read as a part of the link list
module _ {n : ℕ} {starts near : List ℕ} (t : Linked n starts near) {q k from to : ℕ} (h : q < n) (i : InRow starts q k)
    (e : from ≡ get_or starts (get_or near k 0) 0) (f : to ≡ get_or starts (get_or near k 0 + 1) 0) where
  order : from ≤ to
  order = omega (arith, t.rise _ (end_below t q k h i))

  inside : to ≤ length near
  inside = omega (arith, t.within _ (end_below t q k h i))

  back : {p : ℕ} → p ≡ found near from to q → p ≡ leads_back starts near q k
  back s = rw (e, f) at s

  -- the link that was found is one of the board's
  low : {o : Option ℕ} {p : ℕ} → o ≡ Some p → o ≡ sought near from to q → p < length near
  low is s = omega (arith, back_low t q k _ h i (back (sym (ap word_for is) ∙ ap word_for s)))

pub overflow_sub-to : goal.overflow_sub-to
overflow_sub-to c =
    let of = c.requires.of_row in
    let links = c.links_of-from.ensures in
    order c.requires.pairing.linked of.row of.link links.0 links.1

pub returns-then-to-from-clause-paired_2 : goal.returns-then-to-from-clause-paired_2
returns-then-to-from-clause-paired_2 c =
    let of = c.requires.of_row in
    paired_same c.requires.pairing.linked _ _ _ _ of.row of.link (λ s. absurd (omega (arith, s, of.links, c.links_of-from.ensures))) c.requires.paired

pub look_back-requires : goal.look_back-requires
look_back-requires c =
    let of = c.requires.of_row in
    let links = c.links_of-from.ensures in
    inside c.requires.pairing.linked of.row of.link links.0 links.1

pub returns-in_default-clause-paired_2 : goal.returns-in_default-clause-paired_2
returns-in_default-clause-paired_2 c =
    let of = c.requires.of_row in
    let links = c.links_of-from.ensures in
    let t = c.requires.pairing.linked in
    let none = back t of.row of.link links.0 links.1 (sym (ap word_for c.in_default.is) ∙ ap word_for c.look_back.ensures) in
    paired_same t _ _ _ _ of.row of.link (λ s. ap (λ (i : ℕ). get_or c.args.words.now i 0) (sym c.reverse_at-here.ensures) ∙ c.if-words-here-ne0.false ∙ none) c.requires.paired

pub reverse_at-there-requires : goal.reverse_at-there-requires
reverse_at-there-requires c = omega (arith, low c.requires.pairing.linked c.requires.of_row.row c.requires.of_row.link c.links_of-from.ensures.0 c.links_of-from.ensures.1 c.in-Some.is c.look_back.ensures, c.requires.pairing.all, c.requires.pairing.links)

pub overflow_add-words : goal.overflow_add-words
overflow_add-words c = omega (arith, low c.requires.pairing.linked c.requires.of_row.row c.requires.of_row.link c.links_of-from.ensures.0 c.links_of-from.ensures.1 c.in-Some.is c.look_back.ensures, c.requires.pairing.all, c.requires.pairing.links)

pub overflow_cast-words : goal.overflow_cast-words
overflow_cast-words c = omega (arith, low c.requires.pairing.linked c.requires.of_row.row c.requires.of_row.link c.links_of-from.ensures.0 c.links_of-from.ensures.1 c.in-Some.is c.look_back.ensures, c.requires.pairing.all, c.requires.pairing.links)

pub offset_bounds-words-there : goal.offset_bounds-words-there
offset_bounds-words-there c = omega (arith, low c.requires.pairing.linked c.requires.of_row.row c.requires.of_row.link c.links_of-from.ensures.0 c.links_of-from.ensures.1 c.in-Some.is c.look_back.ensures, c.requires.pairing.all, c.reverse_at-there.ensures, c.requires.pairing.links)

pub bounds-words-there : goal.bounds-words-there
bounds-words-there c = omega (arith, low c.requires.pairing.linked c.requires.of_row.row c.requires.of_row.link c.links_of-from.ensures.0 c.links_of-from.ensures.1 c.in-Some.is c.look_back.ensures, c.requires.pairing.all, c.reverse_at-there.ensures, c.requires.pairing.room, length-set {A = ℕ})

pub returns : goal.returns
returns c =
    let of = c.requires.of_row in
    let links = c.links_of-from.ensures in
    let pairing = c.requires.pairing in
    let t = pairing.linked in
    let p : ℕ = c.in-Some.back + 1 in
    let both = paired_word t _ _ _ _ _ pairing.all pairing.room of.row of.link (omega arith) (back t of.row of.link links.0 links.1 (sym (ap word_for c.in-Some.is) ∙ ap word_for c.look_back.ensures)) c.requires.paired in
    let less : p - 1 ≡ c.in-Some.back = omega arith in
    rw (c.reverse_at-here.ensures, c.reverse_at-there.ensures) (record { but = rw less at both.0; paired_2 = rw less at both.1 })
