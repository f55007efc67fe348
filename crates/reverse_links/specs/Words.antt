-- What the functions that find the reverses promise of the words, place by place.
use Rattle.std.specs.Prelude.{ℕ, ◌+◌, ◌-◌, ◌≤◌, ◌<◌, ◌≡◌, ◌≢◌, ◌⊎◌, List, eqb, length, get_or, Option}
use Rattle.basics.specs.Loops.{first, up_from}
use Rattle.scratch.specs.Layout.{reverse_at}
use Rattle.reverse_links.specs.Reverse.{InRow, Linked, word_for}

-- i is not one of the places from lo up to hi
abbrev pub Outside : ℕ → ℕ → ℕ → Type 0
Outside lo hi i = (i < lo) ⊎ (hi ≤ i)

-- the words from lo up to hi may be others, and all else is as it was
pub record But (lo hi : ℕ) (w w' : List ℕ) : Type 0 where
  pub len : length w' ≡ length w
  pub same : (i : ℕ) → Outside lo hi i → get_or w' i 0 ≡ get_or w i 0

-- the first link from `from` to `to` that ends at the turf s
abbrev pub sought : List ℕ → ℕ → ℕ → ℕ → Option ℕ
sought neighbours from to s = first (λ j. eqb (get_or neighbours j 0) s) (up_from from (to - from))

-- the link from `from` up to `to` that ends at the row s, as a word
abbrev pub found : List ℕ → ℕ → ℕ → ℕ → ℕ
found neighbours from to s = word_for (sought neighbours from to s)

-- how many links the turf r has
abbrev pub links_in : List ℕ → ℕ → ℕ
links_in starts r = get_or starts (r + 1) 0 - get_or starts r 0

-- the link that leads back from the end of the link k to the turf q, as a word
abbrev pub leads_back : List ℕ → List ℕ → ℕ → ℕ → ℕ
leads_back starts neighbours q k = found neighbours (get_or starts (get_or neighbours k 0) 0) (get_or starts (get_or neighbours k 0 + 1) 0) q

-- of n turfs and e links: the links as refusal 4 leaves them, and words with room for owners and reverses
pub record Pairing (n e : ℕ) (starts neighbours w : List ℕ) : Type 0 where
  pub linked : Linked n starts neighbours
  pub all : length neighbours ≡ e
  pub links : e ≤ 24576
  pub turfs : n ≤ 4096
  pub room : reverse_at e e ≤ length w

-- k is a link of the turf r, which has `size` links
pub record OfRow (n : ℕ) (starts : List ℕ) (r k size : ℕ) : Type 0 where
  pub row : r < n
  pub link : InRow starts r k
  pub links : size ≡ links_in starts r

-- the words say of each link of n turfs which one leads back
pub record Backs (n : ℕ) (starts neighbours reverse : List ℕ) : Type 0 where
  pub at : (r k : ℕ) → r < n → InRow starts r k → get_or reverse k 0 ≡ leads_back starts neighbours r k

-- Of the links' reverses, the first m were asked for: a link's word is its reverse, or 0 as long as that is open. A link and the one that
-- leads back are found together. No link below m whose end has at most as many links as its turf is open.
pub record Paired (starts neighbours : List ℕ) (n e m : ℕ) (w : List ℕ) : Type 0 where
  pub right : (q k : ℕ) → q < n → InRow starts q k → get_or w (reverse_at k e) 0 ≢ 0 → get_or w (reverse_at k e) 0 ≡ leads_back starts neighbours q k
  pub both : (q k j : ℕ) → q < n → InRow starts q k → leads_back starts neighbours q k ≡ j + 1 → get_or w (reverse_at j e) 0 ≡ 0 → get_or w (reverse_at k e) 0 ≡ 0
  pub done : (q k : ℕ) → q < n → InRow starts q k → k < m → links_in starts (get_or neighbours k 0) ≤ links_in starts q → get_or w (reverse_at k e) 0 ≡ leads_back starts neighbours q k
