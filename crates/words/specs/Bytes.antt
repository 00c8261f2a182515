-- Document 01, "multi-byte fields and values little-endian": numbers in bytes, and bytes written over others. All are total:
-- past the end a read gives 0 and a write does nothing, so a length never changes. Assumes nothing.
use Rattle.std.specs.Prelude.{List, [], ◌∷◌, ℕ, zero, suc, ◌+◌, ◌*◌, ◌/◌, ◌%◌, ◌<◌, get_or, replicate}

-- bytes as lent: a list of numbers, each below 256 (`AllBytes`)
abbrev pub Bytes : Type 0
Bytes = List ℕ

abbrev pub AllBytes : Bytes → Type 0
AllBytes s = (i : ℕ) → get_or s i 0 < 256

-- the byte at i
abbrev pub byte_at : Bytes → ℕ → ℕ
byte_at s i = get_or s i 0

-- the number in the n bytes from i on
unfoldable pub number : ℕ → Bytes → ℕ → ℕ
number zero s i = 0
number (suc n) s i = byte_at s i + 256 * number n s (suc i)

-- v as n bytes, the lowest first; what does not fit is cut off
unfoldable pub little : ℕ → ℕ → Bytes
little zero v = []
little (suc n) v = v % 256 ∷ little n (v / 256)

-- THE write: the elements of l stand in s from i on, and all else stays
unfoldable pub splice : {A : Type 0} → List A → ℕ → List A → List A
splice [] i l = []
splice (x ∷ s) (suc i) l = x ∷ splice s i l
splice (x ∷ s) zero [] = x ∷ s
splice (x ∷ s) zero (y ∷ l) = y ∷ splice s zero l

-- v stands in the n bytes from i on
unfoldable pub put : ℕ → Bytes → ℕ → ℕ → Bytes
put n s i v = splice s i (little n v)

-- the n bytes from i on are v
unfoldable pub fill : ℕ → Bytes → ℕ → ℕ → Bytes
fill n s i v = splice s i (replicate n v)

-- g 0, g 1, .. g (n - 1), from index a on. (The `let` leaves an element uncomputed until it is read.)
unfoldable pub list_from : {A : Type 0} → (ℕ → A) → ℕ → ℕ → List A
list_from g a zero = []
list_from g a (suc n) = let x = g a in x ∷ list_from g (suc a) n

abbrev pub list_of : {A : Type 0} → (ℕ → A) → ℕ → List A
list_of g n = list_from g 0 n
