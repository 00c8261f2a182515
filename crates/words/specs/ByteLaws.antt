-- Laws of bytes. First `splice`, the one write, over lists of anything: what it leaves at each index, and how two of them meet.
-- Then numbers: what is read after a write (`number_splice` is THE apartness law), puts and fills as instances of `splice`, the widths of the
-- code written out. Last the list of a function's values. All over every width and place at once. Assumes nothing.
use Rattle.std.specs.Prelude.{◌≡◌, ◌⊎◌, length, get_or, set, take, drop, replicate}
use Rattle.std.proofs.Math.Path.{refl, sym, ap}
use Rattle.std.proofs.Common.{length-take, length-drop, ap₂, ◌∙◌, ⊎_elim, not-suc-le-zero, mod-lt, mod-eq_of_lt, pow-suc, add-zero, zero-add, suc-add, mul_comm, mul_assoc, one-add, arith, lit<}
use mathlib.Core.List.{List, [], ◌∷◌, ◌++◌, map}
use Rattle.std.proofs.Math.Logic.{inl, inr}
use Prim.Native.Nat.{ℕ, zero, suc, ◌+◌, ◌-◌, ◌*◌, ◌/◌, ◌%◌, ◌^◌, ◌≤◌, ◌<◌}
use Rattle.std.proofs.Math.Nat.{mod-one, div-div-eq-div-mul}
use Rattle.std.proofs.Math.Numerals.{towards_suc}
use Rattle.std.proofs.Math.Decide.{dec_lt}
use Rattle.std.proofs.Math.Arith.{mod-mul, digits_lt}
use Rattle.std.proofs.lemmas.List.{length-replicate, get_or-replicate, replicate-append-replicate}
use Rattle.std.proofs.Math.ListN.{get_or-eq_default}
use Rattle.words.specs.Bytes.{Bytes, AllBytes, byte_at, number, little, splice, put, fill, list_from, list_of}

-- the n elements from i on and the m elements from k on share none
abbrev pub Apart : ℕ → ℕ → ℕ → ℕ → Type 0
Apart n i m k = (k + m ≤ i) ⊎ (i + n ≤ k)

-- how `omega` shows it where neither order is known: no index is in both
pub apart : (n i m k : ℕ) → (i < k + m → k < i + n → ⊥) → Apart n i m k
apart n i m k h = by (dec_lt i (k + m))
  where
    by : Dec (i < k + m) → Apart n i m k
    by (no a) = inl (omega arith)
    by (yes a) = inr (after (dec_lt k (i + n)))
      where
        after : Dec (k < i + n) → i + n ≤ k
        after (yes b) = absurd (h a b)
        after (no b) = omega arith

module _ {A : Type 0} where
  -- a length never changes
  pub length_splice : (s : List A) (i : ℕ) (l : List A) → length (splice s i l) ≡ length s
  unfolding splice
  length_splice [] i l = refl
  length_splice (x ∷ s) (suc i) l = ap suc (length_splice s i l)
  length_splice (x ∷ s) zero [] = refl
  length_splice (x ∷ s) zero (y ∷ l) = ap suc (length_splice s zero l)

  -- ---- by index

  get_d_splice_at : (s : List A) (i : ℕ) (l : List A) (j k : ℕ) (d : A) → j ≡ i + k → k < length l → j < length s
      → get_or (splice s i l) j d ≡ get_or l k d
  unfolding splice
  get_d_splice_at [] i l j k d e a b = absurd (not-suc-le-zero b)
  get_d_splice_at (x ∷ s) (suc i) l zero k d e a b = absurd (omega arith)
  get_d_splice_at (x ∷ s) (suc i) l (suc j) k d e a b = get_d_splice_at s i l j k d (omega arith) a (omega arith)
  get_d_splice_at (x ∷ s) zero [] j k d e a b = absurd (not-suc-le-zero a)
  get_d_splice_at (x ∷ s) zero (y ∷ l) zero zero d e a b = refl
  get_d_splice_at (x ∷ s) zero (y ∷ l) zero (suc k) d e a b = absurd (omega arith)
  get_d_splice_at (x ∷ s) zero (y ∷ l) (suc j) zero d e a b = absurd (omega arith)
  get_d_splice_at (x ∷ s) zero (y ∷ l) (suc j) (suc k) d e a b = get_d_splice_at s zero l j k d (omega arith) (omega arith) (omega arith)

  -- element k of what is written stands at i + k
  pub get_d_splice_add : (s : List A) (i : ℕ) (l : List A) (k : ℕ) (d : A) → k < length l → i + k < length s
      → get_or (splice s i l) (i + k) d ≡ get_or l k d
  get_d_splice_add s i l k d a b = get_d_splice_at s i l (i + k) k d refl a b

  pub get_d_splice_in : (s : List A) (i : ℕ) (l : List A) (k : ℕ) (d : A) → i ≤ k → k < i + length l → k < length s
      → get_or (splice s i l) k d ≡ get_or l (k - i) d
  get_d_splice_in s i l k d a b c = get_d_splice_at s i l k (k - i) d (omega arith) (omega arith) c

  pub get_d_splice_out : (s : List A) (i : ℕ) (l : List A) (k : ℕ) (d : A) → (k < i) ⊎ (i + length l ≤ k)
      → get_or (splice s i l) k d ≡ get_or s k d
  unfolding splice
  get_d_splice_out [] i l k d h = refl
  get_d_splice_out (x ∷ s) (suc i) l zero d h = refl
  get_d_splice_out (x ∷ s) (suc i) l (suc k) d h =
      get_d_splice_out s i l k d (⊎_elim (λ a. inl (omega arith)) (λ a. inr (omega arith)) h)
  get_d_splice_out (x ∷ s) zero [] k d h = refl
  get_d_splice_out (x ∷ s) zero (y ∷ l) zero d h = absurd (⊎_elim (λ a. omega arith) (λ a. omega arith) h)
  get_d_splice_out (x ∷ s) zero (y ∷ l) (suc k) d h =
      get_d_splice_out s zero l k d (⊎_elim (λ a. absurd (omega arith)) (λ a. inr (omega arith)) h)

  -- what every element of both lists has, every element of the result has
  pub splice_every : (P : A → Type 0) (d : A) (s : List A) (i : ℕ) (l : List A) → ((k : ℕ) → P (get_or s k d)) → ((k : ℕ) → P (get_or l k d))
      → (k : ℕ) → P (get_or (splice s i l) k d)
  unfolding splice
  splice_every P d [] i l g h k = g k
  splice_every P d (x ∷ s) (suc i) l g h zero = g zero
  splice_every P d (x ∷ s) (suc i) l g h (suc k) = splice_every P d s i l (λ j. g (suc j)) h k
  splice_every P d (x ∷ s) zero [] g h k = g k
  splice_every P d (x ∷ s) zero (y ∷ l) g h zero = h zero
  splice_every P d (x ∷ s) zero (y ∷ l) g h (suc k) = splice_every P d s zero l (λ j. g (suc j)) (λ j. h (suc j)) k

  -- ---- little by little

  pub splice_none : (s : List A) (i : ℕ) → splice s i [] ≡ s
  unfolding splice
  splice_none [] i = refl
  splice_none (x ∷ s) (suc i) = ap (λ (r : List A). x ∷ r) (splice_none s i)
  splice_none (x ∷ s) zero = refl

  -- the first element stored last: how code that goes down writes
  pub splice_cons : (s : List A) (i : ℕ) (v : A) (l : List A) → splice s i (v ∷ l) ≡ set (splice s (suc i) l) i v
  unfolding splice
  splice_cons [] i v l = refl
  splice_cons (x ∷ s) (suc i) v l = ap (λ (r : List A). x ∷ r) (splice_cons s i v l)
  splice_cons (x ∷ s) zero v l = refl

  pub splice_one : (s : List A) (i : ℕ) (v : A) → splice s i (v ∷ []) ≡ set s i v
  splice_one s i v = splice_cons s i v [] ∙ ap (λ (r : List A). set r i v) (splice_none s (suc i))

  -- the same where the second place is known by an equation
  pub splice_append_at : (s : List A) (i : ℕ) (l m : List A) (j : ℕ) → j ≡ i + length l → splice s i (l ++ m) ≡ splice (splice s i l) j m
  unfolding splice
  splice_append_at [] i l m j e = refl
  splice_append_at (x ∷ s) (suc i) l m zero e = absurd (omega arith)
  splice_append_at (x ∷ s) (suc i) l m (suc j) e = ap (λ (r : List A). x ∷ r) (splice_append_at s i l m j (omega arith))
  splice_append_at (x ∷ s) zero [] m zero e = refl
  splice_append_at (x ∷ s) zero [] m (suc j) e = absurd (omega arith)
  splice_append_at (x ∷ s) zero (y ∷ l) m zero e = absurd (omega arith)
  splice_append_at (x ∷ s) zero (y ∷ l) m (suc j) e = ap (λ (r : List A). y ∷ r) (splice_append_at s zero l m j (omega arith))

  -- two lists one behind the other are two writes at adjacent places
  pub splice_append : (s : List A) (i : ℕ) (l m : List A) → splice s i (l ++ m) ≡ splice (splice s i l) (i + length l) m
  splice_append s i l m = splice_append_at s i l m (i + length l) refl

  -- one element more at the end: how a loop that goes up writes
  pub splice_snoc : (s : List A) (i : ℕ) (l : List A) (v : A) → splice s i (l ++ (v ∷ [])) ≡ set (splice s i l) (i + length l) v
  splice_snoc s i l v = splice_append s i l (v ∷ []) ∙ splice_one (splice s i l) (i + length l) v

  -- ---- two writes

  comm_after : (s : List A) (i : ℕ) (l : List A) (k : ℕ) (m : List A) → i + length l ≤ k
      → splice (splice s i l) k m ≡ splice (splice s k m) i l
  unfolding splice
  comm_after [] i l k m h = refl
  comm_after (x ∷ s) (suc i) l zero m h = absurd (omega arith)
  comm_after (x ∷ s) (suc i) l (suc k) m h = ap (λ (r : List A). x ∷ r) (comm_after s i l k m (omega arith))
  comm_after (x ∷ s) zero [] k m h = sym (splice_none (splice (x ∷ s) k m) zero)
  comm_after (x ∷ s) zero (y ∷ l) zero m h = absurd (omega arith)
  comm_after (x ∷ s) zero (y ∷ l) (suc k) m h = ap (λ (r : List A). y ∷ r) (comm_after s zero l k m (omega arith))

  -- writes that lie apart commute
  pub splice_comm : (s : List A) (i : ℕ) (l : List A) (k : ℕ) (m : List A) → Apart (length l) i (length m) k
      → splice (splice s i l) k m ≡ splice (splice s k m) i l
  splice_comm s i l k m (inl h) = sym (comm_after s k m i l h)
  splice_comm s i l k m (inr h) = comm_after s i l k m h

  -- a write that covers an earlier one leaves nothing of it
  pub splice_over : (s : List A) (k : ℕ) (m : List A) (i : ℕ) (l : List A) → i ≤ k → k + length m ≤ i + length l
      → splice (splice s k m) i l ≡ splice s i l
  unfolding splice
  splice_over [] k m i l a b = refl
  splice_over (x ∷ s) (suc k) m (suc i) l a b = ap (λ (r : List A). x ∷ r) (splice_over s k m i l (omega arith) (omega arith))
  splice_over (x ∷ s) zero m (suc i) l a b = absurd (not-suc-le-zero a)
  splice_over (x ∷ s) (suc k) m zero [] a b = absurd (omega arith)
  splice_over (x ∷ s) (suc k) m zero (y ∷ l) a b = ap (λ (r : List A). y ∷ r) (splice_over s k m zero l (omega arith) (omega arith))
  splice_over (x ∷ s) zero [] zero l a b = refl
  splice_over (x ∷ s) zero (z ∷ m) zero [] a b = absurd (omega arith)
  splice_over (x ∷ s) zero (z ∷ m) zero (y ∷ l) a b = ap (λ (r : List A). y ∷ r) (splice_over s zero m zero l (omega arith) (omega arith))

  -- ---- against what stands there

  -- past the end nothing is written
  pub splice_past : (s : List A) (i : ℕ) (l : List A) → length s ≤ i → splice s i l ≡ s
  unfolding splice
  splice_past [] i l h = refl
  splice_past (x ∷ s) (suc i) l h = ap (λ (r : List A). x ∷ r) (splice_past s i l (omega arith))
  splice_past (x ∷ s) zero l h = absurd (not-suc-le-zero h)

  same_at : (d : A) (s : List A) (i : ℕ) (l : List A) → ((j k : ℕ) → j ≡ i + k → k < length l → j < length s → get_or s j d ≡ get_or l k d)
      → splice s i l ≡ s
  unfolding splice
  same_at d [] i l h = refl
  same_at d (x ∷ s) (suc i) l h = ap (λ (r : List A). x ∷ r) (same_at d s i l (λ j k e a b. h (suc j) k (omega arith) a (omega arith)))
  same_at d (x ∷ s) zero [] h = refl
  same_at d (x ∷ s) zero (y ∷ l) h =
      ap (λ (z : A). z ∷ splice s zero l) (sym (h zero zero (omega arith) (omega arith) (omega arith)))
      ∙ ap (λ (r : List A). x ∷ r) (same_at d s zero l (λ j k e a b. h (suc j) (suc k) (omega arith) (omega arith) (omega arith)))

  -- what is there already changes nothing
  pub splice_same : (d : A) (s : List A) (i : ℕ) (l : List A) → ((k : ℕ) → k < length l → i + k < length s → get_or s (i + k) d ≡ get_or l k d)
      → splice s i l ≡ s
  splice_same d s i l h = same_at d s i l (λ j k e a b. rw e (h k a (rw e at b)))

  -- what was written stands there
  pub part_splice : (s : List A) (i : ℕ) (l : List A) → i + length l ≤ length s → take (length l) (drop i (splice s i l)) ≡ l
  unfolding splice
  part_splice [] i [] h = refl
  part_splice [] i (y ∷ l) h = absurd (omega arith)
  part_splice (x ∷ s) (suc i) l h = part_splice s i l (omega arith)
  part_splice (x ∷ s) zero [] h = refl
  part_splice (x ∷ s) zero (y ∷ l) h = ap (λ (r : List A). y ∷ r) (part_splice s zero l (omega arith))

  -- a part of s that holds l now: what comes back of `&mut s[i..e]`
  pub splice_part : (s : List A) (i k : ℕ) (l : List A) → length l ≡ k → i + k ≤ length s → take i s ++ (l ++ drop k (drop i s)) ≡ splice s i l
  unfolding splice
  splice_part [] zero k [] e h = rw (sym e) refl
  splice_part [] zero k (y ∷ l) e h = absurd (omega arith)
  splice_part [] (suc i) k l e h = absurd (omega arith)
  splice_part (x ∷ s) (suc i) k l e h = ap (λ (r : List A). x ∷ r) (splice_part s i k l e (omega arith))
  splice_part (x ∷ s) zero k [] e h = rw (sym e) refl
  splice_part (x ∷ s) zero zero (y ∷ l) e h = absurd (omega arith)
  splice_part (x ∷ s) zero (suc k) (y ∷ l) e h = ap (λ (r : List A). y ∷ r) (splice_part s zero k l (omega arith) (omega arith))

  -- a list as long takes the other's place
  pub splice_whole : (s l : List A) → length l ≡ length s → splice s zero l ≡ l
  unfolding splice
  splice_whole [] [] e = refl
  splice_whole [] (y ∷ l) e = absurd (omega arith)
  splice_whole (x ∷ s) [] e = absurd (omega arith)
  splice_whole (x ∷ s) (y ∷ l) e = ap (λ (r : List A). y ∷ r) (splice_whole s l (omega arith))

-- ---- bytes stay bytes

pub splice_bytes : (s : Bytes) (i : ℕ) (l : Bytes) → AllBytes s → AllBytes l → AllBytes (splice s i l)
splice_bytes s i l g h = splice_every (λ (b : ℕ). b < 256) 0 s i l g h

pub little_bytes : (n v : ℕ) → AllBytes (little n v)
unfolding little
little_bytes zero v k = lit< tt
little_bytes (suc n) v zero = mod-lt v (lit< tt)
little_bytes (suc n) v (suc k) = little_bytes n (v / 256) k

pub replicate_bytes : (n v : ℕ) → v < 256 → AllBytes (replicate n v)
replicate_bytes zero v h k = lit< tt
replicate_bytes (suc n) v h zero = h
replicate_bytes (suc n) v h (suc k) = replicate_bytes n v h k

-- ---- lengths

pub length_little : (n v : ℕ) → length (little n v) ≡ n
unfolding little
length_little zero v = refl
length_little (suc n) v = ap suc (length_little n (v / 256))

pub length_fill : (n : ℕ) (s : Bytes) (i v : ℕ) → length (fill n s i v) ≡ length s
unfolding fill
length_fill n s i v = length_splice s i (replicate n v)

-- ---- numbers

pub pow_pos : (n : ℕ) → 0 < 256 ^ n
pow_pos zero = lit< tt
pow_pos (suc n) = rw pow-suc (let h : 0 < 256 ^ n = pow_pos n in omega arith)

-- n bytes make a number below 256 ^ n
pub number_lt : (n : ℕ) (s : Bytes) (i : ℕ) → AllBytes s → number n s i < 256 ^ n
unfolding number
number_lt zero s i g = lit< tt
number_lt (suc n) s i g =
    rw pow-suc (let h : number n s (suc i) * 256 + byte_at s i < 256 ^ n * 256 = digits_lt (number_lt n s (suc i) g) (g i) in omega arith)

moved_at : (n : ℕ) (s t : Bytes) (i k : ℕ)
    → ((j a b : ℕ) → j < n → a ≡ i + j → b ≡ k + j → byte_at s a ≡ byte_at t b) → number n s i ≡ number n t k
unfolding number
moved_at zero s t i k h = refl
moved_at (suc n) s t i k h =
    ap₂ (λ (x y : ℕ). x + 256 * y)
    (h zero i k (omega arith) (omega arith) (omega arith))
    (moved_at n s t (suc i) (suc k) (λ j a b l p q. h (suc j) a b (omega arith) (omega arith) (omega arith)))

-- equal bytes make equal numbers, also at two places
pub number_moved : (n : ℕ) (s t : Bytes) (i k : ℕ) → ((j : ℕ) → j < n → byte_at s (i + j) ≡ byte_at t (k + j)) → number n s i ≡ number n t k
number_moved n s t i k h = moved_at n s t i k (λ j a b l p q. rw (p, q) (h j l))

-- numbers agree where bytes agree
pub number_agree : (n : ℕ) (s t : Bytes) (i : ℕ) → ((j : ℕ) → i ≤ j → j < i + n → byte_at s j ≡ byte_at t j) → number n s i ≡ number n t i
number_agree n s t i h = number_moved n s t i i (λ j l. h (i + j) (omega arith) (omega arith))

pub number_zero : (n : ℕ) (s : Bytes) (i : ℕ) → ((j : ℕ) → i ≤ j → j < i + n → byte_at s j ≡ 0) → number n s i ≡ 0
unfolding number
number_zero zero s i h = refl
number_zero (suc n) s i h =
    let a : byte_at s i ≡ 0 = h i (omega arith) (omega arith) in
    let b : number n s (suc i) ≡ 0 = number_zero n s (suc i) (λ j l m. h j (omega arith) (omega arith)) in
    omega arith

-- a number is zero only if its bytes are
pub zero_byte : (n : ℕ) (s : Bytes) (i : ℕ) → number n s i ≡ 0 → (j : ℕ) → j < n → byte_at s (i + j) ≡ 0
unfolding number
zero_byte zero s i e j h = absurd (not-suc-le-zero h)
zero_byte (suc n) s i e zero h = let q : i + 0 ≡ i = omega arith in rw q (omega arith)
zero_byte (suc n) s i e (suc j) h =
    let q : i + suc j ≡ suc i + j = omega arith in
    rw q (zero_byte n s (suc i) (omega arith) j (omega arith))

-- the first n bytes and the m after them
pub number_add : (n m : ℕ) (s : Bytes) (i : ℕ) → number (n + m) s i ≡ number n s i + 256 ^ n * number m s (i + n)
unfolding number
number_add zero m s i = rw (zero-add m, add-zero i) (omega arith)
number_add (suc n) m s i =
    let e : i + suc n ≡ suc i + n = omega arith in
    let h = number_add n m s (suc i) in
    let q : 256 ^ n * 256 * number m s (suc i + n) ≡ 256 * (256 ^ n * number m s (suc i + n)) = ap (λ (x : ℕ). x * number m s (suc i + n)) (mul_comm (256 ^ n) 256) ∙ mul_assoc 256 (256 ^ n) (number m s (suc i + n)) in
    rw (suc-add n m, e, pow-suc) (omega arith)

pub number_halves : (s : Bytes) (i : ℕ) → number 4 s i ≡ number 2 s i + number 2 s (i + 2) * 65536
number_halves s i = let h = number_add 2 2 s i in omega arith

-- past the end all is 0
pub byte_past : (s : Bytes) (i : ℕ) → length s ≤ i → byte_at s i ≡ 0
byte_past s i h = get_or-eq_default s 0 h

pub number_past : (n : ℕ) (s : Bytes) (i : ℕ) → length s ≤ i → number n s i ≡ 0
number_past n s i h = number_zero n s i (λ j a b. byte_past s j (omega arith))

-- ---- numbers after a write

-- THE apartness law: a write changes no number whose bytes lie apart
pub number_splice : (s : Bytes) (i : ℕ) (l : Bytes) (m k : ℕ) → Apart (length l) i m k → number m (splice s i l) k ≡ number m s k
number_splice s i l m k h =
    number_agree m (splice s i l) s k
    (λ j a b. get_d_splice_out s i l j 0 (⊎_elim (λ c. inl (omega arith)) (λ c. inr (omega arith)) h))

-- a number inside what is written is the one that the writing has
pub number_in_splice : (n : ℕ) (s : Bytes) (i : ℕ) (l : Bytes) (k : ℕ) → k + n ≤ length l → i + k + n ≤ length s
    → number n (splice s i l) (i + k) ≡ number n l k
number_in_splice n s i l k a b =
    number_moved n (splice s i l) l (i + k) k
    (λ j h. let e : i + k + j ≡ i + (k + j) = omega arith in rw e (get_d_splice_add s i l (k + j) 0 (omega arith) (omega arith)))

-- v cut to n bytes
pub number_little : (n v : ℕ) → number n (little n v) 0 ≡ v % 256 ^ n
unfolding number little
number_little zero v = sym (mod-one v)
number_little (suc n) v =
    ap (λ (x : ℕ). v % 256 + 256 * x)
    (number_moved n (v % 256 ∷ little n (v / 256)) (little n (v / 256)) 1 0 (λ j h. simp (one-add, zero-add)) ∙ number_little n (v / 256))
    ∙ sym (rw pow-suc (mod-mul v {m = 256 ^ n} (pow_pos n) (lit< tt) ∙ omega arith))

-- what was put is read again, cut to its width
pub number_put_same : (n : ℕ) (s : Bytes) (i v : ℕ) → i + n ≤ length s → number n (put n s i v) i ≡ v % 256 ^ n
unfolding put
number_put_same n s i v h =
    ap (λ (k : ℕ). number n (splice s i (little n v)) k) (sym (add-zero i))
    ∙ number_in_splice n s i (little n v) 0 (rw length_little (omega arith)) (omega arith)
    ∙ number_little n v

pub number_put_fits : (n : ℕ) (s : Bytes) (i v : ℕ) → i + n ≤ length s → v < 256 ^ n → number n (put n s i v) i ≡ v
number_put_fits n s i v h l = number_put_same n s i v h ∙ mod-eq_of_lt l

-- a filled byte
pub byte_fill : (n : ℕ) (s : Bytes) (i v k : ℕ) → i ≤ k → k < i + n → k < length s → byte_at (fill n s i v) k ≡ v
unfolding fill
byte_fill n s i v k a b c =
    get_d_splice_in s i (replicate n v) k 0 a (rw length-replicate b) c ∙ get_or-replicate n (k - i) v 0 (omega arith)

-- ---- puts and numbers

pub put_past : (n : ℕ) (s : Bytes) (i v : ℕ) → length s ≤ i → put n s i v ≡ s
unfolding put
put_past n s i v h = splice_past s i (little n v) h

-- the bytes of a number that was read are those that were read
pub little_number : (n : ℕ) (s : Bytes) (i k : ℕ) → AllBytes s → k < n → get_or (little n (number n s i)) k 0 ≡ byte_at s (i + k)
unfolding little number
little_number zero s i k g h = absurd (not-suc-le-zero h)
little_number (suc n) s i zero g h = let e : i + 0 ≡ i = add-zero i in rw e (let l = g i in omega arith)
little_number (suc n) s i (suc k) g h =
    let a : (byte_at s i + 256 * number n s (suc i)) / 256 ≡ number n s (suc i) = let l = g i in omega arith in
    let e : i + suc k ≡ suc i + k = omega arith in
    rw (a, e) (little_number n s (suc i) k g (omega arith))

-- what is put back where it was read changes nothing
pub put_number : (n : ℕ) (s : Bytes) (i : ℕ) → AllBytes s → put n s i (number n s i) ≡ s
unfolding put
put_number n s i g =
    splice_same 0 s i (little n (number n s i)) (λ k a b. sym (little_number n s i k g (rw length_little at a)))

-- what does not fit is cut off
pub little_cut : (n v : ℕ) → little n (v % 256 ^ n) ≡ little n v
unfolding little
little_cut zero v = refl
little_cut (suc n) v =
    let e : v % 256 ^ suc n ≡ (v / 256 % 256 ^ n) * 256 + v % 256 = rw pow-suc (mod-mul v {m = 256 ^ n} (pow_pos n) (lit< tt)) in
    let a : v % 256 ^ suc n % 256 ≡ v % 256 = omega arith in
    let b : v % 256 ^ suc n / 256 ≡ v / 256 % 256 ^ n = omega arith in
    rw (a, b, little_cut n (v / 256))

pub put_cut : (n : ℕ) (s : Bytes) (i v : ℕ) → put n s i (v % 256 ^ n) ≡ put n s i v
unfolding put
put_cut n s i v = ap (splice s i) (little_cut n v)

-- ---- a part of the bytes that is written as a slice of its own, `&mut s[i..i + n]`

pub put_part : (n : ℕ) (s : Bytes) (i v : ℕ) (l : Bytes) → l ≡ little n v → i + n ≤ length s
    → take i s ++ (l ++ drop (i + n - i) (drop i s)) ≡ put n s i v
unfolding put
put_part n s i v l e h = rw e (splice_part s i (i + n - i) (little n v) (length_little n v ∙ omega arith) (omega arith))

pub fill_part : (n : ℕ) (s : Bytes) (i v : ℕ) (l : Bytes) → l ≡ replicate (length (take (i + n - i) (drop i s))) v → i + n ≤ length s
    → take i s ++ (l ++ drop (i + n - i) (drop i s)) ≡ fill n s i v
unfolding fill
fill_part n s i v l e h =
    let k : length (take (i + n - i) (drop i s)) ≡ n = simp (length-take, length-drop) (omega arith) in
    rw (e, k) (splice_part s i (i + n - i) (replicate n v) (length-replicate n v ∙ omega arith) (omega arith))

-- ---- the widths of the code written out, the highest byte stored first

pub number_one : (s : Bytes) (i : ℕ) → number 1 s i ≡ byte_at s i
unfolding number
number_one s i = omega arith

pub number_two : (s : Bytes) (i : ℕ) → number 2 s i ≡ byte_at s i + byte_at s (i + 1) * 256
unfolding number
number_two s i = simp towards_suc (omega arith)

pub number_four : (s : Bytes) (i : ℕ)
    → number 4 s i ≡ byte_at s i + byte_at s (i + 1) * 256 + byte_at s (i + 2) * 65536 + byte_at s (i + 3) * 16777216
unfolding number
number_four s i = simp towards_suc (omega arith)

pub put_one : (s : Bytes) (i v : ℕ) → put 1 s i v ≡ set s i (v % 256)
unfolding put little
put_one s i v = splice_one s i (v % 256)

-- a byte put is a byte set
pub put_byte : (s : Bytes) (i v : ℕ) → v < 256 → put 1 s i v ≡ set s i v
put_byte s i v h = put_one s i v ∙ ap (set s i) (mod-eq_of_lt h)

pub put_two : (s : Bytes) (i v : ℕ) → put 2 s i v ≡ set (set s (i + 1) (v / 256 % 256)) i (v % 256)
unfolding put little
put_two s i v = simp (towards_suc, splice_cons, splice_none)

pub put_four : (s : Bytes) (i v : ℕ)
    → put 4 s i v ≡ set (set (set (set s (i + 3) (v / 16777216 % 256)) (i + 2) (v / 65536 % 256)) (i + 1) (v / 256 % 256)) i (v % 256)
unfolding put little
put_four s i v = simp (towards_suc, splice_cons, splice_none, div-div-eq-div-mul)

-- ---- a loop that fills

pub fill_none : (s : Bytes) (i v : ℕ) → fill 0 s i v ≡ s
unfolding fill
fill_none s i v = splice_none s i

-- one byte more, upward
pub fill_up : (n : ℕ) (s : Bytes) (i v : ℕ) → fill (n + 1) s i v ≡ set (fill n s i v) (i + n) v
unfolding fill
fill_up n s i v =
    ap (splice s i) (sym (replicate-append-replicate n 1 v))
    ∙ splice_snoc s i (replicate n v) v
    ∙ ap (λ (k : ℕ). set (splice s i (replicate n v)) (i + k) v) (length-replicate n v)

-- the bytes of a number as `to_le_bytes` gives them
pub little_two : (v : ℕ) → v % 65536 % 256 ∷ v % 65536 / 256 % 256 ∷ [] ≡ little 2 v
unfolding little
little_two v = little_cut 2 v

pub little_four : (v : ℕ) → v % 256 ∷ v / 256 % 256 ∷ v / 65536 % 256 ∷ v / 16777216 % 256 ∷ [] ≡ little 4 v
unfolding little
little_four v = simp div-div-eq-div-mul

-- ---- the list of a function's values

module _ {A : Type 0} (g : ℕ → A) where
  pub length_list_from : (a n : ℕ) → length (list_from g a n) ≡ n
  unfolding list_from
  length_list_from a zero = refl
  length_list_from a (suc n) = ap suc (length_list_from (suc a) n)

  pub get_d_list_from : (a n k : ℕ) (d : A) → k < n → get_or (list_from g a n) k d ≡ g (a + k)
  unfolding list_from
  get_d_list_from a zero k d h = absurd (not-suc-le-zero h)
  get_d_list_from a (suc n) zero d h = ap g (sym (add-zero a))
  get_d_list_from a (suc n) (suc k) d h = get_d_list_from (suc a) n k d (omega arith) ∙ ap g (omega arith)

  pub length_list_of : (n : ℕ) → length (list_of g n) ≡ n
  length_list_of n = length_list_from 0 n

  pub get_d_list_of : (n k : ℕ) (d : A) → k < n → get_or (list_of g n) k d ≡ g k
  get_d_list_of n k d h = get_d_list_from 0 n k d h ∙ ap g (zero-add k)

  pub list_of_past : (n k : ℕ) (d : A) → n ≤ k → get_or (list_of g n) k d ≡ d
  list_of_past n k d h = get_or-eq_default (list_of g n) d (rw length_list_of h)

pub map_list_from : {A B : Type 0} (f : A → B) (g : ℕ → A) (a n : ℕ) → map f (list_from g a n) ≡ list_from (λ k. f (g k)) a n
unfolding list_from
map_list_from f g a zero = refl
map_list_from {B = B} f g a (suc n) = ap (λ (r : List B). f (g a) ∷ r) (map_list_from f g (suc a) n)

pub list_from_agree : {A : Type 0} (g h : ℕ → A) (a n : ℕ) → ((k : ℕ) → a ≤ k → k < a + n → g k ≡ h k) → list_from g a n ≡ list_from h a n
unfolding list_from
list_from_agree g h a zero e = refl
list_from_agree {A} g h a (suc n) e =
    ap₂ (λ (x : A) (r : List A). x ∷ r)
    (e a (omega arith) (omega arith))
    (list_from_agree g h (suc a) n (λ k l m. e k (omega arith) (omega arith)))

pub list_of_agree : {A : Type 0} (g h : ℕ → A) (n : ℕ) → ((k : ℕ) → k < n → g k ≡ h k) → list_of g n ≡ list_of h n
list_of_agree g h n e = list_from_agree g h 0 n (λ k l m. e k (omega arith))

pub list_of_bytes : (g : ℕ → ℕ) (n : ℕ) → ((k : ℕ) → k < n → g k < 256) → AllBytes (list_of g n)
list_of_bytes g n h k = by (dec_lt k n)
  where
    by : Dec (k < n) → byte_at (list_of g n) k < 256
    by (yes l) = rw (get_d_list_of g n k 0 l) (h k l)
    by (no l) = rw (list_of_past g n k 0 (omega arith)) (lit< tt)
