-- Laws of bits: what is read after one is set, that the others stay, and how code reads, sets and clears them with a mask 1 << k.
-- Assumes nothing.
use Rattle.std.specs.Prelude.{◌≡◌, refl, ◌≢◌, ℕ, zero, suc, ◌<◌, ◌+◌, ◌-◌, ◌*◌, ◌/◌, ◌%◌, ◌^◌, max, ◌≤◌}
use Rattle.std.proofs.Common.{sym, ap, ap₂, ◌∙◌, div-one, pow-suc, arith}
use Rattle.std.proofs.Math.Nat.{div-div-eq-div-mul}
use Rattle.std.specs.Int.{w8}
use Rattle.std.specs.Int.Bits.{bit_and, bit_or, or_step, or_zero_r}
use Rattle.std.proofs.lemmas.Nat.{and_le_l}
use Rattle.std.proofs.lemmas.Nat.Bits.{bit_at_clear_same, bit_at_clear_other}
use Rattle.std.proofs.Math.Decide.{ℕ_discrete}
use Rattle.std.proofs.Math.Pow.{pow-lt}
use Rattle.words.specs.Bits.{bit, with_bit}

pub bit_lt : (b i : ℕ) → bit b i < 2
unfolding bit
bit_lt b zero = omega arith
bit_lt b (suc i) = bit_lt (b / 2) i

-- a bit that is not 0 is 1
pub bit_one : (b i : ℕ) → bit b i ≢ 0 → bit b i ≡ 1
bit_one b i h = let l = bit_lt b i in omega (arith, h)

pub bit_zero : (i : ℕ) → bit 0 i ≡ 0
unfolding bit
bit_zero zero = refl
bit_zero (suc i) = bit_zero i

half : (r x : ℕ) → r < 2 → (r + 2 * x) / 2 ≡ x
half r x l = omega arith

-- ---- after a bit is set

pub bit_same : (b i v : ℕ) → v < 2 → bit (with_bit b i v) i ≡ v
unfolding bit with_bit
bit_same b zero v l = omega arith
bit_same b (suc i) v l = ap (λ (x : ℕ). bit x i) (half (b % 2) (with_bit (b / 2) i v) (omega arith)) ∙ bit_same (b / 2) i v l

pub bit_other : (b i j v : ℕ) → v < 2 → i ≢ j → bit (with_bit b i v) j ≡ bit b j
unfolding bit with_bit
bit_other b zero zero v l d = absurd (d refl)
bit_other b zero (suc j) v l d = ap (λ (x : ℕ). bit x j) (omega arith)
bit_other b (suc i) zero v l d = omega arith
bit_other b (suc i) (suc j) v l d =
    ap (λ (x : ℕ). bit x j) (half (b % 2) (with_bit (b / 2) i v) (omega arith)) ∙ bit_other (b / 2) i j v l (λ e. d (ap suc e))

-- n bits stay n bits
pub with_bit_lt : (n b i v : ℕ) → v < 2 → i < n → b < 2 ^ n → with_bit b i v < 2 ^ n
unfolding with_bit
with_bit_lt zero b i v l m h = absurd (omega arith)
with_bit_lt (suc n) b zero v l m h = let e : 2 ^ suc n ≡ 2 ^ n * 2 = pow-suc 2 n in omega arith
with_bit_lt (suc n) b (suc i) v l m h =
    let e : 2 ^ suc n ≡ 2 ^ n * 2 = pow-suc 2 n in
    let t : with_bit (b / 2) i v < 2 ^ n = with_bit_lt n (b / 2) i v l (omega arith) (omega arith) in
    omega arith

-- a bit of a byte leaves a byte
pub with_bit_byte : (b k v : ℕ) → v < 2 → k < 8 → b < 256 → with_bit b k v < 256
with_bit_byte b k v l m h = with_bit_lt 8 b k v l m h

-- numbers of n bits are equal by their bits
pub bits_same : (n a b : ℕ) → a < 2 ^ n → b < 2 ^ n → ((i : ℕ) → i < n → bit a i ≡ bit b i) → a ≡ b
unfolding bit
bits_same zero a b l m h = omega arith
bits_same (suc n) a b l m h =
    let e : 2 ^ suc n ≡ 2 ^ n * 2 = pow-suc 2 n in
    let r : a % 2 ≡ b % 2 = h zero (omega arith) in
    let q : a / 2 ≡ b / 2 = bits_same n (a / 2) (b / 2) (omega arith) (omega arith) (λ i k. h (suc i) (omega arith)) in
    omega arith

-- ---- how code computes them

pub bit_shift : (b i : ℕ) → b / 2 ^ i % 2 ≡ bit b i
unfolding bit
bit_shift b zero = ap (λ (x : ℕ). x % 2) (div-one b)
bit_shift b (suc i) = ap (λ (x : ℕ). b / x % 2) (pow-suc 2 i ∙ omega arith) ∙ ap (λ (x : ℕ). x % 2) (sym (div-div-eq-div-mul b 2 (2 ^ i))) ∙ bit_shift (b / 2) i

-- set and cleared differ by the bit's weight
pub set_clear : (b i : ℕ) → with_bit b i 1 ≡ with_bit b i 0 + 2 ^ i
unfolding with_bit
set_clear b zero = omega arith
set_clear b (suc i) =
    let h : with_bit (b / 2) i 1 ≡ with_bit (b / 2) i 0 + 2 ^ i = set_clear (b / 2) i in
    let q : 2 ^ suc i ≡ 2 ^ i * 2 = pow-suc 2 i in
    omega arith

-- an or with the mask sets the bit
pub or_sets : (b i : ℕ) → bit_or b (2 ^ i) ≡ with_bit b i 1
unfolding with_bit
or_sets b zero = or_step b 1 ∙ ap (λ (x : ℕ). x * 2 + max (b % 2) 1) (or_zero_r (b / 2)) ∙ omega arith
or_sets b (suc i) =
    let q : 2 ^ suc i ≡ 2 ^ i * 2 = pow-suc 2 i in
    let h : 2 ^ suc i / 2 ≡ 2 ^ i = omega arith in
    let e : 2 ^ suc i % 2 ≡ 0 = omega arith in
    or_step b (2 ^ suc i)
    ∙ ap₂ (λ (x y : ℕ). bit_or (b / 2) x * 2 + max (b % 2) y) h e
    ∙ ap (λ (x : ℕ). x * 2 + max (b % 2) 0) (or_sets (b / 2) i)
    ∙ omega arith

-- the mask can be taken away again, and then the bit is cleared
pub or_covers : (b i : ℕ) → 2 ^ i ≤ bit_or b (2 ^ i)
or_covers b i = rw (or_sets b i, set_clear b i) (omega arith)

pub or_clears : (b i : ℕ) → bit_or b (2 ^ i) - 2 ^ i ≡ with_bit b i 0
or_clears b i = rw (or_sets b i, set_clear b i) (omega arith)

-- an and with all but the mask clears it
pub and_clears : (b i : ℕ) → b < 256 → i < 8 → bit_and b (255 - 1 * 2 ^ i % 256) ≡ with_bit b i 0
and_clears b i h l = bits_same 8 _ _ (let e = and_le_l b (255 - 1 * 2 ^ i % 256) in omega arith) (with_bit_byte b i 0 (omega arith) l h) bits
  where
    at : (j : ℕ) → Dec (i ≡ j) → j < 8 → bit (bit_and b (255 - 1 * 2 ^ i % 256)) j ≡ bit (with_bit b i 0) j
    at j (yes e) m = rw (sym e) (sym (bit_shift _ i) ∙ bit_at_clear_same w8 b i l ∙ sym (bit_same b i 0 (omega arith)))
    at j (no d) m = sym (bit_shift _ j) ∙ bit_at_clear_other w8 b i l j m (λ e. d (sym e)) ∙ bit_shift b j ∙ sym (bit_other b i j 0 (omega arith) d)

    bits : (j : ℕ) → j < 8 → bit (bit_and b (255 - 1 * 2 ^ i % 256)) j ≡ bit (with_bit b i 0) j
    bits j m = at j (ℕ_discrete i j) m

-- 1 << k in a byte
pub one_shifted : (k : ℕ) → k < 8 → 1 * 2 ^ k % 256 ≡ 2 ^ k
one_shifted k l = let p : 2 ^ k < 2 ^ 8 = pow-lt l in omega arith
