-- Zero bytes: what a scan over them says, and numbers that are zero. Assumes nothing.
use Rattle.std.specs.Prelude.{◌≡◌, Bool, true, ◌&&◌, ◌⊎◌, ℕ, ◌+◌, ◌-◌, ◌<◌, ◌≤◌, eqb, length}
use Rattle.std.proofs.Common.{sym, ap, ◌∙◌, ⊎_elim, arith}
use Rattle.words.specs.Bytes.{Bytes, byte_at, number}
use Rattle.words.specs.ByteLaws.{byte_past, zero_byte}
use Rattle.words.specs.Choose.{lt_or_le}
use Rattle.stack.specs.Tells.{Tells, tells_map, tells_and, tells_yes, tells_eq}

-- byte i is zero, if it is one of those from `from` on
pub record ZeroFrom (s : Bytes) (from i : ℕ) : Type 0 where
  pub is : from ≤ i → byte_at s i ≡ 0

-- the bytes from .. to - 1 are zero
abbrev pub Zero : Bytes → ℕ → ℕ → Type 0
Zero s from to = (i : ℕ) → i < to → ZeroFrom s from i

pub zero_start : (s : Bytes) (from i : ℕ) → i < from → ZeroFrom s from i
zero_start s from i h = record { is = λ l. absurd (omega arith) }

-- ---- the scan: its answer is that of the bytes before i

pub zero_none : {s : Bytes} (from : ℕ) → Tells true (Zero s from from)
zero_none {s} from = tells_yes (zero_start s from)

pub zero_more : {s : Bytes} {from i c : ℕ} {b : Bool} → from ≤ i → c ≡ byte_at s i → Tells b (Zero s from i) → Tells (b && eqb c 0) (Zero s from (i + 1))
zero_more {s} {from} {i} {c} h q t =
    tells_map
    (λ p j l. ⊎_elim (p.0 j) (λ a. let e : j ≡ i = omega arith in rw e (record { is = λ k. sym q ∙ p.1 })) (lt_or_le j i))
    (λ w. (λ j l. w j (omega arith), q ∙ (w i (omega arith)).is h))
    (tells_and t (tells_eq c 0))

-- the scan ends at `to`, or starts behind it
pub zero_ended : {s : Bytes} {from to i : ℕ} {b : Bool} → to ≤ i → (i ≤ to) ⊎ (i ≡ from) → Tells b (Zero s from i) → Tells b (Zero s from to)
zero_ended {s} {from} {to} {i} h c t =
    tells_map (λ w j l. w j (omega arith))
    (λ w j l. ⊎_elim (λ (a : i ≤ to). w j (omega arith)) (λ (a : i ≡ from). zero_start s from j (omega arith)) c) t

-- past the last a byte is 0
pub zero_past : {s : Bytes} {from to n : ℕ} {b : Bool} → n ≡ length s → n < to → Tells b (Zero s from n) → Tells b (Zero s from to)
zero_past {s} {from} {to} {n} e h t =
    tells_map (λ w j l. ⊎_elim (w j) (λ a. record { is = λ k. byte_past s j (omega arith) }) (lt_or_le j n)) (λ w j l. w j (omega arith)) t

-- byte i of a number that is zero and starts at a
pub byte_none : (n : ℕ) (s : Bytes) (a i : ℕ) → number n s a ≡ 0 → a ≤ i → i < a + n → byte_at s i ≡ 0
byte_none n s a i e l h =
    let q : a + (i - a) ≡ i = omega arith in
    ap (byte_at s) (sym q) ∙ zero_byte n s a e (i - a) (omega arith)
