-- Laws of a file's records: past the file they are zero. Assumes nothing.
use Rattle.std.specs.Prelude.{◌≡◌, length, get_or, min}
use Rattle.std.proofs.Math.Path.{refl, ap}
use Rattle.std.proofs.Common.{◌∙◌}
use Prim.Native.Nat.{ℕ, zero, suc, ◌+◌, ◌/◌, ◌<◌, ◌≤◌}
use native.Mathlib.Omega.{arith}
use Rattle.words.specs.Bytes.{Bytes, AllBytes, byte_at, number, list_of}
use Rattle.words.specs.ByteLaws.{byte_past, number_past, get_d_list_of}
use Rattle.rules.specs.Limits.{block_records, record_bytes, most_entries}
use Rattle.rules.specs.File.{blocks, record_start, record_of, entry_of}
use Rattle.rules.specs.declared.Record.{Record}

abbrev pub no_record : Record
no_record = record { kind = 0; a = 0; b = 0; c = 0; d = 0 }

-- a block past the last one begins past the end of the file
pub start_past : (f : Bytes) (r : ℕ) → blocks f < r / block_records → length f ≤ record_start r
unfolding record_start
start_past f r h = omega arith

pub record_past : (f : Bytes) (r : ℕ) → blocks f < r / block_records → record_of f r ≡ no_record
unfolding record_of
record_past f r h =
    let s = start_past f r h in
    rw (
      byte_past f (record_start r) s,
      byte_past f (record_start r + 1) (omega arith),
      byte_past f (record_start r + 2) (omega arith),
      byte_past f (record_start r + 3) (omega arith),
      number_past 4 f (record_start r + 4) (omega arith),
    )

-- the bytes of a record: its kind, and its entries
abbrev pub byte_of : Record → ℕ → ℕ
byte_of x zero = x.kind
byte_of x (suc i) = entry_of x i

module _ (f : Bytes) (all : AllBytes f) (r : ℕ) where
  byte_first : byte_at f (record_start r + 0) ≡ (record_of f r).kind
  unfolding record_of
  byte_first = ap (byte_at f) (omega arith)

  pub byte_in : (j : ℕ) → j < record_bytes → byte_at f (record_start r + j) ≡ byte_of (record_of f r) j
  unfolding record_of number
  byte_in zero h = byte_first
  byte_in (suc zero) h = refl
  byte_in (suc (suc zero)) h = refl
  byte_in (suc (suc (suc zero))) h = refl
  byte_in (suc (suc (suc (suc zero)))) h = omega (arith, all (record_start r + 4))
  byte_in (suc (suc (suc (suc (suc zero))))) h =
      let z : record_start r + 5 ≡ suc (record_start r + 4) = omega arith in
      rw z (omega (arith, all (record_start r + 4), all (suc (record_start r + 4))))
  byte_in (suc (suc (suc (suc (suc (suc zero)))))) h =
      let z : record_start r + 6 ≡ suc (suc (record_start r + 4)) = omega arith in
      rw z (omega (arith, all (record_start r + 4), all (suc (record_start r + 4)), all (suc (suc (record_start r + 4)))))
  byte_in (suc (suc (suc (suc (suc (suc (suc zero))))))) h =
      let z : record_start r + 7 ≡ suc (suc (suc (record_start r + 4))) = omega arith in
      rw z (omega (arith, all (record_start r + 4), all (suc (record_start r + 4)), all (suc (suc (record_start r + 4))), all (suc (suc (suc (record_start r + 4))))))
  byte_in (suc (suc (suc (suc (suc (suc (suc (suc j)))))))) h = absurd (omega arith)

pub byte_none : (j : ℕ) → byte_of no_record j ≡ 0
byte_none zero = refl
byte_none (suc zero) = refl
byte_none (suc (suc zero)) = refl
byte_none (suc (suc (suc zero))) = refl
byte_none (suc (suc (suc (suc zero)))) = refl
byte_none (suc (suc (suc (suc (suc zero))))) = refl
byte_none (suc (suc (suc (suc (suc (suc zero)))))) = refl
byte_none (suc (suc (suc (suc (suc (suc (suc j))))))) = refl

-- b is a byte
pub byte_of_law : (f : Bytes) (r : ℕ) → AllBytes f → (record_of f r).b < 256
unfolding record_of
byte_of_law f r all = all (record_start r + 2)

-- from entry 6 on, the last byte
pub entry_last : (x : Record) (i : ℕ) → 6 ≤ i → x.d / 16777216 ≡ entry_of x i
entry_last x zero h = absurd (omega arith)
entry_last x (suc zero) h = absurd (omega arith)
entry_last x (suc (suc zero)) h = absurd (omega arith)
entry_last x (suc (suc (suc zero))) h = absurd (omega arith)
entry_last x (suc (suc (suc (suc zero)))) h = absurd (omega arith)
entry_last x (suc (suc (suc (suc (suc zero))))) h = absurd (omega arith)
entry_last x (suc (suc (suc (suc (suc (suc i)))))) h = refl

-- so an entry is one of the first seven
entry_held : (x : Record) (i : ℕ) → entry_of x (min i 6) ≡ entry_of x i
entry_held x zero = refl
entry_held x (suc zero) = refl
entry_held x (suc (suc zero)) = refl
entry_held x (suc (suc (suc zero))) = refl
entry_held x (suc (suc (suc (suc zero)))) = refl
entry_held x (suc (suc (suc (suc (suc zero))))) = refl
entry_held x (suc (suc (suc (suc (suc (suc i)))))) = let h : min (suc (suc (suc (suc (suc (suc i)))))) 6 ≡ 6 = omega arith in rw h

-- an entry by its place among the seven
pub entry_at : (x : Record) (i : ℕ) → get_or (list_of (entry_of x) most_entries) (min i 6) 0 ≡ entry_of x i
entry_at x i = get_d_list_of (entry_of x) most_entries (min i 6) 0 (omega arith) ∙ entry_held x i
