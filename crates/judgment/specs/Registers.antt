-- What a typing rule asks of a function's registers, as tests that the code makes, and how each reads. Document 01, "Typing the
-- instructions". Assumes nothing.
use Rattle.std.specs.Prelude.{◌≡◌, refl, Bool, true, false, ◌&&◌, ◌↔◌, ℕ, ◌<◌, ltb, eqb}
use Rattle.std.proofs.Common.{sym, ◌∙◌, arith}
use Rattle.std.proofs.Math.Path.{ap, subst}
use Rattle.words.specs.Choose.{and_reads, lt_reads, eq_reads, does_same}
use Rattle.words.specs.Decide.{does, does_true}
use Rattle.rules.specs.Types.{variable, Variable, region, Tree, int, ptr, arr, struct, raw_ptr, bytes, form, number_of, inner, region_of, dec_tree}
use Rattle.rules.specs.Module.{Function, regions}
use Rattle.rules.specs.Typing.{◌⊢◌∶◌, Untyped}
use Rattle.typing.specs.Tests.{true_does}
use Rattle.words.specs.Bytes.{Bytes}
use Rattle.rules.specs.Decode.{module_of}
use Rattle.terms.specs.Readers.{entry_type}
use Rattle.functions.specs.Functions.{function_at, register_term, region_term, register_at, region_at}

-- ---- joints

pub does_reads : {A : Type 0} (d : Dec A) → (does d ≡ true) ↔ A
does_reads d = (does_true d, true_does d)

pub read_as : {P Q : Type 0} {b : Bool} → (b ≡ true) ↔ P → (P → Q) → (Q → P) → (b ≡ true) ↔ Q
read_as r to from = (λ e. to (r.0 e), λ q. r.1 (from q))

-- a test that reads as what is decided is the answer
pub decided : {A P : Type 0} {b : Bool} (d : Dec A) → (b ≡ true) ↔ P → (P → A) → (A → P) → b ≡ does d
decided {b = b} d r make back = does_same b d (λ e. make (r.0 e)) (λ x. r.1 (back x))

-- a test that is asked only where another holds
pub guarded : (b x y : Bool) → (b ≡ true → x ≡ y) → b && x ≡ b && y
guarded true x y h = h refl
guarded false x y h = refl

-- ---- a tree by its form

pub int_of : (T : Tree variable) → form T ≡ 1 → T ≡ int (number_of T)
int_of (int w) e = refl
int_of (ptr T r) e = absurd (omega arith)
int_of (arr n T) e = absurd (omega arith)
int_of (struct N rs) e = absurd (omega arith)
int_of (raw_ptr n r) e = absurd (omega arith)
int_of bytes e = absurd (omega arith)

pub ptr_of : (T : Tree variable) → form T ≡ 2 → T ≡ ptr (inner T) (region_of T)
ptr_of (int w) e = absurd (omega arith)
ptr_of (ptr T r) e = refl
ptr_of (arr n T) e = absurd (omega arith)
ptr_of (struct N rs) e = absurd (omega arith)
ptr_of (raw_ptr n r) e = absurd (omega arith)
ptr_of bytes e = absurd (omega arith)

pub arr_of : (T : Tree variable) → form T ≡ 3 → T ≡ arr (number_of T) (inner T)
arr_of (int w) e = absurd (omega arith)
arr_of (ptr T r) e = absurd (omega arith)
arr_of (arr n T) e = refl
arr_of (struct N rs) e = absurd (omega arith)
arr_of (raw_ptr n r) e = absurd (omega arith)
arr_of bytes e = absurd (omega arith)

pub raw_of : (T : Tree variable) → form T ≡ 11 → T ≡ raw_ptr (number_of T) (region_of T)
raw_of (int w) e = absurd (omega arith)
raw_of (ptr T r) e = absurd (omega arith)
raw_of (arr n T) e = absurd (omega arith)
raw_of (struct N rs) e = absurd (omega arith)
raw_of (raw_ptr n r) e = refl
raw_of bytes e = absurd (omega arith)

pub same_region : (r s : Variable) → r.number ≡ s.number → r ≡ s
same_region r s e = ap region e

-- ---- the entries that the code has for registers and regions

module _ (f : Bytes) (h : ℕ) where
  pub register_is : {t : ℕ} (a : ℕ) → t ≡ register_term f h a → (module_of f).term t ≡ (function_at f h).register_type a
  register_is a e = ap (λ (t : ℕ). (module_of f).term t) e ∙ sym (register_at f h a)

  -- a region's is a term, or 255
  pub region_is : {t : ℕ} (i : ℕ) → t ≡ region_term f h i → entry_type f t ≡ (function_at f h).region_type i
  region_is i e = ap (entry_type f) e ∙ sym (region_at f h i)

-- ---- registers

module _ (F : Function) where
  -- a is a register
  unfoldable pub is_register : ℕ → Bool
  is_register a = ltb a F.registers

  -- an integer, a pointer, an untyped pointer
  unfoldable pub is_integer : ℕ → Bool
  is_integer a = is_register a && eqb (form (F.register_type a)) 1

  unfoldable pub is_pointer : ℕ → Bool
  is_pointer a = is_register a && eqb (form (F.register_type a)) 2

  unfoldable pub is_untyped : ℕ → Bool
  is_untyped a = is_register a && eqb (form (F.register_type a)) 11

  -- an untyped pointer into a region that is in scope and untyped
  unfoldable pub into_bytes : ℕ → Bool
  into_bytes a = is_untyped a && (ltb (region_of (F.register_type a)).number (regions F) && does (dec_tree (F.region_type (region_of (F.register_type a)).number) bytes))

  -- the integer of w bytes
  unfoldable pub has_width : ℕ → ℕ → Bool
  has_width w a = is_register a && does (dec_tree (F.register_type a) (int w))

  -- a and b have equal types
  unfoldable pub same_types : ℕ → ℕ → Bool
  same_types a b = is_register a && (is_register b && does (dec_tree (F.register_type a) (F.register_type b)))

  -- p points to the type of v
  unfoldable pub points_to : ℕ → ℕ → Bool
  points_to p v = (is_register p && is_register v) && (eqb (form (F.register_type p)) 2 && does (dec_tree (inner (F.register_type p)) (F.register_type v)))

  -- a and b are pointers into one region
  unfoldable pub together : ℕ → ℕ → Bool
  together a b = (is_pointer a && is_pointer b) && eqb (region_of (F.register_type a)).number (region_of (F.register_type b)).number

  pub register_reads : (a : ℕ) → (is_register a ≡ true) ↔ (a < F.registers)
  unfolding is_register
  register_reads a = lt_reads a F.registers

  pub integer_reads : (a : ℕ) → (is_integer a ≡ true) ↔ ((w : ℕ) × (F ⊢ a ∶ int w))
  unfolding is_integer
  integer_reads a = read_as (and_reads (register_reads a) (eq_reads (form (F.register_type a)) 1))
      (λ h. (number_of (F.register_type a), (h.0, int_of (F.register_type a) h.1)))
      (λ h. (h.1.0, ap form h.1.1))

  pub pointer_reads : (a : ℕ) → (is_pointer a ≡ true) ↔ (F ⊢ a ∶ ptr (inner (F.register_type a)) (region_of (F.register_type a)))
  unfolding is_pointer
  pointer_reads a = read_as (and_reads (register_reads a) (eq_reads (form (F.register_type a)) 2))
      (λ h. (h.0, ptr_of (F.register_type a) h.1))
      (λ h. (h.0, ap form h.1))

  pub untyped_reads : (a : ℕ) → (is_untyped a ≡ true) ↔ (F ⊢ a ∶ raw_ptr (number_of (F.register_type a)) (region_of (F.register_type a)))
  unfolding is_untyped
  untyped_reads a = read_as (and_reads (register_reads a) (eq_reads (form (F.register_type a)) 11))
      (λ h. (h.0, raw_of (F.register_type a) h.1))
      (λ h. (h.0, ap form h.1))

  abbrev pub IntoBytes : ℕ → Type 0
  IntoBytes a = (n : ℕ) × ((r : Variable) × ((F ⊢ a ∶ raw_ptr n r) × Untyped F r))

  pub bytes_reads : (a : ℕ) → (into_bytes a ≡ true) ↔ IntoBytes a
  unfolding into_bytes
  bytes_reads a = read_as
      (and_reads (untyped_reads a) (and_reads (lt_reads (region_of (F.register_type a)).number (regions F)) (does_reads (dec_tree (F.region_type (region_of (F.register_type a)).number) bytes))))
      (λ h. (number_of (F.register_type a), (region_of (F.register_type a), (h.0, h.1))))
      (λ h. let p = h.1.1.0 in ((p.0, raw_of (F.register_type a) (ap form p.1)), subst (λ (r : Variable). Untyped F r) (sym (ap region_of p.1)) h.1.1.1))

  pub width_reads : (w a : ℕ) → (has_width w a ≡ true) ↔ (F ⊢ a ∶ int w)
  unfolding has_width
  width_reads w a = and_reads (register_reads a) (does_reads (dec_tree (F.register_type a) (int w)))

  pub same_reads : (a b : ℕ) → (same_types a b ≡ true) ↔ ((a < F.registers) × ((b < F.registers) × (F.register_type a ≡ F.register_type b)))
  unfolding same_types
  same_reads a b = and_reads (register_reads a) (and_reads (register_reads b) (does_reads (dec_tree (F.register_type a) (F.register_type b))))

  pub points_reads : (p v : ℕ) → (points_to p v ≡ true) ↔ ((r : Variable) × ((F ⊢ p ∶ ptr (F.register_type v) r) × (v < F.registers)))
  unfolding points_to
  points_reads p v = read_as
      (and_reads (and_reads (register_reads p) (register_reads v)) (and_reads (eq_reads (form (F.register_type p)) 2) (does_reads (dec_tree (inner (F.register_type p)) (F.register_type v)))))
      (λ h. (region_of (F.register_type p), ((h.0.0, ptr_of (F.register_type p) h.1.0 ∙ ap (λ (T : Tree variable). ptr T (region_of (F.register_type p))) h.1.1), h.0.1)))
      (λ h. ((h.1.0.0, h.1.1), (ap form h.1.0.1, ap inner h.1.0.1)))

  pub together_reads : (a b : ℕ) → (together a b ≡ true)
      ↔ ((F ⊢ a ∶ ptr (inner (F.register_type a)) (region_of (F.register_type b))) × (F ⊢ b ∶ ptr (inner (F.register_type b)) (region_of (F.register_type b))))
  unfolding together
  together_reads a b = read_as
      (and_reads (and_reads (pointer_reads a) (pointer_reads b)) (eq_reads (region_of (F.register_type a)).number (region_of (F.register_type b)).number))
      (λ h. ((h.0.0.0, h.0.0.1 ∙ ap (ptr (inner (F.register_type a))) (same_region (region_of (F.register_type a)) (region_of (F.register_type b)) h.1)), h.0.1))
      (λ h. (((h.0.0, h.0.1 ∙ ap (ptr (inner (F.register_type a))) (sym (ap region_of h.0.1))), h.1), ap (λ (T : Tree variable). (region_of T).number) h.0.1))
