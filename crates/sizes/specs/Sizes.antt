-- Refusal 5 as the code tests it: document 01, "5 term or name without size, over 256 bytes, wrong argument count, or field using a
-- region its name lacks". Each test is the decision's answer. Assumes nothing but the file's counts, where it says so.
use Rattle.std.specs.Prelude.{◌≡◌, Bool, not, ◌||◌, leb, length}
use Rattle.std.proofs.Math.Path.{refl, sym, ap, ap₂}
use Rattle.std.proofs.Common.{◌∙◌, arith}
use Rattle.std.proofs.Math.Bool.{◌&&◌}
use Prim.Native.Nat.{ℕ, zero, suc, ◌+◌, ◌<◌, ◌≤◌}
use Rattle.std.proofs.Math.Decide.{ℕ_discrete}
use Rattle.std.proofs.Math.Dec.{eqb}
use Rattle.words.specs.Bytes.{Bytes, list_from, list_of}
use Rattle.words.specs.ByteLaws.{length_list_of}
use Rattle.words.specs.First.{all_below}
use Rattle.words.specs.FirstLaws.{all_holds, all_from}
use Rattle.words.specs.Decide.{does, does_true, Each, none, more, dec_each}
use Rattle.words.specs.Choose.{does_same, does_le}
use Rattle.rules.specs.Limits.{size_limit}
use Rattle.rules.specs.File.{record_of, entry_of}
use Rattle.rules.specs.Types.{variable, region, Tree, dec_uses}
use Rattle.rules.specs.Flat.{struct_flat, size}
use Rattle.rules.specs.Decode.{struct_start, fields_of, module_of}
use Rattle.rules.specs.WellTyped.{dec_counts, dec_term, dec_struct}
use Rattle.rules.specs.Verdict.{term_test, struct_test}
use Rattle.typing.specs.Tests.{true_does}
use Rattle.terms.specs.declared.Head.{Head}
use Rattle.terms.specs.declared.Head.TheVariants.{Int, Ptr, Arr, Struct, Untyped}
use Rattle.terms.specs.Heads.{tree_at, grow, args_of, digit, form_no, main_no, args_no}
use Rattle.terms.specs.HeadLaws.{Fair}
use Rattle.terms.specs.Readers.{Reads}
use Rattle.terms.specs.Extents.{Terms}
use Rattle.terms.specs.Compare.{does_map, does_both, does_nat}

-- the regions of struct N, of a file with n terms
unfoldable pub arity_of : Bytes → ℕ → ℕ → ℕ
arity_of f n N = (record_of f (struct_start n N)).a

-- the term of its field i
unfoldable pub field_term : Bytes → ℕ → ℕ → ℕ → ℕ
field_term f n N i = entry_of (record_of f (struct_start n N + 1)) i

-- the argument count of a term with this head is right
unfoldable pub counts_head : Bytes → ℕ → Head → Bool
counts_head f n h = not (eqb (form_no h) 4) || eqb (args_no h) (arity_of f n (main_no h))

-- a struct's number in a head, like all that a record writes, is below this
abbrev pub word_limit : ℕ
word_limit = 4294967296

pub main_small : (n : ℕ) (h : Head) → Fair n h → main_no h < word_limit
main_small n (Int w) e = omega arith
main_small n (Ptr a r) e = omega arith
main_small n (Arr c a) e = e.1
main_small n (Struct N c d) e = let l = e.0 in omega arith
main_small n (Untyped c r) e = e.0

-- a field uses its struct's regions
unfoldable pub field_fits : Bytes → ℕ → ℕ → ℕ → Bool
field_fits f n N i = does (dec_uses (arity_of f n N) ((module_of f).term (field_term f n N i)))

unfoldable pub fields_fit : Bytes → ℕ → ℕ → Bool
fields_fit f n N = all_below (record_of f (struct_start n N)).b (field_fits f n N)

module _ (f : Bytes) (n : ℕ) (is : Terms f n) where
  arity_is : (N : ℕ) → (module_of f).arity N ≡ arity_of f n N
  unfolding module_of arity_of
  arity_is N = rw is.are

  args_length : (d c : ℕ) → length (args_of d c) ≡ c
  unfolding args_of
  args_length d c = length_list_of (λ j. region (digit d j)) c

  counts_grow : (h : Head) → counts_head f n h ≡ does (dec_counts (module_of f) (grow (tree_at f) h))
  unfolding counts_head grow dec_counts
  counts_grow (Int w) = refl
  counts_grow (Ptr a r) = refl
  counts_grow (Arr c a) = refl
  counts_grow (Untyped c r) = refl
  counts_grow (Struct N c d) =
      sym (does_nat (length (args_of d c)) ((module_of f).arity N) ∙ ap₂ eqb (args_length d c) (arity_is N))

  pub counts_reads : (T : Tree variable) (h : Head) → Reads f n T h → counts_head f n h ≡ does (dec_counts (module_of f) T)
  counts_reads T h e = counts_grow h ∙ ap (λ (U : Tree variable). does (dec_counts (module_of f) U)) (sym e.tree)

  -- refusal 5's test of term t
  pub term_test_law : (t : ℕ) → leb (size (module_of f) ((module_of f).term t)) size_limit && does (dec_counts (module_of f) ((module_of f).term t)) ≡ term_test (module_of f) t
  unfolding term_test dec_term
  term_test_law t = sym (does_map _ _ _ ∙ does_both _ _
      ∙ ap (λ (b : Bool). b && does (dec_counts (module_of f) ((module_of f).term t))) (sym (does_le (size (module_of f) ((module_of f).term t)) size_limit)))

  -- ---- fields

  each_all : {A : Type 0} {P : A → Type 0} (g : ℕ → A) (a k : ℕ) → Each P (list_from g a k) → (i : ℕ) → a ≤ i → i < a + k → P (g i)
  unfolding list_from
  each_all g a zero e i l h = absurd (omega arith)
  each_all {A} {P} g a (suc k) (more p e) i l h = go (ℕ_discrete i a) (λ b. each_all g (suc a) k e i b (omega arith))
    where
      go : Dec (i ≡ a) → (suc a ≤ i → P (g i)) → P (g i)
      go (yes q) r = rw q p
      go (no q) r = r (omega arith)

  all_each : {A : Type 0} {P : A → Type 0} (g : ℕ → A) (a k : ℕ) → ((i : ℕ) → a ≤ i → i < a + k → P (g i)) → Each P (list_from g a k)
  unfolding list_from
  all_each g a zero h = none
  all_each g a (suc k) h = more (h a (omega arith) (omega arith)) (all_each g (suc a) k (λ i l m. h i (omega arith) (omega arith)))

  does_each : {A : Type 0} {P : A → Type 0} (d : (x : A) → Dec (P x)) (g : ℕ → A) (k : ℕ) → all_below k (λ i. does (d (g i))) ≡ does (dec_each d (list_of g k))
  does_each d g k = does_same (all_below k (λ i. does (d (g i)))) (dec_each d (list_from g 0 k))
      (λ e. all_each g 0 k (λ i l m. does_true (d (g i)) (all_holds k (λ i. does (d (g i))) e i (omega arith))))
      (λ e. all_from k (λ i. does (d (g i))) (λ i l. true_does (d (g i)) (each_all g 0 k e i (omega arith) (omega arith))))

  fields_are : (N : ℕ) → (module_of f).fields N ≡ list_of (λ i. (module_of f).term (field_term f n N i)) (record_of f (struct_start n N)).b
  unfolding module_of fields_of field_term
  fields_are N = rw is.are

  pub fields_fit_law : (N : ℕ) → fields_fit f n N ≡ does (dec_each (dec_uses ((module_of f).arity N)) ((module_of f).fields N))
  unfolding fields_fit field_fits
  fields_fit_law N = rw (arity_is N, fields_are N) (does_each (dec_uses (arity_of f n N)) (λ i. (module_of f).term (field_term f n N i)) (record_of f (struct_start n N)).b)

  -- refusal 5's test of struct N
  pub struct_test_law : (N : ℕ) → leb (struct_flat (module_of f) N).size size_limit && fields_fit f n N ≡ struct_test (module_of f) N
  unfolding struct_test dec_struct
  struct_test_law N = sym (does_map _ _ _ ∙ does_both _ _
      ∙ ap₂ ◌&&◌ (sym (does_le (struct_flat (module_of f) N).size size_limit)) (sym (fields_fit_law N)))
