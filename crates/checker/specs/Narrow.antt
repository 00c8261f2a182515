-- Regions of terms, from what refusal 4 asks of each term's record. Assumes nothing but that the records fit, where it says so.
use Rattle.std.specs.Prelude.{◌≡◌, true, ◌&&◌, List, [], ◌∷◌, ◌++◌, ℕ, zero, suc, ◌<◌, eqb, length, get_or}
use Rattle.std.proofs.Math.Decide.{dec_lt}
use Rattle.std.proofs.Common.{arith, length-append, eqb-true, ltb-true, lt-ltb}
use Rattle.std.proofs.Math.ListN.{get_or-append, get_or-eq_default}
use Rattle.std.proofs.lemmas.List.{get_or_at}
use Rattle.words.specs.Bytes.{Bytes, list_of}
use Rattle.words.specs.ByteLaws.{length_list_of, get_d_list_of}
use Rattle.words.specs.Choose.{both, cond_split}
use Rattle.words.specs.Decide.{Each}
use Rattle.rules.specs.Limits.{most_regions}
use Rattle.rules.specs.File.{record_of, byte_of_d, kind_integer, kind_pointer, kind_array, kind_untyped}
use Rattle.rules.specs.Types.{variable, Variable, region, nowhere, Tree, int, ptr, arr, struct, raw_ptr, Uses, in_int, in_ptr, in_arr, in_struct, in_raw_ptr}
use Rattle.rules.specs.Decode.{no_tree, region_bytes, tree_of, trees_of, module_of}
use Rattle.rules.specs.Records.{slot, four}
use Rattle.rules.specs.Walk.{whole}
use Rattle.rules.specs.declared.Record.{Record}
use Rattle.rules.specs.declared.Walk.{Walk}
use Rattle.typing.specs.Walk.{Fits}
use Rattle.positions.specs.Maps.{Narrow, each_of}
use Rattle.checker.specs.Ranges.{TermCase, of_integer, of_pointer, of_array, of_struct, term_case, integer_plain, array_plain, pointer_region, struct_regions, terms_fit}

-- "region variable b (0-6)"; "region arguments .., each 0-6"; of an untyped pointer a likewise
pub record RegionsFit (x : Record) : Type 0 where
  pub pointer : x.kind ≡ kind_pointer → x.b < most_regions
  pub arguments : (j : ℕ) → j < x.b → byte_of_d x j < most_regions
  pub untyped : x.kind ≡ kind_untyped → x.a < most_regions

-- ---- refusal 4 asks for it

slot_low : (v j n : ℕ) → slot v j n most_regions ≡ true → j < n → v < most_regions
slot_low v j n e l = ltb-true v most_regions (rw (lt-ltb j n l) at e)

zero_byte : (x : Record) → x.d ≡ 0 → (j : ℕ) → byte_of_d x j < most_regions
zero_byte x e zero = omega arith
zero_byte x e (suc zero) = omega arith
zero_byte x e (suc (suc zero)) = omega arith
zero_byte x e (suc (suc (suc j))) = omega arith

four_low : (x : Record) (n : ℕ) → four x n most_regions ≡ true → (j : ℕ) → j < n → byte_of_d x j < most_regions
unfolding four
four_low x n e = go
  where
    low : (slot (byte_of_d x 0) 0 n most_regions && slot (byte_of_d x 1) 1 n most_regions ≡ true) × (slot (byte_of_d x 2) 2 n most_regions && slot (byte_of_d x 3) 3 n most_regions ≡ true)
    low = both (slot (byte_of_d x 0) 0 n most_regions && slot (byte_of_d x 1) 1 n most_regions) (slot (byte_of_d x 2) 2 n most_regions && slot (byte_of_d x 3) 3 n most_regions) e

    go : (j : ℕ) → j < n → byte_of_d x j < most_regions
    go zero l = slot_low (byte_of_d x 0) 0 n (both (slot (byte_of_d x 0) 0 n most_regions) (slot (byte_of_d x 1) 1 n most_regions) low.0).0 l
    go (suc zero) l = slot_low (byte_of_d x 1) 1 n (both (slot (byte_of_d x 0) 0 n most_regions) (slot (byte_of_d x 1) 1 n most_regions) low.0).1 l
    go (suc (suc zero)) l = slot_low (byte_of_d x 2) 2 n (both (slot (byte_of_d x 2) 2 n most_regions) (slot (byte_of_d x 3) 3 n most_regions) low.1).0 l
    go (suc (suc (suc j))) l = slot_low (byte_of_d x 3) 3 n (both (slot (byte_of_d x 2) 2 n most_regions) (slot (byte_of_d x 3) 3 n most_regions) low.1).1 (omega arith)

case_fits : (t w : Walk) (x : Record) → TermCase t w x → RegionsFit x
case_fits t w x (of_integer k i) =
    let z = integer_plain t w x i in record { pointer = λ e. absurd (omega arith); arguments = λ j l. absurd (omega arith); untyped = λ e. absurd (omega arith) }
case_fits t w x (of_pointer k i) = let p = pointer_region t w x i in record { pointer = λ e. p.0; arguments = λ j l. zero_byte x p.1 j; untyped = λ e. absurd (omega arith) }
case_fits t w x (of_array k i) =
    let z = array_plain t w x i in record { pointer = λ e. absurd (omega arith); arguments = λ j l. absurd (omega arith); untyped = λ e. absurd (omega arith) }
case_fits t w x (of_struct k i) =
    record { pointer = λ e. absurd (omega arith); arguments = four_low x x.b (struct_regions t w x i).1; untyped = λ e. absurd (omega arith) }

-- ---- and then no term writes a region variable above 6

-- of a struct term
arguments_use : (x : Record) (n : ℕ) → ((j : ℕ) → j < n → byte_of_d x j < most_regions) → Each (λ (r : Variable). r.number < most_regions) (region_bytes x n)
unfolding region_bytes
arguments_use x n h =
    each_of (region nowhere) (list_of (λ j. region (byte_of_d x j)) n)
    (λ i l.
    let k : i < n = rw (length_list_of (λ j. region {k = variable} (byte_of_d x j)) n) at l in
    rw (get_d_list_of (λ j. region {k = variable} (byte_of_d x j)) n i (region nowhere) k) (h i k))

tree_uses : (ts : List (Tree variable)) (x : Record) → ((i : ℕ) → Uses most_regions (get_or ts i no_tree)) → RegionsFit x → Uses most_regions (tree_of ts x)
unfolding tree_of
tree_uses ts x h fit =
    cond_split (Uses most_regions) (eqb x.kind kind_integer) (int x.a) _ (λ e. in_int)
    (λ e. cond_split (Uses most_regions) (eqb x.kind kind_pointer) (ptr (get_or ts x.a no_tree) (region x.b)) _ (λ d. in_ptr (fit.pointer (eqb-true x.kind kind_pointer d)) (h x.a))
    (λ d. cond_split (Uses most_regions) (eqb x.kind kind_array) (arr x.d (get_or ts x.a no_tree)) _ (λ c. in_arr (h x.a))
    (λ c. cond_split (Uses most_regions) (eqb x.kind kind_untyped) (raw_ptr x.d (region x.a)) (struct x.a (region_bytes x x.b)) (λ b. in_raw_ptr (fit.untyped (eqb-true x.kind kind_untyped b)))
    (λ b. in_struct (arguments_use x x.b fit.arguments)))))

trees_use : (f : Bytes) (n : ℕ) → ((t : ℕ) → t < n → RegionsFit (record_of f t)) → (i : ℕ) → Uses most_regions (get_or (trees_of f n) i no_tree)
unfolding trees_of
trees_use f zero fits i = in_int
trees_use f (suc n) fits i = go (dec_lt i (length (trees_of f n))) (dec_lt (length (trees_of f n)) i) (trees_use f n (λ t l. fits t (omega arith)))
  where
    go : Dec (i < length (trees_of f n)) → Dec (length (trees_of f n) < i) → ((i : ℕ) → Uses most_regions (get_or (trees_of f n) i no_tree))
        → Uses most_regions (get_or (trees_of f n ++ tree_of (trees_of f n) (record_of f n) ∷ []) i no_tree)
    go (yes a) b h = rw (get_or-append (trees_of f n) (tree_of (trees_of f n) (record_of f n) ∷ []) no_tree i a) (h i)
    go (no a) (yes b) h = rw (get_or-eq_default (trees_of f n ++ tree_of (trees_of f n) (record_of f n) ∷ []) no_tree {n = i} (rw length-append (omega arith))) in_int
    go (no a) (no b) h = rw (get_or_at (trees_of f n) (tree_of (trees_of f n) (record_of f n)) [] no_tree i (omega arith)) (tree_uses (trees_of f n) (record_of f n) h (fits n (omega arith)))

-- no term writes a region variable above 6
pub narrow_by : (f : Bytes) → ((t : ℕ) → t < (module_of f).terms → RegionsFit (record_of f t)) → Narrow f
unfolding module_of
narrow_by f fits t = trees_use f (module_of f).terms fits t

pub narrow : (f : Bytes) → Fits f → Narrow f
narrow f ok =
    narrow_by f (λ t l.
    let fit = terms_fit f ok t l in
    case_fits (whole f).walk fit.before (record_of f t) (term_case (whole f).walk fit.before (record_of f t) fit.fits))
