-- The classes of the code as the numbers of the definition, its table as the definition's, and its test of an operand by the class. Assumes
-- nothing.
use Rattle.std.specs.Prelude.{◌≡◌, refl, Bool, true, List, [], ◌∷◌, ℕ, zero, suc, ◌-◌, ◌<◌, ◌≤◌, ltb, leb, eqb, length, get_or, map, ◌&&◌, ◌+◌, ◌*◌, ◌/◌, ◌%◌, T}
use Rattle.std.proofs.Common.{sym, ap, ◌∙◌, arith, eqb-true}
use Rattle.std.proofs.Math.Bool.{or-false}
use Rattle.std.proofs.Math.ListN as ListN
use Rattle.std.proofs.Math.ListN.{get_or-eq_default}
use Rattle.std.proofs.lemmas.List.{length-map, get_or-map}
use Rattle.words.specs.Choose.{both}
use Rattle.rules.specs.File.{first_arithmetic}
use Rattle.rules.specs.Operands.{Classes, row, unused, register, function, target, operation, any, regions, last_operation, operand_table, classes_of, operand_fits}
use Rattle.operands.specs.Table.{every, holds}
use Rattle.operands.specs.declared.Class.{Class}
use Rattle.operands.specs.declared.Class.TheVariants.{Unused, Register, Function, Target, Operation, Any, Regions}

-- the number of a class
abbrev pub number_of : Class → ℕ
number_of Unused = unused
number_of Register = register
number_of Function = function
number_of Target = target
number_of Operation = operation
number_of Any = any
number_of Regions = regions

-- those of the four operands
abbrev pub numbers_of : Classes → List ℕ
numbers_of k = k.a ∷ k.b ∷ k.c ∷ k.d ∷ []

-- the rows of the table: kinds 16 to 34
abbrev pub kinds : ℕ
kinds = 19

rows : length operand_table ≡ kinds
unfolding operand_table
rows = refl

-- the class of a number
abbrev class_of : ℕ → Class
class_of zero = Unused
class_of (suc zero) = Register
class_of (suc (suc zero)) = Function
class_of (suc (suc (suc zero))) = Target
class_of (suc (suc (suc (suc zero)))) = Operation
class_of (suc (suc (suc (suc (suc zero))))) = Any
class_of (suc (suc (suc (suc (suc (suc n)))))) = Regions

-- the whole table as classes: the constant array of the code
unfoldable pub table : List (List Class)
table = map (λ k. map class_of (numbers_of k)) operand_table

same : map (map number_of) table ≡ map numbers_of operand_table
unfolding table operand_table
same = refl

-- the row of a kind
pub row_numbers : (kind : ℕ) {i : ℕ} (d : List Class) → i ≡ kind - first_arithmetic → i < kinds → map number_of (get_or table i d) ≡ numbers_of (classes_of kind)
unfolding classes_of
row_numbers kind {i} d h l =
    let m : length table ≡ kinds = sym (length-map table (map number_of)) ∙ ap length same ∙ length-map operand_table numbers_of ∙ rows in
    sym (get_or-map (map number_of) table i d [] (omega arith))
    ∙ ap (λ (t : List (List ℕ)). get_or t i []) same
    ∙ get_or-map numbers_of operand_table i (row unused unused unused unused) [] (omega (arith, rows))
    ∙ ap (λ (j : ℕ). numbers_of (get_or operand_table j (row unused unused unused unused))) h

-- past the table all is unused
pub past_numbers : (kind : ℕ) {i : ℕ} → i ≡ kind - first_arithmetic → kinds ≤ i → numbers_of (row unused unused unused unused) ≡ numbers_of (classes_of kind)
unfolding classes_of
past_numbers kind e h = ap numbers_of (sym (get_or-eq_default operand_table (row unused unused unused unused) (omega (arith, rows))))

-- the four classes, each with its number
pub record Numbered (xs : List Class) (k : Classes) : Type 0 where
  pub a : number_of (get_or xs 0 Unused) ≡ k.a
  pub b : number_of (get_or xs 1 Unused) ≡ k.b
  pub c : number_of (get_or xs 2 Unused) ≡ k.c
  pub d : number_of (get_or xs 3 Unused) ≡ k.d

pub numbered : {xs : List Class} {k : Classes} → map number_of xs ≡ numbers_of k → Numbered xs k
numbered {xs} {k} e =
    let at : (i : ℕ) → number_of (get_or xs i Unused) ≡ get_or (numbers_of k) i 0 = λ i. sym (ListN.get_or-map number_of xs i Unused) ∙ ap (λ (l : List ℕ). get_or l i 0) e in
    record { a = at 0; b = at 1; c = at 2; d = at 3 }

-- ---- the classes of a row as octal digits, a's the lowest

-- n has the classes k as its digits
pub record Digits (n : ℕ) (k : Classes) : Type 0 where
  pub a : n % 8 ≡ k.a
  pub b : n / 8 % 8 ≡ k.b
  pub c : n / 64 % 8 ≡ k.c
  pub d : n / 512 ≡ k.d

-- the test of one entry: its digits are the classes of row i
abbrev pub row_right : ℕ → ℕ → Bool
row_right i n =
    let k = get_or operand_table i (row unused unused unused unused) in
    eqb (n % 8) k.a && (eqb (n / 8 % 8) k.b && (eqb (n / 64 % 8) k.c && eqb (n / 512) k.d))

-- where every entry of a table passes the test, entry i has the classes of row i
row_right_law : (table : List ℕ) → T (every row_right 0 table) → (i : ℕ) → i < length table
    → Digits (get_or table i 0) (get_or operand_table i (row unused unused unused unused))
row_right_law table t i h = go (get_or table i 0) (get_or operand_table i (row unused unused unused unused)) (holds row_right table t i h)
  where
    go : (n : ℕ) (k : Classes) → eqb (n % 8) k.a && (eqb (n / 8 % 8) k.b && (eqb (n / 64 % 8) k.c && eqb (n / 512) k.d)) ≡ true → Digits n k
    go n k e =
        let l = both (eqb (n % 8) k.a) (eqb (n / 8 % 8) k.b && (eqb (n / 64 % 8) k.c && eqb (n / 512) k.d)) e in
        let m = both (eqb (n / 8 % 8) k.b) (eqb (n / 64 % 8) k.c && eqb (n / 512) k.d) l.1 in
        let r = both (eqb (n / 64 % 8) k.c) (eqb (n / 512) k.d) m.1 in
        record {
          a = eqb-true (n % 8) k.a l.0;
          b = eqb-true (n / 8 % 8) k.b m.0;
          c = eqb-true (n / 64 % 8) k.c r.0;
          d = eqb-true (n / 512) k.d r.1;
        }

-- the whole table with its digits put together, an octal digit for each class
abbrev pub pack : Classes → ℕ
pack k = k.a + 8 * k.b + 64 * k.c + 512 * k.d

unfoldable pub packed : List Classes → List ℕ
packed [] = []
packed (k ∷ ks) = pack k ∷ packed ks

-- its rule, at every entry
rule : (i : ℕ) → i < kinds → Digits (get_or (packed operand_table) i 0) (get_or operand_table i (row unused unused unused unused))
unfolding packed operand_table
rule i h = row_right_law (packed operand_table) tt i h

-- the entry of a kind
pub entry : (kind : ℕ) {i n : ℕ} → i ≡ kind - first_arithmetic → i < kinds → n ≡ get_or (packed operand_table) i 0 → Digits n (classes_of kind)
unfolding classes_of
entry kind {i} e h d = rw (← e, d) (rule i h)

-- past the table all is unused
pub past_rows : (kind : ℕ) {i : ℕ} → i ≡ kind - first_arithmetic → kinds ≤ i → Digits 0 (classes_of kind)
unfolding classes_of
past_rows kind e h =
    let past : length operand_table ≤ kind - first_arithmetic = omega (arith, rows) in
    rw (get_or-eq_default operand_table (row unused unused unused unused) past) (record { a = refl; b = refl; c = refl; d = refl })

-- ---- the test of an operand, by its class

module _ (v registers instructions : ℕ) (there right : Bool) where
  abbrev pub by_class : Class → Bool
  by_class Unused = eqb v 0
  by_class Register = ltb v registers
  by_class Function = there
  by_class Target = ltb v instructions
  by_class Operation = leb v last_operation
  by_class Any = true
  by_class Regions = right

  pub by_number : (class : Class) → by_class class ≡ operand_fits (number_of class) v registers instructions there right
  unfolding operand_fits
  by_number Unused = simp or-false
  by_number Register = simp or-false
  by_number Function = simp or-false
  by_number Target = simp or-false
  by_number Operation = simp or-false
  by_number Any = refl
  by_number Regions = refl
