-- What the checker keeps of the types of a function's registers, with what the rules ask of it. Assumes nothing.
use Rattle.std.specs.Prelude.{◌≡◌, refl, Bool, true, false, cond, ◌&&◌, ◌≢◌, List, ℕ, ◌+◌, ◌*◌, ◌/◌, ◌%◌, ◌<◌, length, get_or, set, replicate}
use Rattle.std.proofs.Common.{sym, ◌∙◌, arith, length-set, get_or-set_same, get_or-set_other}
use Rattle.std.proofs.Math.Path.{ap}
use Rattle.std.proofs.Math.Bool.{not, and_assoc}
use Rattle.std.proofs.Math.Decide.{ℕ_discrete}
use Rattle.std.proofs.Math.Dec.{eqb}
use Rattle.std.proofs.Math.Bool.{Bool-set}
use Rattle.std.proofs.Math.Nat.{ℕ_set}
use Rattle.std.specs.Coded.{le_prop}
use mathlib.Core.HLevel.{hedberg}
use Rattle.std.proofs.lemmas.List.{length-replicate, get_or-replicate}
use borrow.Author.Tests.{ne_eqb, eq-eqb, eqb-true}
use Rattle.words.specs.Bytes.{Bytes}
use Rattle.words.specs.Choose.{both, both_of}
use Rattle.words.specs.Decide.{does}
use Rattle.rules.specs.Types.{variable, Tree, int, form, number_of, inner, region_of, dec_tree}
use Rattle.rules.specs.Decode.{module_of}
use Rattle.judgment.specs.declared.types.RegisterType.{RegisterType}
use Rattle.terms.specs.declared.Head.{Head}
use Rattle.terms.specs.declared.Head.TheVariants.{Int, Ptr, Arr, Struct, Untyped}
use Rattle.terms.specs.Heads.{place_of, form_no, main_no, tree_at}
use Rattle.terms.specs.HeadLaws.{Fair}
use Rattle.terms.specs.Extents.{Terms}
use Rattle.terms.specs.ExtentLaws.{module_term}
use Rattle.terms.specs.Compare.{tree_same}
use Rattle.functions.specs.Functions.{function_at, place_limit, terms_prop}
use Rattle.judgment.specs.Registers.{guarded, int_of, is_register, is_integer, is_pointer, is_untyped, has_width}

-- ---- a register's type

-- an operand is a byte
abbrev pub operands : ℕ
operands = 256

-- e is the type of register a of the function with record 7 at h
pub record Describes (f : Bytes) (h a : ℕ) (e : RegisterType) : Type 0 where
  pub register : not (eqb e.form 0) ≡ is_register (function_at f h) a
  pub integer : eqb e.form 1 ≡ is_integer (function_at f h) a
  pub pointer : eqb e.form 2 ≡ is_pointer (function_at f h) a
  pub untyped : eqb e.form 11 ≡ is_untyped (function_at f h) a
  pub region : e.region ≡ (region_of ((function_at f h).register_type a)).number
  pub term : (module_of f).term e.term ≡ (function_at f h).register_type a
  pub target : form ((function_at f h).register_type a) ≡ 2 → (module_of f).term e.target ≡ inner ((function_at f h).register_type a)
  pub number : form ((function_at f h).register_type a) ≢ 2 → e.number ≡ number_of ((function_at f h).register_type a)

-- nothing is known
abbrev pub unknown : RegisterType
unknown = record { form = 0; region = 0; term = 0; target = 0; number = 0 }

-- a table of types, of which some are unknown
pub record Described (f : Bytes) (h : ℕ) (types : List RegisterType) : Type 0 where
  pub long : length types ≡ operands
  pub each : (a : ℕ) → a < operands → (get_or types a unknown).form ≢ 0 → Describes f h a (get_or types a unknown)

-- ---- what the checker has of a function, at most one proof

-- n terms of file f, a record 7 at h among its records, and a table of the types of its registers
pub record IsFunction (f : Bytes) (n h : ℕ) (types : List RegisterType) : Type 0 where
  pub terms : Terms f n
  pub below : h < place_limit
  pub described : Described f h types

module _ (f : Bytes) (h : ℕ) where
  describes_prop : (a : ℕ) (e : RegisterType) → IsProp (Describes f h a e)
  describes_prop a e d g = λ i. record {
    register = Bool-set _ _ d.register g.register i;
    integer = Bool-set _ _ d.integer g.integer i;
    pointer = Bool-set _ _ d.pointer g.pointer i;
    untyped = Bool-set _ _ d.untyped g.untyped i;
    region = ℕ_set _ _ d.region g.region i;
    term = tree_set _ _ d.term g.term i;
    target = λ q. tree_set _ _ (d.target q) (g.target q) i;
    number = λ q. ℕ_set _ _ (d.number q) (g.number q) i;
  }
    where
      tree_set : IsSet (Tree variable)
      tree_set = hedberg dec_tree

  described_prop : (types : List RegisterType) → IsProp (Described f h types)
  described_prop types d g = λ i. record {
    long = ℕ_set _ _ d.long g.long i;
    each = λ a l q. describes_prop a (get_or types a unknown) (d.each a l q) (g.each a l q) i;
  }

  pub is_function_prop : (n : ℕ) (types : List RegisterType) → IsProp (IsFunction f n h types)
  is_function_prop n types d g = λ i. record {
    terms = terms_prop f n d.terms g.terms i;
    below = le_prop d.below g.below i;
    described = described_prop types d.described g.described i;
  }

-- ---- a type read from its term

pub digit_low : (k n : ℕ) → k < 256 → (k + 256 * n) % 256 ≡ k
digit_low k n l = omega arith

pub digit_rest : (k n : ℕ) → k < 256 → (k + 256 * n) / 256 ≡ n
digit_rest k n l = omega arith

there : (b : Bool) (F : ℕ) → F ≢ 0 → not (eqb (cond b F 0) 0) ≡ b
there true F n = ap not (ne_eqb F 0 n)
there false F n = refl

-- the form is n, which is not 0
is_form : (b : Bool) (F n : ℕ) → n ≢ 0 → eqb (cond b F 0) n ≡ b && eqb F n
is_form true F n l = refl
is_form false F n l = ne_eqb 0 n (λ e. l (sym e))

pub head_few : (x : Head) → form_no x < 12
head_few (Int w) = omega arith
head_few (Ptr a r) = omega arith
head_few (Arr n a) = omega arith
head_few (Struct N n d) = omega arith
head_few (Untyped n r) = omega arith

pub kind_few : (b : Bool) {F : ℕ} → F < 12 → cond b F 0 < 12
kind_few true l = l
kind_few false l = omega arith

module _ (f : Bytes) (h a : ℕ) where
  -- the register's type has a form, as every term has
  pub describes : {e : RegisterType} → form ((function_at f h).register_type a) ≢ 0 → e.form ≡ cond (is_register (function_at f h) a) (form ((function_at f h).register_type a)) 0
      → e.region ≡ (region_of ((function_at f h).register_type a)).number
      → (module_of f).term e.term ≡ (function_at f h).register_type a
      → (form ((function_at f h).register_type a) ≡ 2 → (module_of f).term e.target ≡ inner ((function_at f h).register_type a))
      → (form ((function_at f h).register_type a) ≢ 2 → e.number ≡ number_of ((function_at f h).register_type a))
      → Describes f h a e
  unfolding is_integer is_pointer is_untyped
  describes {e} some hk hr ht hi hw =
      let F = function_at f h in
      let T = F.register_type a in
      record {
        register = ap (λ (x : ℕ). not (eqb x 0)) hk ∙ there (is_register F a) (form T) some;
        integer = ap (λ (x : ℕ). eqb x 1) hk ∙ is_form (is_register F a) (form T) 1 (λ q. omega arith);
        pointer = ap (λ (x : ℕ). eqb x 2) hk ∙ is_form (is_register F a) (form T) 2 (λ q. omega arith);
        untyped = ap (λ (x : ℕ). eqb x 11) hk ∙ is_form (is_register F a) (form T) 11 (λ q. omega arith);
        region = hr;
        term = ht;
        target = hi;
        number = hw;
      }

-- a term by another number that has the same place
pub same_place : (f : Bytes) {n : ℕ} → Terms f n → (t u : ℕ) → place_of n u ≡ place_of n t → (module_of f).term u ≡ (module_of f).term t
same_place f {n} w t u e = module_term f n w u ∙ ap (tree_at f) e ∙ sym (module_term f n w t)

pub main_few : (n : ℕ) (x : Head) → Fair n x → main_no x < 4294967296
main_few n (Int w) g = omega arith
main_few n (Ptr a r) g = omega arith
main_few n (Arr c a) g = g.1
main_few n (Struct N c d) g = let l = g.0 in omega arith
main_few n (Untyped c r) g = g.0

-- ---- a table made

pub described_none : (f : Bytes) (h : ℕ) → Described f h (replicate operands unknown)
described_none f h = record {
  long = length-replicate operands unknown;
  each = λ a l d. absurd (d (ap (λ (e : RegisterType). e.form) (get_or-replicate operands a unknown unknown l)));
}

pub described_more : {f : Bytes} {h : ℕ} {types : List RegisterType} (a : ℕ) {e : RegisterType} → a < operands → Describes f h a e → Described f h types → Described f h (set types a e)
described_more {f} {h} {types} a {e} l w d = record { long = length-set types a e ∙ d.long; each = λ b m q. go b m q (ℕ_discrete b a) }
  where
    go : (b : ℕ) → b < operands → (get_or (set types a e) b unknown).form ≢ 0 → Dec (b ≡ a) → Describes f h b (get_or (set types a e) b unknown)
    go b m q (yes z) = rw (z, get_or-set_same types a e unknown (omega (arith, d.long))) w
    go b m q (no z) = let g : get_or (set types a e) b unknown ≡ get_or types b unknown = get_or-set_other types a b e unknown z in rw g (d.each b m (rw g at q))

-- ---- what the rules ask of it

integer_tree : (w : ℕ) (T : Tree variable) → eqb (form T) 1 && eqb (number_of T) w ≡ does (dec_tree T (int w))
integer_tree w T = sym (tree_same T (int w) (eqb (form T) 1 && eqb (number_of T) w)
    (λ e. both_of (eq-eqb (form T) 1 (ap form e)) (eq-eqb (number_of T) w (ap number_of e)))
    (λ h.
    let b = both (eqb (form T) 1) (eqb (number_of T) w) h in
    int_of T (eqb-true (form T) 1 b.0) ∙ ap int (eqb-true (number_of T) w b.1)))

module _ {f : Bytes} {h a : ℕ} {e : RegisterType} (d : Describes f h a e) where
  pub width_in_law : (w : ℕ) → eqb e.form 1 && eqb e.number w ≡ has_width (function_at f h) w a
  unfolding has_width is_integer
  width_in_law w =
      let T = (function_at f h).register_type a in
      ap (λ (b : Bool). b && eqb e.number w) d.integer ∙ and_assoc (is_register (function_at f h) a) (eqb (form T) 1) (eqb e.number w)
      ∙ ap (λ (b : Bool). is_register (function_at f h) a && b)
      (guarded (eqb (form T) 1) (eqb e.number w) (eqb (number_of T) w) (λ q. ap (λ (x : ℕ). eqb x w) (d.number (λ z. let i = eqb-true (form T) 1 q in omega arith)))
      ∙ integer_tree w T)

-- the target of a pointer, and a register, whose terms are compared
pub points_in : (p f v b c : Bool) → (f ≡ true → b ≡ c) → ((p && f) && v) && b ≡ (p && v) && (f && c)
points_in true true true b c h = h refl
points_in true true false b c h = refl
points_in true false true b c h = refl
points_in true false false b c h = refl
points_in false f v b c h = refl
