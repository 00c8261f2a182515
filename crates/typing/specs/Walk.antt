-- Laws of the walk where refusal 4 finds nothing: where it is in each phase, which records the terms, names, functions and
-- instructions are, and which ranges they have. Assumes nothing but that each record fits (`Fits`), where it says so.
use Rattle.std.specs.Prelude.{◌≡◌, Bool, ◌&&◌, ◌||◌, [], ◌∷◌, ◌++◌, length, get_or}
use Rattle.std.proofs.Math.Path.{refl, sym, ap, subst}
use Rattle.std.proofs.Common.{◌∙◌, not-suc-le-zero, length-append}
use Rattle.std.proofs.Math.Bool.{true, false, cond}
use Rattle.std.proofs.lemmas.Bool.{false≢true}
use Prim.Native.Nat.{ℕ, zero, suc, ◌+◌, ◌-◌, ◌*◌, ◌/◌, ◌<◌, ◌≤◌}
use Rattle.std.proofs.Math.Decide.{ℕ_discrete}
use native.Mathlib.Omega.{arith}
use Rattle.std.proofs.Math.Dec.{ltb, leb, eqb}
use Rattle.std.proofs.Math.ListN.{get_or-append}
use Rattle.std.proofs.lemmas.List.{get_or_at}
use borrow.Author.Tests.{ltb-true, leb-true, eqb-true, lt-ltb, le-ltb, leb-false}
use Rattle.words.specs.Bytes.{Bytes}
use Rattle.rules.specs.Limits.{most_terms, most_structs, most_functions, most_regions, most_region_params, most_entries, most_registers, most_instructions, size_limit}
use Rattle.rules.specs.File.{records, record_of, regions_of, return_of, parameters_of, instructions_of, within, is_term, is_instruction, kind_filler, kind_integer, kind_pointer, kind_array, kind_struct, kind_untyped, kind_name, kind_fields, kind_function, kind_regions, kind_registers, kind_call, kind_arguments}
use Rattle.rules.specs.Walk.{to, to_code, to_registers, headed, opened, to_term, named, done, called, to_function, to_name, step, next, Scan, next_scan, scan, whole}
use Rattle.rules.specs.Records.{integer_fits, pointer_fits, array_fits, struct_fits, term_fits, name_fits, head_ranges, function_fits, list_fits, seven, is_filler, instruction_fits, arguments_fit, fits_in, fits, end_fits, record_test_with, record_test}
use Rattle.rules.specs.Decode.{registers_at, code_at, after, places, struct_start}
use Rattle.rules.specs.declared.Record.{Record}
use Rattle.rules.specs.declared.Walk.{Walk}
use Rattle.rules.specs.declared.Phase.{Phase}
use Rattle.rules.specs.declared.Phase.TheVariants.{Terms, Names, Fields, Functions, Regions, Registers, Code, Arguments, Filler, Broken}
use Rattle.typing.specs.Tests.{left, right}

-- ---- places of instructions

-- the record after n instructions from r on
unfoldable pub skip : Bytes → ℕ → ℕ → ℕ
skip f r zero = r
skip f r (suc n) = skip f (after f r) n

-- the record after the last instruction of the function with record 7 at h
abbrev pub end_of : Bytes → ℕ → ℕ
end_of f h = skip f (code_at f h) (instructions_of (record_of f h))

module _ (f : Bytes) where
  pub after_more : (r : ℕ) → r < after f r
  after_more r = go (eqb (record_of f r).kind kind_call)
    where
      go : (b : Bool) → r < cond b (r + 2) (r + 1)
      go true = omega arith
      go false = omega arith

  pub skip_suc : (r n : ℕ) → skip f r (suc n) ≡ after f (skip f r n)
  unfolding skip
  skip_suc r zero = refl
  skip_suc r (suc n) = skip_suc (after f r) n

  pub skip_from : (r n : ℕ) → r ≤ skip f r n
  unfolding skip
  skip_from r zero = omega arith
  skip_from r (suc n) = let a = skip_from (after f r) n in let b = after_more r in omega arith

  pub skip_less : (r i j : ℕ) → i < j → skip f r i < skip f r j
  unfolding skip
  skip_less r i zero h = absurd (not-suc-le-zero h)
  skip_less r zero (suc j) h = let a = skip_from (after f r) j in let b = after_more r in omega arith
  skip_less r (suc i) (suc j) h = skip_less (after f r) i j (omega arith)

  pub place_at : (r n i : ℕ) → i < n → get_or (places f r n) i 0 ≡ skip f r i
  unfolding places skip
  place_at r zero i h = absurd (not-suc-le-zero h)
  place_at r (suc n) zero h = refl
  place_at r (suc n) (suc i) h = place_at (after f r) n i (omega arith)

  pub code_from : (h : ℕ) → h < code_at f h
  code_from h = go (ltb 0 (regions_of (record_of f h)))
    where
      go : (b : Bool) → h < cond b (h + 2) (h + 1) + ((record_of f h).c + (most_entries - 1)) / most_entries
      go true = omega arith
      go false = omega arith

  pub end_from : (h : ℕ) → h < end_of f h
  end_from h = let a = code_from h in let b = skip_from (code_at f h) (instructions_of (record_of f h)) in omega arith

-- ---- where the walk is

-- the counts of the last function are those of its record 7
pub record Head (f : Bytes) (w : Walk) : Type 0 where
  pub some : 1 ≤ w.functions
  pub ranges : head_ranges (record_of f w.head) ≡ true
  pub registers : w.registers ≡ (record_of f w.head).c
  pub instructions : w.instructions ≡ instructions_of (record_of f w.head)

-- the last function lies before r
pub record Ended (f : Bytes) (w : Walk) (r : ℕ) : Type 0 where
  pub some : 1 ≤ w.functions
  pub ended : end_of f w.head ≤ r

-- the walk w waits before record r for what its phase says
pub data Place (f : Bytes) (w : Walk) (r : ℕ) : Phase → Type 0 where
  in_terms : r ≡ w.terms → w.names ≡ 0 → w.functions ≡ 0 → Place f w r Terms
  in_names : r ≡ struct_start w.terms w.names → w.functions ≡ 0 → Place f w r Names
  in_fields : suc r ≡ struct_start w.terms w.names → w.functions ≡ 0 → Place f w r Fields
  in_functions : Ended f w r → Place f w r Functions
  in_regions : Head f w → r ≡ w.head + 1 → ltb 0 (regions_of (record_of f w.head)) ≡ true → Place f w r Regions
  in_registers : (k : ℕ) → Head f w → r ≡ registers_at f w.head + k → most_entries * k + w.left ≡ w.registers → 1 ≤ w.left → Place f w r Registers
  in_code_law : (n : ℕ) → Head f w → r ≡ skip f (code_at f w.head) n → n + w.left ≡ w.instructions → 1 ≤ w.left → Place f w r Code
  in_arguments : (n : ℕ) → Head f w → r ≡ suc (skip f (code_at f w.head) n) → n + w.left ≡ w.instructions → 1 ≤ w.left
      → eqb (record_of f (skip f (code_at f w.head) n)).kind kind_call ≡ true → Place f w r Arguments
  in_filler_law : Ended f w r → Place f w r Filler

-- "c registers (1-28) .. the instructions (1-1,024)"
pub some_registers : (x : Record) → head_ranges x ≡ true → 1 ≤ x.c
unfolding head_ranges
some_registers x e = leb-true 1 x.c (left _ (leb x.c most_registers) (right (leb x.a most_region_params && leb (regions_of x) most_regions) _
    (left _ ((leb (parameters_of x) most_entries && leb (parameters_of x) x.c) && within (instructions_of x) 1 most_instructions) e)))

pub some_instructions : (x : Record) → head_ranges x ≡ true → 1 ≤ instructions_of x
unfolding head_ranges
some_instructions x e = leb-true 1 (instructions_of x) (left _ (leb (instructions_of x) most_instructions)
    (right (leb (parameters_of x) most_entries && leb (parameters_of x) x.c) _
    (right ((leb x.a most_region_params && leb (regions_of x) most_regions) && within x.c 1 most_registers) _ e)))

-- v has w's tables, and stands before record r
pub record Kept (f : Bytes) (w v : Walk) (r : ℕ) : Type 0 where
  pub terms : v.terms ≡ w.terms
  pub names : v.names ≡ w.names
  pub functions : v.functions ≡ w.functions
  pub head : v.head ≡ w.head
  pub place : Place f v r v.phase

module _ (f : Bytes) (w : Walk) (h : Head f w) where
  -- as a walk that differs in its phase and in what is left
  head_to : (p : Phase) (n : ℕ) → Head f (to w p n)
  head_to p n = record { some = h.some; ranges = h.ranges; registers = h.registers; instructions = h.instructions }

  to_code_law : (r : ℕ) → r ≡ code_at f w.head → Kept f w (to_code w) r
  unfolding to_code skip
  to_code_law r e = rw (lt-ltb 0 w.instructions (omega (arith, some_instructions (record_of f w.head) h.ranges, h.instructions)))
      (record {
        terms = refl;
        names = refl;
        functions = refl;
        head = refl;
        place = in_code_law 0 (head_to Code w.instructions) e (omega arith) (omega (arith, some_instructions (record_of f w.head) h.ranges, h.instructions));
      })

  to_registers_law : (r : ℕ) → r ≡ registers_at f w.head → Kept f w (to_registers w) r
  unfolding to_registers
  to_registers_law r e = rw (lt-ltb 0 w.registers (omega (arith, some_registers (record_of f w.head) h.ranges, h.registers)))
      (record {
        terms = refl;
        names = refl;
        functions = refl;
        head = refl;
        place = in_registers 0 (head_to Registers w.registers) (omega arith) (omega arith) (omega (arith, some_registers (record_of f w.head) h.ranges, h.registers));
      })

  -- the instruction at skip .. n is over
  is_done : (r n : ℕ) → r ≡ skip f (code_at f w.head) (suc n) → n + w.left ≡ w.instructions → 1 ≤ w.left → Kept f w (done w) r
  unfolding done
  is_done r n e l s = go (leb w.left 1) refl
    where
      go : (b : Bool) → leb w.left 1 ≡ b → Kept f w (cond b (to w Functions 0) (to w Code (w.left - 1))) r
      go true q =
          let one : w.left ≡ 1 = omega (arith, leb-true w.left 1 q) in
          let all : suc n ≡ instructions_of (record_of f w.head) = omega (arith, h.instructions) in
          record {
            terms = refl;
            names = refl;
            functions = refl;
            head = refl;
            place = in_functions (record { some = h.some; ended = let z : r ≡ end_of f w.head = e ∙ ap (skip f (code_at f w.head)) all in omega arith });
          }
      go false q = record {
        terms = refl;
        names = refl;
        functions = refl;
        head = refl;
        place = in_code_law (suc n) (head_to Code (w.left - 1)) e (omega (arith, leb-false w.left 1 q)) (omega (arith, leb-false w.left 1 q));
      }

-- ---- one record

-- what a record that fits does to the tables
data After (f : Bytes) (t : Scan) (w v : Walk) (r : ℕ) : Type 0 where
  keeps : v.terms ≡ w.terms → v.names ≡ w.names → v.functions ≡ w.functions → v.head ≡ w.head → After f t w v r
  term : v.terms ≡ suc w.terms → w.names ≡ 0 → v.names ≡ 0 → v.functions ≡ w.functions → v.head ≡ w.head → r ≡ w.terms
      → term_fits t.walk w (record_of f r) ≡ true → After f t w v r
  name : v.terms ≡ w.terms → v.names ≡ suc w.names → v.functions ≡ w.functions → v.head ≡ w.head → r ≡ struct_start w.terms w.names
      → name_fits w (record_of f r) ≡ true → After f t w v r
  opens : v.terms ≡ w.terms → v.names ≡ w.names → v.functions ≡ suc w.functions → v.head ≡ r → w.functions < most_functions
      → (1 ≤ w.functions → end_of f w.head ≤ r) → head_ranges (record_of f r) ≡ true → After f t w v r

record Next (f : Bytes) (t : Scan) (w v : Walk) (r : ℕ) : Type 0 where
  tables : After f t w v r
  place : Place f v (suc r) v.phase

module _ (f : Bytes) (t : Scan) (w : Walk) (r : ℕ) where
  kept : {v : Walk} → Kept f w v (suc r) → Next f t w v r
  kept k = record { tables = keeps k.terms k.names k.functions k.head; place = k.place }

  head_now : head_ranges (record_of f r) ≡ true → Head f (headed w (record_of f r) r)
  head_now e = record { some = omega arith; ranges = e; registers = refl; instructions = refl }

  is_opened : head_ranges (record_of f r) ≡ true → Kept f (headed w (record_of f r) r) (opened w (record_of f r) r) (suc r)
  unfolding opened
  is_opened e = go (ltb 0 (regions_of (record_of f r))) refl
    where
      go : (b : Bool) → ltb 0 (regions_of (record_of f r)) ≡ b
          → Kept f (headed w (record_of f r) r) (cond b (headed w (record_of f r) r) (to_registers (headed w (record_of f r) r))) (suc r)
      go true q = record { terms = refl; names = refl; functions = refl; head = refl; place = in_regions (head_now e) (omega arith) q }
      go false q = to_registers_law f (headed w (record_of f r) r) (head_now e) (suc r) (rw q (omega arith))

  function_after : (1 ≤ w.functions → end_of f w.head ≤ r) → function_fits w (record_of f r) ≡ true → Next f t w (to_function w (record_of f r) r) r
  unfolding function_fits to_function
  function_after before e =
      let x = record_of f r in
      let a = left (ltb w.functions most_functions && (eqb x.kind kind_function && ltb (return_of x) w.terms)) (head_ranges x) e in
      let b = right (ltb w.functions most_functions && (eqb x.kind kind_function && ltb (return_of x) w.terms)) (head_ranges x) e in
      let c = left (ltb w.functions most_functions) (eqb x.kind kind_function && ltb (return_of x) w.terms) a in
      let d = left (eqb x.kind kind_function) (ltb (return_of x) w.terms) (right (ltb w.functions most_functions) (eqb x.kind kind_function && ltb (return_of x) w.terms) a) in
      let k = is_opened b in
      rw d (record { tables = opens k.terms k.names (k.functions ∙ omega arith) k.head (ltb-true w.functions most_functions c) before b; place = k.place })

  name_after : r ≡ struct_start w.terms w.names → w.functions ≡ 0
      → cond (eqb (record_of f r).kind kind_name) (name_fits w (record_of f r)) (function_fits w (record_of f r)) ≡ true → Next f t w (to_name w (record_of f r) r) r
  unfolding to_name
  name_after at none e = go (eqb (record_of f r).kind kind_name) e
    where
      go : (b : Bool) → cond b (name_fits w (record_of f r)) (function_fits w (record_of f r)) ≡ true
          → Next f t w (cond b (named w (record_of f r)) (to_function w (record_of f r) r)) r
      go true e = record { tables = name refl (omega arith) refl refl at e; place = in_fields (omega arith) none }
      go false e = function_after (λ s. absurd (omega arith)) e

  -- a record of the one kind that is wanted
  wanted : (k : ℕ) (v : Walk) (b : Bool) → eqb (record_of f r).kind k && b ≡ true → Kept f w v (suc r)
      → Next f t w (cond (eqb (record_of f r).kind k) v (to w Broken 0)) r
  wanted k v b e h = rw (left (eqb (record_of f r).kind k) b e) (kept h)

  filled : Ended f w r → Ended f w (suc r)
  filled e = record { some = e.some; ended = omega (arith, e.ended) }

  after_step : (p : Phase) → w.phase ≡ p → Place f w r p → fits_in p f t w (record_of f r) ≡ true → Next f t w (step p w (record_of f r) r) r
  unfolding fits_in step list_fits instruction_fits arguments_fit
  after_step Terms q (in_terms a b c) e = go (is_term (record_of f r).kind) e
    where
      go : (b : Bool)
          → cond b (term_fits t.walk w (record_of f r)) (cond (eqb (record_of f r).kind kind_name) (name_fits w (record_of f r)) (function_fits w (record_of f r))) ≡ true
          → Next f t w (cond b (to_term w) (to_name w (record_of f r) r)) r
      go true e = record { tables = term (omega arith) b b refl refl a e; place = in_terms (omega arith) b c }
      go false e = name_after (omega arith) c e
  after_step Names q (in_names a c) e = name_after a c e
  after_step Fields q (in_fields a c) e = wanted kind_fields (to w Names 0) (seven (record_of f r) w.left w.terms) e
      (record { terms = refl; names = refl; functions = refl; head = refl; place = in_names a c })
  after_step Functions q (in_functions a) e = go (eqb (record_of f r).kind kind_function) refl e
    where
      go : (b : Bool) → eqb (record_of f r).kind kind_function ≡ b → cond b (function_fits w (record_of f r)) (is_filler (record_of f r)) ≡ true
          → Next f t w (to_function w (record_of f r) r) r
      go true q e = function_after (λ s. a.ended) e
      go false q e =
          let x = record_of f r in
          unfold to_function in rw (
            q,
            left (eqb x.kind kind_filler) (eqb x.a 0) (left (eqb x.kind kind_filler && eqb x.a 0) (eqb x.b 0 && eqb x.c 0)
                (left ((eqb x.kind kind_filler && eqb x.a 0) && (eqb x.b 0 && eqb x.c 0)) (eqb x.d 0) e)),
          )
          (record { tables = keeps refl refl refl refl; place = in_filler_law (record { some = a.some; ended = omega (arith, a.ended) }) })
  after_step Regions q (in_regions h a b) e = wanted kind_regions (to_registers w) (seven (record_of f r) w.left w.terms) e
      (to_registers_law f w h (suc r) (rw b (omega arith)))
  after_step Registers q (in_registers k h a b c) e =
      wanted kind_registers (cond (leb w.left most_entries) (to_code w) (to w Registers (w.left - most_entries))) (seven (record_of f r) w.left w.terms) e
      (go (leb w.left most_entries) refl)
    where
      go : (z : Bool) → leb w.left most_entries ≡ z → Kept f w (cond z (to_code w) (to w Registers (w.left - most_entries))) (suc r)
      go true q = to_code_law f w h (suc r)
          (let n : ((record_of f w.head).c + (most_entries - 1)) / most_entries ≡ suc k = omega (arith, leb-true w.left most_entries q, h.registers) in
          omega arith)
      go false q = record {
        terms = refl;
        names = refl;
        functions = refl;
        head = refl;
        place = in_registers (suc k) (head_to f w h Registers (w.left - most_entries)) (omega arith)
            (omega (arith, leb-false w.left most_entries q)) (omega (arith, leb-false w.left most_entries q));
      }
  after_step Code q (in_code_law n h a b c) e = go (eqb (record_of f r).kind kind_call) refl
    where
      go : (z : Bool) → eqb (record_of f r).kind kind_call ≡ z
          → Next f t w (cond z (called w (record_of f r)) (cond (is_instruction (record_of f r).kind) (done w) (to w Broken 0))) r
      go true z = record {
        tables = keeps refl refl refl refl;
        place = in_arguments n (record { some = h.some; ranges = h.ranges; registers = h.registers; instructions = h.instructions })
            (ap suc a) b c (subst (λ (i : ℕ). eqb (record_of f i).kind kind_call ≡ true) a z);
      }
      go false z = unfold instruction_fits in rw (left (is_instruction (record_of f r).kind) _ e) (kept (is_done f w h (suc r) n over b c))
        where
          next_at : after f r ≡ suc r
          next_at = rw z (omega arith)

          over : suc r ≡ skip f (code_at f w.head) (suc n)
          over = sym next_at ∙ ap (after f) a ∙ sym (skip_suc f (code_at f w.head) n)
  after_step Broken q x3 e = elim x3 [ ]
  after_step Arguments q (in_arguments n h a b c z) e = unfold arguments_fit in wanted kind_arguments (done w) _ e (is_done f w h (suc r) n over b c)
    where
      next_at : after f (skip f (code_at f w.head) n) ≡ suc r
      next_at = rw z (omega arith)

      over : suc r ≡ skip f (code_at f w.head) (suc n)
      over = sym next_at ∙ sym (skip_suc f (code_at f w.head) n)
  after_step Filler q (in_filler_law a) e = record { tables = keeps refl refl refl refl; place = subst (λ (p : Phase). Place f w (suc r) p) (sym q) (in_filler_law (filled a)) }

-- ---- the whole walk

-- what a term's record says of widths and counts: those that `term_fits` asks for
pub record TermRecord (x : Record) : Type 0 where
  pub width : eqb x.kind kind_integer ≡ true → (eqb x.a 1 || (eqb x.a 2 || eqb x.a 4)) ≡ true
  pub count : eqb x.kind kind_array ≡ true → within x.d 1 size_limit ≡ true
  pub untyped : eqb x.kind kind_untyped ≡ true → within x.d 1 size_limit ≡ true

pub term_record : (t w : Walk) (x : Record) → term_fits t w x ≡ true → TermRecord x
unfolding term_fits
term_record t w x e = record {
  width = λ k. integer (eqb-true x.kind kind_integer k);
  count = λ k. array (eqb-true x.kind kind_array k);
  untyped = λ k. raw (eqb-true x.kind kind_untyped k);
}
  where
    forms : ((eqb x.kind kind_integer && integer_fits x) || (eqb x.kind kind_pointer && pointer_fits w x))
        || ((eqb x.kind kind_array && array_fits w x) || (eqb x.kind kind_struct && struct_fits t x)) ≡ true
    forms = right (ltb w.terms most_terms) _ (unfold term_fits in e)

    or_false : (b : Bool) → (b || false) || false ≡ true → b ≡ true
    or_false true e = refl
    or_false false e = e

    or_one : (b : Bool) → b || false ≡ true → b ≡ true
    or_one true e = refl
    or_one false e = e

    integer : x.kind ≡ kind_integer → (eqb x.a 1 || (eqb x.a 2 || eqb x.a 4)) ≡ true
    integer k = left _ _ (or_false (integer_fits x) (rw k at forms))

    array : x.kind ≡ kind_array → within x.d 1 size_limit ≡ true
    array k = right (ltb x.a w.terms) _ (left (ltb x.a w.terms && within x.d 1 size_limit) _ (or_one (array_fits w x) (rw k at forms)))

    -- no record of this kind fits yet
    raw : x.kind ≡ kind_untyped → within x.d 1 size_limit ≡ true
    raw k = absurd (false≢true (rw k at forms))

pub record Good (f : Bytes) (s : Scan) (r : ℕ) : Type 0 where
  pub place : Place f s.walk r s.walk.phase
  pub terms : s.walk.terms ≤ most_terms
  pub names : s.walk.names ≤ most_structs
  pub functions : s.walk.functions ≤ most_functions
  -- the records of terms and names
  pub term_records : (i : ℕ) → i < s.walk.terms → TermRecord (record_of f i)
  pub some_fields : (N : ℕ) → N < s.walk.names → 1 ≤ (record_of f (struct_start s.walk.terms N)).b
  -- the record 7 of each function, the last of which is the walk's; one lies behind the other
  pub count : length s.starts ≡ s.walk.functions
  pub heads : (g : ℕ) → g < s.walk.functions → head_ranges (record_of f (get_or s.starts g 0)) ≡ true
  pub last : (g : ℕ) → suc g ≡ s.walk.functions → get_or s.starts g 0 ≡ s.walk.head
  pub behind : (g : ℕ) → suc g < s.walk.functions → end_of f (get_or s.starts g 0) ≤ get_or s.starts (suc g) 0

good_next : (f : Bytes) (t s : Scan) (r : ℕ) → Good f s r → Next f t s.walk (next s.walk (record_of f r) r) r → Good f (next_scan f s r) (suc r)
unfolding next_scan
good_next f t s r g n = go (next s.walk (record_of f r) r) n.tables n.place
  where
    -- no function is opened
    stays : (v : Walk) → Place f v (suc r) v.phase → v.terms ≤ most_terms → v.names ≤ most_structs
        → ((i : ℕ) → i < v.terms → TermRecord (record_of f i)) → ((N : ℕ) → N < v.names → 1 ≤ (record_of f (struct_start v.terms N)).b)
        → v.functions ≡ s.walk.functions → v.head ≡ s.walk.head
        → Good f (record { walk = v; starts = cond (ltb s.walk.functions v.functions) (s.starts ++ r ∷ []) s.starts }) (suc r)
    stays v p ht hn tr sf e d =
        rw (le-ltb s.walk.functions v.functions (omega arith))
        (record {
          place = p;
          terms = ht;
          names = hn;
          functions = omega (arith, g.functions);
          term_records = tr;
          some_fields = sf;
          count = g.count ∙ sym e;
          heads = λ i h. g.heads i (omega arith);
          last = λ i h. g.last i (omega arith) ∙ sym d;
          behind = λ i h. g.behind i (omega arith);
        })

    go : (v : Walk) → After f t s.walk v r → Place f v (suc r) v.phase
        → Good f (record { walk = v; starts = cond (ltb s.walk.functions v.functions) (s.starts ++ r ∷ []) s.starts }) (suc r)
    go v (keeps et en e d) p = stays v p (omega (arith, g.terms)) (omega (arith, g.names)) (λ i h. g.term_records i (omega arith))
        (λ N h. rw et (g.some_fields N (omega arith))) e d
    go v (term et wn en e d at fit) p = stays v p (omega (arith, ltb-true s.walk.terms most_terms (unfold term_fits in left (ltb s.walk.terms most_terms) _ fit)))
        (omega arith) (λ i h. new_term i h (ℕ_discrete i s.walk.terms)) (λ N h. absurd (omega arith)) e d
      where
        new_term : (i : ℕ) → i < v.terms → Dec (i ≡ s.walk.terms) → TermRecord (record_of f i)
        new_term i h (yes q) = subst (λ (k : ℕ). TermRecord (record_of f k)) (at ∙ sym q) (term_record t.walk s.walk (record_of f r) fit)
        new_term i h (no q) = g.term_records i (omega arith)
    go v (name et en e d at fit) p = stays v p (omega (arith, g.terms)) (omega (arith, ltb-true s.walk.names most_structs room))
        (λ i h. g.term_records i (omega arith)) (λ N h. rw et (new_name N h (ℕ_discrete N s.walk.names))) e d
      where
        room : ltb s.walk.names most_structs ≡ true
        room = unfold name_fits in left (ltb s.walk.names most_structs) (eqb (record_of f r).kind kind_name)
            (left (ltb s.walk.names most_structs && eqb (record_of f r).kind kind_name) _ fit)

        some : leb 1 (record_of f r).b ≡ true
        some = unfold name_fits in left (leb 1 (record_of f r).b) (leb (record_of f r).b most_entries)
            (right (leb (record_of f r).a most_region_params) _
            (left (leb (record_of f r).a most_region_params && within (record_of f r).b 1 most_entries) _
            (right (ltb s.walk.names most_structs && eqb (record_of f r).kind kind_name) _ fit)))

        new_name : (N : ℕ) → N < v.names → Dec (N ≡ s.walk.names) → 1 ≤ (record_of f (struct_start s.walk.terms N)).b
        new_name N h (yes q) = subst (λ (k : ℕ). 1 ≤ (record_of f k).b) (at ∙ ap (struct_start s.walk.terms) (sym q)) (leb-true 1 (record_of f r).b some)
        new_name N h (no q) = g.some_fields N (omega arith)
    go v (opens et en e d room before ok) p =
        rw (lt-ltb s.walk.functions v.functions (omega arith))
        (record {
          place = p;
          terms = omega (arith, g.terms);
          names = omega (arith, g.names);
          functions = omega arith;
          term_records = λ i h. g.term_records i (omega arith);
          some_fields = λ N h. rw et (g.some_fields N (omega arith));
          count = length-append s.starts (r ∷ []) ∙ omega (arith, g.count);
          heads = λ i h. head_at i h (ℕ_discrete i s.walk.functions);
          last = λ i h. get_or_at s.starts r [] 0 i (omega (arith, g.count)) ∙ sym d;
          behind = λ i h. behind_at i h (ℕ_discrete (suc i) s.walk.functions);
        })
      where
        old_at : (i : ℕ) → i < s.walk.functions → get_or (s.starts ++ r ∷ []) i 0 ≡ get_or s.starts i 0
        old_at i h = get_or-append s.starts (r ∷ []) 0 i (omega (arith, g.count))

        head_at : (i : ℕ) → i < v.functions → Dec (i ≡ s.walk.functions) → head_ranges (record_of f (get_or (s.starts ++ r ∷ []) i 0)) ≡ true
        head_at i h (yes q) = rw (get_or_at s.starts r [] 0 i (g.count ∙ sym q)) ok
        head_at i h (no q) = rw (old_at i (omega arith)) (g.heads i (omega arith))

        behind_at : (i : ℕ) → suc i < v.functions → Dec (suc i ≡ s.walk.functions) → end_of f (get_or (s.starts ++ r ∷ []) i 0) ≤ get_or (s.starts ++ r ∷ []) (suc i) 0
        behind_at i h (yes q) = rw (get_or_at s.starts r [] 0 (suc i) (g.count ∙ sym q), old_at i (omega arith), g.last i q) (before (omega arith))
        behind_at i h (no q) = rw (old_at i (omega arith), old_at (suc i) (omega arith)) (g.behind i (omega arith))

-- refusal 4 finds nothing
abbrev pub Fits : Bytes → Type 0
Fits f = (r : ℕ) → r < records f + 1 → record_test f r ≡ true

pub test_at_law : (f : Bytes) (r : ℕ) → r < records f → record_test f r ≡ fits f (whole f) (scan f r).walk (record_of f r)
unfolding record_test record_test_with
test_at_law f r h = rw (lt-ltb r (records f) h)

pub test_end : (f : Bytes) → record_test f (records f) ≡ end_fits (scan f (records f)).walk.phase
unfolding record_test record_test_with
test_end f = rw (le-ltb (records f) (records f) (omega arith))

module _ (f : Bytes) (ok : Fits f) where
  fits_at : (r : ℕ) → r < records f → fits f (whole f) (scan f r).walk (record_of f r) ≡ true
  fits_at r h = sym (test_at_law f r h) ∙ ok r (omega arith)

  -- before each record
  pub good_scan : (r : ℕ) → r ≤ records f → Good f (scan f r) r
  unfolding scan next fits
  good_scan zero h = record {
    place = in_terms refl refl refl;
    terms = omega arith;
    names = omega arith;
    functions = omega arith;
    term_records = λ i l. absurd (not-suc-le-zero l);
    some_fields = λ N l. absurd (not-suc-le-zero l);
    count = refl;
    heads = λ g l. absurd (not-suc-le-zero l);
    last = λ g l. absurd (omega arith);
    behind = λ g l. absurd (omega arith);
  }
  good_scan (suc r) h =
      let g = good_scan r (omega arith) in
      good_next f (whole f) (scan f r) r g
      (after_step f (whole f) (scan f r).walk r (scan f r).walk.phase refl g.place (fits_at r h))

  -- and of the whole file
  pub good : Good f (whole f) (records f)
  unfolding whole
  good = good_scan (records f) (omega arith)

  pub some_function : 1 ≤ (whole f).walk.functions
  unfolding whole
  some_function = go (scan f (records f)).walk.phase (good_scan (records f) (omega arith)).place end
    where
      end : end_fits (scan f (records f)).walk.phase ≡ true
      end = sym (test_end f) ∙ ok (records f) (omega arith)

      go : (p : Phase) → Place f (scan f (records f)).walk (records f) p → end_fits p ≡ true → 1 ≤ (scan f (records f)).walk.functions
      go Terms s e = absurd (false≢true e)
      go Names s e = absurd (false≢true e)
      go Fields s e = absurd (false≢true e)
      go Functions (in_functions s) e = s.some
      go Regions s e = absurd (false≢true e)
      go Registers s e = absurd (false≢true e)
      go Code s e = absurd (false≢true e)
      go Arguments s e = absurd (false≢true e)
      go Filler (in_filler_law s) e = s.some
      go Broken s e = elim s [ ]
