-- What a file whose records fit, and whose functions keep refusal 6's rules, gives to the code behind: terms in range, counts, types that
-- use few regions. Assumes nothing but that, where it says so.
use Rattle.std.specs.Prelude.{◌≡◌, Bool, true, false, cond, not, ◌&&◌, ◌||◌, ◌⊎◌, ltb, leb, eqb, length}
use Rattle.std.proofs.Math.Path.{refl, subst}
use Rattle.std.proofs.Common.{sym, ap, ◌∙◌, inl, inr, ⊎_elim, arith, ltb-true, leb-true, eqb-true, eq-eqb}
use Prim.Native.Nat.{ℕ, zero, suc, ◌+◌, ◌*◌, ◌-◌, ◌%◌, ◌<◌, ◌≤◌}
use Rattle.std.proofs.Math.Decide.{ℕ_discrete}
use Rattle.words.specs.Bytes.{Bytes}
use Rattle.words.specs.Choose.{both, either, cond_split}
use Rattle.rules.specs.Limits.{most_regions, most_region_params, most_entries, most_terms, size_limit, block_bytes, most_blocks}
use Rattle.rules.specs.File.{records, blocks, length_right, record_of, regions_of, is_term, is_instruction, kind_integer, kind_pointer, kind_array, kind_struct, kind_name, kind_fields, kind_function, kind_filler, kind_regions, kind_registers, kind_call, kind_arguments, within}
use Rattle.rules.specs.Walk.{to, to_code, to_registers, headed, opened, to_term, named, done, called, to_function, to_name, step, next, Scan, next_scan, scan, whole, names_end}
use Rattle.rules.specs.Records.{four, integer_fits, pointer_fits, array_fits, struct_fits, term_fits, name_fits, function_fits, fits_in, fits}
use Rattle.rules.specs.Module.{regions}
use Rattle.rules.specs.Decode.{module_of, start_of}
use Rattle.rules.specs.Verdict.{function_test}
use Rattle.rules.specs.declared.Record.{Record}
use Rattle.rules.specs.declared.Walk.{Walk}
use Rattle.rules.specs.declared.Phase.{Phase}
use Rattle.rules.specs.declared.Phase.TheVariants.{Terms, Names, Fields, Functions, Regions, Registers, Code, Arguments, Filler, Broken}
use Rattle.typing.specs.Walk.{Fits, Place, in_terms, good, good_scan, test_at_law}
use Rattle.typing.specs.Tests.{left, right}
use Rattle.typing.specs.Accepted.{module_tables, module_ranges}
use Rattle.typing.specs.Refused.{function_test_law}
use Rattle.typing.specs.Facts.{uses_more, scope_all}
use Rattle.positions.specs.Table.{Ranged}
use Rattle.walk.specs.Tables.{tables_of, tables_walk, tables_starts}
use Rattle.walk.specs.declared.tables.Tables.{Tables}
use Rattle.functions.specs.Functions.{Known, function_at, function_at_law}
use Rattle.instructions.specs.Plain.{Tight}

-- ---- only a term's record makes the terms more

module _ (w : Walk) where
  same_code : (to_code w).terms ≡ w.terms
  unfolding to_code
  same_code = cond_split (λ (v : Walk). v.terms ≡ w.terms) (ltb 0 w.instructions) (to w Code w.instructions) (to w Functions 0) (λ e. refl) (λ e. refl)

  same_done : (done w).terms ≡ w.terms
  unfolding done
  same_done = cond_split (λ (v : Walk). v.terms ≡ w.terms) (leb w.left 1) (to w Functions 0) (to w Code (w.left - 1)) (λ e. refl) (λ e. refl)

same_registers : (w : Walk) → (to_registers w).terms ≡ w.terms
unfolding to_registers
same_registers w = cond_split (λ (v : Walk). v.terms ≡ w.terms) (ltb 0 w.registers) (to w Registers w.registers) (to_code w) (λ e. refl) (λ e. same_code w)

module _ (w : Walk) (x : Record) (r : ℕ) where
  same_opened : (opened w x r).terms ≡ w.terms
  unfolding opened
  same_opened = cond_split (λ (v : Walk). v.terms ≡ w.terms) (ltb 0 (regions_of x)) (headed w x r) (to_registers (headed w x r)) (λ e. refl) (λ e. same_registers (headed w x r))

  same_function : (to_function w x r).terms ≡ w.terms
  unfolding to_function
  same_function = cond_split (λ (v : Walk). v.terms ≡ w.terms) (eqb x.kind kind_function) (opened w x r) (cond (eqb x.kind kind_filler) (to w Filler 0) (to w Broken 0)) (λ e. same_opened)
      (λ e. cond_split (λ (v : Walk). v.terms ≡ w.terms) (eqb x.kind kind_filler) (to w Filler 0) (to w Broken 0) (λ q. refl) (λ q. refl))

  same_name : (to_name w x r).terms ≡ w.terms
  unfolding to_name
  same_name = cond_split (λ (v : Walk). v.terms ≡ w.terms) (eqb x.kind kind_name) (named w x) (to_function w x r) (λ e. refl) (λ e. same_function)

  wanted : (k : ℕ) (v : Walk) → v.terms ≡ w.terms → (cond (eqb x.kind k) v (to w Broken 0)).terms ≡ w.terms
  wanted k v h = cond_split (λ (v : Walk). v.terms ≡ w.terms) (eqb x.kind k) v (to w Broken 0) (λ e. h) (λ e. refl)

-- ---- what refusal 4 asks of a term's record

-- the four kinds of term
pub data TermCase (t w : Walk) (x : Record) : Type 0 where
  of_integer : x.kind ≡ kind_integer → integer_fits x ≡ true → TermCase t w x
  of_pointer : x.kind ≡ kind_pointer → pointer_fits w x ≡ true → TermCase t w x
  of_array : x.kind ≡ kind_array → array_fits w x ≡ true → TermCase t w x
  of_struct : x.kind ≡ kind_struct → struct_fits t x ≡ true → TermCase t w x

pub term_case : (t w : Walk) (x : Record) → term_fits t w x ≡ true → TermCase t w x
unfolding term_fits
term_case t w x e =
    let integer : Bool = eqb x.kind kind_integer && integer_fits x in
    let pointer : Bool = eqb x.kind kind_pointer && pointer_fits w x in
    let array : Bool = eqb x.kind kind_array && array_fits w x in
    let name : Bool = eqb x.kind kind_struct && struct_fits t x in
    ⊎_elim
    (λ h. ⊎_elim
    (λ i. let p = both (eqb x.kind kind_integer) (integer_fits x) i in of_integer (eqb-true x.kind kind_integer p.0) p.1)
    (λ i. let p = both (eqb x.kind kind_pointer) (pointer_fits w x) i in of_pointer (eqb-true x.kind kind_pointer p.0) p.1)
    (either integer pointer h))
    (λ h. ⊎_elim
    (λ i. let p = both (eqb x.kind kind_array) (array_fits w x) i in of_array (eqb-true x.kind kind_array p.0) p.1)
    (λ i. let p = both (eqb x.kind kind_struct) (struct_fits t x) i in of_struct (eqb-true x.kind kind_struct p.0) p.1)
    (either array name h))
    (either (integer || pointer) (array || name) (right (ltb w.terms most_terms) ((integer || pointer) || (array || name)) e))

module _ (t w : Walk) (x : Record) where
  -- what is unused is zero
  pub integer_plain : integer_fits x ≡ true → x.b ≡ 0
  integer_plain i =
      let j = right (eqb x.a 1 || (eqb x.a 2 || eqb x.a 4)) ((eqb x.b 0 && eqb x.c 0) && eqb x.d 0) i in
      eqb-true x.b 0 (left (eqb x.b 0) (eqb x.c 0) (left (eqb x.b 0 && eqb x.c 0) (eqb x.d 0) j))

  pub array_plain : array_fits w x ≡ true → x.b ≡ 0
  array_plain i = eqb-true x.b 0 (left (eqb x.b 0) (eqb x.c 0) (right (ltb x.a w.terms && within x.d 1 size_limit) (eqb x.b 0 && eqb x.c 0) i))

  -- "region variable b (0-6)", and d is unused
  pub pointer_region : pointer_fits w x ≡ true → (x.b < most_regions) × (x.d ≡ 0)
  pointer_region i =
      let j = both (ltb x.a w.terms && ltb x.b most_regions) (eqb x.c 0 && eqb x.d 0) i in
      (ltb-true x.b most_regions (right (ltb x.a w.terms) (ltb x.b most_regions) j.0), eqb-true x.d 0 (right (eqb x.c 0) (eqb x.d 0) j.1))

  -- "b region arguments (0-4), one per byte of d, each 0-6"
  pub struct_regions : struct_fits t x ≡ true → (x.b ≤ most_region_params) × (four x x.b most_regions ≡ true)
  struct_regions i =
      let j = both ((ltb x.a t.names || not (names_end t)) && leb x.b most_region_params) (eqb x.c 0 && four x x.b most_regions) i in
      (leb-true x.b most_region_params (right (ltb x.a t.names || not (names_end t)) (leb x.b most_region_params) j.0), right (eqb x.c 0) (four x x.b most_regions) j.1)

  few_arguments : TermCase t w x → (x.kind ≡ kind_pointer → ⊥) → x.b ≤ most_region_params
  few_arguments (of_integer k i) h = omega (arith, integer_plain i)
  few_arguments (of_pointer k i) h = absurd (h k)
  few_arguments (of_array k i) h = omega (arith, array_plain i)
  few_arguments (of_struct k i) h = (struct_regions i).0

-- record x is a term's that fits, before whichever record the walk stood
pub record TermFits (f : Bytes) (x : Record) : Type 0 where
  pub before : Walk
  pub fits : term_fits (whole f).walk before x ≡ true

-- one record more: the terms are as many, or this was one, and fits
More : Type 0 → ℕ → ℕ → ℕ → Type 0
More fit r before after = (after ≡ before) ⊎ ((after ≡ before + 1) × ((r ≡ before) × fit))

by_phase : (f : Bytes) (r : ℕ) (w : Walk) (t : Scan) (x : Record) (p : Phase) → Place f w r p → fits_in p f t w x ≡ true → More (term_fits t.walk w x ≡ true) r w.terms (step p w x r).terms
unfolding step fits_in More
by_phase f r w t x Terms (in_terms e n g) q = go (is_term x.kind) q
  where
    go : (b : Bool) → cond b (term_fits t.walk w x) (cond (eqb x.kind kind_name) (name_fits w x) (function_fits w x)) ≡ true
        → ((cond b (to_term w) (to_name w x r)).terms ≡ w.terms) ⊎ (((cond b (to_term w) (to_name w x r)).terms ≡ w.terms + 1) × ((r ≡ w.terms) × (term_fits t.walk w x ≡ true)))
    go true q = inr (refl, (e, q))
    go false q = inl (same_name w x r)
by_phase f r w t x Names l q = inl (same_name w x r)
by_phase f r w t x Fields l q = inl (wanted w x r kind_fields (to w Names 0) refl)
by_phase f r w t x Functions l q = inl (same_function w x r)
by_phase f r w t x Regions l q = inl (wanted w x r kind_regions (to_registers w) (same_registers w))
by_phase f r w t x Registers l q =
    inl (wanted w x r kind_registers (cond (leb w.left most_entries) (to_code w) (to w Registers (w.left - most_entries)))
    (cond_split (λ (v : Walk). v.terms ≡ w.terms) (leb w.left most_entries) (to_code w) (to w Registers (w.left - most_entries)) (λ e. same_code w) (λ e. refl)))
by_phase f r w t x Code l q =
    inl (cond_split (λ (v : Walk). v.terms ≡ w.terms) (eqb x.kind kind_call) (called w x) (cond (is_instruction x.kind) (done w) (to w Broken 0)) (λ e. refl)
    (λ e. cond_split (λ (v : Walk). v.terms ≡ w.terms) (is_instruction x.kind) (done w) (to w Broken 0) (λ i. same_done w) (λ i. refl)))
by_phase f r w t x Arguments l q = inl (wanted w x r kind_arguments (done w) (same_done w))
by_phase f r w t x Filler l q = inl refl
by_phase f r w t x Broken l q = inl refl

module _ (f : Bytes) (ok : Fits f) where
  one_more : (r : ℕ) → r < records f → More (term_fits (whole f).walk (scan f r).walk (record_of f r) ≡ true) r (scan f r).walk.terms (scan f (suc r)).walk.terms
  unfolding scan next_scan next fits
  one_more r l = by_phase f r (scan f r).walk (whole f) (record_of f r) (scan f r).walk.phase (good_scan f ok r (omega arith)).place (sym (test_at_law f r l) ∙ ok r (omega arith))

  scan_fits : (r : ℕ) → r ≤ records f → (i : ℕ) → i < (scan f r).walk.terms → TermFits f (record_of f i)
  unfolding scan More
  scan_fits zero h i l = absurd (omega arith)
  scan_fits (suc r) h i l = go (one_more r h) (scan_fits r (omega arith) i)
    where
      go : ((scan f (suc r)).walk.terms ≡ (scan f r).walk.terms)
          ⊎ (((scan f (suc r)).walk.terms ≡ (scan f r).walk.terms + 1) × ((r ≡ (scan f r).walk.terms) × (term_fits (whole f).walk (scan f r).walk (record_of f r) ≡ true)))
          → (i < (scan f r).walk.terms → TermFits f (record_of f i)) → TermFits f (record_of f i)
      go (inl e) k = k (subst (λ (n : ℕ). i < n) e l)
      go (inr e) k = elim (ℕ_discrete i r) [
        | yes q ↦ subst (λ (j : ℕ). TermFits f (record_of f j)) (sym q) (record { before = (scan f r).walk; fits = e.1.1 })
        | no q ↦ k (let m : i < (scan f r).walk.terms + 1 = subst (λ (n : ℕ). i < n) e.0 l in let z = e.1.0 in omega arith)
      ]

  terms_are : (module_of f).terms ≡ (whole f).walk.terms
  unfolding module_of
  terms_are = refl

  -- each term's record fits
  pub terms_fit : (t : ℕ) → t < (module_of f).terms → TermFits f (record_of f t)
  unfolding whole
  terms_fit t l = scan_fits (records f) (omega arith) t (omega (arith, terms_are))

  wide_enough : (a : ℕ) → (eqb a 1 || (eqb a 2 || eqb a 4)) ≡ true → 0 < a
  wide_enough a e = ⊎_elim (λ h. omega (arith, eqb-true a 1 h)) (λ h. ⊎_elim (λ k. omega (arith, eqb-true a 2 k)) (λ k. omega (arith, eqb-true a 4 k)) (either (eqb a 2) (eqb a 4) h)) (either (eqb a 1) (eqb a 2 || eqb a 4) e)

  -- the terms are in range
  pub ranged : (n : ℕ) → n ≡ (module_of f).terms → Ranged f n
  ranged n e t l =
      let fit = terms_fit t (omega arith) in
      let h : t < (whole f).walk.terms = omega (arith, terms_are) in (
        λ k. wide_enough (record_of f t).a (((good f ok).term_records t h).width (eq-eqb (record_of f t).kind kind_integer k)),
        few_arguments (whole f).walk fit.before (record_of f t) (term_case (whole f).walk fit.before (record_of f t) fit.fits),
      )

  -- what the tables of the file give
  pub known : length_right f ≡ true → (t : Tables) → t ≡ tables_of f → Known f t.walk.terms t.walk.names t.walk.functions t.starts
  known size t e =
      let w : t.walk ≡ (whole f).walk = ap (λ (u : Tables). u.walk) e ∙ tables_walk f in
      let ts = module_tables f ok in
      record {
        counted = record {
          terms = record { are = ap (λ (v : Walk). v.terms) w ∙ sym terms_are; few = omega (arith, ap (λ (v : Walk). v.terms) w, terms_are, ts.terms) };
          structs = ap (λ (v : Walk). v.names) w ∙ structs_are;
          few = omega (arith, ap (λ (v : Walk). v.names) w, structs_are, ts.structs);
        };
        functions = ap (λ (v : Walk). v.functions) w ∙ functions_are;
        few = omega (arith, ap (λ (v : Walk). v.functions) w, functions_are, ts.functions);
        starts = ap (λ (u : Tables). u.starts) e ∙ tables_starts f;
        short = short;
      }
    where
      structs_are : (whole f).walk.names ≡ (module_of f).structs
      structs_are = unfold module_of in refl

      functions_are : (whole f).walk.functions ≡ (module_of f).functions
      functions_are = unfold module_of in refl

      short : length f ≤ most_blocks * block_bytes
      short =
          let h = both (eqb (length f % block_bytes) 0) (leb 1 (blocks f) && leb (blocks f) most_blocks) size in
          let k = leb-true (blocks f) most_blocks (both (leb 1 (blocks f)) (leb (blocks f) most_blocks) h.1).1 in
          let z = eqb-true (length f % block_bytes) 0 h.0 in
          omega arith

  -- where refusal 6 finds nothing, a function's types use few regions
  pub tight : (g : ℕ) → g < (module_of f).functions → function_test (module_of f) g ≡ true → Tight (function_at f (start_of f g))
  tight g l e =
      let F = (module_of f).function g in
      let o = (function_test_law f g e).0 in
      let r = module_ranges f ok g l in
      let few : regions F ≤ 8 = omega (arith, r.regions) in
      subst Tight (function_at_law f g) (record {
        registers = λ a h. uses_more few (scope_all F F.params a (o.registers a h));
        region_types = λ i h. uses_more few (scope_all F F.region_params i (o.region_types i h));
      })
