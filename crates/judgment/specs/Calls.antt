-- Kind 33 as the code tests it: document 01, "33 calls function b for regions d (a byte each), result into a; record 35 follows with
-- argument registers .. Region, argument and result types equal the callee's with the regions put in". Assumes nothing.
use Rattle.std.specs.Prelude.{◌≡◌, Bool, true, ◌&&◌, ◌↔◌, List, map, ℕ, ◌+◌, ◌<◌, ◌≤◌, ltb}
use Rattle.std.proofs.Math.Path.{sym, ap, subst}
use Rattle.std.proofs.Common.{◌∙◌, ⊎_elim, arith, ext_get_or, get_or-take, get_or-set_same, get_or-set_other}
use Rattle.std.proofs.Math.Bool.{and_assoc}
use lib.ListN.{length, get_or, set, take, length-take}
use Rattle.words.specs.Bytes.{Bytes, list_of}
use Rattle.words.specs.ByteLaws.{length_list_of, get_d_list_of, map_list_from}
use Rattle.words.specs.Choose.{lt_reads, lt_or_le, and_reads}
use Rattle.words.specs.First.{all_below}
use Rattle.words.specs.FirstLaws.{all_as}
use Rattle.words.specs.Decide.{does}
use Rattle.rules.specs.File.{record_of, byte_of_d, entry_of}
use Rattle.rules.specs.Types.{variable, Variable, region, nowhere, Tree, sub, arg, dec_tree}
use Rattle.rules.specs.Module.{Function, regions, argument, Instruction, call}
use Rattle.rules.specs.Typing.{◌⊢◌∶◌, Typed, t_call}
use Rattle.rules.specs.Decision.{dec_typed}
use Rattle.rules.specs.Decode.{region_bytes, call_of, module_of, start_of}
use Rattle.rules.specs.declared.Record.{Record}
use Rattle.terms.specs.Heads.{digit}
use Rattle.terms.specs.HeadLaws.{digit_byte}
use Rattle.terms.specs.Compare.{under}
use Rattle.functions.specs.Functions.{function_at, function_at_law, region_params_at, params_at}
use Rattle.judgment.specs.Registers.{does_reads, decided, is_register, register_reads}
use Rattle.judgment.specs.Kinds.{call_at}

-- ---- the regions of a call

-- the array that a call's regions are put into
abbrev pub most_given : ℕ
most_given = 256

abbrev pub word_limit : ℕ
word_limit = 4294967296

-- byte j of the number d stands for region j, of p
pub record Given (d p : ℕ) (bytes : Bytes) : Type 0 where
  pub long : length bytes ≡ most_given
  pub each : (j : ℕ) → j < p → get_or bytes j 0 ≡ digit d j

pub given_none : (d : ℕ) (bytes : Bytes) → length bytes ≡ most_given → Given d 0 bytes
given_none d bytes e = record { long = e; each = λ j l. absurd (omega arith) }

pub given_more : (d j : ℕ) (bytes : Bytes) (v : ℕ) → j < most_given → v ≡ digit d j → Given d j bytes → Given d (j + 1) (set bytes j v)
given_more d j bytes v l e g = record {
  long = lib.ListN.length-set bytes j v ∙ g.long;
  each = λ i m. ⊎_elim
      (λ a. get_or-set_other bytes j i v 0 (λ w. omega arith) ∙ g.each i a)
      (λ a. let w : i ≡ j = omega arith in rw w (get_or-set_same bytes j v 0 (omega (arith, g.long)) ∙ e))
      (lt_or_le i j);
}

-- lent in its first p bytes, it is the call's list of regions
pub given_regions : (x : Record) (p : ℕ) (bytes : Bytes) → p ≤ most_given → Given x.d p bytes → map region (take p bytes) ≡ region_bytes x p
unfolding region_bytes
given_regions x p bytes l g =
    ap (map {A = ℕ} {B = Variable} region) (ext_get_or 0 (take p bytes) (list_of (byte_of_d x) p) (long ∙ sym (length_list_of (byte_of_d x) p))
    (λ j h.
    let k : j < p = omega (arith, long) in
    get_or-take p bytes j 0 k ∙ g.each j k ∙ digit_byte x j ∙ sym (get_d_list_of (byte_of_d x) p j 0 k)))
    ∙ map_list_from region (byte_of_d x) 0 p
  where
    long : length (take p bytes) ≡ p
    long = rw length-take (omega (arith, g.long))

-- ---- the tests

module _ (f : Bytes) (h e : ℕ) (to : Bytes) where
  -- region i of the callee, for which the caller's v is given, is in scope and has the callee's type
  unfoldable pub call_region : Record → ℕ → Bool
  call_region x i = ltb (byte_of_d x i) (regions (function_at f h)) && does (dec_tree ((function_at f h).region_type (byte_of_d x i)) (sub (under to) ((function_at f e).region_type i)))

  unfoldable pub call_regions : Record → Bool
  call_regions x = all_below (function_at f e).region_params (call_region x)

  -- argument i is a register of the callee's type
  unfoldable pub call_argument : Record → ℕ → Bool
  call_argument y i = is_register (function_at f h) (entry_of y i) && does (dec_tree ((function_at f h).register_type (entry_of y i)) (sub (under to) ((function_at f e).register_type i)))

  unfoldable pub call_arguments : Record → Bool
  call_arguments y = all_below (function_at f e).params (call_argument y)

  -- the result goes into a register of the callee's return type
  unfoldable pub call_result : Record → Bool
  call_result x = is_register (function_at f h) x.a && does (dec_tree ((function_at f h).register_type x.a) (sub (under to) (function_at f e).result))

  unfoldable pub call_parts : Record → Record → Bool
  call_parts x y = call_result x && (call_regions x && call_arguments y)

-- the call at record r, by the callee's record 7 at e
call_is : (f : Bytes) (r e : ℕ) → e ≡ start_of f (record_of f r).b
    → call (record_of f r).a (record_of f r).b (region_bytes (record_of f r) (function_at f e).region_params) (list_of (entry_of (record_of f (r + 1))) (function_at f e).params) ≡ call_at f r
unfolding call_at call_of start_of
call_is f r e q = rw (q, region_params_at, params_at)

module _ (f : Bytes) (h e : ℕ) (to : Bytes) (x y : Record) (is : map region to ≡ region_bytes x (function_at f e).region_params) (at : e ≡ start_of f x.b) where
  Regions : Type 0
  Regions = (i : ℕ) → i < (function_at f e).region_params → (byte_of_d x i < regions (function_at f h)) × ((function_at f h).region_type (byte_of_d x i) ≡ sub (under to) ((function_at f e).region_type i))

  Arguments : Type 0
  Arguments = (i : ℕ) → i < (function_at f e).params → function_at f h ⊢ entry_of y i ∶ sub (under to) ((function_at f e).register_type i)

  Facts : Type 0
  Facts = ((x.b < (module_of f).functions) × (function_at f h ⊢ x.a ∶ sub (under to) (function_at f e).result)) × (Regions × Arguments)

  reads : ((ltb x.b (module_of f).functions && call_result f h e to x) && (call_regions f h e to x && call_arguments f h e to y) ≡ true) ↔ Facts
  unfolding call_result call_regions call_region call_arguments call_argument Facts Regions Arguments
  reads =
      and_reads
      (and_reads (lt_reads x.b (module_of f).functions) (and_reads (register_reads (function_at f h) x.a) (does_reads (dec_tree ((function_at f h).register_type x.a) (sub (under to) (function_at f e).result)))))
      (and_reads
      (all_as (function_at f e).region_params (call_region f h e to x)
      (λ i. and_reads (lt_reads (byte_of_d x i) (regions (function_at f h))) (does_reads (dec_tree ((function_at f h).region_type (byte_of_d x i)) (sub (under to) ((function_at f e).region_type i))))))
      (all_as (function_at f e).params (call_argument f h e to y)
      (λ i. and_reads (register_reads (function_at f h) (entry_of y i)) (does_reads (dec_tree ((function_at f h).register_type (entry_of y i)) (sub (under to) ((function_at f e).register_type i)))))))

  callee : function_at f e ≡ (module_of f).function x.b
  callee = ap (function_at f) at ∙ sym (function_at_law f x.b)

  given : (i : ℕ) → i < (function_at f e).region_params → byte_of_d x i ≡ (arg (region_bytes x (function_at f e).region_params) (region i)).number
  unfolding region_bytes
  given i l = sym (ap (λ (r : Variable). r.number) (get_d_list_of (λ j. region (byte_of_d x j)) (function_at f e).region_params i (region nowhere) l))

  passed : (i : ℕ) → i < (function_at f e).params → entry_of y i ≡ argument (list_of (entry_of y) (function_at f e).params) i
  passed i l = sym (get_d_list_of (entry_of y) (function_at f e).params i nowhere l)

  put : (T : Tree variable) → sub (under to) T ≡ sub (arg (region_bytes x (function_at f e).region_params)) T
  put T = ap (λ (l : List Variable). sub (arg l) T) is

  abbrev the : Instruction
  the = call x.a x.b (region_bytes x (function_at f e).region_params) (list_of (entry_of y) (function_at f e).params)

  make : Facts → Typed (module_of f) (function_at f h) the
  unfolding Facts Regions Arguments
  make k = t_call k.0.0
      (λ i l. let m : i < (function_at f e).region_params = rw callee l in subst (λ (v : ℕ). v < regions (function_at f h)) (given i m) (k.1.0 i m).0)
      (λ i l.
      let m : i < (function_at f e).region_params = rw callee l in
      ap (function_at f h).region_type (sym (given i m)) ∙ (k.1.0 i m).1 ∙ put ((function_at f e).region_type i) ∙ ap (λ (H : Function). sub (arg (region_bytes x (function_at f e).region_params)) (H.region_type i)) callee)
      (λ i l.
      let m : i < (function_at f e).params = rw callee l in (
        subst (λ (v : ℕ). v < (function_at f h).registers) (passed i m) (k.1.1 i m).0,
        ap (function_at f h).register_type (sym (passed i m)) ∙ (k.1.1 i m).1 ∙ put ((function_at f e).register_type i) ∙ ap (λ (H : Function). sub (arg (region_bytes x (function_at f e).region_params)) (H.register_type i)) callee,
      ))
      (k.0.1.0, k.0.1.1 ∙ put (function_at f e).result ∙ ap (λ (H : Function). sub (arg (region_bytes x (function_at f e).region_params)) H.result) callee)

  back : Typed (module_of f) (function_at f h) the → Facts
  unfolding Facts Regions Arguments
  back (t_call k s t u r) = (
    (k, (r.0, r.1 ∙ sym (put (function_at f e).result ∙ ap (λ (H : Function). sub (arg (region_bytes x (function_at f e).region_params)) H.result) callee))),
    (
      λ i l.
          let m : i < ((module_of f).function x.b).region_params = rw (sym callee) l in (
            subst (λ (v : ℕ). v < regions (function_at f h)) (sym (given i l)) (s i m),
            ap (function_at f h).region_type (given i l) ∙ t i m ∙ sym (put ((function_at f e).region_type i) ∙ ap (λ (H : Function). sub (arg (region_bytes x (function_at f e).region_params)) (H.region_type i)) callee),
          ),
      λ i l.
          let m : i < ((module_of f).function x.b).params = rw (sym callee) l in (
            subst (λ (v : ℕ). v < (function_at f h).registers) (sym (passed i l)) (u i m).0,
            ap (function_at f h).register_type (passed i l) ∙ (u i m).1 ∙ sym (put ((function_at f e).register_type i) ∙ ap (λ (H : Function). sub (arg (region_bytes x (function_at f e).region_params)) (H.register_type i)) callee),
          ),
    ),
  )

  call_decides : (ltb x.b (module_of f).functions && call_result f h e to x) && (call_regions f h e to x && call_arguments f h e to y) ≡ does (dec_typed (module_of f) (function_at f h) the)
  call_decides = decided (dec_typed (module_of f) (function_at f h) the) reads make back

-- the test of the call at record r
pub call_test : (f : Bytes) (h e : ℕ) (to : Bytes) (r : ℕ)
    → map region to ≡ region_bytes (record_of f r) (function_at f e).region_params → e ≡ start_of f (record_of f r).b
    → ltb (record_of f r).b (module_of f).functions && call_parts f h e to (record_of f r) (record_of f (r + 1)) ≡ does (dec_typed (module_of f) (function_at f h) (call_at f r))
unfolding call_parts
call_test f h e to r is at =
    sym (and_assoc (ltb (record_of f r).b (module_of f).functions) (call_result f h e to (record_of f r)) (call_regions f h e to (record_of f r) && call_arguments f h e to (record_of f (r + 1))))
    ∙ call_decides f h e to (record_of f r) (record_of f (r + 1)) is at
    ∙ ap (λ (i : Instruction). does (dec_typed (module_of f) (function_at f h) i)) (call_is f r e at)
