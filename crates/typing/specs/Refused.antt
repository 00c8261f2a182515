-- What a refusal means: its rule is broken at its place, and in an accepted file no rule is broken. Assumes nothing.
use Rattle.std.specs.Prelude.{◌≡◌, refl, true, false, ◌⊎◌, [], ◌∷◌, ℕ, zero, suc, ◌+◌, ◌-◌, ◌*◌, ◌/◌, ◌%◌, ◌<◌, ◌≤◌}
use Rattle.std.proofs.Common.{sym, ap, ◌∙◌, subst, inl, inr, arith, eq-eqb, ne_eqb}
use Rattle.std.proofs.lemmas.Bool.{false≢true}
use Rattle.std.proofs.Math.Decide.{ℕ_discrete}
use Rattle.words.specs.Bytes.{Bytes, list_of}
use Rattle.words.specs.Decide.{does_false, does_true, dec_both, dec_imp}
use Rattle.rules.specs.Stages.{verdict}
use Rattle.rules.specs.File.{length_stage, block_stage, block_test}
use Rattle.rules.specs.Records.{record_stage}
use Rattle.rules.specs.Decode.{module_of, start_of}
use Rattle.rules.specs.Decision.{dec_typed}
use Rattle.rules.specs.WellTyped.{FunctionOk, EntryOk, dec_term, dec_struct, dec_function, dec_entry, dec_last}
use Rattle.rules.specs.Verdict.{Broken, term_test, struct_test, function_test, instruction_test, instruction_stage, term_stage, struct_stage, function_stage, last_stage, last_test, module_stages, accepted_as, module_rules, record_rules, verdict_of, IsAccepted}
use Rattle.rules.specs.Refusals.{Refused}
use Rattle.typing.specs.Stages.{Passes, AllPass, pass_append, pass_each, verdict_append, Fails, FirstIn, here, later, first_in, in_append, FirstOf, in_list}
use Rattle.typing.specs.Accepted.{stages, no_failure, even_test, odd_test}

-- ---- the stage that refuses

pub verdict_stages : (f : Bytes) → verdict_of f ≡ verdict (stages f) (accepted_as (module_of f))
unfolding verdict_of record_rules module_rules
verdict_stages f =
    sym (verdict_append (length_stage f ∷ block_stage f ∷ []) (record_stage f ∷ module_stages f (module_of f)) (accepted_as (module_of f))
    ∙ ap (verdict (length_stage f ∷ block_stage f ∷ [])) (verdict_append (record_stage f ∷ []) (module_stages f (module_of f)) (accepted_as (module_of f))))

-- a refusal is the first failure of the stages, taken in order
pub first_failure : (f : Bytes) (n p : ℕ) → verdict_of f ≡ Refused n p → FirstIn (stages f) n p
first_failure f n p e = only (first_in (stages f) (accepted_as (module_of f)) n p (sym (verdict_stages f) ∙ e))
  where
    only : FirstIn (stages f) n p ⊎ (AllPass (stages f) × (accepted_as (module_of f) ≡ Refused n p)) → FirstIn (stages f) n p
    only (inl h) = h
    only (inr h) = absurd (subst IsAccepted h.1 tt)

-- the stages with refusal k pass (2 and 3 have one stage, which stands at 3)
abbrev pub PassedAt : Bytes → ℕ → Type 0
PassedAt f zero = Unit {0}
PassedAt f (suc zero) = Passes (length_stage f)
PassedAt f (suc (suc zero)) = Unit {0}
PassedAt f (suc (suc (suc zero))) = Passes (block_stage f)
PassedAt f (suc (suc (suc (suc zero)))) = Passes (record_stage f)
PassedAt f (suc (suc (suc (suc (suc zero))))) = Passes (term_stage (module_of f)) × Passes (struct_stage (module_of f))
PassedAt f (suc (suc (suc (suc (suc (suc zero)))))) = Passes (function_stage f (module_of f))
PassedAt f (suc (suc (suc (suc (suc (suc (suc zero))))))) = (g : ℕ) → g < (module_of f).functions → Passes (instruction_stage f (module_of f) g)
PassedAt f (suc (suc (suc (suc (suc (suc (suc (suc k)))))))) = Passes (last_stage f (module_of f))

-- those below k pass
abbrev pub Passed : Bytes → ℕ → Type 0
Passed f k = (c : ℕ) → c < k → PassedAt f c

none_passed : (f : Bytes) → Passed f 1
none_passed f c h = let e : c ≡ 0 = omega arith in subst (PassedAt f) (sym e) tt

-- one number more
grow : (f : Bytes) (k : ℕ) → Passed f k → PassedAt f k → Passed f (suc k)
grow f k a b c h = go (ℕ_discrete c k)
  where
    go : Dec (c ≡ k) → PassedAt f c
    go (yes e) = subst (PassedAt f) (sym e) b
    go (no e) = a c (omega arith)

-- where the first failure is
pub data Where (f : Bytes) (n p : ℕ) : Type 0 where
  file_length : Passed f 1 → Fails (length_stage f) n p → Where f n p
  block : Passed f 2 → Fails (block_stage f) n p → Where f n p
  record_at : Passed f 4 → Fails (record_stage f) n p → Where f n p
  term : Passed f 5 → Fails (term_stage (module_of f)) n p → Where f n p
  struct : Passed f 5 → Passes (term_stage (module_of f)) → Fails (struct_stage (module_of f)) n p → Where f n p
  function : Passed f 6 → Fails (function_stage f (module_of f)) n p → Where f n p
  instruction : Passed f 7 → FirstOf (instruction_stage f (module_of f)) 0 (module_of f).functions n p → Where f n p
  last : Passed f 8 → Fails (last_stage f (module_of f)) n p → Where f n p

module _ (f : Bytes) where
  passed_4 : Passes (length_stage f) → Passes (block_stage f) → Passed f 4
  passed_4 a b = grow f 3 (grow f 2 (grow f 1 (none_passed f) a) tt) b

  passed_5 : Passes (length_stage f) → Passes (block_stage f) → Passes (record_stage f) → Passed f 5
  passed_5 a b c = grow f 4 (passed_4 a b) c

  passed_8 : Passed f 7 → AllPass (list_of (instruction_stage f (module_of f)) (module_of f).functions) → Passed f 8
  passed_8 a b = grow f 7 a (λ g h. pass_each (instruction_stage f (module_of f)) 0 (module_of f).functions b g (omega arith) (omega arith))

  where_first : (n p : ℕ) → FirstIn (stages f) n p → Where f n p
  unfolding module_stages
  where_first n p (here h) = file_length (none_passed f) h
  where_first n p (later a (here h)) = block (grow f 1 (none_passed f) a) h
  where_first n p (later a (later b (here h))) = record_at (passed_4 a b) h
  where_first n p (later a (later b (later c (here h)))) = term (passed_5 a b c) h
  where_first n p (later a (later b (later c (later d (here h))))) = struct (passed_5 a b c) d h
  where_first n p (later a (later b (later c (later d (later e (here h)))))) = function (grow f 5 (passed_5 a b c) (d, e)) h
  where_first n p (later a (later b (later c (later d (later e (later k h)))))) =
      go (in_append (list_of (instruction_stage f (module_of f)) (module_of f).functions) (last_stage f (module_of f) ∷ []) n p h)
    where
      before : Passed f 7
      before = grow f 6 (grow f 5 (passed_5 a b c) (d, e)) k

      at : AllPass (list_of (instruction_stage f (module_of f)) (module_of f).functions) → FirstIn (last_stage f (module_of f) ∷ []) n p → Where f n p
      at l (here h) = last (passed_8 before l) h
      at l (later q h) = elim h [ ]

      go : FirstIn (list_of (instruction_stage f (module_of f)) (module_of f).functions) n p
          ⊎ (AllPass (list_of (instruction_stage f (module_of f)) (module_of f).functions) × FirstIn (last_stage f (module_of f) ∷ []) n p) → Where f n p
      go (inl h) = instruction before (in_list (instruction_stage f (module_of f)) 0 (module_of f).functions n p h)
      go (inr h) = at h.0 h.1

pub where_refused : (f : Bytes) (n p : ℕ) → verdict_of f ≡ Refused n p → Where f n p
where_refused f n p e = where_first f n p (first_failure f n p e)

-- ---- its rule is broken

module _ (f : Bytes) (n p : ℕ) where
  at_place : {m q : ℕ} → m ≡ n → q ≡ p → Broken f m q → Broken f n p
  at_place {m} {q} a b h = subst (λ (k : ℕ). Broken f k p) a (subst (λ (k : ℕ). Broken f m k) b h)

  block_broken : Fails (block_stage f) n p → Broken f n p
  unfolding block_test
  block_broken h = go (ℕ_discrete (h.j % 2) 0)
    where
      go : Dec (h.j % 2 ≡ 0) → Broken f n p
      go (yes z) = at_place {m = 2} {q = h.j / 2} (omega (arith, z, h.number)) h.place
          (Broken.place (h.j / 2) (omega (arith, h.inside)) (rw (eq-eqb (h.j % 2) 0 z) at h.fails))
      go (no z) = at_place {m = 3} {q = h.j / 2} (omega (arith, h.number)) h.place
          (Broken.check (h.j / 2) (omega (arith, h.inside)) (rw (ne_eqb (h.j % 2) 0 z) at h.fails))

  function_broken : (g : ℕ) → g < (module_of f).functions → function_test (module_of f) g ≡ false → 6 ≡ n → start_of f g ≡ p → Broken f n p
  unfolding function_test
  function_broken g h e a b = go (dec_function ((module_of f).function g)) (ℕ_discrete g 0)
    where
      neither : ¬ (FunctionOk ((module_of f).function g) × (g ≡ 0 → EntryOk ((module_of f).function g)))
      neither = does_false (dec_both (dec_function ((module_of f).function g)) (dec_imp (ℕ_discrete g 0) (dec_entry ((module_of f).function g)))) e

      go : Dec (FunctionOk ((module_of f).function g)) → Dec (g ≡ 0) → Broken f n p
      go (no k) d = at_place a b (Broken.function g h k)
      go (yes o) (no z) = absurd (neither (o, λ q. absurd (z q)))
      go (yes o) (yes z) = at_place a (ap (start_of f) (sym z) ∙ b) (Broken.entry (omega arith) (λ k. neither (o, λ q. rw z k)))

  broken_there : Where f n p → Broken f n p
  unfolding term_test struct_test instruction_test instruction_stage last_test
  broken_there (file_length a h) = at_place h.number h.place (Broken.file_length h.fails)
  broken_there (block a h) = block_broken h
  broken_there (record_at a h) = at_place h.number h.place (Broken.fault h.j (omega (arith, h.inside)) h.fails)
  broken_there (term a h) = at_place h.number h.place (Broken.term h.j h.inside (does_false (dec_term (module_of f) ((module_of f).term h.j)) h.fails))
  broken_there (struct a b h) = at_place h.number h.place (Broken.struct h.j h.inside (does_false (dec_struct (module_of f) h.j) h.fails))
  broken_there (function a h) = function_broken h.j h.inside h.fails h.number h.place
  broken_there (instruction a r) =
      let k = r.fails in
      at_place k.number k.place (Broken.instruction r.i k.j (omega (arith, r.below)) k.inside
      (does_false (dec_typed (module_of f) ((module_of f).function r.i) (((module_of f).function r.i).code k.j)) k.fails))
  broken_there (last a h) = at_place h.number h.place (Broken.last h.j h.inside
      (does_false (dec_last (((module_of f).function h.j).code (((module_of f).function h.j).code_length - 1))) h.fails))

  -- a refusal's rule is broken at its place
  pub refused : verdict_of f ≡ Refused n p → Broken f n p
  refused e = broken_there (where_refused f n p e)

-- ---- and no rule of a lower number

-- the tests of framing and of functions that a broken rule fails
pub function_test_law : (f : Bytes) (g : ℕ) → function_test (module_of f) g ≡ true → FunctionOk ((module_of f).function g) × (g ≡ 0 → EntryOk ((module_of f).function g))
unfolding function_test
function_test_law f g e = does_true (dec_both (dec_function ((module_of f).function g)) (dec_imp (ℕ_discrete g 0) (dec_entry ((module_of f).function g)))) e

pub not_lower : (f : Bytes) (k : ℕ) → Passed f k → {m q : ℕ} → Broken f m q → (m ≡ 2 → 3 < k) → m < k → ⊥
unfolding term_test struct_test instruction_test instruction_stage last_test
not_lower f k a (Broken.file_length e) b h = false≢true (sym e ∙ a 1 h 0 (omega arith))
not_lower f k a (Broken.place i l e) b h = false≢true (sym e ∙ (sym (even_test f i) ∙ a 3 (b refl) (2 * i) (omega arith)))
not_lower f k a (Broken.check i l e) b h = false≢true (sym e ∙ (sym (odd_test f i) ∙ a 3 h (2 * i + 1) (omega arith)))
not_lower f k a (Broken.fault r l e) b h = false≢true (sym e ∙ a 4 h r (omega arith))
not_lower f k a (Broken.term t l e) b h = e (does_true (dec_term (module_of f) ((module_of f).term t)) ((a 5 h).0 t l))
not_lower f k a (Broken.struct N l e) b h = e (does_true (dec_struct (module_of f) N) ((a 5 h).1 N l))
not_lower f k a (Broken.function g l e) b h = e (function_test_law f g (a 6 h g l)).0
not_lower f k a (Broken.entry l e) b h = e ((function_test_law f 0 (a 6 h 0 l)).1 refl)
not_lower f k a (Broken.instruction g i l j e) b h =
    e (does_true (dec_typed (module_of f) ((module_of f).function g) (((module_of f).function g).code i)) (a 7 h g l i j))
not_lower f k a (Broken.last g l e) b h = e (does_true (dec_last (((module_of f).function g).code (((module_of f).function g).code_length - 1))) (a 8 h g l))

pub broken_number : {f : Bytes} {m q : ℕ} → Broken f m q → (1 ≤ m) × (m ≤ 8)
broken_number (Broken.file_length e) = (omega arith, omega arith)
broken_number (Broken.place i l e) = (omega arith, omega arith)
broken_number (Broken.check i l e) = (omega arith, omega arith)
broken_number (Broken.fault r l e) = (omega arith, omega arith)
broken_number (Broken.term t l e) = (omega arith, omega arith)
broken_number (Broken.struct N l e) = (omega arith, omega arith)
broken_number (Broken.function g l e) = (omega arith, omega arith)
broken_number (Broken.entry l e) = (omega arith, omega arith)
broken_number (Broken.instruction g i l j e) = (omega arith, omega arith)
broken_number (Broken.last g l e) = (omega arith, omega arith)

-- in an accepted file nothing is broken
pub accepted_whole : (f : Bytes) (n p : ℕ) → IsAccepted (verdict_of f) → Broken f n p → ⊥
unfolding module_stages
accepted_whole f n p a b =
    let all = no_failure f a in
    let d = all.1.1.1 in
    let e = pass_append (list_of (instruction_stage f (module_of f)) (module_of f).functions) (last_stage f (module_of f) ∷ []) d.1.1.1 in
    not_lower f 9
    (grow f 8 (passed_8 f (grow f 6 (grow f 5 (passed_5 f all.0 all.1.0 all.1.1.0) (d.0, d.1.0)) d.1.1.0) e.0) e.1.0)
    b (λ q. omega arith) (omega (arith, broken_number b))
