-- A refusal is the first of all rules that a file breaks, in the order of specs/Order. Assumes nothing.
use Rattle.std.specs.Prelude.{◌≡◌, refl, Bool, true, false, cond, ◌⊎◌, ◌≢◌, ℕ, zero, suc, ◌+◌, ◌-◌, ◌*◌, ◌/◌, ◌%◌, ◌<◌, ◌≤◌}
use Rattle.std.proofs.Common.{sym, ◌∙◌, inl, inr, arith, eq-eqb, ne_eqb}
use Rattle.std.proofs.Math.Path.{ap, subst}
use Rattle.std.proofs.Math.Bool.{false≢true}
use Rattle.std.proofs.Math.Decide.{ℕ_discrete, dec_lt}
use Rattle.words.specs.Bytes.{Bytes}
use Rattle.words.specs.Decide.{does_true}
use Rattle.rules.specs.File.{blocks, place_right, check_right, block_test}
use Rattle.rules.specs.Records.{record_test}
use Rattle.rules.specs.Decode.{struct_start, module_of, start_of, instruction_at}
use Rattle.rules.specs.Typing.{Typed}
use Rattle.rules.specs.Decision.{dec_typed}
use Rattle.rules.specs.WellTyped.{TermOk, StructOk, FunctionOk, EntryOk, Last, dec_term, dec_struct, dec_last}
use Rattle.rules.specs.Verdict.{Broken, term_test, struct_test, instruction_test, instruction_stage, last_test, verdict_of}
use Rattle.rules.specs.Refusals.{Refused}
use Rattle.typing.specs.Walk.{Fits}
use Rattle.typing.specs.Accepted.{even_test, odd_test, module_ranges}
use Rattle.typing.specs.Refused.{Passed, Where, file_length, block, record_at, term, struct, function, instruction, last, where_refused, not_lower, function_test_law}
use Rattle.typing.specs.Order.{row, step_in, Earlier, instruction_less, start_less, instruction_across}

module _ (f : Bytes) (ok : Fits f) where
  -- so who stands before is before
  start_order : (g h : ℕ) → g < (module_of f).functions → start_of f g < start_of f h → g < h
  start_order g h k l = go (dec_lt g h) (ℕ_discrete g h)
    where
      go : Dec (g < h) → Dec (g ≡ h) → g < h
      go (yes z) e = z
      go (no z) (yes e) = let s : start_of f g ≡ start_of f h = ap (start_of f) e in absurd (omega arith)
      go (no z) (no e) = absurd (omega (arith, start_less f ok h g (omega arith) k))

  instruction_order : (g h i j : ℕ) → g < (module_of f).functions → i < ((module_of f).function g).code_length → j < ((module_of f).function h).code_length
      → instruction_at f g i < instruction_at f h j → (g < h) ⊎ ((g ≡ h) × (i < j))
  instruction_order g h i j k a b l = go (dec_lt g h) (ℕ_discrete g h) (dec_lt i j)
    where
      go : Dec (g < h) → Dec (g ≡ h) → Dec (i < j) → (g < h) ⊎ ((g ≡ h) × (i < j))
      go (yes z) e c = inl z
      go (no z) (yes e) (yes c) = inr (e, c)
      go (no z) (yes e) (no c) = absurd (same (ℕ_discrete i j))
        where
          lower : instruction_at f g i < instruction_at f g j
          lower = subst (λ (n : ℕ). instruction_at f g i < instruction_at f n j) (sym e) l

          same : Dec (i ≡ j) → ⊥
          same (yes q) = let s : instruction_at f g i ≡ instruction_at f g j = ap (instruction_at f g) q in omega (arith, lower)
          same (no q) = omega (arith, lower, instruction_less f g j i (omega arith) a)
      go (no z) (no e) c = absurd (omega (arith, instruction_across f ok h g j i (omega arith) k b a))

module _ (f : Bytes) where
  abbrev BadTerm : ℕ → Type 0
  BadTerm q = (q < (module_of f).terms) × ¬ TermOk (module_of f) ((module_of f).term q)

  abbrev BadStruct : ℕ → Type 0
  BadStruct q = (N : ℕ) × ((N < (module_of f).structs) × ((struct_start (module_of f).terms N ≡ q) × ¬ StructOk (module_of f) N))

  abbrev BadFunction : ℕ → Type 0
  BadFunction q = (g : ℕ) × ((g < (module_of f).functions) × ((start_of f g ≡ q) × ¬ (FunctionOk ((module_of f).function g) × (g ≡ 0 → EntryOk ((module_of f).function g)))))

  abbrev BadInstruction : ℕ → Type 0
  BadInstruction q = (g : ℕ) × ((i : ℕ) × ((g < (module_of f).functions) × ((i < ((module_of f).function g).code_length) × ((instruction_at f g i ≡ q)
      × ¬ Typed (module_of f) ((module_of f).function g) (((module_of f).function g).code i)))))

  abbrev BadLast : ℕ → Type 0
  BadLast q = (g : ℕ) × ((g < (module_of f).functions) × ((instruction_at f g (((module_of f).function g).code_length - 1) ≡ q)
      × ¬ Last (((module_of f).function g).code (((module_of f).function g).code_length - 1))))

  abbrev Meaning : ℕ → ℕ → Type 0
  Meaning zero q = ⊥
  Meaning (suc zero) q = Unit {0}
  Meaning (suc (suc zero)) q = (q < blocks f) × (place_right f q ≡ false)
  Meaning (suc (suc (suc zero))) q = (q < blocks f) × (check_right f q ≡ false)
  Meaning (suc (suc (suc (suc zero)))) q = record_test f q ≡ false
  Meaning (suc (suc (suc (suc (suc zero))))) q = BadTerm q ⊎ BadStruct q
  Meaning (suc (suc (suc (suc (suc (suc zero)))))) q = BadFunction q
  Meaning (suc (suc (suc (suc (suc (suc (suc zero))))))) q = BadInstruction q
  Meaning (suc (suc (suc (suc (suc (suc (suc (suc k)))))))) q = BadLast q

  meaning : {m q : ℕ} → Broken f m q → Meaning m q
  meaning (Broken.file_length e) = tt
  meaning (Broken.place i h e) = (h, e)
  meaning (Broken.check i h e) = (h, e)
  meaning (Broken.fault r h e) = e
  meaning (Broken.term t h e) = inl (h, e)
  meaning (Broken.struct N h e) = inr (N, (h, (refl, e)))
  meaning (Broken.function g h e) = (g, (h, (refl, λ k. e k.0)))
  meaning (Broken.entry h e) = (0, (h, (refl, λ k. e (k.1 refl))))
  meaning (Broken.instruction g i h l e) = (g, (i, (h, (l, (refl, e)))))
  meaning (Broken.last g h e) = (g, (h, (refl, e)))

row_lower : (m k : ℕ) → row m < k → k ≢ 3 → (m < k) × (m ≡ 2 → 3 < k)
row_lower m k h n = go (ℕ_discrete m 3)
  where
    go : Dec (m ≡ 3) → (m < k) × (m ≡ 2 → 3 < k)
    go (yes e) = let l : 2 < k = subst (λ (b : Bool). cond b 2 m < k) (eq-eqb m 3 e) h in (omega (arith, n), λ q. omega (arith, n))
    go (no e) = let l : m < k = subst (λ (b : Bool). cond b 2 m < k) (ne_eqb m 3 e) h in (l, λ q. omega (arith, n))

row_two : (m : ℕ) → row m ≡ 2 → (m ≡ 2) ⊎ (m ≡ 3)
row_two m h = go (ℕ_discrete m 3)
  where
    go : Dec (m ≡ 3) → (m ≡ 2) ⊎ (m ≡ 3)
    go (yes e) = inr e
    go (no e) = inl (subst (λ (b : Bool). cond b 2 m ≡ 2) (ne_eqb m 3 e) h)

row_is : (m k : ℕ) → 4 ≤ k → row m ≡ k → m ≡ k
row_is m k l h = go (ℕ_discrete m 3)
  where
    go : Dec (m ≡ 3) → m ≡ k
    go (yes e) = let z : 2 ≡ k = subst (λ (b : Bool). cond b 2 m ≡ k) (eq-eqb m 3 e) h in absurd (omega arith)
    go (no e) = subst (λ (b : Bool). cond b 2 m ≡ k) (ne_eqb m 3 e) h

row_self : (k : ℕ) → 4 ≤ k → row k ≡ k
row_self k l = rw (ne_eqb k 3 (λ e. omega arith))

step_self : (k p : ℕ) → 4 ≤ k → step_in k p ≡ p
step_self k p l = rw (ne_eqb k 2 (λ e. omega arith), ne_eqb k 3 (λ e. omega arith))

module _ (f : Bytes) where
  lower : {k m q : ℕ} → Passed f k → Broken f m q → row m < k → k ≢ 3 → ⊥
  lower {k} {m} a b h n = let r = row_lower m k h n in not_lower f k a b r.1 r.0

  -- a rule of number k, 4 or more, with a place before p
  late : {m q : ℕ} (k p : ℕ) → 4 ≤ k → Broken f m q → row m ≡ row k → step_in m q < step_in k p → Meaning f k q × (q < p)
  late {m} {q} k p h b e l =
      let i : m ≡ k = row_is m k h (e ∙ row_self k h) in
      let s : step_in m q ≡ q = ap (λ (n : ℕ). step_in n q) i ∙ step_self k q h in
      (subst (λ (n : ℕ). Meaning f n q) i (meaning f b), omega (arith, s, step_self k p h, l))

  block_before : (j : ℕ) → ((i : ℕ) → i < j → block_test f i ≡ true) → {m q : ℕ} → Broken f m q → row m ≡ 2 → step_in m q < j → ⊥
  block_before j before {m} {q} b e l = go (row_two m e)
    where
      go : (m ≡ 2) ⊎ (m ≡ 3) → ⊥
      go (inl i) =
          let s : step_in m q ≡ 2 * q = ap (λ (n : ℕ). step_in n q) i in
          let z : Meaning f 2 q = subst (λ (n : ℕ). Meaning f n q) i (meaning f b) in
          false≢true (sym z.1 ∙ (sym (even_test f q) ∙ before (2 * q) (omega arith)))
      go (inr i) =
          let s : step_in m q ≡ 2 * q + 1 = ap (λ (n : ℕ). step_in n q) i in
          let z : Meaning f 3 q = subst (λ (n : ℕ). Meaning f n q) i (meaning f b) in
          false≢true (sym z.1 ∙ (sym (odd_test f q) ∙ before (2 * q + 1) (omega arith)))

  -- the block stage's test j is refused as step j of row 2
  block_row : (j : ℕ) → (row (2 + j % 2) ≡ 2) × (step_in (2 + j % 2) (j / 2) ≡ j)
  block_row j = go (ℕ_discrete (j % 2) 0)
    where
      go : Dec (j % 2 ≡ 0) → (row (2 + j % 2) ≡ 2) × (step_in (2 + j % 2) (j / 2) ≡ j)
      go (yes z) = rw z (refl, omega arith)
      go (no z) = let o : j % 2 ≡ 1 = omega arith in rw o (refl, omega arith)

  earlier_at : (m q : ℕ) {n p k r : ℕ} → k ≡ n → r ≡ p → Earlier m q n p → Earlier m q k r
  earlier_at m q {n} {p} {k} {r} e d l = subst (λ (i : ℕ). Earlier m q i r) (sym e) (subst (λ (i : ℕ). Earlier m q n i) (sym d) l)

  none_before : (n p : ℕ) → Where f n p → {m q : ℕ} → Broken f m q → Earlier m q n p → ⊥
  unfolding term_test struct_test instruction_test instruction_stage last_test
  none_before n p (file_length a h) {m} {q} b l = go (earlier_at m q h.number h.place l)
    where
      go : Earlier m q 1 0 → ⊥
      go (inl z) = lower a b z (λ e. omega arith)
      go (inr z) = omega (arith, z.1)
  none_before n p (block a h) {m} {q} b l = go (earlier_at m q h.number h.place l)
    where
      go : Earlier m q (2 + h.j % 2) (h.j / 2) → ⊥
      go (inl z) = lower a b (omega (arith, z, (block_row h.j).0)) (λ e. omega arith)
      go (inr z) = block_before h.j h.before b (z.0 ∙ (block_row h.j).0) (omega (arith, z.1, (block_row h.j).1))
  none_before n p (record_at a h) {m} {q} b l = go (earlier_at m q h.number h.place l)
    where
      go : Earlier m q 4 h.j → ⊥
      go (inl z) = lower a b z (λ e. omega arith)
      go (inr z) = let r = late 4 h.j (omega arith) b z.0 z.1 in false≢true (sym r.0 ∙ h.before q r.1)
  none_before n p (term a h) {m} {q} b l = go (earlier_at m q h.number h.place l)
    where
      five : BadTerm f q ⊎ BadStruct f q → q < h.j → ⊥
      five (inl k) z = k.1 (does_true (dec_term (module_of f) ((module_of f).term q)) (h.before q z))
      five (inr k) z = omega (arith, k.1.1.0, z, h.inside)

      go : Earlier m q 5 h.j → ⊥
      go (inl z) = lower a b z (λ e. omega arith)
      go (inr z) = let r = late 5 h.j (omega arith) b z.0 z.1 in five r.0 r.1
  none_before n p (struct a t h) {m} {q} b l = go (earlier_at m q h.number h.place l)
    where
      five : BadTerm f q ⊎ BadStruct f q → q < struct_start (module_of f).terms h.j → ⊥
      five (inl k) z = k.1 (does_true (dec_term (module_of f) ((module_of f).term q)) (t q k.0))
      five (inr k) z = k.1.1.1 (does_true (dec_struct (module_of f) k.0) (h.before k.0 (omega (arith, k.1.1.0, z))))

      go : Earlier m q 5 (struct_start (module_of f).terms h.j) → ⊥
      go (inl z) = lower a b z (λ e. omega arith)
      go (inr z) = let r = late 5 (struct_start (module_of f).terms h.j) (omega arith) b z.0 z.1 in five r.0 r.1
  none_before n p (function a h) {m} {q} b l = go (earlier_at m q h.number h.place l)
    where
      six : BadFunction f q → q < start_of f h.j → ⊥
      six k z = k.1.1.1 (function_test_law f k.0 (h.before k.0 (start_order f (a 4 (omega arith)) k.0 h.j k.1.0 (omega (arith, k.1.1.0, z)))))

      go : Earlier m q 6 (start_of f h.j) → ⊥
      go (inl z) = lower a b z (λ e. omega arith)
      go (inr z) = let r = late 6 (start_of f h.j) (omega arith) b z.0 z.1 in six r.0 r.1
  none_before n p (instruction a h) {m} {q} b l = go (earlier_at m q h.fails.number h.fails.place l)
    where
      typed : (g i : ℕ) → g < (module_of f).functions → i < ((module_of f).function g).code_length → (g < h.i) ⊎ ((g ≡ h.i) × (i < h.fails.j))
          → instruction_test (module_of f) ((module_of f).function g) i ≡ true
      typed g i k z (inl o) = unfold instruction_stage in h.before g (omega arith) o i z
      typed g i k z (inr o) = subst (λ (n : ℕ). instruction_test (module_of f) ((module_of f).function n) i ≡ true) (sym o.0) (unfold instruction_stage in h.fails.before i o.1)

      seven : BadInstruction f q → q < instruction_at f h.i h.fails.j → ⊥
      seven k z =
          let o = instruction_order f (a 4 (omega arith)) k.0 h.i k.1.0 h.fails.j k.1.1.0 k.1.1.1.0 h.fails.inside
          (omega (arith, k.1.1.1.1.0, z)) in
          k.1.1.1.1.1 (does_true (dec_typed (module_of f) ((module_of f).function k.0) (((module_of f).function k.0).code k.1.0))
          (unfold instruction_test in typed k.0 k.1.0 k.1.1.0 k.1.1.1.0 o))

      go : Earlier m q 7 (instruction_at f h.i h.fails.j) → ⊥
      go (inl z) = lower a b z (λ e. omega arith)
      go (inr z) = let r = late 7 (instruction_at f h.i h.fails.j) (omega arith) b z.0 z.1 in seven r.0 r.1
  none_before n p (last a h) {m} {q} b l = go (earlier_at m q h.number h.place l)
    where
      some_last : (g : ℕ) → g < (module_of f).functions → ((module_of f).function g).code_length - 1 < ((module_of f).function g).code_length
      some_last g k = omega (arith, (module_ranges f (a 4 (omega arith)) g k).some)

      eight : BadLast f q → q < instruction_at f h.j (((module_of f).function h.j).code_length - 1) → ⊥
      eight k z = after_order (instruction_order f (a 4 (omega arith)) k.0 h.j (((module_of f).function k.0).code_length - 1)
          (((module_of f).function h.j).code_length - 1) k.1.0 (some_last k.0 k.1.0) (some_last h.j h.inside) (omega (arith, k.1.1.0, z)))
        where
          after_order : (k.0 < h.j) ⊎ ((k.0 ≡ h.j) × (((module_of f).function k.0).code_length - 1 < ((module_of f).function h.j).code_length - 1)) → ⊥
          after_order (inl o) = k.1.1.1 (does_true (dec_last (((module_of f).function k.0).code (((module_of f).function k.0).code_length - 1))) (unfold last_test in h.before k.0 o))
          after_order (inr o) = let e : ((module_of f).function k.0).code_length ≡ ((module_of f).function h.j).code_length = ap (λ (g : ℕ). ((module_of f).function g).code_length) o.0 in omega (arith, o.1)

      go : Earlier m q 8 (instruction_at f h.j (((module_of f).function h.j).code_length - 1)) → ⊥
      go (inl z) = lower a b z (λ e. omega arith)
      go (inr z) = let r = late 8 (instruction_at f h.j (((module_of f).function h.j).code_length - 1)) (omega arith) b z.0 z.1 in eight r.0 r.1

-- a refusal is the first: no rule that the file breaks comes before it
pub first_broken : (f : Bytes) (n p m q : ℕ) → verdict_of f ≡ Refused n p → Broken f m q → Earlier m q n p → ⊥
first_broken f n p m q e b l = none_before f n p (where_refused f n p e) b l
