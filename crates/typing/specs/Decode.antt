-- Decoding keeps the kind: an instruction's record is read as the instruction of that kind, so that rule and
-- step are those of the record's kind. Assumes nothing.
use Rattle.std.specs.Prelude.{◌≡◌, Bool, true, false, cond, ◌⊎◌, ℕ, ◌<◌, ◌≤◌, leb, eqb}
use Rattle.std.proofs.Math.Path.{refl}
use Rattle.std.proofs.Common.{sym, ◌∙◌, inl, inr, arith}
use Rattle.std.proofs.Math.Logic.{⊎_elim}
use borrow.Author.Tests.{eqb-true, eqb-false, leb-true}
use Rattle.rules.specs.File.{is_instruction, first_arithmetic, first_memory, last_memory, first_control, last_control, first_untyped, last_untyped, kind_call}
use Rattle.rules.specs.Module.{Instruction, kind_of}
use Rattle.rules.specs.Decode.{call_of, arithmetic_of, memory_of, control_of, by_group, instruction_of}
use Rattle.rules.specs.declared.Record.{Record}
use Rattle.rules.specs.declared.Group.{Group}
use Rattle.typing.specs.Groups.{group_split}
use Rattle.typing.specs.Tests.{left, right}

module _ (x : Record) where
  abbrev pub In : ℕ → ℕ → Type 0
  In lo hi = (lo ≤ x.kind) × (x.kind ≤ hi)

  -- the kind is k, or the rest says what it is
  one_of : (k : ℕ) (i j : Instruction) → kind_of i ≡ k → (eqb x.kind k ≡ false → kind_of j ≡ x.kind) → kind_of (cond (eqb x.kind k) i j) ≡ x.kind
  one_of k i j e rest = go (eqb x.kind k) refl
    where
      go : (b : Bool) → eqb x.kind k ≡ b → kind_of (cond b i j) ≡ x.kind
      go true q = e ∙ sym (eqb-true x.kind k q)
      go false q = rest q

  not_kind : {k : ℕ} → eqb x.kind k ≡ false → x.kind ≡ k → ⊥
  not_kind {k} q = eqb-false x.kind k q

  pub arithmetic_kind : first_arithmetic ≤ x.kind → x.kind < first_memory → kind_of (arithmetic_of x) ≡ x.kind
  unfolding arithmetic_of
  arithmetic_kind lo hi =
      one_of 16 _ _ refl (λ a. one_of 17 _ _ refl (λ b. one_of 18 _ _ refl (λ c. one_of 19 _ _ refl (λ d. one_of 20 _ _ refl (λ e. one_of 21 _ _ refl (λ f.
      omega (arith, not_kind a, not_kind b, not_kind c, not_kind d, not_kind e, not_kind f)))))))

  pub memory_kind : In first_memory last_memory ⊎ In first_untyped last_untyped → kind_of (memory_of x) ≡ x.kind
  unfolding memory_of
  memory_kind h =
      one_of 23 _ _ refl (λ a. one_of 24 _ _ refl (λ b. one_of 25 _ _ refl (λ c. one_of 26 _ _ refl (λ d. one_of 27 _ _ refl (λ e. one_of 28 _ _ refl (λ f.
      one_of 36 _ _ refl (λ u. one_of 37 _ _ refl (λ v. one_of 38 _ _ refl (λ w. ⊎_elim
      (λ h. absurd (omega (arith, h.0, h.1, not_kind a, not_kind b, not_kind c, not_kind d, not_kind e, not_kind f)))
      (λ h. omega (arith, h.0, h.1, not_kind u, not_kind v, not_kind w)) h)))))))))

  pub control_kind : (c : Instruction) → kind_of c ≡ kind_call → first_control ≤ x.kind → x.kind ≤ last_control → kind_of (control_of x c) ≡ x.kind
  unfolding control_of
  control_kind i k lo hi =
      one_of 29 _ _ refl (λ a. one_of 30 _ _ refl (λ b. one_of 31 _ _ refl (λ c. one_of 32 _ _ refl (λ d. one_of kind_call _ _ k (λ e.
      omega (arith, not_kind a, not_kind b, not_kind c, not_kind d, not_kind e))))))

  -- the instruction of a record has the record's kind
  pub decoded_kind : (y : Record) (p q : ℕ) → is_instruction x.kind ≡ true → kind_of (instruction_of x (call_of x y p q)) ≡ x.kind
  unfolding instruction_of
  decoded_kind y p q h =
      group_split (λ (g : Group). kind_of (by_group g x (call_of x y p q)) ≡ x.kind) x.kind
      (⊎_elim (λ l. unfold by_group in arithmetic_kind lo l) (λ l. absurd (omega (arith, hi))))
      (λ l u. unfold by_group in memory_kind (inl (l, u)))
      (λ l u. unfold by_group in memory_kind (inr (l, u)))
      (λ l u. unfold by_group in control_kind (call_of x y p q) (unfold call_of in refl) l u)
    where
      lo : first_arithmetic ≤ x.kind
      lo = leb-true first_arithmetic x.kind (left (leb first_arithmetic x.kind) (leb x.kind last_control) h)

      hi : x.kind ≤ last_control
      hi = leb-true x.kind last_control (right (leb first_arithmetic x.kind) (leb x.kind last_control) h)
